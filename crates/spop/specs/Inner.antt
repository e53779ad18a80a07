-- What only private contracts cite. No public promise rests on anything in this file.
use Rattle.answer.specs.Answer.{Answer}
use Rattle.frame.specs.declared.Stop.{Stop}
use Rattle.frame.specs.Promise.{stop_said}
use Rattle.frame.specs.Read.{answer_of}

-- why there is no frame, as an answer, in which 1 stands for a wait
abbrev pub stop_answer : Stop → Answer Unit
stop_answer x = answer_of (stop_said x)
