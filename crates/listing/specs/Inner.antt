-- What only private contracts cite. No public promise rests on anything in this file.
use Rattle.std.specs.Prelude.{◌≡◌, true, List, ℕ}
use Rattle.types.specs.declared.Value.{Value}
use Rattle.types.specs.Form.{writable_record, ranged}
use Rattle.types.specs.Promise.{record_of}
use Rattle.listing.specs.declared.parts.Part.{Part}
use Rattle.listing.specs.declared.parts.Part.TheVariants as part
use Rattle.listing.specs.Digits.{decimal, signed, shown}

-- A value that has a text: its numbers lie in their fields, and where it points, it points into the frame.
pub record Listed (f : List ℕ) (v : Value) : Type 0 where
  pub fields : writable_record (record_of v) ≡ true
  pub range : ranged f (record_of v) ≡ true

-- the text of a part of a line
abbrev pub text_of : Part → List ℕ
text_of (part.Words words) = words.now
text_of (part.Decimal n) = decimal n
text_of (part.Signed n) = signed n
text_of (part.Shown bytes) = shown bytes.now
