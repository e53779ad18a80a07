-- Table 3-7, a step, well-formed text and lossy text; and what only private contracts cite.
pub mod Text
pub mod Inner
