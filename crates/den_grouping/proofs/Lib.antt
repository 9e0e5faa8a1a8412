-- What the proofs of `src/` cite, on plain lists.
pub mod Rows
pub mod Labelled
