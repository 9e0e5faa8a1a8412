-- What the proofs of `src/` cite, on plain lists, and laws (Laws) that upper crates cite too.
mod Labelling
mod Summing
pub mod Laws
