-- What the proofs of `src/` cite, on plain lists.
pub mod Pairing
pub mod Labelling
