-- What the proofs of `src/` cite: the choice of a target.
pub mod Choices
