-- What the proofs of `src/` cite: a removal, and the trial of a nearest.
pub mod Removal
pub mod Tries
