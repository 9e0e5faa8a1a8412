-- What follows from the definitions, for proofs.
pub mod Held
