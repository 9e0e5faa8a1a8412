-- What follows from the definitions, for proofs.
pub mod Factor
pub mod Passed
