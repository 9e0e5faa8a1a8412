-- What follows from the definitions, for proofs.
pub mod Sizes
pub mod Rows
