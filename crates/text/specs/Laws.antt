-- What follows from the definitions, for proofs.
pub mod Pieces
pub mod Sizes
