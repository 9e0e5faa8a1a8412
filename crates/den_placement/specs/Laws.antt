-- What follows from the definitions, for proofs.
pub mod Placing
pub mod Pools
