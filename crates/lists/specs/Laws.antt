-- What follows from the definitions, for proofs.
pub mod Rest
pub mod Loops
pub mod Shift
pub mod Maps
pub mod Sizes
pub mod Counted
pub mod Each
pub mod Total
