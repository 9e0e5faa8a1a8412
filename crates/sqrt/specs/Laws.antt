-- What follows from the definitions, for proofs.
pub mod Floor
pub mod Rounding
pub mod Nearest
pub mod Values
pub mod Theorem
pub mod Squares
pub mod Examples
