-- What follows from the definitions, for proofs.
pub mod Turns
pub mod Within
pub mod Fade
