-- What follows from the definitions, for proofs.
pub mod Nearest
pub mod Label
pub mod Seen
