-- What follows from the definitions, for proofs.
pub mod Views
