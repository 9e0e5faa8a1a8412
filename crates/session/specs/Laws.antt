-- What follows from the definitions, for proofs.
pub mod Points
pub mod Going
pub mod Cases
pub mod Numbers
