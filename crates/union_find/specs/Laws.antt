-- What follows from the definitions, for proofs.
pub mod Chain
pub mod Merging
pub mod Sum
pub mod WellFormed
pub mod Find
pub mod Union
