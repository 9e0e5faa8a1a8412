-- What follows from the definitions, for proofs.
pub mod Cases
pub mod Stacked
pub mod Fewest
pub mod Dropping
pub mod NanDelta
pub mod Examples
