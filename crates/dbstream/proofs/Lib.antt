-- What only the proofs here use.
pub mod Openings
pub mod Cleanups
pub mod Inserts
pub mod Labels
