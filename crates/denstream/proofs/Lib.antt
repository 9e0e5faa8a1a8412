-- What only the proofs here use.
pub mod Openings
pub mod Places
pub mod Inserts
pub mod Labels
