-- What only the proofs here use.
pub mod Walks
