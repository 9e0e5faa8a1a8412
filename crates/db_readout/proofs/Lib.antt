-- What only the proofs here use.
pub mod Found
