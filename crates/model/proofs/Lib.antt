-- What only the proofs here use, and laws (Laws) that upper crates cite too.
pub mod Padding
pub mod Laws
