-- What the proofs of `src/` cite, on plain lists and numbers, and laws (Laws) that upper crates cite too.
pub mod Classes
pub mod Gap
pub mod Carries
pub mod Walk
pub mod Drops
pub mod Room
pub mod Updates
pub mod Laws
