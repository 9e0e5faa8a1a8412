-- What follows from the definitions, for proofs.
pub mod Cutting
pub mod Opened
pub mod Sums
pub mod Compare
pub mod Ordered
pub mod Whole
pub mod Binary64
pub mod TowardsZero
pub mod Units
pub mod Bounds
pub mod Ln
pub mod Between
pub mod Computed
pub mod BelowOne
pub mod Examples
