-- What follows from the definitions, for proofs.
pub mod Limits
pub mod Tick
pub mod Body
pub mod Periods
pub mod Tp
pub mod Insert
pub mod Open
pub mod Examples
pub mod Numbers
