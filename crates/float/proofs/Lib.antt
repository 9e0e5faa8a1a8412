-- What the proofs of `src/` cite, on plain numbers.
pub mod StdFloats
pub mod CeilCases
pub mod Steps
pub mod PowerBits
pub mod Least
pub mod Exponent
