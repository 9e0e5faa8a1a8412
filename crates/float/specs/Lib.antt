-- Doubles as exact numbers: rounding, order, bits, cutting, powers of two, ln, ceil, and their laws.
pub mod Rounded
pub mod Order
pub mod Binary64
pub mod Cut
pub mod TwoTo
pub mod Ln
pub mod Ceil
pub mod Laws
