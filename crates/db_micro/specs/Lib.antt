-- Micro-clusters in an array: what is held of them, and its laws.
pub mod Held
pub mod Laws
