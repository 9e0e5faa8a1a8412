-- Loops over lists of any element type: what is kept, what is found, what is left, and their laws.
pub mod Retain
pub mod Search
pub mod Rest
pub mod Each
pub mod Total
pub mod Laws
