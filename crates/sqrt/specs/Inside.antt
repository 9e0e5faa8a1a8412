-- What only the laws cite.
pub mod Digits
