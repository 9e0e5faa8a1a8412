-- What the proofs of text share.
pub mod Adding
pub mod Decimals
