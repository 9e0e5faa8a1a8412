-- What the proofs of families_text share.
pub mod Clustered
pub mod Texts
