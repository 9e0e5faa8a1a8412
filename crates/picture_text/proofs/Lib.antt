-- What the proofs of picture_text share.
pub mod Drawings
pub mod Texts
