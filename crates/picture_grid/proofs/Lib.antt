-- What the proofs of picture_grid share.
pub mod Lines
pub mod Rounding
