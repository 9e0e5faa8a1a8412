-- What the proofs of families_lines share.
pub mod Printing
