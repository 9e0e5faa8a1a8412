-- What the proofs of picture_lines share.
pub mod Plotting
