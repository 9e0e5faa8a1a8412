-- What the proofs of words share.
mod Padded
