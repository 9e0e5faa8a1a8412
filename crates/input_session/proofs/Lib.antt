-- What the proofs of input_session share.
pub mod Inputs
pub mod Runs
pub mod Sessions
