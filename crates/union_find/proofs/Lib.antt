-- What the proofs of `src/` cite, on plain lists, and laws (Laws) that upper crates cite too.
mod Finding
mod Linking
mod Joining
mod Seeking
pub mod Laws
