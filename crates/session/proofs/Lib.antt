-- What the proofs of `src/` cite: laws of whole runs.
pub mod Laws
