-- The made-up session of `sample`.
pub mod Sample
