-- What the proof of `src/` cites, on plain numbers.
pub mod StdRoot
