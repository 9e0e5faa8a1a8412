-- What the proofs of `src/` cite: the search for the nearest, and the slices that statistics fill.
pub mod Search
pub mod Labelled
pub mod Counting
pub mod Copies
pub mod Centres
pub mod Figures
pub mod Slices
