-- Document 01, Families: labels and sums of places by their roots, and laws of them; others stand in proofs/Laws.
pub mod Label
pub mod Group
pub mod Laws
