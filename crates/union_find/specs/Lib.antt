-- Document 01, Families: joined pairs of places, `UnionFind` as definitions, and laws of them; others stand in proofs/Laws.
pub mod Pairs
pub mod Ranked
pub mod Forest
pub mod Steps
pub mod Inside
pub mod Laws
