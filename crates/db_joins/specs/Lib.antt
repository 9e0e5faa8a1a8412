-- Which places dense links join, and that this is document 01's labelling.
pub mod Joined
pub mod Inside
pub mod Laws
