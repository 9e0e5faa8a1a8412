-- The page of `picture`: rows, words and grids; what follows is in Laws.
pub mod Row
pub mod Words
pub mod Plot
pub mod Picture
pub mod Laws
