-- Figures and grids of `picture` as text; what follows is in Laws.
pub mod Figure
pub mod Upward
pub mod Grid
pub mod Laws
