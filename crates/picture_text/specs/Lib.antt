-- The text of `picture` from the bytes of its input; what follows is in Laws.
pub mod Picture
pub mod Laws
