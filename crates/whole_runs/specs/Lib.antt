-- Whole runs in plain numbers; what follows is in Laws.
pub mod Told
pub mod Streams
pub mod Window
pub mod Laws
