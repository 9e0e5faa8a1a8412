-- The lines that `families` prints.
pub mod Lines
