-- The text of `families` from the bytes of its input.
pub mod Families
