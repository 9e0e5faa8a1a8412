-- Words of 8 bytes, and a double's text.
pub mod Word
pub mod Text
