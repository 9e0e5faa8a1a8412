-- The session that an input gives: its bytes, the stream, what the code tells.
pub mod Input
pub mod Refused
pub mod Session
pub mod Told
