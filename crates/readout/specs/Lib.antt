-- What the read-outs say, as functions over lists, and the laws that join them to document 01's definitions.
pub mod Found
pub mod Told
pub mod Seen
pub mod Laws
