-- What follows from the definitions, for proofs.
pub mod Stream
pub mod Window
