-- What follows from the definitions.
pub mod Connectivity
pub mod Examples
