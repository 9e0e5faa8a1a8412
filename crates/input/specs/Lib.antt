-- What the one reader of the programs gives.
pub mod Read
