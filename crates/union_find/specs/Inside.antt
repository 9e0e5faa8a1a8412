-- What only the contracts of private functions cite.
pub mod Sum
pub mod Told
pub mod WellFormed
