-- The walk over the links that gain, the factor of a gain, and their laws.
pub mod Walk
pub mod Factor
pub mod Laws
