-- Demand 3's claims.
pub mod Lists
pub mod Clock
pub mod Weighed
pub mod History
pub mod Finds
pub mod Whole
pub mod DbClaims
pub mod DenClaims
pub mod Laws
