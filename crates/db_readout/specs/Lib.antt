-- DBSTREAM's connectivity; what else it reads out both streams do (model's specs/ReadOut).
pub mod Connectivity
pub mod Laws
