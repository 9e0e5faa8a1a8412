-- Whole runs in code, and demand 3 of them; what follows is in Laws.
pub mod Points
pub mod Whole
pub mod Refused
pub mod Told
pub mod Runs
pub mod DbTold
pub mod DenTold
pub mod Demand3
pub mod Laws
