-- The travel of an arc by its points: the walk over points (Points), what its readers answer, and their laws
-- (Travels), and what a byte tells of it (Brief).
pub mod Points
pub mod Travels
pub mod Brief
