-- Rows of least travels in a list: the rows (Rows), and how they read until the work ends (Seen); the tables
-- beside them (Heights) and the measure (Burden); the least travel of each arc (Leasts), the laws of small
-- loops (Places), and the lent list as a whole (Work).
pub mod Burden
pub mod Heights
pub mod Leasts
pub mod Rows
pub mod Seen
pub mod Places
pub mod Work
