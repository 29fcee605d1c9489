-- The lines of a text, and where a line ends (Lines).
pub mod Lines
