-- Quay town, proved from its files' bytes: the files (Files), the questions about them and their answers
-- (Rows), and the theorem (Town), by forms of validation that compute fast (Quick, Validation).
pub mod Files
pub mod Quick
pub mod Validation
pub mod Rows
