-- What is told of a node: the lowest test that fails there (Lowest), by the bytes of its ticks (Marks), at
-- the border itself (Home), where it has no points (Blank), and in the terms of the files (Judge).
pub mod Lowest
pub mod Marks
pub mod Home
pub mod Blank
pub mod Judge
