-- The arcs of a text (Arcs), noted in tables (Noting).
pub mod Arcs
pub mod Noting
