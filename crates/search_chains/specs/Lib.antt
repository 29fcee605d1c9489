-- The arcs of a file: their chains (Chain), what their readers rest on (Town), and the tables of their heads
-- and first points (Tables).
pub mod Chain
pub mod Town
pub mod Tables
