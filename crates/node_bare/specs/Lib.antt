-- A node that is judged without the runs of its arcs: the border itself (Home), and what tells of a node
-- without points (Ahead).
pub mod Home
pub mod Ahead
