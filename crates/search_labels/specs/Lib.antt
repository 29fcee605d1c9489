-- The labels of a search: the notes beside them (Notes, Tally), what the code rests on (Ready), the walk over
-- the arcs out of a node (Walk), and the whole (Reach).
pub mod Notes
pub mod Tally
pub mod Ready
pub mod Walk
pub mod Reach
