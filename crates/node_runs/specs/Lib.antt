-- The tests 22 to 24 at all ticks of a node: a byte for each tick (Bytes), what one arc adds to it (Adds),
-- whether the arc is met (Seen), the walk over the arcs out of the node (Judged), how many finds it makes
-- (Finding), and what the code rests on (Ready).
pub mod Bytes
pub mod Adds
pub mod Seen
pub mod Judged
pub mod Finding
pub mod Ready
