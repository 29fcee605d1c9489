-- When a node is open (Hours).
pub mod Hours
