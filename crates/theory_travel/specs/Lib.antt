-- The straight line by the tick: what travel's contracts cite, from two points up to points in lists, and the
-- laws of the search.
pub mod Line
pub mod Points
pub mod Search
pub mod Day
pub mod Pieces
pub mod Turns
pub mod Ticks
pub mod Table
