-- The shapes of loops: each module has one shape, its laws, and the ruleset for the needs of such a loop.
pub mod First
pub mod Position
pub mod Pick
pub mod Triple
pub mod Fill
pub mod Total
pub mod Sums
pub mod Select
pub mod Stores
pub mod Count
pub mod Grid
pub mod Joined
