-- Time-dependent paths, profiles and arc flags: `Graph` has the definitions; the other modules prove, in this
-- order, what is used of them.
pub mod Graph
pub mod Partition
pub mod Simple
pub mod Earliest
pub mod Labels
pub mod Hops
pub mod Chosen
pub mod Ties
pub mod Same
pub mod Agree
pub mod Profiles
pub mod Flags
pub mod Least
pub mod Settled
pub mod Queue
pub mod Planned
