-- Packing a network: the answer and the lent bytes (Pack), both round trips (Holds, HoldsRead, RoundTrip,
-- Packed), and the laws for the code (Proper).
pub mod Holds
pub mod HoldsRead
pub mod RoundTrip
pub mod Pack
pub mod Numbers
pub mod Proper
pub mod Packed
