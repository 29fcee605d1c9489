-- Bytes folded into a state (Fold), the state of a line's numbers (Scanning), and that it tells numbers one
-- space apart exactly (SpacedExact).
pub mod Fold
pub mod Scanning
pub mod SpacedExact
