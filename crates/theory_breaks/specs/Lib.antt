-- Runs that stand one behind the other: how breaks are counted (Tally), and what their number says (Breaks).
pub mod Tally
pub mod Breaks
