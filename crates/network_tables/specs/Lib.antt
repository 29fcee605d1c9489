-- The rules 7 to 10 and 37 of a network whose tables are lent: the tables that are judged (Cut), two points
-- side by side (Pairs), and why points that keep the rules with the ones after them are sound (Steady).
pub mod Cut
pub mod Pairs
pub mod Steady
