-- Whether all points keep the rules 9 and 10: where the order of points goes on (Joins); why it is enough
-- that it does so at all but one point for each arc, and that every day closes (Steady); and the closes as
-- code asks for them (Closes).
pub mod Joins
pub mod Steady
pub mod Closes
