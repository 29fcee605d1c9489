-- The flag words of a plan that is made: what they are (Words), and the arcs that the numbers of a row rule
-- out (Bounds).
pub mod Words
pub mod Bounds
