-- The points of a plan's profiles from rows of least travels: those of one row put into the file (Points),
-- and
-- those of all rows of a border, counted and put (Rows).
pub mod Points
pub mod Rows
