-- What the lines of a road file are (Shape), that the scan takes exactly these for it (ShapeExact), and the
-- line that starts at a place of a text (Next).
pub mod Shape
pub mod ShapeExact
pub mod Next
