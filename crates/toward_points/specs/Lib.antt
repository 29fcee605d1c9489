-- A row of travels, and the laws of the loop that counts its points.
pub mod Row
