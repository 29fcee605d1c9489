-- What each byte of an input prints (Reading, ReadingSteps), an input in pieces (Pieces), and the sheet
-- (Sheet).
pub mod Reading
pub mod ReadingSteps
pub mod Pieces
pub mod Sheet
