-- Numbers one after the other (Numbers), the text of a line (TripText, TripStored), the first line (Head,
-- HeadStored), and what a step of the sheet leaves (Printed).
pub mod Numbers
pub mod TripText
pub mod TripStored
pub mod Head
pub mod HeadStored
pub mod Printed
