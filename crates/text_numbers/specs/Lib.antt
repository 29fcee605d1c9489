-- What it is to store a text (Text); numbers in decimal, printed and read (Number), at a place of a text
-- (Digits), and one space apart (Spaced).
pub mod Text
pub mod Number
pub mod Spaced
pub mod Digits
