-- Laws for the code that writes answers in numbers (Numbers).
pub mod Numbers
