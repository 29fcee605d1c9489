-- The sheet for the whole day: the call and its answer (Sheet), which numbers it can give (Numbers), what it
-- promises (Promise), and the laws for the code (Sheeting).
pub mod Sheet
pub mod Sheeting
pub mod Numbers
pub mod Promise
