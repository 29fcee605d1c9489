-- What a line of the run sheet's input asks for.
pub mod Line
