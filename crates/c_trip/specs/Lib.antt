-- How a trip's answer stands in lent bytes (Reply), and the laws for the code that writes it (Writing).
pub mod Reply
pub mod Writing
