-- Refusals: what one is, the numbers of their causes, the range of the numbers that an answer can give, what an
-- answer says, and what an operation that writes a file, or fills a lent list, leaves.
pub mod Refusal
pub mod Number
pub mod Apart
pub mod Numbered
pub mod Says
pub mod Writing
pub mod Listing
