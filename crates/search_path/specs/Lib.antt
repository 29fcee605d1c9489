-- What the contracts of this crate cite. `Answer` says what a search answers, `Promise` and `Shows` what that
-- means. The others name what the internal functions compute, in the order in which they build on each other.
pub mod Says
pub mod Trim
pub mod Answer
pub mod Trail
pub mod Back
pub mod Answering
pub mod Promise
pub mod Shows
