-- Trips: what each answers and leaves (Flagged, Calls), and what an answer means (Promise, Numbers,
-- PlainPromise, FlaggedPromise, Hours).
pub mod Flagged
pub mod Calls
pub mod Promise
pub mod Numbers
pub mod PlainPromise
pub mod FlaggedPromise
pub mod Hours
