-- The check's tests (Tests), what they say where they fail nowhere (Meaning), how many finds they may make
-- (Finds), what they rest on (Checkable), what arcs give (Giving), and the laws for the code (Failing).
pub mod Tests
pub mod Meaning
pub mod Finds
pub mod Checkable
pub mod Giving
pub mod Failing
