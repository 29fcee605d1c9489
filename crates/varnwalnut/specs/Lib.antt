-- The C library: that too little room is refused first (Room), what a call returns and leaves (Replies), the
-- laws for the entries (Calling), a call that returns 0 (Returned), what the check tells (Checker), and what
-- a plan that is made (Planner), a text that is imported (Importer) and a day sheet (Lister) are good for.
pub mod Room
pub mod Replies
pub mod Calling
pub mod Returned
pub mod Checker
pub mod Planner
pub mod Importer
pub mod Lister
