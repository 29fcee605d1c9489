-- The plan that is made of a network (Made), its file (File), that the check accepts it (Accepts), and what
-- it
-- is in wish 1's words (Exactly).
pub mod Made
pub mod File
pub mod Accepts
pub mod Exactly
