-- The check of a plan: its ladder (Check), that it is exact (Exact, Promise, CheckPlan), its numbers
-- (Numbers) and its finds (Finds), and the laws for the code: the verdict by what was found (Verdict), the
-- ladder (Ladder), and what it rests on (Checking).
pub mod Answer
pub mod Check
pub mod Exact
pub mod CheckPlan
pub mod Promise
pub mod Numbers
pub mod Finds
pub mod Verdict
pub mod Ladder
pub mod Checking
