-- Making a plan: the call and its answer (Make), which numbers it can give (Numbers), what it promises
-- (Promise), and the laws for the writing and its refusals (Making).
pub mod Make
pub mod Numbers
pub mod Promise
pub mod Making
