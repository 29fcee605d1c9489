-- The numbers of a profile by its points: what its readers answer, and their laws.
pub mod Numbers
