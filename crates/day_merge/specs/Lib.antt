-- What a merge of three lists of runs leaves (Merged).
pub mod Merged
