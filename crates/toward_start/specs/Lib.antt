-- Whether an arc starts a least path, told by lowering a raised row.
pub mod Start
