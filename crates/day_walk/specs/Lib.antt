-- Where a walk along the runs of a day stands, and how far nothing changes (Walk).
pub mod Walk
