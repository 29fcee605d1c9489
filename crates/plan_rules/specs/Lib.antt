-- The rules 17 to 19 as code finds their faults: the ticks of one profile (PlanScan), and of all profiles
-- (PlanScanAll).
pub mod PlanScan
pub mod PlanScanAll
