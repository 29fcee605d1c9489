-- The rules 7, 37 and 8 as code finds their faults: the nodes' hours (Hours), the arcs (ScanArcs), and the
-- ladder of all rules (Judge).
pub mod Hours
pub mod ScanArcs
pub mod Judge
