-- The rules 9 and 10 as code finds their faults: the points of one arc (Scan) and of all arcs (ScanAll).
pub mod Scan
pub mod ScanAll
