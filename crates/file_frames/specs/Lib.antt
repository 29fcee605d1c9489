-- A file in the making, whatever its entries mean (Laid), the frames of its blocks (Framed), their checks
-- (Sealed), and a file of a header and three runs of entries (Runs).
pub mod Laid
pub mod Framed
pub mod Sealed
pub mod Runs
