-- The profiles of a plan file: values compared (Compare), what their readers rest on (Formed), and where the
-- profiles of a border start (Starts).
pub mod Compare
pub mod Formed
pub mod Starts
