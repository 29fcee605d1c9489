-- What the lines of a road file come to (Reading), which texts are accepted (Accepted), and that these are
-- exactly those (AcceptedExact).
pub mod Reading
pub mod Accepted
pub mod AcceptedExact
