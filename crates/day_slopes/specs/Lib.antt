-- The runs of equal value of a day: the record that all code over runs cites (Runs), and the laws of the code
-- that puts those of a line (Places, Walk, Held, Rising, Falling, Steep).
pub mod Runs
pub mod Places
pub mod Walk
pub mod Held
pub mod Rising
pub mod Falling
pub mod Steep
