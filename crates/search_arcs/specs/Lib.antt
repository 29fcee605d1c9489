-- When an arc ends that is taken at a tick (Times): the search among its points (Stretches, Halves).
pub mod Stretches
pub mod Halves
pub mod Times
