-- Judging the borders: how it stands so far (Standing), its finds while they are counted (Tally), and what
-- the code rests on (Finding).
pub mod Standing
pub mod Tally
pub mod Finding
