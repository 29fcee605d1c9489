-- Whether a tick falls from the one before it (Falls), where the ticks of a row do (Breaks), also by words
-- (Words), how far the blocks of points have been looked at to count it (Progress), and that a plan whose
-- profiles begin where ticks fall, which they do nowhere else, keeps the rules 18 and 19 (Rising).
pub mod Falls
pub mod Breaks
pub mod Words
pub mod Progress
pub mod Rising
