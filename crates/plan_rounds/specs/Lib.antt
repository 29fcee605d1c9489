-- What the rounds over the borders have, count and put (Rounds).
pub mod Rounds
