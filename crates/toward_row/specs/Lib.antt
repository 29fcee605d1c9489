-- What an arc gives, lowered into a row: a part that is lowered and whether an entry of it fell (Cut), what
-- is given (Lower), a piece lowered run by run (Pieces), and a whole arc of a file (Arcs).
pub mod Cut
pub mod Lower
pub mod Pieces
pub mod Arcs
