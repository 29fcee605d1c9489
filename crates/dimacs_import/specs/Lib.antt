-- Import: what it answers and writes (Import), the network that a text gives (Imported), its file by tables
-- of noted arcs (Roads), and what opening its file shows (Sound, Promise).
pub mod Import
pub mod Imported
pub mod Roads
pub mod Sound
pub mod Promise
