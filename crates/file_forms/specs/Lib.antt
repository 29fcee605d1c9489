-- A block's form (Form), a file's checks (Read), and both of one block (SoundBlock).
pub mod Form
pub mod Read
pub mod SoundBlock
