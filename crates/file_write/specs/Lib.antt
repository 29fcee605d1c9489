-- The bytes of a file by its blocks (Bytes), those of a run of one kind with their laws (Run, RunLaws), and
-- what writing a block's parts leaves (Write).
pub mod Bytes
pub mod Run
pub mod RunLaws
pub mod Write
