-- Least travels by a queue of nodes: the laws of the code (Turn), and of the look for the nearest (Nearest).
pub mod Turn
pub mod Nearest
