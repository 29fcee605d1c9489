-- Relaxing and settling (Relax, Settle), and the frontier as the code holds it: its keys (Frontier), a label
-- lowered (Push), a node taken out (Take), the nearest node (Nearest).
pub mod Relax
pub mod Settle
pub mod Frontier
pub mod Push
pub mod Take
pub mod Nearest
