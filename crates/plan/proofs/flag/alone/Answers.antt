-- `plan::flag::alone` meets its contract: nothing is shifted out.
use mathlib.Core.Path.{◌∙◌}
use native.Mathlib.{Nat.one-mul, Omega.arith}
use lib.Pow.{shl_exact}
use Rattle.plan.proofs.flag.alone.Goals as goal

pub returns : goal.returns
returns c = shl_exact 1 c.args.c 64 (omega arith) (omega arith) ∙ one-mul _
