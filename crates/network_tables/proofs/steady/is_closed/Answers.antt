-- `network_tables::steady::is_closed` meets its contract.
use native.Mathlib.Omega.{arith}
use borrow.Author.{Tests.leb-true}
use Rattle.network_tables.specs.Steady.{not_closed}
use Rattle.network_tables.proofs.steady.is_closed.Goals as goal

pub returns-then-t-gt0 : goal.returns-then-t-gt0
returns-then-t-gt0 c = not_closed _ _ _ _ _

pub returns-then-w-lt1 : goal.returns-then-w-lt1
returns-then-w-lt1 c = not_closed _ _ _ _ _

pub returns-then-period-w : goal.returns-then-period-w
returns-then-period-w c = not_closed _ _ _ _ _

pub returns-then-period-u : goal.returns-then-period-u
returns-then-period-u c = not_closed _ _ _ _ _

pub returns : goal.returns
returns c = λ e. record {
  first = omega arith;
  some = omega arith;
  most = omega arith;
  below = omega arith;
  end = leb-true _ _ e;
}
