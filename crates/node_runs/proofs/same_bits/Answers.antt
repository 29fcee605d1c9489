-- `node_runs::same_bits` meets its contract.
use mathlib.Core.Path.{◌∙◌, ap}
use Prim.Native.Nat.{ℕ}
use Rattle.plan.specs.{Plan.bit, Plan.flag, PlanDecode.decode_plan}
use Rattle.node_runs.specs.Bytes.{same_set, same_unset}
use Rattle.node_runs.proofs.same_bits.Goals as goal

pub returns-then-is_set : goal.returns-then-is_set
returns-then-is_set c = same_set (flag (decode_plan c.args.plan.now) c.args.arc c.args.cell) _
    (c.is_set.ensures ∙ ap (λ (w : ℕ). bit w c.args.cell) c.flag_word.ensures)
    c.if-is_set.true

pub returns : goal.returns
returns c = same_unset (flag (decode_plan c.args.plan.now) c.args.arc c.args.cell) _
    (c.is_set.ensures ∙ ap (λ (w : ℕ). bit w c.args.cell) c.flag_word.ensures)
    c.if-is_set.false
