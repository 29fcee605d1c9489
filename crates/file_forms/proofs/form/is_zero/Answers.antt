-- `file_forms::form::is_zero` meets its contract.
use mathlib.Core.{Path.◌≡◌, Path.refl}
use Rattle.std.proofs.Common.{rules, tests}
use Rattle.std.proofs.lemmas.Iterator.{cases_from_all, YieldsList-from_slice}
use Rattle.file_forms.specs.Form.{zeros_told}
use Rattle.file_forms.proofs.form.is_zero.Goals as goal

pub returns : goal.returns
returns c = zeros_told c.args.file.now _ c.args.a c.args.e refl c.requires.1 c.all.result
    (cases_from_all _ _ _ (λ b. b ≡ 0) (λ b. b ≡ 0 → ⊥) c.all.ensures.ran
    (YieldsList-from_slice _ c.iter.ensures.rest)
    (λ x q k. search (rules, tests)) (λ x q k. search (rules, tests)))
