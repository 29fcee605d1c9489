-- Rule 37 as code finds it in a file, which without hours has no node that breaks it.
use mathlib.Core.{Path.◌≡◌, Path.refl, Path.sym, Path.◌∙◌, Bool.false, List.List}
use Rattle.std.specs.Prelude.{ℕ, ◌<◌}
use Rattle.std.proofs.Common.{arith}
use Rattle.theory_loops.specs.First.{first, all_clear}
use Rattle.network.specs.declared.header.Layout.{Layout}
use Rattle.network.specs.{Network.opens_at, Network.closes_at, Rules.bad_hours_of}
use Rattle.network.proofs.Sound.{sound_hours}
use Rattle.network.specs.Decode.{decode, Laid, laid_sizes, laid_small, opens_all, closes_all}

-- without hours every node is open all day
module _ {file : List ℕ} {l : Layout} (s : Laid file l) where
  pub hours_none : l.hours ≡ 0 → l.nodes ≡ first l.nodes (bad_hours_of (decode file))
  hours_none z = sym (all_clear (bad_hours_of (decode file)) l.nodes fine)
    where
      fine : (v : ℕ) → v < l.nodes → bad_hours_of (decode file) v ≡ false
      fine v h =
          let o : 0 ≡ opens_at (decode file) v = opens_all s h z refl in
          let c : l.period ≡ closes_at (decode file) v = closes_all s h z refl in
          let p = (laid_sizes s).period in
          sound_hours (decode file) v (record {
            some = omega (arith, laid_small s);
            within = omega arith;
            all_day = λ _. (sym o, sym c ∙ p);
          })
