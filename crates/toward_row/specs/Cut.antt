-- What a loop leaves that lowers a part of a lent list: the part is filled, and a count is 0 exactly where no
-- entry of it fell. Where the part is written for the first time all of its entries count.
use mathlib.Core.{Path.◌≡◌, Path.refl, Path.sym, Path.◌∙◌, Bool.Bool, Bool.true, Bool.false, Bool.true≢false}
use mathlib.Core.{Logic.◌≢◌, List.List}
use Rattle.std.specs.Prelude.{ℕ, ◌+◌, ◌-◌, ◌≤◌, ◌<◌}
use native.Mathlib.{Decide.ℕ_discrete, Decide.dec_lt, Omega.arith}
use lib.{ListN.length, ListN.get_or, ListN.set, Seq.get_or-set_same, Seq.get_or-set_other}
use Rattle.theory_loops.specs.Fill.{Filled, fill_none, fill_up, fill_within, fill_join}

-- One entry, which does not rise: r is 1 where it fell, and 0 where not.
pub record Fell (old new r : ℕ) : Type 0 where
  pub few : r ≤ 1
  pub none : r ≡ 0 → new ≡ old
  pub some : 0 < r → new ≢ old

-- An entry from a up to b fell.
pub record Fallen (a b : ℕ) (old new : List ℕ) : Type 0 where
  pub at : ℕ
  pub from : a ≤ at
  pub to : at < b
  pub less : get_or new at 0 < get_or old at 0

-- The entries from a up to b are f's now, and r of them fell; all, where they are written for the first time.
pub record Cut (first : Bool) (a b : ℕ) (f : ℕ → ℕ) (old new : List ℕ) (r : ℕ) : Type 0 where
  pub filled : Filled a b f old new
  pub few : r ≤ b - a
  pub all : first ≡ true → r ≡ b - a
  pub none : first ≡ false → r ≡ 0 → (x : ℕ) → a ≤ x → x < b → get_or new x 0 ≡ get_or old x 0
  pub some : first ≡ false → 0 < r → Fallen a b old new

pub cut_none : {first : Bool} (f : ℕ → ℕ) (old : List ℕ) (a : ℕ) → Cut first a a f old old 0
cut_none f old a = record {
  filled = fill_none f old a;
  few = omega arith;
  all = λ _. omega arith;
  none = λ _ e x lo hi. refl;
  some = λ _ l. absurd (omega arith);
}

-- one more entry, lowered to v
pub cut_up : (f : ℕ → ℕ) (old mid : List ℕ) (a x v s r : ℕ) → Cut false a x f old mid r → a ≤ x
    → x < length old → v ≡ f x → v ≤ get_or mid x 0
    → Fell (get_or mid x 0) v s → Cut false a (x + 1) f old (set mid x v) (r + s)
cut_up f old mid a x v s r c l m e le k = record {
  filled = fill_up f old a x v mid c.filled l m e;
  few = omega (arith, c.few, k.few);
  all = λ t. absurd (true≢false (sym t));
  none = λ t z y lo hi. elim (ℕ_discrete y x) [
    | yes q ↦ rw q (omega (arith, now, c.filled.after x (omega arith), k.none (omega arith)))
    | no q ↦ get_or-set_other mid x y v 0 q ∙ c.none t (omega arith) y lo (omega arith)
  ];
  some = λ t z. elim (dec_lt 0 s) [
    | yes q ↦ record {
      at = x;
      from = l;
      to = omega arith;
      less =
          omega (arith, now, c.filled.after x (omega arith), k.some q);
    }
    | no q ↦
        let w = c.some t (omega arith) in
        let to : w.at < x = w.to in
        record {
          at = w.at;
          from = w.from;
          to = omega arith;
          less =
              omega (arith, w.less, get_or-set_other mid x w.at v 0 (omega arith));
        }
  ];
}
  where
    now : get_or (set mid x v) x 0 ≡ v
    now = get_or-set_same mid x v 0 (omega (arith, c.filled.long))

pub cut_end : {first : Bool} (f : ℕ → ℕ) (old new : List ℕ) (a i n r : ℕ) → Cut first a i f old new r → i ≤ n
    → n ≤ i → Cut first a n f old new r
cut_end f old new a i n r c l m = let e : i ≡ n = omega arith in rw e at c

-- said with another name for the values
pub cut_as : {first : Bool} (f g : ℕ → ℕ) (old new : List ℕ) (a b r : ℕ)
    → ((x : ℕ) → a ≤ x → x < b → f x ≡ g x) → Cut first a b f old new r → Cut first a b g old new r
cut_as f g old new a b r e c =
    record {
      filled = fill_within f g a b old new e c.filled;
      few = c.few;
      all = c.all;
      none = c.none;
      some = c.some;
    }

-- two parts, one after the other
pub cut_join : {first : Bool} (f g : ℕ → ℕ) (old mid new : List ℕ) (a b c r s : ℕ)
    → Cut first a b f old mid r → Cut first b c g mid new s → a ≤ b → b ≤ c
    → ((x : ℕ) → b ≤ x → x < c → g x ≡ f x) → Cut first a c f old new (r + s)
cut_join f g old mid new a b c r s p q l m e = record {
  filled = fill_join f a b c old mid new l m p.filled (fill_within g f b c mid new e q.filled);
  few = omega (arith, p.few, q.few);
  all = λ t. omega (arith, p.all t, q.all t);
  none = λ t z x lo hi. elim (dec_lt x b) [
    | yes k ↦ q.filled.before x k ∙ p.none t (omega arith) x lo k
    | no k ↦ q.none t (omega arith) x (omega arith) hi ∙ p.filled.after x (omega arith)
  ];
  some = λ t z. elim (dec_lt 0 r) [
    | yes k ↦
        let w = p.some t k in
        let to : w.at < b = w.to in
        record {
          at = w.at;
          from = w.from;
          to = omega arith;
          less =
              omega (arith, w.less, q.filled.before w.at to);
        }
    | no k ↦
        let w = q.some t (omega arith) in
        let from : b ≤ w.at = w.from in
        record {
          at = w.at;
          from = omega arith;
          to = w.to;
          less =
              omega (arith, w.less, p.filled.after w.at from);
        }
  ];
}
