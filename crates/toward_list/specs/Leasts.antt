-- A table of each arc's least travel, found among its points: no travel of the arc is less.
use mathlib.Core.{Path.◌≡◌, List.List}
use Rattle.std.specs.Prelude.{ℕ, ◌+◌, ◌≤◌, ◌<◌, min}
use native.Mathlib.{Omega.arith, Decide.ℕ_discrete}
use lib.{ListN.length, ListN.get_or, ListN.set, Seq.get_or-set_same, Seq.get_or-set_other}
use Rattle.theory_travel.specs.{Day.day_least, Table.entry_at, Table.value_at}
use Rattle.network.specs.declared.header.Layout.{Layout}
use Rattle.network.specs.{Network.count, Decode.decode, Town.travel_at}
use Rattle.toward_row.specs.Arcs.{Primed, arc_of_lem}

-- r is at most the first n entries of a part of a list.
pub record LeastOf (list : List ℕ) (from n r : ℕ) : Type 0 where
  pub all : (i : ℕ) → i < n → r ≤ entry_at list from i

-- No travel of an arc is less than r.
pub record LeastTravel (file : List ℕ) (l : Layout) (a r : ℕ) : Type 0 where
  pub all : (x : ℕ) → x < l.period → r ≤ travel_at (decode file) a x

-- The table has such a number for each of the first n arcs.
pub record Leasts (file : List ℕ) (l : Layout) (n : ℕ) (T : List ℕ) : Type 0 where
  pub arc : (a : ℕ) → a < n → LeastTravel file l a (get_or T a 0)

-- FOR THE LOOP over an arc's points
pub least_none : (list : List ℕ) (from r : ℕ) → LeastOf list from 0 r
least_none list from r = record { all = λ i h. absurd (omega arith) }

pub least_more : (list : List ℕ) (from n r e m : ℕ) → LeastOf list from n r → e ≡ get_or list (from + n) 0
    → m ≡ min r e → LeastOf list from (n + 1) m
unfolding entry_at
least_more list from n r e m w q z = record {
  all = λ i h. elim (ℕ_discrete i n) [
    | yes o ↦ rw o (omega arith)
    | no o ↦ omega (arith, w.all i (omega arith))
  ];
}

pub least_end : (list : List ℕ) (from i n r : ℕ) → LeastOf list from i r → i ≤ n → n ≤ i
    → LeastOf list from n r
least_end list from i n r w l m = let e : i ≡ n = omega arith in rw e at w

-- for `search leasts` at the needs of such a loop
pub ruleset leasts = (least_none, least_more, least_end)

-- the arc of a town: `from` was read in the table of first points, and m is the count of its points
pub least_arc : {file : List ℕ} {l : Layout} {starts : List ℕ} (t : Primed file l starts) {a : ℕ}
    → a < l.arcs → (from m r : ℕ) → from ≡ get_or starts a 0 → m ≡ count (decode file) a
    → LeastOf (decode file).travels from m r → LeastTravel file l a r
unfolding travel_at
least_arc {file} {l} t {a} h from m r d q w = record {
  all = λ x k.
      let z : r ≤ value_at (decode file).ticks (decode file).travels from m l.period x =
      day_least (arc_of_lem t h from m d q).day (entry_at (decode file).travels from) r x w.all k in
      rw (d, t.first a h, q, t.town.sizes.period) at z;
}

-- FOR THE LOOP over the arcs
pub leasts_none : (file : List ℕ) (l : Layout) (T : List ℕ) → Leasts file l 0 T
leasts_none file l T = record { arc = λ a h. absurd (omega arith) }

pub leasts_more : {file : List ℕ} {l : Layout} {T : List ℕ} {n r : ℕ} → Leasts file l n T → n < length T
    → LeastTravel file l n r → Leasts file l (n + 1) (set T n r)
leasts_more {T = T} {n = n} {r = r} w h t = record {
  arc = λ a k. elim (ℕ_discrete a n) [
    | yes e ↦ rw (e, get_or-set_same T n r 0 h) t
    | no e ↦ rw (get_or-set_other T n a r 0 e) (w.arc a (omega arith))
  ];
}

pub leasts_end : {file : List ℕ} {l : Layout} {T : List ℕ} {i n : ℕ} → Leasts file l i T → i ≤ n → n ≤ i
    → Leasts file l n T
leasts_end {i = i} {n = n} w l m = let e : i ≡ n = omega arith in rw e at w
