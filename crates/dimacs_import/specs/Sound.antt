-- The network of an accepted text fits its file's fields (`imported_proper`) and meets the rules 7 to 10
-- (`imported_sound`); an arc's travel is its weight at every tick (`imported_travel`).
use mathlib.Core.{Path.◌≡◌, Path.refl, Path.sym, Path.◌∙◌, Path.subst, List.List}
use Prim.Native.Nat.{ℕ, zero, suc, ◌+◌, ◌^◌, ◌≤◌, ◌<◌}
use native.Mathlib.{Decide.dec_lt, Omega.arith}
use Rattle.std.specs.Prelude.{length, get_or, replicate}
use Rattle.std.proofs.lemmas.List.{length-map, length-replicate, get_or-replicate}
use Rattle.std.proofs.Math.ListN.{get_or-eq_default}
use Rattle.std.proofs.Common.{lit≤}
use Rattle.theory_loops.specs.Total.{total}
use Rattle.theory_travel.specs.{Day.closed_in, Day.closed_end, Day.day_least, Day.day_most, Table.entry_at}
use Rattle.network.specs.{Limits.most_nodes, Limits.most_period, Limits.WithinLimits, Town.travel_at}
use Rattle.network.specs.Network.{Network, nodes, arcs, count, start}
use Rattle.network.specs.Rules.{ticks_of, travels_of}
use Rattle.network.specs.Sound.{SoundHours, SoundArc, SoundPoints, SoundNetwork}
use Rattle.network_encode.specs.Encode.{Proper}
use Rattle.dimacs_line.specs.declared.line.{Sizes.Sizes, Arc.Arc}
use Rattle.dimacs_text.specs.Arcs.{arc_at, nowhere, Fit}
use Rattle.dimacs_import.specs.{Import.network_by, Imported.header_is, Imported.header_within}
use Rattle.dimacs_import.specs.Imported.{cell_at, tail_at, head_at, count_at, tick_at, travel_at_lem}

module _ (number : ℕ) (k : Sizes) (roads : List Arc) (f : Fit k roads) where
  abbrev n : Network
  n = network_by number k.nodes roads

  -- numbers of an arc that is there, or not, are small
  small : (i : ℕ) → ((arc_at roads i).tail ≤ most_nodes) × ((arc_at roads i).head ≤ most_nodes)
      × ((arc_at roads i).weight ≤ most_period)
  small i = elim (dec_lt i (length roads)) [
    | yes l ↦
        let a = f.fits i l in (
          omega (arith, a.tail_last, f.within.nodes_few),
          omega (arith, a.head_last, f.within.nodes_few),
          a.weight_most,
        )
    | no l ↦
        let e : arc_at roads i ≡ nowhere = get_or-eq_default roads nowhere {n = i} (omega arith) in
        rw e (lit≤ tt, lit≤ tt, lit≤ tt)
  ]

  alike : (m v i : ℕ) → get_or {A = ℕ} (replicate m v) i 0 ≤ v
  alike m v i = elim (dec_lt i m) [
    | yes l ↦ omega (arith, get_or-replicate {A = ℕ} m i v 0 l)
    | no l ↦ omega (
      arith,
      get_or-eq_default {A = ℕ} (replicate m v) 0 {n = i} (omega (arith, length-replicate {A = ℕ} m v)),
    )
  ]

  pub imported_proper : number < 2 ^ 32 → Proper n
  imported_proper b = record {
    within = subst WithinLimits (header_is number k roads f) (header_within number k f.within);
    number_fits = b;
    opens_long = refl;
    closes_long = length-replicate k.nodes most_period ∙ sym (length-replicate k.nodes 0);
    heads_long = length-map roads _ ∙ sym (length-map roads _);
    counts_long = length-replicate (length roads) 1 ∙ sym (length-map roads _);
    travels_long = length-map roads _ ∙ sym (length-replicate (length roads) 0);
    cells_fit = record { word = λ i. omega (arith, cell_at number k.nodes roads i) };
    opens_fit = record { word = λ i. omega (arith, cell_at number k.nodes roads i) };
    closes_fit = record { word = λ i. omega (arith, alike k.nodes most_period i) };
    tails_fit = record { word = λ i. omega (arith, tail_at number k.nodes roads i, (small i).0) };
    heads_fit = record { word = λ i. omega (arith, head_at number k.nodes roads i, (small i).1) };
    counts_fit = record { word = λ i. omega (arith, alike (length roads) 1 i) };
    ticks_fit = record { word = λ i. omega (arith, tick_at number k.nodes roads i) };
    travels_fit = record { word = λ i. omega (arith, travel_at_lem number k.nodes roads i, (small i).2) };
  }

  -- each arc has one point, its own
  starts_alike : (a : ℕ) → a ≤ length roads → start n a ≡ a
  unfolding start total
  starts_alike zero l = refl
  starts_alike (suc a) l =
      omega (arith, starts_alike a (omega arith), count_at number k.nodes roads a (omega arith))

  nodes_are : nodes n ≡ k.nodes
  nodes_are = length-replicate k.nodes 0

  arcs_are : arcs n ≡ length roads
  arcs_are = length-map roads _

  module _ (a : ℕ) (l : a < length roads) where
    one : count n a ≡ 1
    one = count_at number k.nodes roads a l

    tick_is : (i : ℕ) → ticks_of n a i ≡ 0
    unfolding entry_at
    tick_is i = tick_at number k.nodes roads (start n a + i)

    travel_is : travels_of n a 0 ≡ (arc_at roads a).weight
    unfolding entry_at
    travel_is =
        let z : start n a + 0 ≡ a = omega (arith, starts_alike a (omega arith)) in
        rw z (travel_at_lem number k.nodes roads a)

    first : (i : ℕ) → i < count n a → i ≡ 0
    first i m = omega (arith, one)

    arc_sound : SoundArc n a
    arc_sound =
        let r = f.fits a l in
        let t = tail_at number k.nodes roads a in
        let h = head_at number k.nodes roads a in
        record {
          tail_node = omega (arith, t, nodes_are, r.tail_first, r.tail_last);
          head_node = omega (arith, h, nodes_are, r.head_first, r.head_last);
          apart = λ e. r.apart (omega (arith, t, h, e, r.tail_first, r.head_first));
          some = omega (arith, one);
          most = omega (arith, one);
        }

    points_sound_lem : SoundPoints n a
    points_sound_lem =
        let r = f.fits a l in
        record {
          day = record {
            some = omega (arith, one);
            start = tick_is 0;
            rise = λ i m. absurd (omega (arith, one));
            below = λ i m. omega (arith, tick_is i);
          };
          travel_some = λ i m. rw (first i m) (omega (arith, travel_is, r.weight_least));
          travel_most = λ i m. rw (first i m) (omega (arith, travel_is, r.weight_most));
          fifo = record {
            kept = λ i m.
                let z = first i m in
                let t₀ = closed_in (count n a) (ticks_of n a) n.period i m in
                let v₀ = closed_in (count n a) (travels_of n a) (travels_of n a 0) i m in
                let t₁ = closed_end (count n a) (ticks_of n a) n.period (suc i) (omega (arith, one)) in
                let v₁ =
                closed_end (count n a) (travels_of n a) (travels_of n a 0) (suc i) (omega (arith, one)) in
                rw (t₀, v₀, t₁, v₁, z) (omega (arith, tick_is 0));
          };
        }

  -- each node is open all day
  hours_sound : (v : ℕ) → v < nodes n → SoundHours n v
  hours_sound v l =
      let o = cell_at number k.nodes roads v in
      let c = get_or-replicate {A = ℕ} k.nodes v most_period 0 (omega (arith, nodes_are)) in
      record { some = omega (arith, o, c); within = omega (arith, c); all_day = λ _. (o, c) }

  pub imported_sound : SoundNetwork n
  imported_sound = record {
    cells_below = λ v l. omega (arith, cell_at number k.nodes roads v);
    hours = hours_sound;
    arc = λ a l. arc_sound a (omega (arith, arcs_are));
    sum =
        rw arcs_are
        (starts_alike (length roads) (omega arith) ∙ sym (length-replicate (length roads) 0));
    points_of = λ a l. points_sound_lem a (omega (arith, arcs_are));
  }

  -- the travel is the weight, all day
  pub imported_travel : (a x : ℕ) → a < length roads → x < most_period
      → travel_at n a x ≡ (arc_at roads a).weight
  unfolding travel_at
  imported_travel a x l m =
      let d = (points_sound_lem a l).day in
      let v = travels_of n a in
      let w = (arc_at roads a).weight in
      let same : (i : ℕ) → i < count n a → v i ≡ w = λ i o. rw (first a l i o) (travel_is a l) in
      omega (
        arith,
        day_least d v w x (λ i o. omega (arith, same i o)) m,
        day_most d v w x (λ i o. omega (arith, same i o)) m,
      )
