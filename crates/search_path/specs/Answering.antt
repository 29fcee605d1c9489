-- The laws by which the search comes to its answer, from the labels that it left: exact up to the target's,
-- they tell and show what the true labels do. In the shape of the needs of `tell`, `search_nodes` and
-- `search`.
use mathlib.Core.{Path.◌≡◌, Path.sym, Path.◌∙◌, Path.ap, Logic.◌≢◌, List.List, List.◌++◌}
use Rattle.std.specs.Prelude.{ℕ, ◌+◌, ◌-◌, ◌≤◌, ◌<◌, length, get_or, take, drop, Bool, true, false, cond, Result, Ok, Err}
use native.Mathlib.{Nat.le_refl, Nat.le_of_lt, Decide.dec_lt, Omega.arith}
use Rattle.std.proofs.Common.{length-take, eq-eqb, ne_eqb, lt-ltb, le-ltb}
use Rattle.std.proofs.Math.ListN.{get_or-eq_default, get_or-append}
use lib.{Seq.get_or-append-add, Seq.get_or-drop, Seq.length_front, Dec.eqb, Dec.ltb}
use Rattle.theory_loops.specs.Fill.{Filled, fill_none, fill_end}
use Rattle.theory_paths.specs.{Graph.Graph, Graph.Permit, Earliest.never, Earliest.Exact, Hops.Known}
use Rattle.theory_paths.specs.Labels.{label, labels}
use Rattle.theory_paths.proofs.Labels.{label_at, labels_exact, labels_capped}
use Rattle.search_path.specs.Trim.{shown, target_same, shown_same}
use Rattle.theory_paths.proofs.Same.{chosen_same}
use Rattle.search_chains.specs.Town.{Town}
use Rattle.search_labels.specs.{Ready.Leaving, Ready.leaving, Ready.permit_of, Reach.Reached, Reach.small}
use Rattle.network.specs.declared.header.Layout.{Layout}
use Rattle.network.specs.{Decode.decode, Town.graph_of, Limits.most_nodes}
use Rattle.search_labels.specs.Notes.{hops_in}
use Rattle.search_path.specs.Trail.{road_to, Trail, Listed}
use Rattle.search_path.specs.Back.{trail, trail_count, trail_road}
use Rattle.search_path.specs.Answer.{Answered, Told, entry_of, path_of, answer_of, written}
use Rattle.file_refusals.specs.declared.Refusal.{Refusal}
use Rattle.search_path.specs.declared.answer.Arrival.{Arrival}
use Rattle.file_refusals.specs.Refusal.{refusal, refused}

-- a list that is written whole
filled_all : (f : ℕ → ℕ) (n : ℕ) (old new : List ℕ) → length old ≡ n → length new ≡ n
    → ((k : ℕ) → k < n → get_or new k 0 ≡ f k) → Filled 0 n f old new
filled_all f n old new l m h = record {
  long = m ∙ sym l;
  written = λ k a b. h k b;
  before = λ k a. absurd (omega arith);
  after =
      λ k a. get_or-eq_default new 0 {n = k} (omega arith) ∙ sym
      (get_or-eq_default old 0 {n = k} (omega arith));
}

-- a part from the front, written whole, said of the whole list
filled_front : (f : ℕ → ℕ) (n : ℕ) (old part : List ℕ) → n ≤ length old → Filled 0 n f (take n old) part
    → Filled 0 n f old (part ++ drop n old)
filled_front f n old part l h = record {
  long = length_front old part n h.long;
  written = λ k a b. get_or-append part (drop n old) 0 k (omega (arith, size)) ∙ h.written k a b;
  before = λ k a. absurd (omega arith);
  after = λ k a. past k a;
}
  where
    size : length part ≡ n
    size = h.long ∙ simp length-take (omega arith)

    past : (k : ℕ) → n ≤ k → get_or (part ++ drop n old) k 0 ≡ get_or old k 0
    past k a =
        let e : length part + (k - n) ≡ k = omega (arith, size) in
        let q : n + (k - n) ≡ k = omega arith in
        rw (← e) (get_or-append-add part (drop n old) (k - n) 0 ∙ get_or-drop n old (k - n) 0 ∙ rw (e, q))

-- FOR `search`: from the part of the list of arrivals to the whole
pub answered_front : (g : Graph) (p : Permit) (s x t n : ℕ) (old part roads₀ roads : List ℕ) (r : Result Arrival Refusal)
    → n ≡ g.nodes → n ≤ length old
    → Answered g p s x t (take n old) part roads₀ roads r
    → Answered g p s x t old (part ++ drop n old) roads₀ roads r
answered_front g p s x t n old part roads₀ roads r e l a =
    let f = shown (labels g p s x) t in
    let h = fill_end f (take n old) 0 g.nodes n part a.shows (omega arith) (omega arith) in
    record {
      shows = fill_end f old 0 n g.nodes _ (filled_front f n old part l h) (omega arith) (omega arith);
      told = a.told;
    }

-- FOR `tell`: the target has a place among the labels, and its notes lead back where its label is not never
pub record Tellable (g : Graph) (L K : List ℕ) (t : ℕ) : Type 0 where
  pub inside : t < length L
  pub few : t < most_nodes
  pub leads : get_or L t 0 ≢ never → Trail g K t

pub tell_trail : {g : Graph} {L K : List ℕ} {t : ℕ} → Tellable g L K t → get_or L t 0 ≢ never → Trail g K t
tell_trail h = h.leads

-- where nothing is written, it does not matter what
nothing_filled : (f h : ℕ → ℕ) {old new : List ℕ} → Filled 0 0 f old new → Filled 0 0 h old new
nothing_filled f h a =
    record { long = a.long; written = λ k l m. absurd (omega arith); before = a.before; after = a.after }

-- the three answers, by the target's label
module _ {total : ℕ} {road : ℕ → ℕ} (t : ℕ) (L : List ℕ) {roads₀ : List ℕ} (l : t < length L) where
  pub told_none : (r : Result Arrival Refusal) → get_or L t 0 ≡ never → r ≡ refused 28 0
      → Told (label L t) total road roads₀ roads₀ r
  told_none r e f =
      rw f (record { answer = rw (← (label_at L t l), eq-eqb _ never e); writes = fill_none _ roads₀ 0 })

  module _ (count : ℕ) {roads : List ℕ} (ne : get_or L t 0 ≢ never) (h : Listed total road roads₀ roads count)
    where
      pub told_short : (r : Result Arrival Refusal) → length roads < count → r ≡ refused 29 0
          → Told (label L t) total road roads₀ roads r
      told_short r m f =
          let o = lt-ltb (length roads₀) count (omega (arith, h.writes.long)) in
          rw f (record {
            answer = rw (← (label_at L t l), ne_eqb _ never ne, ← h.counts, o);
            writes = rw o at h.writes;
          })

      pub told_way : count ≤ length roads
          → Told (label L t) total road roads₀ roads (Ok (record { tick = get_or L t 0; count = count }))
      told_way m =
          let o = le-ltb (length roads₀) count (omega (arith, h.writes.long)) in
          record {
            answer = rw (← (label_at L t l), ne_eqb _ never ne, ← h.counts, o);
            writes = rw o at h.writes;
          }

-- FOR `answer`: from the labels L that the search left to the true labels
module _ {g : Graph} {s x : ℕ} (d : Leaving g s x) (p : Permit) where
  pub true_exact : Exact g p s x (label (labels g p s x)) never
  true_exact = labels_exact d.ok p s x d.node (small d)

  pub true_capped : (v : ℕ) → label (labels g p s x) v ≤ never
  true_capped = labels_capped d.ok p s x d.node (le_of_lt (small d))

told_never : (c d : ℕ) (f h : ℕ → ℕ) {roads₀ roads : List ℕ} (r : Result Arrival Refusal) → Told never c f roads₀ roads r
    → Told never d h roads₀ roads r
told_never c d f h r q =
    let z : r ≡ Err (refusal 28 0) = q.answer in
    record { answer = z; writes = rw z (nothing_filled f h (rw z at q.writes)) }

-- no more is written than there are roads
filled_same : {f h : ℕ → ℕ} (n c : ℕ) {old new : List ℕ} → n ≤ c → ((k : ℕ) → k < c → f k ≡ h k)
    → Filled 0 n f old new → Filled 0 n h old new
filled_same n c l e a =
    record {
      long = a.long;
      written = λ k b d. a.written k b d ∙ e k (omega arith);
      before = a.before;
      after = a.after;
    }

written_most : (tick count room : ℕ) → written (answer_of tick count room) ≤ count
written_most tick count room = go (eqb tick never) (ltb room count)
  where
    go : (b d : Bool)
        → written (cond b (Err (refusal 28 0)) (cond d (Err (refusal 29 0)) (Ok (record {
          tick = tick;
          count = count;
        })))) ≤ count
    go true d = omega arith
    go false true = omega arith
    go false false = le_refl count

module _ {g : Graph} {p : Permit} {s x t : ℕ} (d : Leaving g s x) (l : t < g.nodes) {L K : List ℕ}
    (r : Reached g p s t L K) (q : label L s ≡ x) where
  abbrev true_labels : List ℕ
  true_labels = labels g p s x

  exact : Exact g p s x (label L) (label L t)
  exact = rw q at r.exact

  tick_same : label true_labels t ≡ label L t
  tick_same = target_same L true_labels t exact (true_exact d p) r.capped (true_capped d p)

  shows_same : {old new : List ℕ} → length old ≡ g.nodes → Filled 0 (length L) (shown L t) L new
      → Filled 0 g.nodes (shown true_labels t) old new
  shows_same {old} {new} k f =
      filled_all (shown true_labels t) g.nodes old new k (f.long ∙ r.size)
      (λ v b. f.written v (omega arith) (omega (arith, r.size))
      ∙ shown_same L true_labels t exact (true_exact d p) r.capped (true_capped d p) v)

  known : label L t < never → Known g L (label L t) t
  known m = record { node = l; upto = le_refl _; known = m }

  road_same : label L t < never → (i : ℕ) → i < length (path_of g p s t x)
      → road_to g K t i ≡ entry_of (path_of g p s t x) i
  road_same m i h =
      let e = chosen_same d.ok L true_labels exact (true_exact d p) (known m) m in
      trail_road d.ok d.few r (known m) i (rw e h) ∙ ap (λ (w : List ℕ). entry_of w i) e

  count_same : label L t < never → hops_in K t ≡ length (path_of g p s t x)
  count_same m =
      trail_count d.ok d.few r (known m) ∙ ap length
      (chosen_same d.ok L true_labels exact (true_exact d p) (known m) m)

  told_same : {roads₀ roads : List ℕ} {o : Result Arrival Refusal}
      → Told (label L t) (hops_in K t) (road_to g K t) roads₀ roads o
      → Told (label true_labels t) (length (path_of g p s t x)) (entry_of (path_of g p s t x)) roads₀ roads o
  told_same {roads₀} {roads} {o} h = elim (dec_lt (label L t) never) [
    | yes m ↦
        let c = count_same m in
        let n : written o ≤ length (path_of g p s t x) =
        rw (h.answer, ← c) (written_most (label L t) (hops_in K t) (length roads₀)) in
        record {
          answer = rw (tick_same, ← c) h.answer;
          writes = filled_same (written o) (length (path_of g p s t x)) n (road_same m) h.writes;
        }
    | no m ↦
        let e : label L t ≡ never = omega (arith, r.capped t) in
        rw (tick_same, e) (told_never (hops_in K t) (length (path_of g p s t x)) (road_to g K t)
        (entry_of (path_of g p s t x)) o (rw e at h))
  ]

-- FOR `search_nodes`
pub tellable : {file L K : List ℕ} {l : Layout} {p : Permit} {s t x : ℕ} → Town file l → s < l.nodes
    → t < l.nodes → x < l.period
    → Reached (graph_of (decode file)) p s t L K → Tellable (graph_of (decode file)) L K t
tellable {L = L} {t = t} w a h b r = record {
  inside = omega (arith, r.size, w.sizes.nodes);
  few = omega (arith, w.small.nodes_most);
  leads = λ ne.
      let d = leaving w a b in
      let e = label_at L t (omega (arith, r.size, w.sizes.nodes)) in
      trail d.ok d.few r (record {
        node = omega (arith, w.sizes.nodes);
        upto = le_refl _;
        known = omega (arith, r.capped t);
      });
}

pub answered : (mask : List ℕ) {file old L K new roads₀ roads : List ℕ} {l : Layout} {s x t : ℕ} {o : Result Arrival Refusal}
    → Town file l
    → s < l.nodes → t < l.nodes → x < l.period → length old ≡ l.nodes
    → Reached (graph_of (decode file)) (permit_of mask) s t L K × (label L s ≡ x)
    → Told (label L t) (hops_in K t) (road_to (graph_of (decode file)) K t) roads₀ roads o
    → Filled 0 (length L) (shown L t) L new
    → Answered (graph_of (decode file)) (permit_of mask) s x t old new roads₀ roads o
answered mask w a b c k r h f =
    let d = leaving w a c in
    let m = w.sizes.nodes in
    record {
      shows = shows_same d (omega arith) r.0 r.1 (omega arith) f;
      told = told_same d (omega arith) r.0 r.1 h;
    }

-- for `search tells` at the needs of `tell`
pub ruleset tells = (told_none, told_short, told_way, tell_trail)
