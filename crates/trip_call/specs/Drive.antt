-- From the search's answer to the trip's: its lists as equations (`driven_call`), and that permissions which
-- agree on the arcs give the same trip (`call_permit`). And what a valid file gives the search.
use mathlib.Core.{Path.◌≡◌, Path.refl, Path.sym, Path.◌∙◌, Path.ap, List.List}
use Rattle.std.specs.Prelude.{ℕ, ◌≤◌, ◌<◌, Result, Ok, Err}
use Rattle.std.proofs.Common.{arith}
use lib.{ListN.length, ListN.take, ListN.drop, Seq.take-append_seam}
use Rattle.theory_loops.specs.Fill.{tab, length_tab, tab_list, filled_none, filled_list, overwritten}
use Rattle.theory_paths.specs.{Graph.Graph, Graph.Permit, Labels.label, Labels.labels, Chosen.chosen}
use Rattle.theory_paths.proofs.Agree.{labels_permit, chosen_permit}
use Rattle.network.specs.declared.header.{Header.Header, Layout.Layout}
use Rattle.network.specs.{Network.nodes, Network.arcs, Network.points, Layout.layout_of, Sound.SoundNetwork}
use Rattle.network.specs.{Decode.decode, Decode.Laid, Valid.ValidFile, Town.graph_of}
use Rattle.network.proofs.Valid.{valid_laid}
use Rattle.search_chains.specs.Town.{town_of}
use Rattle.search_labels.specs.Ready.{Leaving, leaving}
use Rattle.file_refusals.specs.Apart.{not_both}
use Rattle.search_path.specs.Answer.{Answered, answer_of, path_of, searched, entry_of, count_is}
use Rattle.search_path.specs.Trim.{shown}
use Rattle.search_path.specs.declared.answer.{Arrival.Arrival}
use Rattle.file_refusals.specs.declared.Refusal.{Refusal}
use Rattle.trip_call.specs.Trip.{trip_answer, trip_arrivals, trip_roads, TripCall}

-- WHAT THE SEARCH LEAVES, as the trip says it
module _ {g : Graph} {p : Permit} {s x t : ℕ} {arrivals₀ arrivals₁ roads₀ roads₁ : List ℕ} where
  roads_are : (a : Result Arrival Refusal) → Answered g p s x t arrivals₀ arrivals₁ roads₀ roads₁ a
      → roads₁ ≡ trip_roads a g p s t x roads₀
  roads_are (Ok r) q =
      let w = path_of g p s t x in
      let (c, l) = count_is (label (labels g p s x) t) (length w) (length roads₀) r q.told.answer in
      filled_list (entry_of w) (length w) roads₀ roads₁ l (rw c at q.told.writes) ∙ rw (tab_list w)
  roads_are (Err r) q = filled_none _ 0 roads₀ roads₁ q.told.writes

  pub answered_call : (h : Header) (a : Result Arrival Refusal) → g.nodes ≤ length arrivals₀
      → Answered g p s x t arrivals₀ arrivals₁ roads₀ roads₁ a
      → TripCall (Ok h) g p s t x arrivals₀ arrivals₁ roads₀ roads₁ a
  answered_call h a l q = record {
    answer = q.told.answer;
    arrivals = rw length_tab (filled_list _ g.nodes arrivals₀ arrivals₁ l q.shows);
    roads = roads_are a q;
  }

-- WHAT A CALL THAT ARRIVES has listed: as many roads as it counts, and they are the chosen path
module _ {b : Result Header Refusal} {g : Graph} {p : Permit} {s t x : ℕ} {arrivals₀ arrivals₁ roads₀ roads₁ : List ℕ}
    {a : Result Arrival Refusal}
    (c : TripCall b g p s t x arrivals₀ arrivals₁ roads₀ roads₁ a) (r : Arrival)
    (q : a ≡ Ok r) where
  pub call_count : (r.count ≡ length (path_of g p s t x)) × (length (path_of g p s t x) ≤ length roads₀)
  call_count = go b (sym q ∙ c.answer)
    where
      go : (d : Result Header Refusal) → Ok r ≡ trip_answer d (searched g p s t x (length roads₀))
          → (r.count ≡ length (path_of g p s t x)) × (length (path_of g p s t x) ≤ length roads₀)
      go (Err k) e = not_both k r (sym e)
      go (Ok h) e = count_is (label (labels g p s x) t) (length (path_of g p s t x)) (length roads₀) r e

  pub call_roads : take r.count roads₁ ≡ path_of g p s t x
  call_roads =
      rw (rw q at c.roads, call_count.0)
      (take-append_seam (path_of g p s t x) (drop (length (path_of g p s t x)) roads₀))

-- PERMISSIONS that agree on the arcs give the same trip
module _ (g : Graph) (p q : Permit) (o : 0 < g.period) (same : (a : ℕ) → a < g.arcs → p a ≡ q a)
    (s t x : ℕ) where
  same_labels : labels g p s x ≡ labels g q s x
  same_labels = labels_permit g p q o same s x

  same_path : path_of g p s t x ≡ path_of g q s t x
  same_path =
      ap (λ (L : List ℕ). chosen g p s L t) same_labels ∙ chosen_permit g p q o same s (labels g q s x) t

  searched_same : (room : ℕ) → searched g p s t x room ≡ searched g q s t x room
  searched_same room = ap (λ (w : List ℕ). answer_of (label (labels g p s x) t) (length w) room) same_path
      ∙ ap (λ (L : List ℕ). answer_of (label L t) (length (path_of g q s t x)) room) same_labels

  arrivals_same : (b : Result Header Refusal) (old : List ℕ) → trip_arrivals b g p s t x old ≡ trip_arrivals b g q s t x old
  arrivals_same (Err r) old = refl
  arrivals_same (Ok r) old = ap (λ (L : List ℕ). overwritten (tab g.nodes (shown L t)) old) same_labels

  roads_same : (a : Result Arrival Refusal) (old : List ℕ) → trip_roads a g p s t x old ≡ trip_roads a g q s t x old
  roads_same (Ok a) old = ap (λ (w : List ℕ). overwritten w old) same_path
  roads_same (Err r) old = refl

  pub call_permit : {b : Result Header Refusal} {arrivals₀ arrivals₁ roads₀ roads₁ : List ℕ} {a : Result Arrival Refusal}
      → TripCall b g p s t x arrivals₀ arrivals₁ roads₀ roads₁ a
      → TripCall b g q s t x arrivals₀ arrivals₁ roads₀ roads₁ a
  call_permit {b} {arrivals₀} {roads₀ = roads₀} {a = a} c = record {
    answer = c.answer ∙ ap (trip_answer b) (searched_same (length roads₀));
    arrivals = c.arrivals ∙ arrivals_same b arrivals₀;
    roads = c.roads ∙ roads_same a roads₀;
  }

-- WHAT A VALID FILE GIVES the search
module _ {file : List ℕ} {h : Header} (v : ValidFile file h) where
  pub drive_laid : (l : Layout) → l ≡ layout_of h → Laid file l
  drive_laid l e = rw e (valid_laid v)

  pub drive_sound : SoundNetwork (decode file)
  drive_sound = v.sound

  pub drive_nodes : nodes (decode file) ≡ h.nodes
  unfolding decode
  drive_nodes = length_tab _ _ ∙ ap (λ (k : Header). k.nodes) (sym v.is)

  pub drive_arcs : arcs (decode file) ≡ h.arcs
  unfolding decode
  drive_arcs = length_tab _ _ ∙ ap (λ (k : Header). k.arcs) (sym v.is)

  pub drive_points : points (decode file) ≡ h.points
  unfolding decode
  drive_points = length_tab _ _ ∙ ap (λ (k : Header). k.points) (sym v.is)

  pub drive_number : (decode file).number ≡ h.number
  unfolding decode
  drive_number = ap (λ (k : Header). k.number) (sym v.is)

  pub drive_cells : (decode file).cells ≡ h.cells
  unfolding decode
  drive_cells = ap (λ (k : Header). k.cells) (sym v.is)

  pub drive_period : (decode file).period ≡ h.period
  unfolding decode
  drive_period = ap (λ (k : Header). k.period) (sym v.is)

pub drive_sizes : (l : Layout) (h : Header) → l ≡ layout_of h
    → (l.nodes ≡ h.nodes) × (l.arcs ≡ h.arcs) × (l.period ≡ h.period)
unfolding layout_of
drive_sizes l h e =
    (ap (λ (k : Layout). k.nodes) e, ap (λ (k : Layout). k.arcs) e, ap (λ (k : Layout). k.period) e)

-- and a trip that leaves from one of its nodes at a tick of the day
pub valid_leaving : {file : List ℕ} {h : Header} → ValidFile file h → (s x : ℕ) → s < h.nodes → x < h.period
    → Leaving (graph_of (decode file)) s x
unfolding layout_of
valid_leaving {h = h} v s x m k = leaving (town_of (drive_laid v (layout_of h) refl) v.sound) m k

-- FOR `drive`: the search of a valid file answers the call
pub driven_call : (file : List ℕ) (h : Header) (p : Permit) (s x t : ℕ)
    (arrivals₀ arrivals₁ roads₀ roads₁ : List ℕ) (a : Result Arrival Refusal)
    → ValidFile file h → h.nodes ≤ length arrivals₀
    → Answered (graph_of (decode file)) p s x t arrivals₀ arrivals₁ roads₀ roads₁ a
    → TripCall (Ok h) (graph_of (decode file)) p s t x arrivals₀ arrivals₁ roads₀ roads₁ a
driven_call file h p s x t arrivals₀ arrivals₁ roads₀ roads₁ a v l q =
    answered_call h a (omega (arith, drive_nodes v)) q
