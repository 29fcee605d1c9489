-- Packing a network: the answer, what becomes of the lent bytes, and the call (`PackCall`). The bytes that
-- are written become the network's file.
use mathlib.Core.{Path.◌≡◌, Path.refl, Path.sym, Path.◌∙◌, Path.ap, Path.subst, List.List}
use Rattle.file_refusals.specs.Refusal.{refused}
use Rattle.std.specs.Prelude.{Bool, true, false, cond, ℕ, ◌^◌, ◌<◌, length, Result, Ok, Err, ⊤}
use Rattle.std.specs.Prelude.{Option, Some, None}
use Rattle.std.proofs.Common.{arith}
use Rattle.file_refusals.specs.declared.{Refusal.Refusal}
use Rattle.network.specs.declared.header.{Header.Header, Layout.Layout, HeaderNumbers.HeaderNumbers}
use Rattle.network.specs.{Limits.made, Limits.WithinLimits, Limits.made_within, Layout.layout_of}
use Rattle.network.specs.{Network.Network, Rules.judged, Tables.Tables, Tables.network_of}
use Rattle.network_open.specs.Open.{too_short, open_room}
use Rattle.network_encode.specs.{Encode.encode, Packable.Packable}
use Rattle.file_refusals.specs.Writing.{written_into, bytes_after, Writes, writes_refused}

-- the header of these numbers, within the limits or not, and what they make
abbrev pub numbers : ℕ → ℕ → ℕ → ℕ → ℕ → ℕ → ℕ → Header
numbers number period nodes arcs cells points hours = record {
  number = number;
  period = period;
  nodes = nodes;
  arcs = arcs;
  cells = cells;
  points = points;
  hours = hours;
}

abbrev pub numbers_of : HeaderNumbers → Header
numbers_of n = numbers n.number n.period n.nodes n.arcs n.cells n.points n.hours

abbrev pub made_of : Header → Option Header
made_of h = made h.number h.period h.nodes h.arcs h.cells h.points h.hours

-- 7, 37, 8 to 10
abbrev pub packed_rules : Result ⊤ Refusal → ℕ → ℕ → Result ℕ Refusal
packed_rules (Ok _) long room = written_into long room
packed_rules (Err r) long room = Err r

-- 30: a table shorter than its count
unfoldable pub packed_tables : Header → Tables → ℕ → Result ℕ Refusal
packed_tables h t room =
    let n = network_of h t in
    cond (too_short h t) (refused 30 0) (packed_rules (judged n) (length (encode n)) room)

-- 4: numbers outside the limits
abbrev pub packed_made : Option Header → Tables → ℕ → Result ℕ Refusal
packed_made (Some h) t room = packed_tables h t room
packed_made None t room = refused 4 0

-- Pack's answer by the numbers, the tables, and how many bytes are lent
abbrev pub packing : Header → Tables → ℕ → Result ℕ Refusal
packing h = packed_made (made_of h)

-- an answer for a network that breaks no rule, for any, and for a header and tables, with the bytes that it
-- leaves
abbrev pub WritesNetwork : Network → List ℕ → List ℕ → Result ℕ Refusal → Type 0
WritesNetwork n before after r =
    Writes (written_into (length (encode n)) (length before)) (encode n) before after r

abbrev pub PacksNetwork : Network → List ℕ → List ℕ → Result ℕ Refusal → Type 0
PacksNetwork n before after r =
    Writes (packed_rules (judged n) (length (encode n)) (length before)) (encode n) before after r

abbrev pub PacksTables : Header → Tables → List ℕ → List ℕ → Result ℕ Refusal → Type 0
PacksTables h t before after r =
    Writes (packed_tables h t (length before)) (encode (network_of h t)) before after r

-- THE CALL: what Pack answers for numbers, tables and lent bytes, and the bytes that it leaves
abbrev pub PackCall : Header → Tables → List ℕ → List ℕ → Result ℕ Refusal → Type 0
PackCall h t before after r =
    Writes (packing h t (length before)) (encode (network_of h t)) before after r

-- FOR THE CODE: 7, 37, 8 to 10
module _ (file before after : List ℕ) (long room : ℕ) (j k : Result ⊤ Refusal) (e : j ≡ k) where
  pub rules_sound : (r : Result ℕ Refusal) → j ≡ Ok tt → Writes (written_into long room) file before after r
      → Writes (packed_rules k long room) file before after r
  rules_sound r f p = record { answer = rw (← e, f) p.answer; written = p.written }

  pub rules_faulty : (q : Refusal) → j ≡ Err q
      → Writes (packed_rules k long room) file before before (Err q)
  rules_faulty q f = record { answer = rw (← e, f); written = refl }

-- 30
module _ (h : Header) (t : Tables) (before : List ℕ) (y : Bool) (e : y ≡ too_short h t)
    (r : Result ℕ Refusal) where
  pub tables_short : y ≡ true → r ≡ refused 30 0
      → PacksTables h t before before r
  unfolding packed_tables
  tables_short f g = writes_refused _ _ before 30 r g (rw (← e, f) g)

  pub tables_long : (after : List ℕ) → y ≡ false
      → PacksNetwork (network_of h t) before after r → PacksTables h t before after r
  unfolding packed_tables
  tables_long after f p = record { answer = rw (← e, f) p.answer; written = p.written }

-- tables that are long enough can be written
pub now_packable : (h : Header) (l : Layout) (t : Tables) (y : Bool) → WithinLimits h → h.number < 2 ^ 32
    → l ≡ layout_of h
    → y ≡ too_short h t → y ≡ false → Packable h l t
now_packable h l t y w f i e g =
    record { within = w; number_fits = f; is = i; room = open_room h l t y e g i }

-- numbers that make a header make theirs
module _ (number period nodes arcs cells points hours : ℕ) (m : Option Header)
    (e : m ≡ made number period nodes arcs cells points hours) (h : Header) (f : m ≡ Some h) where
  inside : WithinLimits h × (h ≡ numbers number period nodes arcs cells points hours)
  inside = made_within number period nodes arcs cells points hours h (sym e ∙ f)

  pub inside_within : WithinLimits h
  inside_within = inside.0

  pub inside_number : number < 2 ^ 32 → h.number < 2 ^ 32
  inside_number l = let q : h.number ≡ number = ap (λ (y : Header). y.number) inside.1 in omega arith

-- 4
module _ (g : Header) (t : Tables) (before : List ℕ) (m : Option Header) (e : m ≡ made_of g) where
  pub numbers_outside : (r : Result ℕ Refusal) → m ≡ None → r ≡ refused 4 0 → PackCall g t before before r
  numbers_outside r f q = record { answer = rw (← e, f) q; written = rw q }

  pub numbers_inside : (h : Header) → m ≡ Some h → (after : List ℕ) (r : Result ℕ Refusal)
      → PacksTables h t before after r → PackCall g t before after r
  numbers_inside h f after r p =
      let q : h ≡ g = (made_within g.number g.period g.nodes g.arcs g.cells g.points
      g.hours h (sym e ∙ f)).1 in
      record {
        answer = rw (← e, f) p.answer;
        written = subst (λ (y : Header). after ≡ bytes_after r (encode (network_of y t)) before) q p.written;
      }
