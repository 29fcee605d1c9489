-- The frontier as the code holds it: n keys in a table, in any order, and the place of each node's key. A key
-- is a node's label and the node in one number. Its invariant with the labels (`Frontier`), and how relaxing
-- lets it grow (`Grown`). It never overflows: each entry has its label, and with every entry a node without a
-- label is gone.
use mathlib.Core.{Path.◌≡◌, Path.refl, Path.sym, Path.◌∙◌, Path.ap, List.List, List.[], List.◌∷◌}
use Rattle.std.specs.Prelude.{◌⊎◌, ℕ, ◌+◌, ◌-◌, ◌*◌, ◌%◌, ◌^◌, ◌≤◌, ◌<◌, length, get_or}
use Rattle.std.proofs.Common.{inl, inr, ⊎_elim}
use native.Mathlib.{Nat.le_refl, Nat.le_trans, Decide.ℕ_discrete, Decide.dec_lt, Omega.arith}
use Rattle.std.proofs.Math.ListN.{get_or-eq_default}
use Rattle.theory_paths.specs.{Earliest.never, Labels.label}
use Rattle.network.specs.Limits.{most_nodes}

-- A key, and its node.
abbrev pub key_of : ℕ → ℕ → ℕ
key_of e v = e * most_nodes + v

abbrev pub node_of : ℕ → ℕ
node_of key = key % most_nodes

-- No label of a search is higher, and no arc that is taken then ends later: round numbers, above all that
-- nodes and periods within the limits come to, and their keys are below 32 bits.
abbrev pub last_label : ℕ
last_label = 2 ^ 21

abbrev pub last_end : ℕ
last_end = 2 ^ 22

-- The node of entry k.
abbrev pub node_at : List ℕ → ℕ → ℕ
node_at Q k = node_of (get_or Q k 0)

-- One of the n entries is v's.
pub record Held (Q : List ℕ) (n v : ℕ) : Type 0 where
  pub place : ℕ
  pub inside : place < n
  pub is : node_at Q place ≡ v

-- How many nodes have no label.
unfoldable pub unknown : List ℕ → ℕ
unknown [] = 0
unknown (e ∷ L) = 1 - (never - e) + unknown L

-- Each of the n entries of Q has its node's label, P has the place of each of their nodes, and there is room
-- for every node that has no label.
pub record Frontier (L Q P : List ℕ) (n : ℕ) : Type 0 where
  pub keys_long : length Q ≡ most_nodes
  pub places_long : length P ≡ most_nodes
  pub few : length L ≤ most_nodes
  pub keyed : (k : ℕ) → k < n → get_or Q k 0 ≡ key_of (label L (node_at Q k)) (node_at Q k)
  pub placed : (k : ℕ) → k < n → get_or P (node_at Q k) 0 ≡ k
  pub known : (k : ℕ) → k < n → label L (node_at Q k) < never
  pub room : n + unknown L ≤ most_nodes

-- Every node with a label above y is in the frontier.
pub record Open (L Q : List ℕ) (n y : ℕ) : Type 0 where
  pub held : (v : ℕ) → y < label L v → label L v < never → Held Q n v

-- From the labels L to M, which are no higher, the n entries of Q grew to the m entries of R: all stay, and
-- those are added that got their first label.
pub record Grown (L M Q R : List ℕ) (n m : ℕ) : Type 0 where
  pub falls : (v : ℕ) → label M v ≤ label L v
  pub stay : (v : ℕ) → Held Q n v → Held R m v
  pub new : (v : ℕ) → never ≤ label L v → label M v < never → Held R m v
  pub no_more : (v : ℕ) → Held R m v → Held Q n v ⊎ (never ≤ label L v)
  pub sum : m + unknown M ≡ n + unknown L

pub key_node : (e v : ℕ) → v < most_nodes → node_of (key_of e v) ≡ v
key_node e v l = omega arith

-- a node with a label has a place among the labels
pub known_in : (L : List ℕ) (v : ℕ) → label L v < never → v < length L
known_in L v h =
    elim (dec_lt v (length L))
    [ yes l ↦ l | no l ↦ absurd (omega (arith, get_or-eq_default L never {n = v} (omega arith))) ]

-- nothing is lowered
pub grown_same : (L Q : List ℕ) (n : ℕ) → Grown L L Q Q n n
grown_same L Q n =
    record {
      falls = λ v. le_refl _;
      stay = λ v h. h;
      new = λ v m k. absurd (omega arith);
      no_more = λ v h. inl h;
      sum = refl;
    }

-- what is above y stays in the frontier
pub grown_open : {L M Q R : List ℕ} {n m y : ℕ} → Open L Q n y → Grown L M Q R n m → Open M R m y
grown_open {L} o g = record {
  held = λ v a b. elim (dec_lt (label L v) never) [
    | yes k ↦ g.stay v (o.held v (omega (arith, g.falls v)) k)
    | no k ↦ g.new v (omega arith) b
  ];
}

module _ {L Q P : List ℕ} {n : ℕ} (f : Frontier L Q P n) where
  -- the node of an entry has a place among the labels, and its entry's place among the keys
  pub entry_in : (k v : ℕ) → k < n → v ≡ node_at Q k → v < length L
  entry_in k v l e = rw e (known_in L (node_at Q k) (f.known k l))

  -- two entries have two nodes
  pub apart : (j k : ℕ) → j < n → k < n → node_at Q j ≡ node_at Q k → j ≡ k
  apart j k a b e = sym (f.placed j a) ∙ ap (λ v. get_or P v 0) e ∙ f.placed k b

  pub place_is : {v : ℕ} (h : Held Q n v) → get_or P v 0 ≡ h.place
  place_is h = rw h.is at (f.placed h.place h.inside)

  pub held_place : (at v : ℕ) → Held Q n v → at ≡ get_or P v 0 → at < most_nodes
  held_place at v h e = omega (arith, place_is h, h.inside, f.room)

-- a node is in the frontier, or it is not
pub held_or : {L Q P : List ℕ} {n : ℕ} → Frontier L Q P n → (v : ℕ) → Dec (Held Q n v)
held_or {Q = Q} {P = P} {n = n} f v = go (dec_lt (get_or P v 0) n) (ℕ_discrete (node_at Q (get_or P v 0)) v)
  where
    go : Dec (get_or P v 0 < n) → Dec (node_at Q (get_or P v 0) ≡ v) → Dec (Held Q n v)
    go (yes a) (yes b) = yes (record { place = get_or P v 0; inside = a; is = b })
    go (no a) b = no (λ h. a (omega (arith, place_is f h, h.inside)))
    go (yes a) (no b) = no (λ h. b (rw (place_is f h) h.is))

-- FOR THE WALK over the arcs out of a node: one step more
pub grown_then : {L M N F G H : List ℕ} {n m k : ℕ} → Grown L M F G n m → Grown M N G H m k
    → Grown L N F H n k
grown_then {L} {M} a b = record {
  falls = λ v. le_trans (b.falls v) (a.falls v);
  stay = λ v h. b.stay v (a.stay v h);
  new = λ v h i. elim
      (dec_lt (label M v) never) [ yes l ↦ b.stay v (a.new v h l) | no l ↦ b.new v (omega arith) i ];
  no_more = λ v h. ⊎_elim (λ w. a.no_more v w) (λ w. inr (le_trans w (a.falls v))) (b.no_more v h);
  sum = b.sum ∙ a.sum;
}
