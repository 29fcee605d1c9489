-- Laws for the code that writes an answer in bytes: one field after the other, and then the whole.
use Rattle.std.specs.Prelude.{◌≡◌, ℕ, suc, ◌+◌, ◌*◌, ◌≤◌, ◌<◌, length, get_or, take, Result, Ok, Err}
use Rattle.std.proofs.Math.Path.{refl}
use Rattle.std.proofs.Common.{sym, ◌∙◌, ap, arith, length-append, take-suc, length-take-le}
use mathlib.Core.List.{List, [], ◌∷◌, ◌++◌, append_assoc, append-nil}
use Rattle.std.proofs.lemmas.List.Edits.{sets}
use Rattle.theory_loops.specs.{Fill.length_tab, Stores.stored_next}
use Rattle.file_fields.specs.{Fields.byte_of, Put.put, Put.put_stores}
use Rattle.file_refusals.specs.declared.Refusal.{Refusal}
use Rattle.search_path.specs.declared.answer.{Arrival.Arrival}
use Rattle.search_path.specs.Says.{trip_says, trip_tick, trip_count}
use Rattle.network.specs.Limits.{most_roads}
use Rattle.c_trip.specs.Reply.{bytes, road_bytes, trip_bytes}

-- THE ROADS
pub roads_snoc : (xs : List ℕ) (a : ℕ) → road_bytes (xs ++ (a ∷ [])) ≡ road_bytes xs ++ bytes 2 a
unfolding road_bytes
roads_snoc [] a = append-nil (bytes 2 a)
roads_snoc (x ∷ xs) a =
    ap (λ (r : List ℕ). bytes 2 x ++ r) (roads_snoc xs a)
    ∙ sym (append_assoc (bytes 2 x) (road_bytes xs) (bytes 2 a))

pub length_roads : (xs : List ℕ) → length (road_bytes xs) ≡ 2 * length xs
unfolding road_bytes
length_roads [] = refl
length_roads (x ∷ xs) =
    let q : length (bytes 2 x ++ road_bytes xs) ≡ 2 + length (road_bytes xs) =
    length-append (bytes 2 x) (road_bytes xs) ∙ ap (λ (k : ℕ). k + length (road_bytes xs)) (length_tab 2 _) in
    omega (arith, q, length_roads xs)

module _ (roads s : List ℕ) where
  -- before the loop
  pub roads_none : s ≡ sets s 10 (road_bytes (take 0 roads))
  unfolding road_bytes
  roads_none = refl

  -- one more road
  pub roads_next : (i : ℕ) (t u : List ℕ) → i < length roads → t ≡ sets s 10 (road_bytes (take i roads))
      → u ≡ put 2 t (10 + 2 * i) (get_or roads i 0) → u ≡ sets s 10 (road_bytes (take (i + 1) roads))
  roads_next i t u l e f =
      let z : i + 1 ≡ suc i = omega arith in
      let road = get_or roads i 0 in
      let k : length (take i roads) ≡ i = length-take-le i roads (omega arith) in
      let m : 10 + 2 * i ≡ 10 + length (road_bytes (take i roads)) =
      omega (arith, k, length_roads (take i roads)) in
      rw (z, take-suc roads i 0 l, roads_snoc (take i roads) road)
      (stored_next (road_bytes (take i roads)) (bytes 2 road) s t u 10 (10 + 2 * i) e m
      (f ∙ put_stores 2 t (10 + 2 * i) road))

  -- the end of the loop
  pub roads_end : (i count : ℕ) (t : List ℕ) → t ≡ sets s 10 (road_bytes (take i roads))
      → i ≤ count → count ≤ i → t ≡ sets s 10 (road_bytes (take count roads))
  roads_end i count t e l m = let q : i ≡ count = omega arith in rw q at e

-- THE LENGTH OF AN ANSWER OF BYTES
numbers_long : (x y : ℕ) → length (bytes 4 x ++ bytes 4 y) ≡ 8
numbers_long x y =
    length-append (bytes 4 x) (bytes 4 y) ∙ omega (arith, length_tab 4 (byte_of x), length_tab 4 (byte_of y))

head_long : (x y z : ℕ) → length (bytes 4 x ++ bytes 4 y ++ bytes 2 z) ≡ 10
head_long x y z =
    length-append (bytes 4 x ++ bytes 4 y) (bytes 2 z)
    ∙ omega (arith, numbers_long x y, length_tab 2 (byte_of z))

pub trip_long : (a : Result Arrival Refusal) (path : List ℕ)
    → length (trip_bytes a path) ≡ 10 + 2 * length (take (trip_count a) path)
trip_long a path =
    let roads = take (trip_count a) path in
    length-append (bytes 4 (trip_says a).number ++ bytes 4 (trip_tick a) ++ bytes 2 (trip_count a))
    (road_bytes roads)
    ∙ omega (arith, head_long (trip_says a).number (trip_tick a) (trip_count a), length_roads roads)

-- AN ANSWER OF BYTES: its head of ten bytes, and the roads after it
module _ (s s₁ s₂ s₃ : List ℕ) (x y z : ℕ)
    (e₁ : s₁ ≡ put 4 s 0 x) (e₂ : s₂ ≡ put 4 s₁ 4 y) (e₃ : s₃ ≡ put 2 s₂ 8 z) where
  numbers_stored : s₂ ≡ sets s 0 (bytes 4 x ++ bytes 4 y)
  numbers_stored =
      stored_next (bytes 4 x) (bytes 4 y) s s₁ s₂ 0 4 (e₁ ∙ put_stores 4 s 0 x)
      (omega (arith, length_tab 4 (byte_of x))) (e₂ ∙ put_stores 4 s₁ 4 y)

  pub head_stored : s₃ ≡ sets s 0 (bytes 4 x ++ bytes 4 y ++ bytes 2 z)
  head_stored =
      stored_next (bytes 4 x ++ bytes 4 y) (bytes 2 z) s s₂ s₃ 0 8 numbers_stored
      (omega (arith, numbers_long x y)) (e₃ ∙ put_stores 2 s₂ 8 z)

  pub roads_stored : (path s₄ : List ℕ) → s₄ ≡ sets s₃ 10 (road_bytes path)
      → s₄ ≡ sets s 0 (bytes 4 x ++ bytes 4 y ++ bytes 2 z ++ road_bytes path)
  roads_stored path s₄ e =
      stored_next (bytes 4 x ++ bytes 4 y ++ bytes 2 z) (road_bytes path) s s₃ s₄ 0 10 head_stored
      (omega (arith, head_long x y z)) e

-- AN ANSWER OF BYTES BY ITS CASE
module _ (roads s t : List ℕ) (trip : Result Arrival Refusal) where
  pub arrived_bytes : (a : Arrival) → trip ≡ Ok a → t ≡ sets s 0 (trip_bytes (Ok a) roads)
      → t ≡ sets s 0 (trip_bytes trip roads)
  arrived_bytes a e f = rw e f

  pub arrived_count : (a : Arrival) → trip ≡ Ok a → trip_count trip ≤ most_roads → a.count ≤ most_roads
  arrived_count a e l = rw e at l

  pub arrived_room : (a : Arrival) (n : ℕ) → trip ≡ Ok a → trip_count trip ≤ most_roads → most_roads ≤ n
      → a.count ≤ n
  arrived_room a n e l m = omega (arith, arrived_count a e l)

  pub refused_bytes : (r : Refusal) → trip ≡ Err r
      → t ≡ sets s 0 (bytes 4 r.number ++ bytes 4 0 ++ bytes 2 0) → t ≡ sets s 0 (trip_bytes trip roads)
  unfolding road_bytes
  refused_bytes r e f = rw (e, append-nil (bytes 4 r.number ++ bytes 4 0 ++ bytes 2 0)) f

-- for `search replies` where a trip's answer is written
pub ruleset replies = (arrived_bytes, arrived_count, arrived_room, refused_bytes)
