-- Points in general, (t i, v i) for i from 0 to n, where point n is the next day's first: the segment that a
-- tick lies in, the value there, and the laws of values, FIFO over all days among them. The ticks and values
-- are any functions, so that whoever reads points, from lists or in place from a file, has these laws for the
-- asking.
use mathlib.Core.{Path.◌≡◌, Path.refl, Path.ap, Bool.Bool, Logic.⊎_elim}
use Prim.Native.Nat.{ℕ, zero, suc, ◌+◌, ◌-◌, ◌*◌, ◌/◌, ◌%◌, ◌≤◌, ◌<◌, zero-le}
use Rattle.std.proofs.Math.Nat.{le_trans, le_antisymm, mod-lt, div-add-mod', mul-le-mul_right}
use Rattle.std.proofs.Common.{le_of_lt, eq-or-lt_of_le, le-div_iff_mul-le, ltb-true, ltb-false}
use native.Mathlib.{Decide.ℕ_discrete, Decide.dec_le, Omega.arith}
use Rattle.std.specs.Prelude.{ltb}
use Rattle.theory_loops.specs.First.{first, first_le, found, least}
use Rattle.theory_travel.specs.Line.{
  line,
  line_first,
  line_least,
  line_most,
  ends_least,
  ends_most,
  ends_rise,
}

-- the last point at or before tick x
unfoldable pub segment : (ℕ → ℕ) → ℕ → ℕ → ℕ
segment t n x = first n (λ i. ltb x (t i)) - 1

-- the line from point k to the next, at tick x
abbrev pub piece : (ℕ → ℕ) → (ℕ → ℕ) → ℕ → ℕ → ℕ
piece t v k x = line x (t k) (v k) (t (suc k)) (v (suc k))

-- the value at tick x of the day
unfoldable pub value : (ℕ → ℕ) → (ℕ → ℕ) → ℕ → ℕ → ℕ
value t v n x = piece t v (segment t n x) x

-- the value at any tick, days laid end to end: a tick past the day's end is first reduced
unfoldable pub value_over : (ℕ → ℕ) → (ℕ → ℕ) → ℕ → ℕ → ℕ
value_over t v n x = value t v n (x % t n)

-- what the points of a day are: ticks that rise from 0, and the next day's first has the value of this day's
pub record Points (t v : ℕ → ℕ) (n : ℕ) : Type 0 where
  pub some : 0 < n
  pub start : t 0 ≡ 0
  pub rise : (i : ℕ) → i < n → t i < t (suc i)
  pub wrap : v n ≡ v 0

-- of neighbouring points, the last and the next day's first included, the earlier travel ends no later
pub record Fifo (t v : ℕ → ℕ) (n : ℕ) : Type 0 where
  pub kept : (i : ℕ) → i < n → t i + v i ≤ t (suc i) + v (suc i)

-- tick x lies in the segment from point k to the next
pub record Segment (t : ℕ → ℕ) (n x k : ℕ) : Type 0 where
  pub below : k < n
  pub at : t k ≤ x
  pub next : x < t (suc k)

-- what never falls from one index to the next does not fall at all
pub climbs : (f : ℕ → ℕ) (n : ℕ) → ((i : ℕ) → i < n → f i ≤ f (suc i)) → (i j : ℕ) → i ≤ j → j ≤ n → f i ≤ f j
climbs f n h i zero l m = let e : i ≡ 0 = omega arith in rw e (omega arith)
climbs f n h i (suc j) l m = elim (ℕ_discrete i (suc j)) [
  | yes e ↦ rw e (omega arith)
  | no e ↦ le_trans (climbs f n h i j (omega arith) (omega arith)) (h j (omega arith))
]

-- WHERE A TICK LIES
-- a tick of the day lies in its segment
pub segment_is : (t : ℕ → ℕ) (n x : ℕ) → t 0 ≤ x → x < t n → Segment t n x (segment t n x)
unfolding segment
segment_is t n x begun h = go (first n p) refl
  where
    p : ℕ → Bool
    p i = ltb x (t i)

    go : (m : ℕ) → first n p ≡ m → Segment t n x (m - 1)
    go zero e = elim (ℕ_discrete n 0) [
      | yes q ↦ absurd (omega (arith, rw q at h))
      | no q ↦ absurd (omega (arith, ltb-true x (t 0) (rw e at (found p n (omega arith)))))
    ]
    go (suc k) e =
        let q : suc k - 1 ≡ k = omega arith in
        rw q
        (record {
          below = omega (arith, first_le p n);
          at = ltb-false x (t k) (least p n k (omega arith));
          next = elim (ℕ_discrete n (suc k)) [
            | yes o ↦ rw o at h
            | no o ↦ ltb-true x (t (suc k)) (rw e at (found p n (omega (arith, first_le p n))))
          ];
        })

module _ {t v : ℕ → ℕ} {n : ℕ} (p : Points t v n) where
  ticks_climb : (i j : ℕ) → i ≤ j → j ≤ n → t i ≤ t j
  ticks_climb = climbs t n (λ i l. le_of_lt (p.rise i l))

  period_some : 0 < t n
  period_some = omega (arith, p.start, p.rise 0 p.some, ticks_climb 1 n p.some (omega arith))

  lies : (x : ℕ) → x < t n → Segment t n x (segment t n x)
  lies x h = segment_is t n x (omega (arith, p.start)) h

  -- a later tick lies in no earlier segment
  segments_climb : (x y j k : ℕ) → Segment t n x j → Segment t n y k → x ≤ y → j ≤ k
  segments_climb x y j k f g l = elim (dec_le j k) [
    | yes h ↦ h
    | no h ↦ absurd
        (omega (arith, f.at, g.next, ticks_climb (suc k) j (omega arith) (omega (arith, f.below))))
  ]

  -- VALUES
  -- at its points the line has their values
  pub value_point : (i : ℕ) → i < n → value t v n (t i) ≡ v i
  unfolding value
  value_point i l =
      let here : Segment t n (t i) i = record { below = l; at = omega arith; next = p.rise i l } in
      let s = lies (t i) (omega (arith, p.rise i l, ticks_climb (suc i) n l (omega arith))) in
      let e : segment t n (t i) ≡ i =
      le_antisymm (segments_climb _ _ _ _ s here (omega arith))
      (segments_climb _ _ _ _ here s (omega arith)) in
      rw e (line_first (t i) (v i) (t (suc i)) (v (suc i)) (p.rise i l))

  -- a value is at least what all points have, and at most what all have
  pub value_least : (m x : ℕ) → ((i : ℕ) → i ≤ n → m ≤ v i) → x < t n → m ≤ value t v n x
  unfolding value
  value_least m x all h =
      let s = lies x h in
      line_least x _ _ _ _ s.at s.next m (all _ (omega arith)) (all _ s.below)

  pub value_most : (m x : ℕ) → ((i : ℕ) → i ≤ n → v i ≤ m) → x < t n → value t v n x ≤ m
  unfolding value
  value_most m x all h =
      let s = lies x h in
      line_most x _ _ _ _ s.at s.next m (all _ (omega arith)) (all _ s.below)

  -- FIFO
  module _ (f : Fifo t v n) where
    ends_climb : (i j : ℕ) → i ≤ j → j ≤ n → t i + v i ≤ t j + v j
    ends_climb = climbs (λ i. t i + v i) n f.kept

    -- a travel begun in the segment from point k ends no earlier than point k's, and no later than the next
    -- one's
    piece_least : (x k : ℕ) → Segment t n x k → t k + v k ≤ x + piece t v k x
    piece_least x k s =
        ends_least x (t k) (v k) (t (suc k)) (v (suc k)) s.at s.next (f.kept k s.below)

    piece_most : (x k : ℕ) → Segment t n x k → x + piece t v k x ≤ t (suc k) + v (suc k)
    piece_most x k s =
        ends_most x (t k) (v k) (t (suc k)) (v (suc k)) s.at s.next (f.kept k s.below)

    pieces_climb : (x y j k : ℕ) → Segment t n x j → Segment t n y k → x ≤ y
        → x + piece t v j x ≤ y + piece t v k y
    pieces_climb x y j k q r l =
        ⊎_elim
        (λ e. rw e (ends_rise x y (t k) (v k) (t (suc k)) (v (suc k)) (rw e at q.at) l r.next
        (f.kept k r.below)))
        (λ m. le_trans (piece_most x j q)
        (le_trans (ends_climb (suc j) k m (le_of_lt r.below)) (piece_least y k r)))
        (eq-or-lt_of_le (segments_climb x y j k q r l))

    -- on one day
    pub fifo : (x y : ℕ) → x ≤ y → y < t n → x + value t v n x ≤ y + value t v n y
    unfolding value
    fifo x y l h = pieces_climb x y _ _ (lies x (omega arith)) (lies y h) l

    -- the day's first travel ends no later than any of the day, and the next day's first no earlier
    after_first : (x : ℕ) → x < t n → t 0 + v 0 ≤ x + value t v n x
    unfolding value
    after_first x h =
        le_trans (ends_climb 0 (segment t n x) zero-le (le_of_lt (lies x h).below))
        (piece_least x _ (lies x h))

    before_next : (x : ℕ) → x < t n → x + value t v n x ≤ t n + v n
    unfolding value
    before_next x h =
        le_trans (piece_most x _ (lies x h))
        (ends_climb (suc (segment t n x)) n (lies x h).below (omega arith))

    -- over all days: who starts later, on the same day or another, ends no earlier
    pub fifo_over : (x y : ℕ) → x ≤ y → x + value_over t v n x ≤ y + value_over t v n y
    unfolding value_over
    fifo_over x y l =
        let q : x / t n * t n + x % t n ≡ x = div-add-mod' x (t n) in
        let r : y / t n * t n + y % t n ≡ y = div-add-mod' y (t n) in
        let a : x % t n < t n = mod-lt x period_some in
        let b : y % t n < t n = mod-lt y period_some in
        ⊎_elim
        (λ e. let w : x / t n * t n ≡ y / t n * t n = ap (λ (k : ℕ). k * t n) e in
        omega (arith, fifo (x % t n) (y % t n) (omega arith) b))
        (λ m. omega (
          arith,
          mul-le-mul_right (t n) m,
          before_next (x % t n) a,
          after_first (y % t n) b,
          p.wrap,
          p.start,
        ))
        (eq-or-lt_of_le ((le-div_iff_mul-le period_some).1 (omega arith)))
