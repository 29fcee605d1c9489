-- The bytes of a plan: block 0 for its header, then a run of blocks for the flag words, one for the counts of
-- the profiles' points and one for the points, each with its check. An entry is one number, its fields one
-- behind the other, low byte first. `PlanProper` says which plans fit into these fields.
use mathlib.Core.{Path.◌≡◌, Path.◌∙◌, List.List}
use Rattle.std.specs.Prelude.{ℕ, ◌+◌, ◌*◌, ◌^◌, ◌<◌, length, get_or}
use native.Mathlib.Omega.{arith}
use Rattle.file_fields.specs.Fields.{byte_of, byte_of_low, byte_of_high}
use Rattle.file_write.specs.Bytes.{file_of}
use Rattle.file_blocks.specs.Kind.{plan_kind, plan_size, flag_kind, flag_per, flag_size, count_kind, count_per}
use Rattle.file_blocks.specs.Kind.{count_size, profile_point_kind, profile_point_per, profile_point_size}
use Rattle.file_frames.specs.Runs.{Shape, runs_body}
use Rattle.plan.specs.declared.header.PlanHeader.{PlanHeader}
use Rattle.plan.specs.{Plan.Plan, PlanHeader.PlanWithin, PlanLayout.profile_count, PlanLayout.plan_blocks}

-- the header's entry as one number: the field of two bytes before the points is zero
abbrev pub plan_header_number : PlanHeader → ℕ
plan_header_number k =
    k.number + 2 ^ 32
    * (k.period + 65536
    * (k.nodes + 65536
    * (k.arcs + 65536 * (k.cells + 65536 * (k.borders + 65536 * (0 + 65536 * k.points))))))

-- byte r of the header, of the flag word of arc a, of the count of profile q and of point q
unfoldable pub plan_header_byte : PlanHeader → ℕ → ℕ
plan_header_byte k r = byte_of (plan_header_number k) r

unfoldable pub flag_byte : List ℕ → ℕ → ℕ → ℕ
flag_byte words a r = byte_of (get_or words a 0) r

unfoldable pub count_byte : List ℕ → ℕ → ℕ → ℕ
count_byte counts q r = byte_of (get_or counts q 0) r

unfoldable pub profile_point_byte : List ℕ → List ℕ → ℕ → ℕ → ℕ
profile_point_byte ticks travels q r = byte_of (get_or ticks q 0 + 65536 * get_or travels q 0) r

-- a header, flag words, counts and points
abbrev pub plan_shape : PlanHeader → Shape
plan_shape k = record {
  kind = plan_kind;
  size = plan_size;
  first = record { kind = flag_kind; per = flag_per; size = flag_size; count = k.arcs };
  second = record { kind = count_kind; per = count_per; size = count_size; count = profile_count k };
  third = record {
    kind = profile_point_kind;
    per = profile_point_per;
    size = profile_point_size;
    count = k.points;
  };
}

-- byte o of block b but its check, the tables by their entries' bytes
abbrev pub plan_body : PlanHeader → (flags counts points : ℕ → ℕ → ℕ) → ℕ → ℕ → ℕ
plan_body k = runs_body (plan_shape k) (λ _. plan_header_byte k)

-- the file of a plan
unfoldable pub encode_plan : PlanHeader → Plan → List ℕ
encode_plan k p =
    file_of
    (plan_body k (flag_byte p.flag_words) (count_byte p.counts)
    (profile_point_byte p.ticks p.travels)) (plan_blocks k)

-- a header within the limits, and a plan with its counts whose numbers fit their fields
pub record PlanProper (k : PlanHeader) (p : Plan) : Type 0 where
  pub within : PlanWithin k
  pub number_fits : k.number < 2 ^ 32
  pub flags_long : length p.flag_words ≡ k.arcs
  pub counts_long : length p.counts ≡ profile_count k
  pub ticks_long : length p.ticks ≡ k.points
  pub travels_long : length p.travels ≡ k.points
  pub flags_fit : (a : ℕ) → get_or p.flag_words a 0 < 2 ^ 64
  pub counts_fit : (q : ℕ) → get_or p.counts q 0 < 65536
  pub ticks_fit : (q : ℕ) → get_or p.ticks q 0 < 65536
  pub travels_fit : (q : ℕ) → get_or p.travels q 0 < 2 ^ 32

-- WHICH BYTES a field has
module _ (s : List ℕ) (i r : ℕ) where
  pub flag_byte_lem : flag_byte s i (0 + r) ≡ byte_of (get_or s i 0) r
  unfolding flag_byte
  flag_byte_lem = let z : 0 + r ≡ r = omega arith in rw z

  pub count_byte_lem : count_byte s i (0 + r) ≡ byte_of (get_or s i 0) r
  unfolding count_byte
  count_byte_lem = let z : 0 + r ≡ r = omega arith in rw z

module _ (s t : List ℕ) (i r : ℕ) where
  pub tick_byte : r < 2 → profile_point_byte s t i (0 + r) ≡ byte_of (get_or s i 0) r
  unfolding profile_point_byte
  tick_byte l = let z : 0 + r ≡ r = omega arith in rw z (byte_of_low 2 _ _ r l)

  pub travel_byte : get_or s i 0 < 65536 → profile_point_byte s t i (2 + r) ≡ byte_of (get_or t i 0) r
  unfolding profile_point_byte
  travel_byte m = byte_of_high 2 _ _ r m

-- the same of a header's fields: what stands from byte 4 on, field by field
module _ (k : PlanHeader) (w : PlanWithin k) (l : k.number < 2 ^ 32) (r : ℕ) where
  pub number_byte : r < 4 → plan_header_byte k (0 + r) ≡ byte_of k.number r
  unfolding plan_header_byte
  number_byte q = let z : 0 + r ≡ r = omega arith in rw z (byte_of_low 4 k.number _ r q)

  from_4 : (m : ℕ) → plan_header_byte k (4 + m) ≡ byte_of
      (k.period + 65536
      * (k.nodes + 65536
      * (k.arcs + 65536 * (k.cells + 65536 * (k.borders + 65536 * (0 + 65536 * k.points)))))) m
  unfolding plan_header_byte
  from_4 m = byte_of_high 4 k.number _ m l

  from_6 : (m : ℕ) → plan_header_byte k (6 + m) ≡ byte_of
      (k.nodes + 65536
      * (k.arcs + 65536 * (k.cells + 65536 * (k.borders + 65536 * (0 + 65536 * k.points))))) m
  from_6 m =
      let z : 6 + m ≡ 4 + (2 + m) = omega arith in
      rw z (from_4 (2 + m) ∙ byte_of_high 2 _ _ m (omega (arith, w)))

  from_8 : (m : ℕ) → plan_header_byte k (8 + m) ≡ byte_of
      (k.arcs + 65536 * (k.cells + 65536 * (k.borders + 65536 * (0 + 65536 * k.points)))) m
  from_8 m =
      let z : 8 + m ≡ 6 + (2 + m) = omega arith in
      rw z (from_6 (2 + m) ∙ byte_of_high 2 _ _ m (omega (arith, w)))

  from_10 : (m : ℕ) → plan_header_byte k (10 + m)
      ≡ byte_of (k.cells + 65536 * (k.borders + 65536 * (0 + 65536 * k.points))) m
  from_10 m =
      let z : 10 + m ≡ 8 + (2 + m) = omega arith in
      rw z (from_8 (2 + m) ∙ byte_of_high 2 _ _ m (omega (arith, w)))

  from_12 : (m : ℕ) → plan_header_byte k (12 + m) ≡ byte_of (k.borders + 65536 * (0 + 65536 * k.points)) m
  from_12 m =
      let z : 12 + m ≡ 10 + (2 + m) = omega arith in
      rw z (from_10 (2 + m) ∙ byte_of_high 2 _ _ m (omega (arith, w)))

  from_14 : (m : ℕ) → plan_header_byte k (14 + m) ≡ byte_of (0 + 65536 * k.points) m
  from_14 m =
      let z : 14 + m ≡ 12 + (2 + m) = omega arith in
      rw z (from_12 (2 + m) ∙ byte_of_high 2 _ _ m (omega (arith, w)))

  start : (m x y : ℕ) → ((i : ℕ) → plan_header_byte k (m + i) ≡ byte_of (x + 65536 * y) i) → r < 2
      → plan_header_byte k (m + r) ≡ byte_of x r
  start m x y f q = f r ∙ byte_of_low 2 x y r q

  pub period_byte : r < 2 → plan_header_byte k (4 + r) ≡ byte_of k.period r
  period_byte q = start 4 k.period _ from_4 q

  pub nodes_byte : r < 2 → plan_header_byte k (6 + r) ≡ byte_of k.nodes r
  nodes_byte q = start 6 k.nodes _ from_6 q

  pub arcs_byte : r < 2 → plan_header_byte k (8 + r) ≡ byte_of k.arcs r
  arcs_byte q = start 8 k.arcs _ from_8 q

  pub cells_byte : r < 2 → plan_header_byte k (10 + r) ≡ byte_of k.cells r
  cells_byte q = start 10 k.cells _ from_10 q

  pub borders_byte : r < 2 → plan_header_byte k (12 + r) ≡ byte_of k.borders r
  borders_byte q = start 12 k.borders _ from_12 q

  pub zero_byte : r < 2 → plan_header_byte k (14 + r) ≡ byte_of 0 r
  zero_byte q = start 14 0 _ from_14 q

  pub points_byte : plan_header_byte k (16 + r) ≡ byte_of k.points r
  points_byte =
      let z : 16 + r ≡ 14 + (2 + r) = omega arith in
      rw z (from_14 (2 + r) ∙ byte_of_high 2 0 _ r (omega arith))
