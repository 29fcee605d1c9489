-- A file of a header and three runs of entries behind each other, by its shape: which kinds, and how many
-- entries. Its body is given by its entries' bytes (`runs_body`); the laws say how the body grows while the
-- file is written: frames, the header, an entry of one of the runs, and the checks.
use mathlib.Core.{Path.◌≡◌, Path.refl, Path.sym, Path.◌∙◌, Path.ap, Bool.cond, List.List}
use Rattle.std.specs.Prelude.{ℕ, ◌+◌, ◌*◌, ◌≤◌, ◌<◌}
use native.Mathlib.{Omega.arith, Decide.dec_lt}
use lib.{ListN.length, Dec.ltb, Dec.lit<}
use borrow.Author.Tests.{lt-ltb, le-ltb}
use Rattle.theory_loops.specs.Fill.{overwritten}
use Rattle.file_fields.specs.{Block.block_size, Block.head_size, Block.entries_size, Fields.byte_of, Put.put}
use Rattle.file_write.specs.{Bytes.file_of, Run.run_body, RunLaws.same_body}
use Rattle.file_blocks.specs.Place.{offset, blocks}
use Rattle.file_frames.specs.Laid.{BodyLaid, laid_start, laid_same, up_to, none, up_to_none, up_to_below}
use Rattle.file_frames.specs.{Laid.entry_laid, Framed.Framed, Framed.run_framed}
use Rattle.file_frames.specs.Sealed.{sealed_to, laid_sealed}

-- a run of `count` entries of a kind
pub record Run : Type 0 where
  pub kind : ℕ
  pub per : ℕ
  pub size : ℕ
  pub count : ℕ

-- the header's kind and size, and the runs
pub record Shape : Type 0 where
  pub kind : ℕ
  pub size : ℕ
  pub first : Run
  pub second : Run
  pub third : Run

-- entries that have a byte, and fit into their block
pub record RunFits (r : Run) : Type 0 where
  pub pos : 0 < r.per
  pub some : 0 < r.size
  pub fit : r.size * r.per ≤ entries_size

pub record ShapeFits (s : Shape) : Type 0 where
  pub some : 0 < s.size
  pub fit : s.size * 1 ≤ entries_size
  pub first : RunFits s.first
  pub second : RunFits s.second
  pub third : RunFits s.third

-- the blocks of a run, the first block of the second and of the third, and how many blocks there are
abbrev pub run_blocks : Run → ℕ
run_blocks r = blocks r.per r.count

abbrev pub second_block : Shape → ℕ
second_block s = 1 + run_blocks s.first

abbrev pub third_block : Shape → ℕ
third_block s = second_block s + run_blocks s.second

abbrev pub shape_blocks : Shape → ℕ
shape_blocks s = third_block s + run_blocks s.third

-- byte o of block b but its check, by the run that it belongs to; each run by its entries' bytes
abbrev pub body_of : Run → (ℕ → ℕ → ℕ) → ℕ → ℕ → ℕ → ℕ
body_of r f from = run_body r.kind r.per r.size r.count f from

unfoldable pub runs_body : Shape → (header first second third : ℕ → ℕ → ℕ) → ℕ → ℕ → ℕ
runs_body s header first second third b =
    cond (ltb b 1) (run_body s.kind 1 s.size 1 header 0 b)
    (cond (ltb b (second_block s)) (body_of s.first first 1 b)
    (cond (ltb b (third_block s)) (body_of s.second second (second_block s) b)
    (body_of s.third third (third_block s) b)))

-- WHICH RUN a block belongs to
module _ (s : Shape) (H A B C : ℕ → ℕ → ℕ) (b : ℕ) where
  pub header_body_lem : b < 1 → runs_body s H A B C b ≡ run_body s.kind 1 s.size 1 H 0 b
  unfolding runs_body
  header_body_lem l = rw (lt-ltb b 1 l)

  pub first_body : 1 ≤ b → b < second_block s → runs_body s H A B C b ≡ body_of s.first A 1 b
  unfolding runs_body
  first_body l m = rw (le-ltb b 1 l, lt-ltb b (second_block s) m)

  pub second_body : second_block s ≤ b → b < third_block s
      → runs_body s H A B C b ≡ body_of s.second B (second_block s) b
  unfolding runs_body
  second_body l m =
      rw (le-ltb b 1 (omega arith), le-ltb b (second_block s) l, lt-ltb b (third_block s) m)

  pub third_body : third_block s ≤ b → runs_body s H A B C b ≡ body_of s.third C (third_block s) b
  unfolding runs_body
  third_body l =
      rw (le-ltb b 1 (omega arith), le-ltb b (second_block s) (omega arith), le-ltb b (third_block s) l)

-- and outside of a run's blocks the body does not look at it
module _ (s : Shape) (H A B C other : ℕ → ℕ → ℕ) (b : ℕ) where
  after_header : 1 ≤ b → runs_body s H A B C b ≡ runs_body s other A B C b
  unfolding runs_body
  after_header l = rw (le-ltb b 1 l)

  before_first : b < 1 → runs_body s H A B C b ≡ runs_body s H other B C b
  unfolding runs_body
  before_first l = rw (lt-ltb b 1 l)

  after_first : second_block s ≤ b → runs_body s H A B C b ≡ runs_body s H other B C b
  unfolding runs_body
  after_first l = rw (le-ltb b (second_block s) l)

  before_second : b < second_block s → runs_body s H A B C b ≡ runs_body s H A other C b
  unfolding runs_body
  before_second l = rw (lt-ltb b (second_block s) l)

  after_second : third_block s ≤ b → runs_body s H A B C b ≡ runs_body s H A other C b
  unfolding runs_body
  after_second l = rw (le-ltb b (third_block s) l)

  before_third : b < third_block s → runs_body s H A B C b ≡ runs_body s H A B other b
  unfolding runs_body
  before_third l = rw (lt-ltb b (third_block s) l)

-- of a run it looks at the entries alone
module _ (s : Shape) (fits : ShapeFits s) (H A B C H' A' B' C' : ℕ → ℕ → ℕ)
    (h : (i r : ℕ) → i < 1 → H i r ≡ H' i r)
    (f : (i r : ℕ) → i < s.first.count → A i r ≡ A' i r)
    (g : (i r : ℕ) → i < s.second.count → B i r ≡ B' i r)
    (k : (i r : ℕ) → i < s.third.count → C i r ≡ C' i r) (b o : ℕ) where
  by : (x y : ℕ → ℕ) → runs_body s H A B C b ≡ x → runs_body s H' A' B' C' b ≡ y → x o ≡ y o
      → runs_body s H A B C b o ≡ runs_body s H' A' B' C' b o
  by x y p q e = ap (λ (z : ℕ → ℕ). z o) p ∙ (e ∙ sym (ap (λ (z : ℕ → ℕ). z o) q))

  run : (r : Run) (F F' : ℕ → ℕ → ℕ) (from : ℕ) → RunFits r
      → ((i r' : ℕ) → i < r.count → F i r' ≡ F' i r') → body_of r F from b o ≡ body_of r F' from b o
  run r F F' from w e = same_body r.kind r.per r.size r.count F F' w.pos e from b o

  runs_same : runs_body s H A B C b o ≡ runs_body s H' A' B' C' b o
  runs_same = elim (dec_lt b 1) [
    | yes l ↦ by _ _ (header_body_lem s H A B C b l) (header_body_lem s H' A' B' C' b l)
        (same_body s.kind 1 s.size 1 H H' (lit< tt) h 0 b o)
    | no l ↦ elim (dec_lt b (second_block s)) [
      | yes m ↦
          by _ _ (first_body s H A B C b (omega arith) m) (first_body s H' A' B' C' b (omega arith) m)
          (run s.first A A' 1 fits.first f)
      | no m ↦ elim (dec_lt b (third_block s)) [
        | yes n ↦
            by _ _ (second_body s H A B C b (omega arith) n) (second_body s H' A' B' C' b (omega arith) n)
            (run s.second B B' (second_block s) fits.second g)
        | no n ↦ by _ _ (third_body s H A B C b (omega arith)) (third_body s H' A' B' C' b (omega arith))
            (run s.third C C' (third_block s) fits.third k)
      ]
    ]
  ]

-- FRAMES: no entry is in
pub frames_laid : (s : Shape) (old s₁ s₂ s₃ s₄ : List ℕ) → Framed s.kind 1 1 0 1 old s₁
    → Framed s.first.kind s.first.per s.first.count 1 (run_blocks s.first) s₁ s₂
    → Framed s.second.kind s.second.per s.second.count (second_block s) (run_blocks s.second) s₂
    s₃
    → Framed s.third.kind s.third.per s.third.count (third_block s) (run_blocks s.third) s₃ s₄
    → BodyLaid (runs_body s none none none none) (shape_blocks s) old s₄
frames_laid s old s₁ s₂ s₃ s₄ h f g k =
    let body = runs_body s none none none none in
    run_framed body s.third.kind s.third.per s.third.size s.third.count (third_block s) old s₃
    s₄ (λ b l _. third_body s none none none none b l)
    (run_framed body s.second.kind s.second.per s.second.size s.second.count (second_block s)
    old s₂ s₃ (second_body s none none none none)
    (run_framed body s.first.kind s.first.per s.first.size s.first.count 1 old s₁ s₂
    (first_body s none none none none)
    (run_framed body s.kind 1 s.size 1 0 old old s₁
    (λ b _ l. header_body_lem s none none none none b l) (laid_start body old) h) f) g) k

-- THE HEADER is put into the framed file, AND AN ENTRY MORE of a run at its place, each as one number
module _ (s : Shape) (fits : ShapeFits s) (H A B C : ℕ → ℕ → ℕ) (old t u : List ℕ)
    (room : block_size * shape_blocks s ≤ length old) (v : ℕ) where
  pub header_laid : BodyLaid (runs_body s none A B C) (shape_blocks s) old t
      → ((r : ℕ) → r < s.size → H 0 r ≡ byte_of v r) → u ≡ put s.size t head_size v
      → BodyLaid (runs_body s H A B C) (shape_blocks s) old u
  unfolding offset
  header_laid h g p =
      laid_same (runs_body s (up_to 1 H) A B C) (runs_body s H A B C) (shape_blocks s) old u
      (λ b o _ _. runs_same s fits (up_to 1 H) A B C H A B C (up_to_below H 1) (λ i r _. refl)
      (λ i r _. refl) (λ i r _. refl) b o)
      (entry_laid s.kind 1 s.size 1 H 0 0 (lit< tt) fits.some fits.fit (lit< tt)
      (runs_body s none A B C) (runs_body s (up_to 1 H) A B C) (shape_blocks s) (omega arith)
      (λ b l m. rw (up_to_none H) (header_body_lem s none A B C b (omega arith)))
      (λ b l m. header_body_lem s (up_to 1 H) A B C b (omega arith))
      (λ b l. absurd (omega arith))
      (λ b l _. after_header s none A B C (up_to 1 H) b (omega arith))
      v old t u h room g
      (let z : head_size ≡ head_size + s.size * 0 = omega arith in
      p ∙ ap (λ (o : ℕ). put s.size t o v) z))

  module _ (q : ℕ) where
    pub first_laid : BodyLaid (runs_body s H (up_to q A) B C) (shape_blocks s) old t → q < s.first.count
        → ((r : ℕ) → r < s.first.size → A q r ≡ byte_of v r)
        → u ≡ put s.first.size t (offset 1 s.first.per s.first.size q) v
        → BodyLaid (runs_body s H (up_to (q + 1) A) B C) (shape_blocks s) old u
    first_laid h m g p =
        let r = s.first in
        entry_laid r.kind r.per r.size r.count A 1 q fits.first.pos fits.first.some
        fits.first.fit m (runs_body s H (up_to q A) B C) (runs_body s H (up_to (q + 1) A) B C)
        (shape_blocks s) (omega arith)
        (first_body s H (up_to q A) B C)
        (first_body s H (up_to (q + 1) A) B C)
        (before_first s H (up_to q A) B C (up_to (q + 1) A))
        (λ b a _. after_first s H (up_to q A) B C (up_to (q + 1) A) b a)
        v old t u h room g p

    pub second_laid : BodyLaid (runs_body s H A (up_to q B) C) (shape_blocks s) old t → q < s.second.count
        → ((r : ℕ) → r < s.second.size → B q r ≡ byte_of v r)
        → u ≡ put s.second.size t (offset (second_block s) s.second.per s.second.size q) v
        → BodyLaid (runs_body s H A (up_to (q + 1) B) C) (shape_blocks s) old u
    second_laid h m g p =
        let r = s.second in
        entry_laid r.kind r.per r.size r.count B (second_block s) q fits.second.pos
        fits.second.some fits.second.fit m (runs_body s H A (up_to q B) C)
        (runs_body s H A (up_to (q + 1) B) C) (shape_blocks s) (omega arith)
        (second_body s H A (up_to q B) C)
        (second_body s H A (up_to (q + 1) B) C)
        (before_second s H A (up_to q B) C (up_to (q + 1) B))
        (λ b a _. after_second s H A (up_to q B) C (up_to (q + 1) B) b a)
        v old t u h room g p

    pub third_laid : BodyLaid (runs_body s H A B (up_to q C)) (shape_blocks s) old t → q < s.third.count
        → ((r : ℕ) → r < s.third.size → C q r ≡ byte_of v r)
        → u ≡ put s.third.size t (offset (third_block s) s.third.per s.third.size q) v
        → BodyLaid (runs_body s H A B (up_to (q + 1) C)) (shape_blocks s) old u
    third_laid h m g p =
        let r = s.third in
        entry_laid r.kind r.per r.size r.count C (third_block s) q fits.third.pos
        fits.third.some fits.third.fit m (runs_body s H A B (up_to q C))
        (runs_body s H A B (up_to (q + 1) C)) (shape_blocks s) (omega arith)
        (λ b a _. third_body s H A B (up_to q C) b a)
        (λ b a _. third_body s H A B (up_to (q + 1) C) b a)
        (before_third s H A B (up_to q C) (up_to (q + 1) C))
        (λ b a c. absurd (omega arith))
        v old t u h room g p

-- THE WHOLE FILE: all entries are in, and the checks follow
pub runs_sealed : (s : Shape) → ShapeFits s → (H A B C A' B' C' : ℕ → ℕ → ℕ) (old t u : List ℕ)
    → block_size * shape_blocks s ≤ length old
    → BodyLaid (runs_body s H A' B' C') (shape_blocks s) old t
    → ((i r : ℕ) → i < s.first.count → A' i r ≡ A i r)
    → ((i r : ℕ) → i < s.second.count → B' i r ≡ B i r)
    → ((i r : ℕ) → i < s.third.count → C' i r ≡ C i r) → u ≡ sealed_to (shape_blocks s) t
    → u ≡ overwritten (file_of (runs_body s H A B C) (shape_blocks s)) old
runs_sealed s fits H A B C A' B' C' old t u room h f g k e =
    laid_sealed (runs_body s H A B C) (shape_blocks s) old t
    (laid_same (runs_body s H A' B' C') (runs_body s H A B C) (shape_blocks s) old t
    (λ b o _ _. runs_same s fits H A' B' C' H A B C (λ i r _. refl) f g k b o) h) room u e
