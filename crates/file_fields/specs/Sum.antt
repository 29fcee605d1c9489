-- A block's check, as document 01 words it: over 254 sixteen-bit words, A and then B, each reduced at every
-- step. The code adds plain numbers, four columns of the words at once, and reduces once: the laws below say
-- that this is the same.
use mathlib.Core.{Path.◌≡◌, Path.refl, Path.sym, Path.◌∙◌, Bool.Bool, Bool.◌&&◌, List.List}
use Rattle.std.specs.Prelude.{ℕ, zero, suc, ◌+◌, ◌-◌, ◌*◌, ◌%◌, ◌≤◌, ◌<◌}
use native.Mathlib.{Nat.mod-add-mod, Nat.add-mod, Numerals.add-one, Omega.arith}
use lib.{ListN.take, ListN.drop, Dec.eqb}
use Rattle.std.proofs.Common.{eq-eqb, ne_eqb}
use Rattle.file_fields.specs.{Fields.le16, Block.block_size, Block.summed_size, Block.summed_words}
use Rattle.file_fields.specs.declared.sum.Sums.{Sums}

-- A and B after the first n words
unfoldable pub sums : List ℕ → ℕ → Sums
sums s zero = record { a = 1; b = 0 }
sums s (suc n) =
    let r = sums s n in
    let a = (r.a + le16 s (2 * n)) % 65535 in
    record { a = a; b = (r.b + a) % 65535 }

-- the bytes that block b's check is worked out over, and whether what is stored after them is A and then B
abbrev pub summed_part : List ℕ → ℕ → List ℕ
summed_part file b = take summed_size (drop (block_size * b) file)

abbrev pub good : List ℕ → ℕ → Bool
good file b =
    eqb (sums (summed_part file b) summed_words).a (le16 file (block_size * b + summed_size)) && eqb
    (sums (summed_part file b) summed_words).b (le16 file (block_size * b + (summed_size + 2)))

-- both are remainders, so they fit their fields
pub sums_below : (s : List ℕ) (n : ℕ) → ((sums s n).a < 65536) × ((sums s n).b < 65536)
unfolding sums
sums_below s zero = (omega arith, omega arith)
sums_below s (suc n) = (omega arith, omega arith)

-- a and b, added up without remainders, have the remainders A and B after n words
pub record Summed (s : List ℕ) (n a b : ℕ) : Type 0 where
  pub a_is : a % 65535 ≡ (sums s n).a
  pub b_is : b % 65535 ≡ (sums s n).b

pub summed_none : (s : List ℕ) → Summed s 0 1 0
unfolding sums
summed_none s = record { a_is = refl; b_is = refl }

pub summed_more : (s : List ℕ) (n a b w : ℕ) → Summed s n a b → w ≡ le16 s (2 * n)
    → Summed s (n + 1) (a + w) (b + (a + w))
unfolding sums
summed_more s n a b w h e =
    rw add-one (record { a_is = a'; b_is = add-mod b (a + w) 65535 ∙ rw (h.b_is, a') })
  where
    a' : (a + w) % 65535 ≡ ((sums s n).a + le16 s (2 * n)) % 65535
    a' = sym (mod-add-mod a 65535 w) ∙ rw (h.a_is, e)

-- four words more
pub summed_row : (s : List ℕ) (n a b w x y z : ℕ) → Summed s n a b → w ≡ le16 s (2 * n)
    → x ≡ le16 s (2 * (n + 1)) → y ≡ le16 s (2 * (n + 2)) → z ≡ le16 s (2 * (n + 3))
    → Summed s (n + 4) (a + w + x + y + z) (b + 4 * a + 4 * w + 3 * x + 2 * y + z)
summed_row s n a b w x y z h e f g k =
    let n₂ : n + 1 + 1 ≡ n + 2 = omega arith in
    let n₃ : n + 2 + 1 ≡ n + 3 = omega arith in
    let n₄ : n + 3 + 1 ≡ n + 4 = omega arith in
    let h₁ : Summed s (n + 1) (a + w) (b + (a + w)) = summed_more s n a b w h e in
    let h₂ : Summed s (n + 2) (a + w + x) (b + (a + w) + (a + w + x)) =
    rw n₂ at (summed_more s (n + 1) (a + w) (b + (a + w)) x h₁ f) in
    let h₃ = rw n₃ at (summed_more s (n + 2) (a + w + x) (b + (a + w) + (a + w + x)) y h₂ g) in
    let h₄ = rw n₄ at (summed_more s (n + 3) (a + w + x + y) (b + (a + w) + (a + w + x) + (a + w + x + y)) z
    h₃ k) in
    let q : b + (a + w) + (a + w + x) + (a + w + x + y) + (a + w + x + y + z) ≡ b + 4 * a + 4 * w + 3 * x
    + 2 * y + z = omega arith in
    rw q at h₄

-- FOR THE LOOP, which adds up four columns of the words: a₀ to a₃ are the columns' sums after i rows and b₀
-- to b₃ the sums of those sums
pub record Columns (s : List ℕ) (i a₀ a₁ a₂ a₃ b₀ b₁ b₂ b₃ : ℕ) : Type 0 where
  pub before : a₁ + 2 * a₂ + 3 * a₃ ≤ 4 * i + 4 * (b₀ + b₁ + b₂ + b₃)
  pub is : Summed s (4 * i) (1 + a₀ + a₁ + a₂ + a₃) (4 * i + 4 * (b₀ + b₁ + b₂ + b₃) - (a₁ + 2 * a₂ + 3 * a₃))

pub columns_none : (s : List ℕ) → Columns s 0 0 0 0 0 0 0 0 0
columns_none s = record { before = omega arith; is = summed_none s }

pub columns_more : (s : List ℕ) (i a₀ a₁ a₂ a₃ b₀ b₁ b₂ b₃ w x y z : ℕ) → Columns s i a₀ a₁ a₂ a₃ b₀ b₁ b₂ b₃
    → w ≡ le16 s (8 * i) → x ≡ le16 s (8 * i + 2) → y ≡ le16 s (8 * i + 4) → z ≡ le16 s (8 * i + 6)
    → Columns s (i + 1) (a₀ + w) (a₁ + x) (a₂ + y) (a₃ + z) (b₀ + (a₀ + w)) (b₁ + (a₁ + x)) (b₂ + (a₂ + y))
    (b₃ + (a₃ + z))
columns_more s i a₀ a₁ a₂ a₃ b₀ b₁ b₂ b₃ w x y z h e f g k =
    let o : 8 * i ≡ 2 * (4 * i) = omega arith in
    let p : 8 * i + 2 ≡ 2 * (4 * i + 1) = omega arith in
    let q : 8 * i + 4 ≡ 2 * (4 * i + 2) = omega arith in
    let r : 8 * i + 6 ≡ 2 * (4 * i + 3) = omega arith in
    let m : 4 * i + 4 ≡ 4 * (i + 1) = omega arith in
    let l = h.before in
    let u : 1 + a₀ + a₁ + a₂ + a₃ + w + x + y + z ≡ 1 + (a₀ + w) + (a₁ + x) + (a₂ + y) + (a₃ + z) =
    omega arith in
    let v : 4 * i + 4 * (b₀ + b₁ + b₂ + b₃) - (a₁ + 2 * a₂ + 3 * a₃) + 4 * (1 + a₀ + a₁ + a₂ + a₃) + 4 * w
    + 3 * x + 2 * y + z
    ≡ 4 * (i + 1) + 4 * (b₀ + (a₀ + w) + (b₁ + (a₁ + x)) + (b₂ + (a₂ + y)) + (b₃ + (a₃ + z)))
    - (a₁ + x + 2 * (a₂ + y) + 3 * (a₃ + z)) = omega arith in
    let t = summed_row s (4 * i) (1 + a₀ + a₁ + a₂ + a₃)
    (4 * i + 4 * (b₀ + b₁ + b₂ + b₃) - (a₁ + 2 * a₂ + 3 * a₃)) w x y z h.is
    (rw o at e) (rw p at f) (rw q at g) (rw r at k) in
    record { before = omega arith; is = rw (m, u, v) at t }

-- and no column grows by more than a word, nor a running sum by more than 63
pub column_more : (i a w : ℕ) → a ≤ 65535 * i → w < 65536 → a + w ≤ 65535 * (i + 1)
column_more i a w h l = omega arith

pub column_again : (i a b w : ℕ) → b ≤ 4128705 * i → a ≤ 65535 * i → w < 65536 → i < 63
    → b + (a + w) ≤ 4128705 * (i + 1)
column_again i a b w h k l m = omega arith

-- and at the end, with the last two words, the two remainders are the sums
pub columns_end : (s : List ℕ) (i a₀ a₁ a₂ a₃ b₀ b₁ b₂ b₃ x y : ℕ) (r : Sums)
    → Columns s i a₀ a₁ a₂ a₃ b₀ b₁ b₂ b₃
    → i ≤ 63 → 63 ≤ i → x ≡ le16 s 504 → y ≡ le16 s 506
    → (r.a ≡ (1 + a₀ + a₁ + a₂ + a₃ + x + y) % 65535)
    × (r.b ≡ (252 + 4 * (b₀ + b₁ + b₂ + b₃) - (a₁ + 2 * a₂ + 3 * a₃) + 2 * (1 + a₀ + a₁ + a₂ + a₃)
    + 2 * x + y) % 65535)
    → r ≡ sums s summed_words
columns_end s i a₀ a₁ a₂ a₃ b₀ b₁ b₂ b₃ x y r h l m e f o =
    let n : i ≡ 63 = omega arith in
    let g : Columns s 63 a₀ a₁ a₂ a₃ b₀ b₁ b₂ b₃ = rw n at h in
    let A = 1 + a₀ + a₁ + a₂ + a₃ in
    let B = 252 + 4 * (b₀ + b₁ + b₂ + b₃) - (a₁ + 2 * a₂ + 3 * a₃) in
    let u : Summed s summed_words (A + x + y) (B + (A + x) + (A + x + y)) =
    summed_more s 253 (A + x) (B + (A + x)) y (summed_more s 252 A B x g.is e) f in
    let q : B + (A + x) + (A + x + y) ≡ B + 2 * A + 2 * x + y = omega arith in
    let t : Summed s summed_words (A + x + y) (B + 2 * A + 2 * x + y) = rw q at u in
    λ j. record { a = (o.0 ∙ t.a_is) j; b = (o.1 ∙ t.b_is) j }

-- FOR THE CHECK OF A BLOCK, by two comparisons, with the part's length as the code works it out: the first
-- decides, or leaves it to the second
module _ (file : List ℕ) (b : ℕ) (r : Sums)
    (e : r ≡ sums (take (block_size * b + summed_size - block_size * b) (drop (block_size * b) file)) summed_words)
  where
    pub sums_at : r ≡ sums (summed_part file b) summed_words
    sums_at = let n : block_size * b + summed_size - block_size * b ≡ summed_size = omega arith in rw n at e

    pub good_first : (l : ℕ) → l ≡ le16 file (block_size * b + summed_size) → (r.a ≡ l → ⊥)
        → eqb r.a l ≡ good file b
    good_first l f h = rw (← sums_at, ← f, ne_eqb r.a l h)

    pub good_second : (l m : ℕ) → l ≡ le16 file (block_size * b + summed_size) → r.a ≡ l
        → m ≡ le16 file (block_size * b + summed_size + 2) → eqb r.b m ≡ good file b
    good_second l m f h g =
        let o : block_size * b + summed_size + 2 ≡ block_size * b + (summed_size + 2) = omega arith in
        rw (← sums_at, ← f, eq-eqb r.a l h, ← o, ← g)
