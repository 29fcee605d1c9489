-- Fields of a list of bytes, low byte first: a field's value, its bound, and its bytes back from it.
-- `le8`, `le16`, `le32` and `le64` are the widths that the files have; the laws are stated once, over the
-- width, on `number` and `byte_of`.
use mathlib.Core.{Path.◌≡◌, Path.refl, Path.◌∙◌, List.List}
use Rattle.std.specs.Prelude.{ℕ, zero, suc, ◌+◌, ◌*◌, ◌/◌, ◌%◌, ◌^◌, ◌<◌, get_or}
use native.Mathlib.{Nat.add-zero, Nat.add_assoc, Nat.mul_assoc, Nat.pow-succ', Omega.arith}

-- the fields at byte o
abbrev pub le8 : List ℕ → ℕ → ℕ
le8 s o = get_or s o 0

abbrev pub le16 : List ℕ → ℕ → ℕ
le16 s o = get_or s o 0 + 256 * get_or s (o + 1) 0

abbrev pub le32 : List ℕ → ℕ → ℕ
le32 s o = le16 s o + 65536 * le16 s (o + 2)

abbrev pub le64 : List ℕ → ℕ → ℕ
le64 s o = le32 s o + 2 ^ 32 * le32 s (o + 4)

-- the number that the bytes f 0, f 1, .. f (w - 1) make
unfoldable pub number : ℕ → (ℕ → ℕ) → ℕ
number zero f = 0
number (suc w) f = f 0 + 256 * number w (λ k. f (suc k))

-- byte k of a number
unfoldable pub byte_of : ℕ → ℕ → ℕ
byte_of v zero = v % 256
byte_of v (suc k) = byte_of (v / 256) k

-- every entry of a list is a byte
pub record Bytes (s : List ℕ) : Type 0 where
  pub byte : (k : ℕ) → get_or s k 0 < 256

-- its bytes are those that it was made of
pub byte_of_number : (w : ℕ) (f : ℕ → ℕ) → ((k : ℕ) → k < w → f k < 256) → (k : ℕ) → k < w
    → byte_of (number w f) k ≡ f k
unfolding number byte_of
byte_of_number zero f h k l = absurd (omega arith)
byte_of_number (suc w) f h zero l = omega (arith, h 0 (omega arith))
byte_of_number (suc w) f h (suc k) l =
    let q : (f 0 + 256 * number w (λ k. f (suc k))) / 256 ≡ number w (λ k. f (suc k)) =
    omega (arith, h 0 (omega arith)) in
    rw q (byte_of_number w (λ k. f (suc k)) (λ k l. h (suc k) (omega arith)) k (omega arith))

-- and a number below 256 ^ w is made of its bytes
pub number_byte_of : (w v : ℕ) → v < 256 ^ w → number w (byte_of v) ≡ v
unfolding number byte_of
number_byte_of zero v l = omega arith
number_byte_of (suc w) v l = omega (arith, number_byte_of w (v / 256) (omega (arith, pow-succ' 256 w)))

pub byte_of_below : (v k : ℕ) → byte_of v k < 256
unfolding byte_of
byte_of_below v zero = omega arith
byte_of_below v (suc k) = byte_of_below (v / 256) k

-- of two fields in one number, the low one of w bytes, each keeps its bytes
shifted : (w x y : ℕ) → x + 256 ^ suc w * y ≡ x + 256 * (256 ^ w * y)
shifted w x y = rw (pow-succ' 256 w, mul_assoc)

pub byte_of_low : (w x y k : ℕ) → k < w → byte_of (x + 256 ^ w * y) k ≡ byte_of x k
unfolding byte_of
byte_of_low zero x y k l = absurd (omega arith)
byte_of_low (suc w) x y zero l = rw (shifted w x y) (omega arith)
byte_of_low (suc w) x y (suc k) l =
    let q : (x + 256 * (256 ^ w * y)) / 256 ≡ x / 256 + 256 ^ w * y = omega arith in
    rw (shifted w x y, q) (byte_of_low w (x / 256) y k (omega arith))

pub byte_of_high : (w x y k : ℕ) → x < 256 ^ w → byte_of (x + 256 ^ w * y) (w + k) ≡ byte_of y k
unfolding byte_of
byte_of_high zero x y k l =
    let v : x + 256 ^ 0 * y ≡ y = omega arith in
    let z : 0 + k ≡ k = omega arith in
    rw (v, z)
byte_of_high (suc w) x y k l =
    let z : suc w + k ≡ suc (w + k) = omega arith in
    let q : (x + 256 * (256 ^ w * y)) / 256 ≡ x / 256 + 256 ^ w * y = omega arith in
    let t : byte_of ((x + 256 * (256 ^ w * y)) / 256) (w + k) ≡ byte_of y k =
    rw q (byte_of_high w (x / 256) y k (omega (arith, pow-succ' 256 w))) in
    rw (shifted w x y, z) t

-- bytes that are equal make one number
pub number_same : (w : ℕ) (f g : ℕ → ℕ) → ((k : ℕ) → k < w → f k ≡ g k) → number w f ≡ number w g
unfolding number
number_same zero f g h = refl
number_same (suc w) f g h =
    omega (
      arith,
      h 0 (omega arith),
      number_same w (λ k. f (suc k)) (λ k. g (suc k)) (λ k l. h (suc k) (omega arith)),
    )

-- the fields of a list are numbers made of its bytes
module _ (s : List ℕ) (o : ℕ) where
  pub le16_number : le16 s o ≡ number 2 (λ k. get_or s (o + k) 0)
  unfolding number
  le16_number = simp add-zero (omega arith)

  pub le32_number : le32 s o ≡ number 4 (λ k. get_or s (o + k) 0)
  unfolding number
  le32_number = simp (add-zero, add_assoc) (omega arith)

  pub le64_number : le64 s o ≡ number 8 (λ k. get_or s (o + k) 0)
  unfolding number
  le64_number = simp (add-zero, add_assoc) (omega arith)

-- the bytes back from a field
module _ (s : List ℕ) (b : Bytes s) (o k : ℕ) where
  made_of : (w : ℕ) → k < w → byte_of (number w (λ k. get_or s (o + k) 0)) k ≡ get_or s (o + k) 0
  made_of w l = byte_of_number w (λ k. get_or s (o + k) 0) (λ k m. b.byte (o + k)) k l

  pub le16_byte : k < 2 → byte_of (le16 s o) k ≡ get_or s (o + k) 0
  le16_byte l = rw (le16_number s o) (made_of 2 l)

  pub le32_byte : k < 4 → byte_of (le32 s o) k ≡ get_or s (o + k) 0
  le32_byte l = rw (le32_number s o) (made_of 4 l)

-- and a field by its bytes
module _ (s : List ℕ) (o v : ℕ) where
  made : (w : ℕ) → v < 256 ^ w → ((k : ℕ) → k < w → get_or s (o + k) 0 ≡ byte_of v k)
      → number w (λ k. get_or s (o + k) 0) ≡ v
  made w l h = number_same w (λ k. get_or s (o + k) 0) (byte_of v) h ∙ number_byte_of w v l

  pub le16_is : v < 65536 → ((k : ℕ) → k < 2 → get_or s (o + k) 0 ≡ byte_of v k) → le16 s o ≡ v
  le16_is l h = le16_number s o ∙ made 2 l h

  pub le32_is : v < 2 ^ 32 → ((k : ℕ) → k < 4 → get_or s (o + k) 0 ≡ byte_of v k) → le32 s o ≡ v
  le32_is l h = le32_number s o ∙ made 4 l h
