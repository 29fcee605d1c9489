-- Fields written low byte first: what a write leaves, that it is read back, and a run of fields written one
-- after the other. Stated once, over the width.
use mathlib.Core.{Path.◌≡◌, Path.refl, Path.ap, Path.sym, Path.◌∙◌, List.List}
use Rattle.std.specs.Prelude.{ℕ, zero, suc, ◌+◌, ◌-◌, ◌*◌, ◌/◌, ◌%◌, ◌^◌, ◌≤◌, ◌<◌}
use native.Mathlib.{Nat.add-zero, Nat.mul_assoc, Nat.pow-succ', Omega.arith}
use lib.{ListN.length, ListN.set, ListN.drop, Seq.sets}
use Rattle.std.specs.Int.{w16, w32, w64, to_le_bytes}
use Rattle.std.proofs.lemmas.List.Edits.{sets-eq}
use borrow.Rule.Slice.PartMut.{put_mid}
use Rattle.std.proofs.Common.{append_assoc}
use Rattle.std.proofs.lemmas.List.{drop-drop}
use Rattle.theory_loops.specs.Fill.{Filled, tab, length_tab, fill_none, fill_up, fill_end}
use Rattle.file_fields.specs.Fields.{byte_of}

-- the list with the w bytes of v at byte o and after
unfoldable pub put : ℕ → List ℕ → ℕ → ℕ → List ℕ
put zero s o v = s
put (suc w) s o v = put w (set s o (v % 256)) (o + 1) (v / 256)

-- it stores the bytes one after the other
pub put_stores : (w : ℕ) (s : List ℕ) (o v : ℕ) → put w s o v ≡ sets s o (tab w (byte_of v))
unfolding put byte_of tab
put_stores zero s o v = refl
put_stores (suc w) s o v =
    let q : o + 1 ≡ suc o = omega arith in
    rw q (put_stores w (set s o (v % 256)) (suc o) (v / 256))

-- a part that is written from a up to o is written w bytes further by a put at o
pub fill_put : (w : ℕ) (f : ℕ → ℕ) (a o v : ℕ) (old new : List ℕ) → Filled a o f old new
    → a ≤ o → o + w ≤ length old → ((k : ℕ) → k < w → byte_of v k ≡ f (o + k))
    → Filled a (o + w) f old (put w new o v)
unfolding put byte_of
fill_put zero f a o v old new h l m e = rw (add-zero o) h
fill_put (suc w) f a o v old new h l m e =
    let z : f (o + 0) ≡ f o = ap f (add-zero o) in
    fill_end f old a (o + 1 + w) (o + suc w) _
    (fill_put w f a (o + 1) (v / 256) old (set new o (v % 256))
    (fill_up f old a o (v % 256) new h l (omega arith) (e 0 (omega arith) ∙ z))
    (omega arith)
    (omega arith)
    (λ k n.
    let q : o + suc k ≡ o + 1 + k = omega arith in
    e (suc k) (omega arith) ∙ ap f q))
    (omega arith)
    (omega arith)

-- so a put alone writes v's bytes, and nothing else
pub put_filled : (w : ℕ) (s : List ℕ) (o v : ℕ) → o + w ≤ length s
    → Filled o (o + w) (λ k. byte_of v (k - o)) s (put w s o v)
put_filled w s o v h =
    fill_put w (λ k. byte_of v (k - o)) o o v s s (fill_none _ s o) (omega arith) h
    (λ k l.
    let q : k ≡ o + k - o = omega arith in
    ap (byte_of v) q)

-- two fields, one behind the other, the low one of w bytes, are one
pub put_join : (w m : ℕ) (s t u : List ℕ) (o x y : ℕ) → x < 256 ^ w → t ≡ put w s o x → u ≡ put m t (o + w) y
    → u ≡ put (w + m) s o (x + 256 ^ w * y)
unfolding put
put_join zero m s t u o x y l e f =
    let z : 0 + m ≡ m = omega arith in
    let v : x + 256 ^ 0 * y ≡ y = omega arith in
    rw (z, v, ← e, ← (add-zero o)) f
put_join (suc w) m s t u o x y l e f =
    let z : suc w + m ≡ suc (w + m) = omega arith in
    let p : o + suc w ≡ o + 1 + w = omega arith in
    let v : x + 256 ^ suc w * y ≡ x + 256 * (256 ^ w * y) = rw (pow-succ' 256 w, mul_assoc) in
    let q : (x + 256 * (256 ^ w * y)) % 256 ≡ x % 256 = omega arith in
    let d : (x + 256 * (256 ^ w * y)) / 256 ≡ x / 256 + 256 ^ w * y = omega arith in
    rw (z, v, put, q, d) (put_join w m (set s o (x % 256)) t u (o + 1) (x / 256) y
    (omega (arith, pow-succ' 256 w)) e (rw p at f))

-- FOR THE CODE, which stores a byte, or copies w bytes over those at o: those of a number
pub put_one : (s : List ℕ) (o v : ℕ) → v < 256 → set s o v ≡ put 1 s o v
unfolding put
put_one s o v l = let q : v % 256 ≡ v = omega arith in rw q

pub put_part : (w k : ℕ) (s t : List ℕ) (o v : ℕ) → k ≡ w → o + w ≤ length s → t ≡ tab w (byte_of v)
    → put_mid o k s t ≡ put w s o v
put_part w k s t o v f l e =
    let n : length (tab w (byte_of v)) ≡ w = length_tab w (byte_of v) in
    let d : drop w (drop o s) ≡ drop (o + w) s = drop-drop w o s in
    rw (f, e, d)
    (sym (put_stores w s o v ∙ sets-eq (tab w (byte_of v)) s o (omega arith) ∙ rw (n, append_assoc)))

pub two_bytes : (v : ℕ) → to_le_bytes w16 v ≡ tab 2 (byte_of v)
unfolding tab byte_of
two_bytes v = refl

pub four_bytes : (v : ℕ) → to_le_bytes w32 v ≡ tab 4 (byte_of v)
unfolding tab byte_of
four_bytes v =
    let d : v / 65536 ≡ v / 256 / 256 = omega arith in
    let e : v / 16777216 ≡ v / 256 / 256 / 256 = omega arith in
    rw (d, e)

pub eight_bytes : (v : ℕ) → to_le_bytes w64 v ≡ tab 8 (byte_of v)
unfolding tab byte_of
eight_bytes v =
    let d : v / 65536 ≡ v / 256 / 256 = omega arith in
    let e : v / 16777216 ≡ v / 256 / 256 / 256 = omega arith in
    let f : v / 2 ^ 32 ≡ v / 256 / 256 / 256 / 256 = omega arith in
    let g : v / 2 ^ 40 ≡ v / 256 / 256 / 256 / 256 / 256 = omega arith in
    let h : v / 2 ^ 48 ≡ v / 256 / 256 / 256 / 256 / 256 / 256 = omega arith in
    let i : v / 2 ^ 56 ≡ v / 256 / 256 / 256 / 256 / 256 / 256 / 256 = omega arith in
    rw (d, e, f, g, h, i)
