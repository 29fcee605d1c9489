-- A block's check and form in forms that go through the block once, proved equal to those of the crate
-- `file_blocks`, which count from the list's start at every index. The checker computes these in a moment,
-- and those in seconds a block.
use mathlib.Core.{Path.◌≡◌, Path.refl, Path.sym, Path.◌∙◌, Path.ap, List.List}
use Rattle.std.specs.Prelude.{Bool, true, false, ◌&&◌, ℕ, zero, suc, ◌+◌, ◌-◌, ◌*◌, ◌%◌, ◌<◌}
use Rattle.std.proofs.Math.Bool.{and-eq-true_iff}
use native.Mathlib.{Nat.add-zero, Nat.zero-add, Omega.arith}
use lib.{ListN.get_or, ListN.drop, Seq.get_or-drop, Seq.drop-drop, Dec.eqb}
use Rattle.std.proofs.Common.{eqb-true, eq-eqb}
use Rattle.file_fields.specs.{Fields.le16, Fields.le32, Sum.sums, Sum.summed_part, Sum.good}
use Rattle.file_forms.specs.Form.{zeros, formed, zeros_each, zeros_all}
use Rattle.file_fields.specs.declared.sum.Sums.{Sums}

-- THE CHECK
-- the sums r with n words more, those at the front of s
unfoldable pub summed : ℕ → List ℕ → Sums → Sums
summed zero s r = r
summed (suc n) s r =
    let a = (r.a + le16 s 0) % 65535 in
    summed n (drop 2 s) (record { a = a; b = (r.b + a) % 65535 })

word_at : (s : List ℕ) (m : ℕ) → le16 (drop (2 * m) s) 0 ≡ le16 s (2 * m)
word_at s m =
    let e : 2 * m + 0 ≡ 2 * m = omega arith in rw (get_or-drop (2 * m) s 0 0, get_or-drop (2 * m) s 1 0, e)

summed_on : (n m : ℕ) (s : List ℕ) → sums s (m + n) ≡ summed n (drop (2 * m) s) (sums s m)
unfolding summed sums
summed_on zero m s = rw add-zero
summed_on (suc n) m s =
    let e : m + suc n ≡ suc m + n = omega arith in
    let f : 2 * m + 2 ≡ 2 * suc m = omega arith in
    rw (e, drop-drop 2 (2 * m) s, f, word_at s m) (summed_on n (suc m) s)

pub sums_summed : (s : List ℕ) (n : ℕ) → sums s n ≡ summed n s (record { a = 1; b = 0 })
unfolding sums
sums_summed s n = ap (sums s) (sym (zero-add n)) ∙ summed_on n 0 s

abbrev pub matches : Sums → List ℕ → ℕ → Bool
matches r file b = eqb r.a (le16 file (512 * b + 508)) && eqb r.b (le16 file (512 * b + 510))

abbrev pub quick_good : List ℕ → ℕ → Bool
quick_good file b = matches (summed 254 (summed_part file b) (record { a = 1; b = 0 })) file b

pub good_quick : (file : List ℕ) (b : ℕ) → good file b ≡ quick_good file b
good_quick file b = ap (λ r. matches r file b) (sums_summed (summed_part file b) 254)

-- THE FORM
-- the first n bytes of s are 0
unfoldable pub blank : ℕ → List ℕ → Bool
blank zero s = true
blank (suc n) s = eqb (get_or s 0 0) 0 && blank n (drop 1 s)

blank_each : (n : ℕ) (s : List ℕ) → blank n s ≡ true → (i : ℕ) → i < n → get_or s i 0 ≡ 0
unfolding blank
blank_each zero s h i l = absurd (omega arith)
blank_each (suc n) s h zero l = eqb-true _ _ ((and-eq-true_iff (eqb (get_or s 0 0) 0) _).0 h).0
blank_each (suc n) s h (suc i) l =
    let e : 1 + i ≡ suc i = omega arith in
    rw e at
    (sym (get_or-drop 1 s i 0)
    ∙ blank_each n (drop 1 s) ((and-eq-true_iff (eqb (get_or s 0 0) 0) _).0 h).1 i (omega arith))

each_blank : (n : ℕ) (s : List ℕ) → ((i : ℕ) → i < n → get_or s i 0 ≡ 0) → blank n s ≡ true
unfolding blank
each_blank zero s h = refl
each_blank (suc n) s h =
    rw (eq-eqb (get_or s 0 0) 0 (h 0 (omega arith)))
    (each_blank n (drop 1 s) (λ i l. get_or-drop 1 s i 0 ∙ h (1 + i) (omega arith)))

one_bool : (t u : Bool) → (t ≡ true → u ≡ true) → (u ≡ true → t ≡ true) → t ≡ u
one_bool true u h k = sym (h refl)
one_bool false true h k = k refl
one_bool false false h k = refl

zeros_blank : (file : List ℕ) (a e : ℕ) → zeros file a e ≡ blank (e - a) (drop a file)
zeros_blank file a e =
    one_bool _ _
    (λ h. each_blank (e - a) (drop a file)
    (λ i l. get_or-drop a file i 0 ∙ zeros_each file a e h (a + i) (omega arith) (omega arith)))
    (λ h. zeros_all file a e (λ i l m.
    let q : a + (i - a) ≡ i = omega arith in
    rw q at (sym (get_or-drop a file (i - a) 0) ∙ blank_each (e - a) (drop a file) h (i - a) (omega arith))))

unfoldable pub quick_formed : List ℕ → ℕ → ℕ → ℕ → ℕ → Bool
quick_formed file b kind entries used =
    eqb (get_or file (512 * b) 0) kind
    && (eqb (get_or file (512 * b + 1) 0) 0
    && (eqb (le16 file (512 * b + 2)) entries
    && (eqb (le32 file (512 * b + 4)) b
    && blank (512 * b + 508 - (512 * b + used)) (drop (512 * b + used) file))))

pub formed_quick : (file : List ℕ) (b kind entries used : ℕ)
    → formed file b kind entries used ≡ quick_formed file b kind entries used
unfolding formed quick_formed
formed_quick file b kind entries used = rw (zeros_blank file (512 * b + used) (512 * b + 508))
