-- What an import is good for, said of the C calls: where varnwalnut_import_dimacs returns 0, the text is one
-- that the wish describes (`imported_call`), and varnwalnut_open_network shows its arcs from the bytes that
-- it has written (`imported_tables`).
use mathlib.Core.{Path.◌≡◌, Path.refl, Path.subst, Bool.false, Logic.inl, Logic.inr, List.List}
use Rattle.std.specs.Prelude.{ℕ, ◌^◌, ◌≤◌, ◌<◌, length, get_or, take, Result}
use Rattle.std.proofs.Common.{arith, le-ltb}
use Rattle.network.specs.Tables.{Tables}
use Rattle.network_open.specs.Open.{opening, too_short}
use Rattle.dimacs_import.specs.{Import.importing, Import.ImportCall, Imported.header_for}
use Rattle.dimacs_import.specs.Promise.{Shows, OpensTo, ImportNumber, imported_opens, import_numbers}
use Rattle.varnwalnut.specs.{Replies.ImportReply, Replies.OpenReply, Returned.returned_length}
use Rattle.file_refusals.specs.declared.Refusal.{Refusal}
use Rattle.varnwalnut.specs.Room.{kept}

some_number : (n : ℕ) → ImportNumber n → 1 ≤ n
some_number n (inl e) = omega arith
some_number n (inr (inl e)) = omega arith
some_number n (inr (inr e)) = omega arith

module _ (text : List ℕ) (number : ℕ) (out₀ out₁ before after : List ℕ) (returned : ℕ)
    (small : number < 2 ^ 32) (room : 4 ≤ length before)
    (m : ImportReply text number out₀ out₁ before after returned) (ok : returned ≡ 0) where
  abbrev answer : Result ℕ Refusal
  answer = importing text number (length out₀)

  call : ImportCall text number out₀ out₁ answer
  unfolding kept
  call = record { answer = refl; written = rw (le-ltb (length before) 4 room) at m.written }

  pub imported_call : Shows text number (take (get_or after 3 0) out₁)
  imported_call =
      let (y, e, g) = returned_length answer before after returned
      (λ r q. some_number r.number (import_numbers text number (length out₀) r q)) room m.reply ok in
      rw g
      (imported_opens text number out₀ out₁ y
      (subst (λ (a : Result ℕ Refusal). ImportCall text number out₀ out₁ a) e call) small)

-- and Open's tables, of any file that shows a text
pub imported_tables : {text : List ℕ} {number : ℕ} {file : List ℕ} (s : Shows text number file)
    {tables₀ tables₁ : Tables} {before after : List ℕ} {returned : ℕ} → 10 ≤ length before
    → too_short (header_for number s.sizes) tables₀ ≡ false
    → OpenReply file tables₀ tables₁ before after returned
    → OpensTo number s.sizes s.roads tables₁ (opening file tables₀)
unfolding kept
imported_tables {file = file} s {tables₀} {tables₁} {before} room long m =
    s.opens tables₀ tables₁ (opening file tables₀)
    (record { answer = refl; written = rw (le-ltb (length before) 10 room) at m.written }) long
