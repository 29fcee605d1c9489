-- Import: the network that a text gives, the answer for any text, network number and lent bytes, and the
-- call.
use mathlib.Core.{Path.◌≡◌, Path.refl, Path.sym, Path.◌∙◌, List.List, List.[], List.map}
use Rattle.std.specs.Prelude.{Result, Ok, Err, ℕ, ◌-◌, length, replicate}
use Rattle.file_refusals.specs.declared.Refusal.{Refusal}
use Rattle.file_refusals.specs.Writing.{written_into, Writes}
use Rattle.network.specs.{Limits.most_period, Network.Network}
use Rattle.network_encode.specs.Encode.{encode}
use Rattle.text_lines.specs.Lines.{lines_of}
use Rattle.dimacs_line.specs.declared.line.{Sizes.Sizes, Arc.Arc}
use Rattle.dimacs_reading.specs.Reading.{judging}
use Rattle.dimacs_text.specs.Arcs.{arcs_of}

-- so many nodes, all in cell 0 and open all day, with no hours held; each arc once, in order, its ends
-- lowered by one, its weight the travel all day
abbrev pub network_by : ℕ → ℕ → List Arc → Network
network_by number nodes arcs = record {
  number = number;
  period = most_period;
  cells = 1;
  hours = 0;
  cell_of = replicate nodes 0;
  opens = replicate nodes 0;
  closes = replicate nodes most_period;
  tails = map (λ (a : Arc). a.tail - 1) arcs;
  heads = map (λ (a : Arc). a.head - 1) arcs;
  counts = replicate (length arcs) 1;
  ticks = replicate (length arcs) 0;
  travels = map (λ (a : Arc). a.weight) arcs;
}

-- the network of a text's lines
abbrev pub imported : ℕ → ℕ → List (List ℕ) → Network
imported number nodes lines = network_by number nodes (arcs_of lines)

-- its file; a text that is refused has none
abbrev pub file_by : Result Sizes Refusal → ℕ → List ℕ → List ℕ
file_by (Ok k) number text = encode (imported number k.nodes (lines_of text))
file_by (Err r) number text = []

abbrev pub imported_file : ℕ → List ℕ → List ℕ
imported_file number text = file_by (judging text) number text

-- the answer: 35 and 36 by the text alone, then 31
abbrev pub answer_by : Result Sizes Refusal → ℕ → ℕ → Result ℕ Refusal
answer_by (Ok k) long room = written_into long room
answer_by (Err r) long room = Err r

abbrev pub importing : List ℕ → ℕ → ℕ → Result ℕ Refusal
importing text number room = answer_by (judging text) (length (imported_file number text)) room

-- THE CALL: what Import answers, and the bytes that it leaves
abbrev pub ImportCall : List ℕ → ℕ → List ℕ → List ℕ → Result ℕ Refusal → Type 0
ImportCall text number before after r =
    Writes (importing text number (length before)) (imported_file number text) before after r

-- FOR THE CODE: a text that is refused, and one that is accepted
module _ (text : List ℕ) (number : ℕ) (before : List ℕ) where
  pub import_refused : (j : Result Sizes Refusal) (q : Refusal) → j ≡ judging text → j ≡ Err q
      → ImportCall text number before before (Err q)
  import_refused j q e f =
      let g : judging text ≡ Err q = sym e ∙ f in
      record { answer = rw g; written = refl }

  pub import_accepted : (k : Sizes) → judging text ≡ Ok k → (file : List ℕ)
      → file ≡ encode (imported number k.nodes (lines_of text)) → (after : List ℕ) (r : Result ℕ Refusal)
      → Writes (written_into (length file) (length before)) file before after r
      → ImportCall text number before after r
  import_accepted k e file f after r w = rw (e, ← f) w
