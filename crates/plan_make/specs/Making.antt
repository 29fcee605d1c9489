-- FOR THE CODE: the header that it makes, the file that it leaves, and its refusals 34, 33 and 31.
use mathlib.Core.{Path.◌≡◌, Path.refl, Path.sym, Path.◌∙◌, Path.ap, List.List, List.◌++◌}
use Rattle.file_refusals.specs.Refusal.{refused}
use Rattle.std.specs.Prelude.{ℕ, zero, suc, ◌*◌, ◌≤◌, ◌<◌, Result, Ok, Err}
use Rattle.std.proofs.Common.{arith}
use lib.{ListN.length, ListN.get_or, ListN.take, ListN.drop, Seq.length-sets}
use borrow.Author.Tests.{lt-ltb, le-ltb}
use Rattle.theory_loops.specs.{Fill.Filled, Fill.tab, Fill.overwritten, Total.total}
use Rattle.file_fields.specs.{Block.block_size, Fields.byte_of, Put.put_stores}
use Rattle.file_blocks.specs.{Kind.flag_per, Kind.flag_size, Place.offset}
use Rattle.file_frames.specs.{Laid.none, Laid.entries_put, Sealed.sealed_to}
use Rattle.file_refusals.specs.declared.Refusal.{Refusal}
use Rattle.file_refusals.specs.Writing.{written_into, Writes, writes_refused}
use Rattle.file_refusals.specs.{Writing.into_short, Writing.into_whole}
use Rattle.network.specs.declared.header.{Header.Header}
use Rattle.network.specs.{Network.Network, Network.nodes, Network.arcs, Decode.decode}
use Rattle.network.specs.{Town.partition_of, Validate.validated, Valid.ValidFile}
use Rattle.network.proofs.Valid.{valid_exactly}
use Rattle.plan.specs.declared.header.{PlanHeader.PlanHeader, PlanLayout.PlanLayout}
use Rattle.plan.specs.Border.{border_count}
use Rattle.plan.specs.{PlanDecode.point_total, PlanHeader.PlanWithin}
use Rattle.plan.specs.PlanLayout.{plan_layout_of, plan_few}
use Rattle.network.specs.Limits.{most_nodes}
use Rattle.plan.specs.PlanLimits.{most_profile_points, most_plan_blocks}
use Rattle.plan.specs.PlanMatch.{matches_within, borders_few, valid_headed}
use Rattle.plan_encode.specs.{Laying.Laying, Places.PlanRoom, Places.PlanWritable, PlanWritten.plan_written}
use Rattle.plan_encode.specs.PlanRoundTrip.{encode_plan_long}
use Rattle.plan_made.specs.Made.{made_total, made_word, made_count}
use Rattle.plan_made.specs.File.{made_plan, made_header, made_file, made_matches}
use Rattle.toward_list.specs.Work.{work_size, work_cleared}
use Rattle.plan_make.specs.Make.{made_into, made_with, zeroed, MakesOpened, MakeCall}
use Rattle.plan_rounds.specs.Rounds.{Counted, Held, PutTo}

-- THE PLAN IS WRITTEN
pub room_same : {k : PlanLayout} {a b : ℕ} → PlanRoom k a → b ≡ a → PlanRoom k b
room_same r e = rw e r

entries_long : (from per size : ℕ) (values : List ℕ) (i : ℕ) (s : List ℕ)
    → length (entries_put from per size values i s) ≡ length s
unfolding entries_put
entries_long from per size values zero s = refl
entries_long from per size values (suc i) s =
    ap length (put_stores size (entries_put from per size values i s) (offset from per size i) (get_or values
    i 0))
    ∙ length-sets (entries_put from per size values i s) (offset from per size i) (tab size (byte_of (get_or
    values i 0)))
    ∙ entries_long from per size values i s

module _ {h : PlanHeader} {k : PlanLayout} {room : ℕ} (w : PlanWritable h k room) (n : Network)
    (e : h ≡ made_header n) where
  pub held_by : Held n k
  unfolding made_header plan_layout_of
  held_by = rw (w.is, e) (record {
    borders = refl;
    profiles = refl;
    points = made_total n.cells (partition_of n);
  })

  arcs_by : k.arcs ≡ arcs n
  unfolding made_header plan_layout_of
  arcs_by = rw (w.is, e)

pub plan_made_lem : {h : PlanHeader} {k : PlanLayout} (n : Network) (old frames entered flagged new words :
    List ℕ)
    → PlanWritable h k (length old) → h ≡ made_header n → Laying h none none none old frames
    → PutTo n k k.borders words frames entered
    → flagged ≡ entries_put 1 flag_per flag_size words k.arcs entered
    → new ≡ sealed_to k.blocks flagged → new ≡ overwritten (made_file n) old
plan_made_lem {h} {k} n old frames entered flagged new words w e f p g s =
    let G = partition_of n in
    let held = held_by w n e in
    let a : k.borders * nodes n ≡ k.profiles = rw held.borders (sym held.profiles) in
    let b : total (k.borders * nodes n) (made_count G) ≡ k.points = rw held.borders (sym held.points) in
    plan_written (made_plan n) old frames entered flagged new words w f
    (rw (b, a) at p.entered)
    (λ i l.
    let m : i < arcs n = omega (arith, arcs_by w n e) in
    p.flags.word i m
    ∙ (rw held.borders (sym (made_word n.cells G i m)))) g s
    ∙ rw e

-- and its blocks fit, once the flag words are in
pub flagged_room : {h : PlanHeader} {k : PlanLayout} {n : Network} {i : ℕ} {old frames entered words : List ℕ}
    {flagged : List ℕ} → PlanWritable h k (length old) → Laying h none none none old frames
    → PutTo n k i words frames entered → flagged ≡ entries_put 1 flag_per flag_size words k.arcs entered
    → block_size * k.blocks ≤ length flagged
flagged_room {k = k} {entered = entered} {words = words} w a b e =
    rw (e, entries_long 1 flag_per flag_size words k.arcs entered) (omega (
      arith,
      w.whole,
      a.long,
      b.long,
    ))

-- ITS HEADER
module _ {file : List ℕ} {h : Header} (v : ValidFile file h) {count points : ℕ}
    (b : count ≡ border_count (partition_of (decode file))) (c : Counted (partition_of (decode file)) points)
    (few : points ≤ most_profile_points) where
  abbrev n : Network
  n = decode file

  abbrev head : PlanHeader
  head = record {
    number = h.number;
    period = h.period;
    nodes = h.nodes;
    arcs = h.arcs;
    cells = h.cells;
    borders = count;
    points = points;
  }

  points_are : points ≡ point_total (made_plan (decode file))
  points_are = c.exact few ∙ sym (made_total n.cells (partition_of n))

  pub points_few : point_total (made_plan (decode file)) ≤ most_profile_points
  points_few = omega (arith, points_are)

  pub header_made : head ≡ made_header (decode file)
  unfolding made_header
  header_made =
      let m = made_matches v points_few in
      λ i. record {
        number = sym m.number i;
        period = sym m.period i;
        nodes = sym m.nodes i;
        arcs = sym m.arcs i;
        cells = sym m.cells i;
        borders = b i;
        points = points_are i;
      }

  pub header_within : PlanWithin head
  header_within =
      rw header_made
      (matches_within h (border_count (partition_of n)) (made_header n) v.within
      (omega (arith, (valid_headed v).nodes_are, borders_few (partition_of n))) (made_matches v points_few))

  pub borders_fit : count ≤ most_nodes
  borders_fit =
      omega (arith, borders_few (partition_of n), (valid_headed v).nodes_are, v.within.nodes_most)

-- its file's length
pub file_long : {h : PlanHeader} {k : PlanLayout} (m : Network) → k ≡ plan_layout_of h → h ≡ made_header m
    → length (made_file m) ≡ block_size * k.blocks
unfolding plan_layout_of
file_long m e f = rw (e, f) (encode_plan_long (made_header m) (made_plan m))

pub file_few : {h : PlanHeader} {k : PlanLayout} → k ≡ plan_layout_of h → PlanWithin h → k.blocks ≤
    most_plan_blocks
unfolding plan_layout_of
file_few e w = rw e (plan_few w)

-- 33
pub counted_over : (m : Network) {points : ℕ} → Counted (partition_of m) points → most_profile_points < points
    → most_profile_points < point_total (made_plan m)
counted_over m c l = omega (arith, c.many l, made_total m.cells (partition_of m))

-- and 31 behind it
module _ (n : Network) (before : List ℕ) (r : Result ℕ Refusal) where
  pub into_many : most_profile_points < point_total (made_plan n) → r ≡ refused 33 0
      → Writes (made_into n (length before)) (made_file n) before before r
  unfolding made_into
  into_many l e =
      writes_refused _ (made_file n) before 33 r e (rw (lt-ltb most_profile_points (point_total (made_plan n))
      l) e)

  module _ (few : point_total (made_plan n) ≤ most_profile_points) where
    behind : (after : List ℕ) → Writes (written_into (length (made_file n)) (length before)) (made_file n)
        before after r
        → Writes (made_into n (length before)) (made_file n) before after r
    unfolding made_into
    behind after w = record {
      answer = rw (le-ltb most_profile_points (point_total (made_plan n)) few) w.answer;
      written = w.written;
    }

    pub made_short : {long : ℕ} → length (made_file n) ≡ long → length before < long → r ≡ refused 31 0
        → Writes (made_into n (length before)) (made_file n) before before r
    made_short e l f = behind before (into_short (made_file n) before r (rw e l) f)

    pub made_whole : (after : List ℕ) {long : ℕ} → length (made_file n) ≡ long → long ≤ length before
        → after ≡ overwritten (made_file n) before → r ≡ Ok long
        → Writes (made_into n (length before)) (made_file n) before after r
    made_whole after {long} e l f g =
        let h : r ≡ Ok (length (made_file n)) = rw e g in
        behind after (rw h (into_whole (made_file n) before after (rw e l) f))

-- 34, and what is left of the work list past it
module _ {n : Network} {size : ℕ} (s : size ≡ work_size n) {out₀ : List ℕ} {r : Result ℕ Refusal} where
  pub work_short : {work : List ℕ} → length work < size → r ≡ refused 34 0 → MakesOpened n work work out₀
      out₀ r
  unfolding made_with zeroed
  work_short {work} l e =
      let t = lt-ltb (length work) (work_size n) (omega arith) in
      record { answer = rw t e; work = rw t; written = rw e }

  pub work_long : {work mid new out₁ : List ℕ} (ys : List ℕ) → size ≤ length work → length ys ≡ length
      (take size work)
      → mid ≡ ys ++ drop size work → Filled 0 size (λ _. 0) mid new
      → Writes (made_into n (length out₀)) (made_file n) out₀ out₁ r
      → MakesOpened n work new out₀ out₁ r
  unfolding made_with zeroed
  work_long {work} ys l z e f w =
      let t = le-ltb (length work) (work_size n) (omega arith) in
      record {
        answer = rw t w.answer;
        work = rw t (work_cleared n work ys s l z e f);
        written = w.written;
      }

-- 1 to 10 with 37
module _ {network work₀ out₀ : List ℕ} {o : Result Header Refusal} where
  pub made_refused : {q : Refusal} {r : Result ℕ Refusal} → o ≡ validated network → o ≡ Err q → r ≡
      Err q
      → MakeCall network work₀ work₀ out₀ out₀ r
  made_refused e f g = record { answer = rw (← e, f) g; work = rw (← e, f); written = rw g }

  pub made_opened : {h : Header} {work₁ out₁ : List ℕ} {r : Result ℕ Refusal} → o ≡ validated network
      → o ≡ Ok h → MakesOpened (decode network) work₀ work₁ out₀ out₁ r
      → MakeCall network work₀ work₁ out₀ out₁ r
  made_opened e f m = record {
    answer = rw (← e, f) m.answer;
    work = rw (← e, f) m.work;
    written = m.written;
  }

pub opened_valid : {network : List ℕ} {o : Result Header Refusal} {h : Header} → o ≡ validated network → o ≡
    Ok h
    → ValidFile network h
opened_valid {network} {h = h} e f = (valid_exactly network h).0 (sym e ∙ f)
