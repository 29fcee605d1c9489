-- Laws for the entries: from what an operation answered to what the call returns and leaves.
use mathlib.Core.{Path.◌≡◌, Path.refl, Path.sym, Path.◌∙◌, Path.ap, List.List, List.◌++◌}
use Rattle.file_refusals.specs.Says.{number_says}
use Rattle.std.specs.Prelude.{ℕ, ◌≤◌, ◌<◌, Result, Ok, Err}
use Rattle.std.proofs.Common.{arith, lt-ltb, le-ltb}
use lib.{ListN.length, ListN.take, ListN.replicate, Seq.sets, Seq.take-length}
use Rattle.theory_loops.specs.{Fill.overwritten, Stores.stored_front}
use Rattle.theory_paths.specs.Graph.{Graph, Permit, all}
use Rattle.file_refusals.specs.{Says.Says, Says.numbers_of, Writing.Writes}
use Rattle.network.specs.{Answer.opening_says, Limits.most_roads, Network.Network, Tables.Tables, Town.graph_of}
use Rattle.network_open.specs.Open.{OpenCall}
use Rattle.plan_check.specs.declared.answer.Report.{Report}
use Rattle.plan_check.specs.{Answer.report_says, CheckPlan.checking, Finds.Finds}
use Rattle.plan_make.specs.Make.{MakeCall}
use Rattle.search_path.specs.declared.answer.{Arrival.Arrival}
use Rattle.search_path.specs.{Answer.path_of, Says.trip_says, Says.trip_count}
use Rattle.trip_call.specs.declared.visit.Visit.{Visit}
use Rattle.trip_call.specs.{Trip.TripCall, Visit.open_tick, Visit.visit_says}
use Rattle.trip_call.specs.Drive.{call_count, call_roads}
use Rattle.trip.specs.{Flagged.flagged_arcs, Promise.trip_arrived, Calls.plain_answer, Calls.flagged_answer}
use Rattle.trip.specs.Numbers.{plain_begins, flagged_begins}
use Rattle.day_arrivals.specs.Sheet.{DaySheet}
use Rattle.c_trip.specs.{Reply.trip_size, Reply.bytes, Reply.road_bytes, Reply.trip_bytes, Writing.trip_long}
use Rattle.varnwalnut.specs.{Room.roomed, Room.kept, Replies.SheetReply, Replies.TripDesk}
use Rattle.file_refusals.specs.declared.Refusal.{Refusal}
use Rattle.network.specs.declared.header.Header.{Header}
use Rattle.varnwalnut.specs.Replies.{TripReply, DeskReply, CheckReply, OpenReply, WriteReply, MakeReply}

-- ROOM
module _ (w room : ℕ) where
  room_short : (code r : ℕ) → room < w → r ≡ 31 → r ≡ roomed w room code
  unfolding roomed
  room_short code r l e = rw (lt-ltb room w l) e

  room_enough : (code r : ℕ) → w ≤ room → r ≡ code → r ≡ roomed w room code
  unfolding roomed
  room_enough code r l e = rw (le-ltb room w l) e

  kept_short : {A : Type 0} (old new : A) → room < w → old ≡ kept w room old new
  unfolding kept
  kept_short old new l = rw (lt-ltb room w l)

  kept_enough : {A : Type 0} (old : A) {new s : A} → w ≤ room → s ≡ new → s ≡ kept w room old new
  unfolding kept
  kept_enough old l e = rw (le-ltb room w l) e

-- THE DESK'S REPLIES
module _ (w : ℕ) (says : Says) (before : List ℕ) (r : ℕ) where
  pub desk_short : length before < w → r ≡ 31 → DeskReply w says before before r
  desk_short l e = record { code = room_short w _ _ r l e; numbers = kept_short w _ before _ l }

  pub desk_written : (after : List ℕ) → w ≤ length before → r ≡ says.number
      → after ≡ overwritten (numbers_of says) before → DeskReply w says before after r
  desk_written after l e f = record { code = room_enough w _ _ r l e; numbers = kept_enough w _ before l f }

-- THE CHECK: o is what the operation answered, and `after` what was written of it; so below
module _ (network plan before : List ℕ) (r : ℕ) where
  pub check_short : length before < 5 → r ≡ 31 → CheckReply network plan before before r
  check_short l e = record {
    finds = 0;
    counted = λ m. absurd (omega (arith, l, m));
    reply = desk_short 5 _ before r l e;
  }

  pub check_written : (o : Report) (after : List ℕ) → 5 ≤ length before → o.verdict ≡ checking network plan
      → Finds network plan o.verdict o.finds → r ≡ (report_says o.verdict o.finds).number
      → after ≡ overwritten (numbers_of (report_says o.verdict o.finds)) before
      → CheckReply network plan before after r
  check_written o after l q c e f = record {
    finds = o.finds;
    counted = λ _. rw q at c;
    reply = rw q at (desk_written 5 (report_says o.verdict o.finds) before r after l e f);
  }

-- OPEN
module _ (file : List ℕ) (tables₀ : Tables) (before : List ℕ) (r : ℕ) where
  pub open_short : length before < 10 → r ≡ 31 → OpenReply file tables₀ tables₀ before before r
  open_short l e = record { reply = desk_short 10 _ before r l e; written = kept_short 10 _ tables₀ _ l }

  pub open_written : (o : Result Header Refusal) (tables₁ : Tables) (after : List ℕ) → 10 ≤ length before
      → OpenCall file tables₀ tables₁ o → r ≡ (opening_says o).number
      → after ≡ overwritten (numbers_of (opening_says o)) before → OpenReply file tables₀ tables₁ before after r
  open_written o tables₁ after l c e f =
      let q = c.answer in
      record {
        reply = rw q at (desk_written 10 (opening_says o) before r after l e f);
        written = kept_enough 10 _ tables₀ l (rw q at c.written);
      }

-- PACK AND IMPORT
module _ (told : Result ℕ Refusal) (file out₀ before : List ℕ) (r : ℕ) where
  pub write_short : length before < 4 → r ≡ 31 → WriteReply told file out₀ out₀ before before r
  write_short l e = record { reply = desk_short 4 _ before r l e; written = kept_short 4 _ out₀ _ l }

  pub write_written : (o : Result ℕ Refusal) (out₁ after : List ℕ) → 4 ≤ length before
      → Writes told file out₀ out₁ o → r ≡ (number_says o).number
      → after ≡ overwritten (numbers_of (number_says o)) before → WriteReply told file out₀ out₁ before after r
  write_written o out₁ after l c e f =
      let q = c.answer in
      record {
        reply = rw q at (desk_written 4 (number_says o) before r after l e f);
        written = kept_enough 4 _ out₀ l (rw q at c.written);
      }

-- MAKE PLAN
module _ (network work₀ out₀ before : List ℕ) (r : ℕ) where
  pub make_short : length before < 4 → r ≡ 31 → MakeReply network work₀ work₀ out₀ out₀ before before r
  make_short l e = record {
    reply = desk_short 4 _ before r l e;
    work = kept_short 4 _ work₀ _ l;
    written = kept_short 4 _ out₀ _ l;
  }

  pub make_written : (o : Result ℕ Refusal) (work₁ out₁ after : List ℕ) → 4 ≤ length before
      → MakeCall network work₀ work₁ out₀ out₁ o → r ≡ (number_says o).number
      → after ≡ overwritten (numbers_of (number_says o)) before
      → MakeReply network work₀ work₁ out₀ out₁ before after r
  make_written o work₁ out₁ after l c e f =
      let q = c.answer in
      record {
        reply = rw q at (desk_written 4 (number_says o) before r after l e f);
        work = kept_enough 4 _ work₀ l c.work;
        written = kept_enough 4 _ out₀ l (rw q at c.written);
      }

-- THE DAY SHEET
module _ (network : List ℕ) (from to : ℕ) (work₀ list₀ before : List ℕ) (r : ℕ) where
  pub sheet_short : length before < 4 → r ≡ 31
      → SheetReply network from to work₀ work₀ list₀ list₀ before before r
  sheet_short l e = record {
    reply = desk_short 4 _ before r l e;
    work = kept_short 4 _ work₀ _ l;
    list = kept_short 4 _ list₀ _ l;
  }

  pub sheet_written : (o : Result ℕ Refusal) (work₁ list₁ after : List ℕ) → 4 ≤ length before
      → DaySheet network from to work₀ work₁ list₀ list₁ o → r ≡ (number_says o).number
      → after ≡ overwritten (numbers_of (number_says o)) before
      → SheetReply network from to work₀ work₁ list₀ list₁ before after r
  sheet_written o work₁ list₁ after l c e f =
      let q = c.answer in
      record {
        reply = rw q at (desk_written 4 (number_says o) before r after l e f);
        work = kept_enough 4 _ work₀ l c.work;
        list = kept_enough 4 _ list₀ l (rw q at c.list);
      }

-- THE TRIPS WITH LISTS
module _ (b : Result Header Refusal) (n : Network) (p : Permit) (s t x : ℕ) (arrivals₀ roads₀ before : List ℕ) (r : ℕ) where
  pub lists_short : length before < 6 → r ≡ 31
      → TripDesk b n p s t x arrivals₀ arrivals₀ roads₀ roads₀ before before r
  lists_short l e = record {
    reply = desk_short 6 _ before r l e;
    arrivals = kept_short 6 _ arrivals₀ _ l;
    roads = kept_short 6 _ roads₀ _ l;
  }

  pub lists_written : (v : Visit) (arrivals₁ roads₁ after : List ℕ) → 6 ≤ length before
      → TripCall b (graph_of n) p s t x arrivals₀ arrivals₁ roads₀ roads₁ v.trip
      → v.opens ≡ open_tick n t v.trip → r ≡ (visit_says v.trip v.opens).number
      → after ≡ overwritten (numbers_of (visit_says v.trip v.opens)) before
      → TripDesk b n p s t x arrivals₀ arrivals₁ roads₀ roads₁ before after r
  lists_written v arrivals₁ roads₁ after l c o e f =
      let q = c.answer in
      record {
        reply = rw (o, q) at (desk_written 6 (visit_says v.trip v.opens) before r after l e f);
        arrivals = kept_enough 6 _ arrivals₀ l c.arrivals;
        roads = kept_enough 6 _ roads₀ l (rw q at c.roads);
      }

-- THE TABLET'S TRIPS: where the trip a arrives, its count is the path's length, and the list of the most
-- roads begins with the path
pub record Lists (a : Result Arrival Refusal) (path roads : List ℕ) : Type 0 where
  pub counted : (r : Arrival) → a ≡ Ok r → r.count ≡ length path
  pub few : (r : Arrival) → a ≡ Ok r → length path ≤ most_roads
  pub listed : (r : Arrival) → a ≡ Ok r → take (length path) roads ≡ path

module _ (path roads : List ℕ) where
  same_bytes : (a : Result Arrival Refusal) → Lists a path roads → trip_bytes a roads ≡ trip_bytes a path
  same_bytes (Err r) h = refl
  same_bytes (Ok r) h =
      let q = h.counted r refl in
      ap (λ (w : List ℕ). bytes 4 0 ++ bytes 4 r.tick ++ bytes 2 r.count ++ road_bytes w)
      (rw q (h.listed r refl ∙ sym (take-length path)))

  room_for : (a : Result Arrival Refusal) → Lists a path roads → length (trip_bytes a path) ≤ trip_size
  room_for (Err r) h = omega (arith, trip_long (Err r) path)
  room_for (Ok r) h =
      let q = h.counted r refl in
      let l : length (take r.count path) ≡ length path = rw (q, take-length path) in
      omega (arith, trip_long (Ok r) path, l, h.few r refl)

  pub trip_written : (a call : Result Arrival Refusal) (before after : List ℕ) (r : ℕ) → a ≡ call → Lists a path roads
      → trip_size ≤ length before → r ≡ (trip_says a).number → after ≡ sets before 0 (trip_bytes a roads)
      → TripReply call path before after r
  trip_written a call before after r q h l e f =
      let z = stored_front (trip_bytes a path) before (omega (arith, room_for a h)) in
      rw (← q)
      (record {
        code = room_enough trip_size _ _ r l e;
        bytes = kept_enough trip_size _ before l (f ∙ ap (sets before 0) (same_bytes a h) ∙ z);
      })

pub trip_short : (a : Result Arrival Refusal) (path before : List ℕ) (r : ℕ) → length before < trip_size → r ≡ 31
    → TripReply a path before before r
trip_short a path before r l e =
    record { code = room_short trip_size _ _ r l e; bytes = kept_short trip_size _ before _ l }

-- a trip over permitted arcs with a fresh list of the most roads, which is `roads` after it
module _ (b : Result Header Refusal) (g : Graph) (p : Permit) (s t x : ℕ) (a : Result Arrival Refusal) (arrivals₀ arrivals roads : List ℕ)
    (c : TripCall b g p s t x arrivals₀ arrivals (replicate most_roads 0) roads a) where
  pub trip_lists : Lists a (path_of g p s t x) roads
  trip_lists = record {
    counted = λ r q. (call_count c r q).0;
    few = λ r q. (call_count c r q).1;
    listed = λ r q. rw (call_count c r q).0 at (call_roads c r q);
  }

-- a trip counts no more roads than the most
few_roads : (a : Result Arrival Refusal) → ((r : Arrival) → a ≡ Ok r → r.count ≤ most_roads) → trip_count a ≤ most_roads
few_roads (Ok r) h = h r refl
few_roads (Err r) h = omega arith

pub plain_count : (network : List ℕ) (from to departure room free : ℕ) (a : Result Arrival Refusal)
    → a ≡ plain_answer network from to departure room free → trip_count a ≤ most_roads
plain_count network from to departure room free a e =
    few_roads a (λ r q. (trip_arrived (plain_begins network from to departure room) all free e r q).few)

pub flagged_count : (network plan : List ℕ) (from to departure room free : ℕ) (a : Result Arrival Refusal)
    → a ≡ flagged_answer network plan from to departure room free → trip_count a ≤ most_roads
flagged_count network plan from to departure room free a e =
    few_roads a
    (λ r q. (trip_arrived (flagged_begins network from to departure room plan) (flagged_arcs network plan to)
    free e r q).few)
