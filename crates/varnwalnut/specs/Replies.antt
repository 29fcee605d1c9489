-- What a call returns and leaves, by its answer: the tablet's trips in bytes, the desk's calls in numbers.
-- `before` and `after` are the lent answer at entry and at exit, and `returned` is the number that the call
-- returns. Tables and lists at entry and at exit have a 0 and a 1.
use mathlib.Core.{Path.◌≡◌, List.List}
use Rattle.file_refusals.specs.Says.{number_says}
use Rattle.std.specs.Prelude.{ℕ, ◌≤◌, length, Result}
use Rattle.theory_loops.specs.Fill.{overwritten}
use Rattle.theory_paths.specs.Graph.{Permit, all}
use Rattle.file_refusals.specs.{Says.Says, Says.numbers_of, Writing.bytes_after}
use Rattle.network.specs.declared.header.Header.{Header}
use Rattle.network.specs.{Answer.opening_says, Network.Network, Decode.decode, Tables.Tables, Tables.network_of}
use Rattle.network.specs.Town.{graph_of}
use Rattle.network_open.specs.Open.{opening, tables_after}
use Rattle.network_encode.specs.Encode.{encode}
use Rattle.file_refusals.specs.Listing.{list_after}
use Rattle.network_pack.specs.Pack.{packing}
use Rattle.dimacs_import.specs.Import.{importing, imported_file}
use Rattle.plan_check.specs.{Answer.report_says, CheckPlan.checking, Finds.Finds}
use Rattle.plan_made.specs.File.{made_file}
use Rattle.plan_make.specs.Make.{making, work_after}
use Rattle.search_path.specs.{Answer.searched, Says.trip_says}
use Rattle.trip_call.specs.Trip.{trip_answer, trip_arrivals, trip_roads}
use Rattle.trip_call.specs.Visit.{open_tick, visit_says}
use Rattle.trip_plain.specs.Plain.{plain_begin}
use Rattle.trip.specs.Flagged.{flagged_begin, flagged_arcs}
use Rattle.day_arrivals.specs.Sheet as sheet
use Rattle.day_arrivals.specs.Sheet.{sheet_begin, listing, day_arrivals}
use Rattle.c_trip.specs.Reply.{trip_size, trip_bytes}
use Rattle.file_refusals.specs.declared.Refusal.{Refusal}
use Rattle.search_path.specs.declared.answer.Arrival.{Arrival}
use Rattle.varnwalnut.specs.Room.{roomed, kept}

-- the tablet's answer to a trip whose chosen path this is
pub record TripReply (trip : Result Arrival Refusal) (path before after : List ℕ) (returned : ℕ) : Type 0 where
  pub code : returned ≡ roomed trip_size (length before) (trip_says trip).number
  pub bytes : after ≡ kept trip_size (length before) before (overwritten (trip_bytes trip path) before)

-- the desk's answer, which takes so many numbers
pub record DeskReply (size : ℕ) (says : Says) (before after : List ℕ) (returned : ℕ) : Type 0 where
  pub code : returned ≡ roomed size (length before) says.number
  pub numbers : after ≡ kept size (length before) before (overwritten (numbers_of says) before)

-- The check: the papers bound the count of finds and do not fix it, so it is some count within their bounds.
-- A list that is too short tells none.
pub record CheckReply (network plan before after : List ℕ) (returned : ℕ) : Type 0 where
  pub finds : ℕ
  pub counted : 5 ≤ length before → Finds network plan (checking network plan) finds
  pub reply : DeskReply 5 (report_says (checking network plan) finds) before after returned

-- Open: beside the reply, the eight tables
pub record OpenReply (file : List ℕ) (tables₀ tables₁ : Tables) (before after : List ℕ)
    (returned : ℕ) : Type 0 where
  pub reply : DeskReply 10 (opening_says (opening file tables₀)) before after returned
  pub written : tables₁
      ≡ kept 10 (length before) tables₀ (tables_after (opening file tables₀) (decode file) tables₀)

-- An operation that writes a file and tells this: beside the reply, the bytes for it
pub record WriteReply (told : Result ℕ Refusal) (file out₀ out₁ before after : List ℕ) (returned : ℕ) : Type 0 where
  pub reply : DeskReply 4 (number_says told) before after returned
  pub written : out₁ ≡ kept 4 (length before) out₀ (bytes_after told file out₀)

-- Pack, of numbers and tables, and Import, of a text
abbrev pub PackReply : Header → Tables → List ℕ → List ℕ → List ℕ → List ℕ → ℕ → Type 0
PackReply h t out₀ out₁ before after returned =
    WriteReply (packing h t (length out₀)) (encode (network_of h t)) out₀ out₁ before after returned

abbrev pub ImportReply : List ℕ → ℕ → List ℕ → List ℕ → List ℕ → List ℕ → ℕ → Type 0
ImportReply text number out₀ out₁ before after returned =
    WriteReply (importing text number (length out₀)) (imported_file number text) out₀ out₁ before after
    returned

-- Make plan: beside the reply, the work list, and the bytes for the plan's file
pub record MakeReply (network work₀ work₁ out₀ out₁ before after : List ℕ) (returned : ℕ) : Type 0 where
  pub reply : DeskReply 4 (number_says (making network (length work₀) (length out₀))) before after returned
  pub work : work₁ ≡ kept 4 (length before) work₀ (work_after network work₀)
  pub written : out₁ ≡ kept 4 (length before) out₀
      (bytes_after (making network (length work₀) (length out₀)) (made_file (decode network)) out₀)

-- The day sheet: beside the reply, the work list, and the list of the day's arrivals
pub record SheetReply (network : List ℕ) (from to : ℕ) (work₀ work₁ list₀ list₁ before after : List ℕ)
    (returned : ℕ) : Type 0 where
  pub reply : DeskReply 4 (number_says (listing network from to (length work₀) (length list₀))) before after
      returned
  pub work : work₁ ≡ kept 4 (length before) work₀
      (sheet.work_after (sheet_begin network from to (length work₀) (length list₀)) (decode network) work₀)
  pub list : list₁ ≡ kept 4 (length before) list₀
      (list_after (listing network from to (length work₀) (length list₀))
      (day_arrivals (decode network) from to) list₀)

-- A trip: beside the reply, the lists of arrivals and of roads. b is what comes before the search, from s to
-- t over the permitted arcs of the network n, leaving at tick x.
pub record TripDesk (b : Result Header Refusal) (n : Network) (p : Permit) (s t x : ℕ)
    (arrivals₀ arrivals₁ roads₀ roads₁ : List ℕ)
    (before after : List ℕ) (returned : ℕ) : Type 0 where
  pub reply : DeskReply 6
      (visit_says (trip_answer b (searched (graph_of n) p s t x (length roads₀)))
      (open_tick n t (trip_answer b (searched (graph_of n) p s t x (length roads₀))))) before after returned
  pub arrivals : arrivals₁ ≡ kept 6 (length before) arrivals₀ (trip_arrivals b (graph_of n) p s t x arrivals₀)
  pub roads : roads₁ ≡ kept 6 (length before) roads₀
      (trip_roads (trip_answer b (searched (graph_of n) p s t x (length roads₀))) (graph_of n) p s t x roads₀)

-- the plain trip, and the flagged one
abbrev pub PlainDesk : List ℕ → ℕ → ℕ → ℕ → List ℕ → List ℕ → List ℕ → List ℕ → List ℕ → List ℕ → ℕ → Type 0
PlainDesk network from to departure arrivals₀ arrivals₁ roads₀ roads₁ before after returned =
    TripDesk (plain_begin network from to departure (length arrivals₀))
    (decode network) all from to departure
    arrivals₀ arrivals₁ roads₀ roads₁ before after returned

abbrev pub FlaggedDesk : List ℕ → List ℕ → ℕ → ℕ → ℕ → List ℕ → List ℕ → List ℕ → List ℕ → List ℕ → List ℕ → ℕ
    → Type 0
FlaggedDesk network plan from to departure arrivals₀ arrivals₁ roads₀ roads₁ before after returned =
    TripDesk (flagged_begin network plan from to departure (length arrivals₀))
    (decode network) (flagged_arcs network plan to) from to departure
    arrivals₀ arrivals₁ roads₀ roads₁ before after returned
