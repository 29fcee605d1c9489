-- FOR THE CODE: what is shown where nothing before the work is refused, a row of travels as the day's
-- arrivals, and the work list that ends as zero.
use mathlib.Core.{Path.◌≡◌, List.List}
use Rattle.std.specs.Prelude.{ℕ, ◌+◌, ◌*◌, ◌^◌, ◌≤◌, ◌<◌, Result}
use lib.{ListN.length, ListN.get_or}
use Rattle.file_refusals.specs.Listing.{list_after}
use Rattle.network.specs.declared.header.{Header.Header}
use Rattle.network.specs.{Limits.most_period}
use Rattle.network.specs.{Network.Network}
use Rattle.network.specs.Valid.{ValidFile}
use Rattle.file_refusals.specs.declared.Refusal.{Refusal}
use Rattle.day_arrivals.specs.Sheet.{day_arrivals, listed}

-- BEFORE THE WORK: what the call has shown where nothing is refused
pub record Asked (h : Header) (from to work list : ℕ) : Type 0 where
  pub from_node : from < h.nodes
  pub to_node : to < h.nodes
  pub work_long : h.nodes * h.period ≤ work
  pub list_long : h.period ≤ list

pub record Begun (network : List ℕ) (h : Header) (from to work list : ℕ) : Type 0 where
  pub valid : ValidFile network h
  pub asks : Asked h from to work list

-- THE ROW of a node, which starts at place p, as arrivals: the tick and the travel
unfoldable pub arrival_in : List ℕ → ℕ → ℕ → ℕ
arrival_in W p t = t + get_or W (p + t) 0

-- each of them is a number of 32 bits
pub record EarlyRow (period p : ℕ) (W : List ℕ) : Type 0 where
  pub few : period ≤ most_period
  pub fits : p + period ≤ length W
  pub early : (t : ℕ) → t < period → t + get_or W (p + t) 0 < 2 ^ 32

-- the answer with the list that it leaves
pub record Lists (n : Network) (from to : ℕ) (list₀ list₁ : List ℕ) (r : Result ℕ Refusal) : Type 0 where
  pub answer : r ≡ listed n from to
  pub list : list₁ ≡ list_after r (day_arrivals n from to) list₀
