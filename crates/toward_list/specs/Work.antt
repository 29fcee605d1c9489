-- The lent work list as a whole: how many entries the least travels of a network take (`work_size`), and how
-- an operation leaves the list that it has worked in (`cleared`).
use mathlib.Core.{Path.◌≡◌, Path.◌∙◌, List.List, List.◌++◌}
use Rattle.std.specs.Prelude.{ℕ, ◌*◌, ◌≤◌}
use Rattle.std.proofs.Common.{arith}
use lib.{ListN.length, ListN.take, ListN.drop, ListN.length-append, Seq.drop_at, Seq.length-take-le}
use Rattle.theory_loops.specs.Fill.{Filled, tab, length_tab, overwritten, filled_list}
use Rattle.network.specs.declared.header.{Header.Header, Layout.Layout}
use Rattle.network.specs.{Network.Network, Network.nodes, Network.start, Layout.layout_of, Decode.decode}
use Rattle.network.specs.Valid.{ValidFile}
use Rattle.network.proofs.Valid.{valid_laid}
use Rattle.search_chains.specs.Town.{Town, town_of}
use Rattle.toward_row.specs.Arcs.{Primed}

-- the entries of a work list: one for each node and tick
abbrev pub work_size : Network → ℕ
work_size n = nodes n * n.period

-- a work list that has served: these entries are zero, and the others as they were
abbrev pub cleared : Network → List ℕ → List ℕ
cleared n old = overwritten (tab (work_size n) (λ _. 0)) old

-- FOR CODE that has lent the first entries, which are back as ys, and has made them zero then
pub work_cleared : (n : Network) (work ys : List ℕ) {size : ℕ} {mid new : List ℕ} → size ≡ work_size n
    → size ≤ length work → length ys ≡ length (take size work) → mid ≡ ys ++ drop size work
    → Filled 0 size (λ _. 0) mid new → new ≡ cleared n work
work_cleared n work ys {size} {mid} {new} s l z e f =
    let y : length ys ≡ size = z ∙ length-take-le size work l in
    let d : drop size mid ≡ drop size work = rw e (drop_at ys (drop size work) size y) in
    let m : size ≤ length mid = rw e (omega (arith, length-append ys (drop size work))) in
    rw (← s, length_tab size (λ _. 0)) (filled_list (λ _. 0) size mid new m f ∙ rw d)

-- FOR CODE that fills the tables of a valid file
pub valid_town : {file : List ℕ} {h : Header} {l : Layout} → ValidFile file h → l ≡ layout_of h → Town file l
valid_town v e = town_of (rw e (valid_laid v)) v.sound

pub size_is : {file : List ℕ} {h : Header} {l : Layout} → ValidFile file h → l ≡ layout_of h
    → l.nodes * l.period ≡ work_size (decode file)
size_is v e =
    let z = (valid_town v e).sizes in
    rw (z.nodes, z.period)

pub primed_of : {file : List ℕ} {l : Layout} (t : Town file l) {old starts : List ℕ}
    → Filled 0 l.arcs (start (decode file)) old starts → Primed file l starts
primed_of t f = record { town = t; first = λ a h. f.written a (omega arith) h }
