-- The plan that is made of a network is accepted: every file that is formed as a plan file for the network
-- and decodes to it (`made_accepted`), and so its own (`file_accepted`).
use mathlib.Core.{Path.◌≡◌, List.List}
use Rattle.std.specs.Prelude.{ℕ, ◌≤◌, Ok}
use native.Mathlib.{Nat.mul-le-mul, Omega.arith}
use Rattle.theory_paths.specs.Least.{Modest}
use Rattle.network.specs.declared.header.Header.{Header}
use Rattle.network.specs.{Limits.most_period, Limits.most_nodes, Decode.decode, Valid.ValidFile}
use Rattle.network.specs.Town.{graph_of, partition_of, town_lawful, town_bounded}
use Rattle.plan.specs.declared.header.PlanHeader.{PlanHeader}
use Rattle.plan.specs.{PlanDecode.decode_plan, PlanDecode.point_total, PlanMatch.valid_headed}
use Rattle.plan.specs.{PlanValid.ValidPlan, PlanLimits.most_profile_points}
use Rattle.plan_check.specs.CheckPlan.{checking, accepts_exactly}
use Rattle.file_fields.specs.Fields.{Bytes}
use Rattle.plan_made.specs.Made.{plan_of, made_true, made_enough}
use Rattle.plan_made.specs.File.{made_plan, made_file, made_decodes, made_valid}

-- what the theory of least travels asks of a graph holds of every network that opens
pub valid_modest : {network : List ℕ} {h : Header} → ValidFile network h → Modest (graph_of (decode network))
valid_modest {network} {h} v =
    let d = valid_headed v in
    let n : (graph_of (decode network)).nodes ≤ most_nodes =
    omega (arith, d.nodes_are, v.within.nodes_most) in
    let p : (graph_of (decode network)).period ≤ most_period =
    omega (arith, d.period, v.within.period_most) in
    record {
      lawful = town_lawful v.sound (omega (arith, d.period, v.within.period_some));
      bounded = town_bounded v.sound;
      early = omega (arith, mul-le-mul n p);
    }

pub made_accepted : {network plan : List ℕ} {h : Header} {k : PlanHeader} → ValidFile network h
    → ValidPlan h (decode network) plan k
    → decode_plan plan ≡ plan_of (decode network).cells (partition_of (decode network))
    → checking network plan ≡ Ok tt
made_accepted {network} v w e =
    let n = decode network in
    let G = partition_of n in
    let m = valid_modest v in
    (accepts_exactly v w).1
    (rw e (made_true n.cells G m), rw e (made_enough n.cells G m v.sound.cells_below))

-- the file that is made
pub file_accepted : {network : List ℕ} {h : Header} → ValidFile network h → Bytes network
    → point_total (made_plan (decode network)) ≤ most_profile_points
    → checking network (made_file (decode network)) ≡ Ok tt
file_accepted v b few =
    let m = valid_modest v in
    made_accepted v (made_valid v m b few) (made_decodes v m b few)
