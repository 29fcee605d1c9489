-- Plan files: what a plan is (Border, Plan), where it stands in a file (PlanHeader, PlanLayout, PlanDecode,
-- PlanWalk), its rules and validation (PlanRules, PlanValidate, PlanValid), their numbers (Numbers), and
-- the laws for the code.
pub mod Border
pub mod Borders
pub mod Plan
pub mod Word
pub mod PlanLimits
pub mod PlanHeader
pub mod PlanLayout
pub mod Marks
pub mod PlanDecode
pub mod PlanWalk
pub mod PlanRules
pub mod PlanValidate
pub mod PlanMatch
pub mod WellFormed
pub mod PlanValid
pub mod Numbers
