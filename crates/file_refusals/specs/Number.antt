-- The number of each cause of a refusal, as document 01 gives it.
use Rattle.std.specs.Prelude.{ℕ}
use Rattle.file_refusals.specs.declared.reason.Reason.{Reason}
use Rattle.file_refusals.specs.declared.reason.Reason.TheVariants.{NetworkLength, NetworkSum, NetworkFirst}
use Rattle.file_refusals.specs.declared.reason.Reason.TheVariants.{NetworkLimits, NetworkSize, NetworkForm}
use Rattle.file_refusals.specs.declared.reason.Reason.TheVariants.{NetworkCell, NetworkRoad, NetworkPoint}
use Rattle.file_refusals.specs.declared.reason.Reason.TheVariants.{NetworkFifo, NetworkHours, PlanLength}
use Rattle.file_refusals.specs.declared.reason.Reason.TheVariants.{PlanSum, PlanFirst, PlanOther, PlanSize}
use Rattle.file_refusals.specs.declared.reason.Reason.TheVariants.{PlanForm, PlanFlag, PlanCount, PlanTick}
use Rattle.file_refusals.specs.declared.reason.Reason.TheVariants.{CheckInside, CheckBorder, CheckLess}
use Rattle.file_refusals.specs.declared.reason.Reason.TheVariants.{CheckNoRoad, CheckNoFlag, Place, Departure}
use Rattle.file_refusals.specs.declared.reason.Reason.TheVariants.{ArrivalsShort, NoWay, RoadsShort}
use Rattle.file_refusals.specs.declared.reason.Reason.TheVariants.{TableShort, AnswerShort, PlanPoints}
use Rattle.file_refusals.specs.declared.reason.Reason.TheVariants.{WorkShort, TextForm, TextValue}

abbrev pub number_of : Reason → ℕ
number_of NetworkLength = 1
number_of NetworkSum = 2
number_of NetworkFirst = 3
number_of NetworkLimits = 4
number_of NetworkSize = 5
number_of NetworkForm = 6
number_of NetworkCell = 7
number_of NetworkRoad = 8
number_of NetworkPoint = 9
number_of NetworkFifo = 10
number_of NetworkHours = 37
number_of PlanLength = 11
number_of PlanSum = 12
number_of PlanFirst = 13
number_of PlanOther = 14
number_of PlanSize = 15
number_of PlanForm = 16
number_of PlanFlag = 17
number_of PlanCount = 18
number_of PlanTick = 19
number_of CheckInside = 20
number_of CheckBorder = 21
number_of CheckLess = 22
number_of CheckNoRoad = 23
number_of CheckNoFlag = 24
number_of Place = 25
number_of Departure = 26
number_of ArrivalsShort = 27
number_of NoWay = 28
number_of RoadsShort = 29
number_of TableShort = 30
number_of AnswerShort = 31
number_of PlanPoints = 33
number_of WorkShort = 34
number_of TextForm = 35
number_of TextValue = 36
