-- Refusals: what each reason has to do with, and its number.
use Rattle.std.specs.Prelude.{◌≡◌, ℕ}
use Rattle.std.specs.Arc.{arc_value}
use Rattle.foyer_policy.specs.declared.error.Fault.{Fault}
use Rattle.foyer_policy.specs.declared.error.ErrorKind.{ErrorKind}
use Rattle.foyer_policy.specs.declared.error.ErrorKind.TheVariants.{Config, Memory, Limit, External, ChannelClosed as ClosedChannel, TaskCancelled as CancelledTask}
use Rattle.foyer_policy.specs.declared.error.Reason.{Reason}
use Rattle.foyer_policy.specs.declared.error.Reason.TheVariants.{NoShards, ZeroDenominator, RatioRange, RatioSum, NoRows, NoBuckets, NoMemory, Weight, Handles, Ids, Fetch, WrongKey, NoValue, ChannelClosed, TaskCancelled, Spent, WrongPolicy}

-- what a reason has to do with
abbrev pub kind_of : Reason → ErrorKind
kind_of NoShards = Config
kind_of ZeroDenominator = Config
kind_of (RatioRange _) = Config
kind_of RatioSum = Config
kind_of NoRows = Config
kind_of NoBuckets = Config
kind_of NoMemory = Memory
kind_of Weight = Limit
kind_of Handles = Limit
kind_of Ids = Limit
kind_of (Fetch _) = External
kind_of WrongKey = External
kind_of NoValue = External
kind_of ChannelClosed = ClosedChannel
kind_of TaskCancelled = CancelledTask
kind_of Spent = External
kind_of WrongPolicy = Config

-- the number of a refusal: 7 for F7
abbrev pub number_of : Reason → ℕ
number_of NoShards = 1
number_of ZeroDenominator = 2
number_of (RatioRange _) = 3
number_of RatioSum = 4
number_of NoRows = 5
number_of NoBuckets = 6
number_of NoMemory = 7
number_of Weight = 8
number_of Handles = 9
number_of Ids = 10
number_of (Fetch _) = 11
number_of WrongKey = 12
number_of NoValue = 13
number_of ChannelClosed = 14
number_of TaskCancelled = 15
number_of Spent = 16
number_of WrongPolicy = 17

-- the same reason, and for a fetch a fault with the same content
abbrev pub SameReason : Reason → Reason → Type 0
SameReason (Fetch fault) copy = IsFetchOf (arc_value fault) copy where
  IsFetchOf : Fault → Reason → Type 0
  IsFetchOf content (Fetch other) = arc_value other ≡ content
  IsFetchOf content _ = ⊥
SameReason reason copy = copy ≡ reason

-- a reason that holds nothing shared
abbrev pub HasNoFault : Reason → Type 0
HasNoFault (Fetch _) = ⊥
HasNoFault _ = Unit {0}
