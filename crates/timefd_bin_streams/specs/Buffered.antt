-- Why a buffered source isn't read.
use Rattle.std.specs.Prelude.{Bool, true, false, IsTrue, None, Some, Option, ⊤}
use Rattle.timefd_bin_streams.specs.declared.buffered.BufferedError.{BufferedError}
use Rattle.timefd_bin_streams.specs.declared.buffered.BufferedError.TheVariants.{Memory, Failed}
use Rattle.timefd_bin_streams.specs.declared.condition.Condition.{Condition}

-- An error says that the source has failed only if it has.
abbrev pub FailsOnlyIf : Bool → BufferedError → Type 0
FailsOnlyIf failed Memory = ⊤
FailsOnlyIf failed (Failed kind) = IsTrue failed

abbrev pub is_known : {A : Type 0} → Option A → Bool
is_known None = false
is_known (Some x) = true

abbrev pub has_failed : Condition → Bool
has_failed condition = is_known condition.failure
