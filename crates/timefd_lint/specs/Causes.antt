-- Why a run ends before its last text.
use Rattle.std.specs.Prelude.{◌≡◌, Bool, IsTrue}
use Rattle.timefd_lint.specs.declared.line.LintError.{LintError}
use Rattle.timefd_lint.specs.declared.line.LintError.TheVariants.{Write}

-- A write is said to have failed only if the sink has failed.
abbrev pub IsCausedBy : Bool → LintError → Type 0
IsCausedBy has_failed error = error ≡ Write → IsTrue has_failed
