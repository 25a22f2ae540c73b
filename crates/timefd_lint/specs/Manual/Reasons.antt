-- Why a description stays, in words.
use Rattle.std.specs.Prelude.{codes, ◌++◌, Option, Some, None}
use Rattle.timefd_parse.specs.Tree.{Text}
use Rattle.timefd_lint_scan.specs.declared.description.SourceDescription.{SourceDescription}
use Rattle.timefd_lint_scan.specs.declared.version.VersionPosition.{VersionPosition}
use Rattle.timefd_lint_scan.specs.declared.version.VersionPosition.TheVariants as positions
use Rattle.timefd_lint.specs.declared.manual.call.UnversionedCall.{UnversionedCall}
use Rattle.timefd_lint.specs.Manual.Calls.{call_before, name, numbered}

abbrev pub with_items : Text → Text
with_items version =
    codes "the conversion to version "
    ++ (version ++ codes " takes at most 100 `[optional ..]` and `[first ..]`, and no U+0001 beside them")

-- a call with a number for the version
abbrev pub numbered_call : Text → Text → Text → Text
numbered_call version name new =
    name ++ (codes "::<" ++ (version ++ (codes ">(" ++ (new ++ codes ")"))))

abbrev pub said_by : Text → Text → Text
said_by name call =
    codes "`" ++ (name ++ (codes "` has no number for the version; `" ++ (call ++ codes "` means the same")))

-- the call of a name, and the one that takes a number
abbrev pub said_by_call : Text → Text → Text → Text → Text
said_by_call version name numbered new = said_by name (numbered_call version numbered new)

-- the call, and the one that takes a number; or that the call has none
abbrev pub at_call : Text → Option UnversionedCall → Text → Text
at_call version None new =
    codes "its call has no number for the version; in version " ++ (version ++ (codes " it is `" ++ (new ++ codes "`")))
at_call version (Some call) new = said_by_call version (name call) (numbered call) new

abbrev pub by_comment : Text → Text → Text
by_comment version new =
    codes "a comment says the version; in version " ++ (version ++ (codes " it is `" ++ (new ++ codes "`")))

abbrev pub in_another_literal : Text → Text → Text
in_another_literal version new = codes "in version " ++ (version ++ (codes " it is `"
    ++ (new ++ codes "`, which has other lines or needs another literal")))

abbrev pub reason_by : Text → Text → SourceDescription → VersionPosition → Text → Text
reason_by version source d (positions.Digit at) new = in_another_literal version new
reason_by version source d positions.Unsaid new = in_another_literal version new
reason_by version source d positions.Call new = at_call version (call_before source d.piece.start) new
reason_by version source d positions.Elsewhere new = by_comment version new

-- The reason goes by where the version is said.
abbrev pub reason : Text → Text → SourceDescription → Text → Text
reason version source d new = reason_by version source d d.version new
