-- What a writer has received, compared with what was to be written.
use Rattle.std.specs.Prelude.{◌≡◌, List, ℕ, Option, Result, Ok, Err, ⊤}
use Rattle.std.specs.Io.KnownBytes.{Appends, Keeps}
use Rattle.timefd_lang_component.specs.Tree.{Text}
use Rattle.timefd_date_format.specs.declared.field.Unshown.{Unshown}
use Rattle.timefd_date_format.specs.declared.output.OutputError.{OutputError}
use Rattle.timefd_date_format.specs.declared.output.OutputError.TheVariants as fails

-- The text is appended, or nothing is: because a component shows nothing, or memory ran out. An error of the
-- writer itself leaves open how much it took.
abbrev pub IsSent : Result Text Unshown → Option (List ℕ) → Option (List ℕ)
    → Result (Unit {0}) OutputError → Type 0
IsSent (Ok text) old new (Ok done) = Appends old new text
IsSent (Err v) old new (Ok done) = ⊥
IsSent (Ok text) old new (Err (fails.Unshown u)) = ⊥
IsSent (Err v) old new (Err (fails.Unshown u)) = (u ≡ v) × Keeps old new
IsSent (Ok text) old new (Err (fails.Memory e)) = Keeps old new
IsSent (Err v) old new (Err (fails.Memory e)) = Keeps old new
IsSent (Ok text) old new (Err (fails.Io e)) = ⊤
IsSent (Err v) old new (Err (fails.Io e)) = ⊥
