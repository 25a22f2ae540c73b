-- How a returned text relates to what was to be written.
use Rattle.std.specs.Prelude.{ℕ, ◌≡◌, Result, Ok, Err, ⊤, string_bytes}
use Rattle.std.specs.declared.string.String.{String}
use Rattle.std.specs.declared.vec.Vec.{Vec}
use Rattle.std.specs.declared.alloc.Global.{Global}
use Rattle.timefd_lang_component.specs.Tree.{Text}
use Rattle.timefd_date_format.specs.declared.text.TextError.{TextError}
use Rattle.timefd_date_format.specs.declared.text.TextError.TheVariants as fails
use Rattle.timefd_date_format.specs.declared.field.Unshown.{Unshown}

-- Either the text is returned, or the first component that shows nothing, or memory ran out.
abbrev pub IsAnswer : Result Text Unshown → Result (String Global) TextError → Type 0
IsAnswer (Ok text) (Ok answer) = string_bytes answer ≡ text
IsAnswer (Ok text) (Err (fails.Unshown u)) = ⊥
IsAnswer (Ok text) (Err (fails.Memory e)) = ⊤
IsAnswer (Err v) (Ok answer) = ⊥
IsAnswer (Err v) (Err (fails.Unshown u)) = u ≡ v
IsAnswer (Err v) (Err (fails.Memory e)) = ⊤

-- `IsAnswer` for a text of bytes.
abbrev pub AreBytes : Result Text Unshown → Result (Vec ℕ Global) TextError → Type 0
AreBytes (Ok text) (Ok answer) = answer.items ≡ text
AreBytes (Ok text) (Err (fails.Unshown u)) = ⊥
AreBytes (Ok text) (Err (fails.Memory e)) = ⊤
AreBytes (Err v) (Ok answer) = ⊥
AreBytes (Err v) (Err (fails.Unshown u)) = u ≡ v
AreBytes (Err v) (Err (fails.Memory e)) = ⊤
