-- What is written over the front of a buffer.
use Rattle.std.specs.Prelude.{ℕ, ◌≡◌, ◌<◌, ◌++◌, length, drop, Result, Ok, Err}
use Rattle.timefd_lang_component.specs.Tree.{Text}
use Rattle.timefd_lang_node_list.specs.Nodes.{kept_bytes}
use Rattle.timefd_date_format.specs.declared.field.Unshown.{Unshown}
use Rattle.timefd_date_format.specs.declared.write.FormatError.{FormatError}
use Rattle.timefd_date_format.specs.declared.write.FormatError.TheVariants as fails

-- On success the text is the front of the buffer, its length is returned, and what follows it is as it was.
-- An error reports too little room, or the first component that shows nothing; then the whole buffer is as it
-- was.
abbrev pub IsFront : Result Text Unshown → Text → Text → Result ℕ FormatError → Type 0
IsFront (Ok text) old new (Ok len) = (len ≡ length text) × (new ≡ text ++ drop (length text) old)
IsFront (Ok text) old new (Err fails.Room) = (length old < length text) × (new ≡ old)
IsFront (Ok text) old new (Err (fails.Unshown u)) = ⊥
IsFront (Err v) old new (Ok len) = ⊥
IsFront (Err v) old new (Err fails.Room) = ⊥
IsFront (Err v) old new (Err (fails.Unshown u)) = (u ≡ v) × (new ≡ old)

-- The length of what is to be written, at most the greatest `usize`, or the component that shows nothing.
abbrev pub IsLen : Result Text Unshown → Result ℕ Unshown → Type 0
IsLen (Ok text) (Ok len) = len ≡ kept_bytes (length text)
IsLen (Ok text) (Err u) = ⊥
IsLen (Err v) (Ok len) = ⊥
IsLen (Err v) (Err u) = u ≡ v
