-- What is written in front of what is already written.
use Rattle.std.specs.Prelude.{ℕ, ◌≡◌, ◌≤◌, Some, None, Option, Result, Ok, Err, ⊤}
use Rattle.timefd_lang_component.specs.Tree.{Text}
use Rattle.timefd_date_format.specs.declared.cursor.WriteCursor.{WriteCursor}
use Rattle.timefd_date_format.specs.declared.cursor.WriteCursor.TheVariants as cursor
use Rattle.timefd_date_format.specs.declared.field.Unshown.{Unshown}
use Rattle.timefd_date_format.specs.Puts.{Puts}

-- The position is in a buffer of this size.
abbrev pub IsIn : ℕ → WriteCursor → Type 0
IsIn size (cursor.At at) = at ≤ size
IsIn size cursor.NoRoom = ⊤
IsIn size (cursor.Unshown u) = ⊤

-- The text is put in front of the position. If there was no room, or something that follows shows nothing,
-- that stays so.
abbrev pub PutsOn : Text → Text → WriteCursor → Text → WriteCursor → Type 0
PutsOn text old (cursor.At end) new (cursor.At at) = Puts text old end new (Some at)
PutsOn text old (cursor.At end) new cursor.NoRoom = Puts text old end new None
PutsOn text old (cursor.At end) new (cursor.Unshown u) = ⊥
PutsOn text old cursor.NoRoom new next = next ≡ cursor.NoRoom
PutsOn text old (cursor.Unshown u) new next = next ≡ cursor.Unshown u

-- What is to be written is put there, or the component that shows nothing is reported.
abbrev pub Writes : Result Text Unshown → Text → WriteCursor → Text → WriteCursor → Type 0
Writes (Ok text) old end new next = PutsOn text old end new next
Writes (Err u) old end new next = next ≡ cursor.Unshown u

-- What is to be written is put there. Nothing is put if the component shows nothing or there is no room.
abbrev pub PutsShown : Result Text Unshown → Text → ℕ → Text → Option ℕ → Type 0
PutsShown (Ok text) old end new at = Puts text old end new at
PutsShown (Err u) old end new at = at ≡ None

-- A component that is left out is reported if it shows nothing. Else there was no room for it, or something
-- that follows shows nothing.
abbrev pub IsLeftOut : Result Text Unshown → WriteCursor → WriteCursor → Type 0
IsLeftOut (Err u) p next = next ≡ cursor.Unshown u
IsLeftOut (Ok text) (cursor.Unshown u) next = next ≡ cursor.Unshown u
IsLeftOut (Ok text) (cursor.At end) next = next ≡ cursor.NoRoom
IsLeftOut (Ok text) cursor.NoRoom next = next ≡ cursor.NoRoom

-- Nothing more is put in front of the position.
abbrev pub IsNotAt : WriteCursor → Type 0
IsNotAt (cursor.At end) = ⊥
IsNotAt cursor.NoRoom = ⊤
IsNotAt (cursor.Unshown u) = ⊤
