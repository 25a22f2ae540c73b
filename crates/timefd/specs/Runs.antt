-- What a run does to its reader and its writer.
use Rattle.std.specs.Prelude.{Option, ⊤}
use Rattle.std.specs.Io.KnownBytes.{Appends}
use Rattle.timefd_bin_streams.specs.Transfers.{ReadsAll}
use Rattle.timefd_parse.specs.Tree.{Text}
use Rattle.timefd.specs.declared.end.RunEnd.{RunEnd}
use Rattle.timefd.specs.declared.end.RunEnd.TheVariants.{Accepted, Refused, Memory, ReadFailed, WriteFailed, NotUtf8}

-- The reader is read to its end, and this holds for its bytes.
abbrev pub EndsAt : (Text → Type 0) → Option Text → Option Text → Type 0
EndsAt IsSo left_before left_after = (bytes : Text) × ReadsAll left_before left_after bytes
    × IsSo bytes

-- The reader is read to its end, and what is written is one line about all its bytes.
abbrev pub Answers : (Text → Text → Type 0) → Option Text → Option Text → Option Text → Option Text
    → Type 0
Answers IsLine left_before left_after written_before written_after =
    (bytes : Text) × (line : Text)
    × ReadsAll left_before left_after bytes × IsLine bytes line
    × Appends written_before written_after line

-- This end says that the line for the text is written.
abbrev pub IsAnswer : RunEnd → Type 0
IsAnswer Accepted = ⊤
IsAnswer Refused = ⊤
IsAnswer Memory = ⊥
IsAnswer ReadFailed = ⊥
IsAnswer WriteFailed = ⊥
IsAnswer NotUtf8 = ⊥

-- This end says something about all the bytes that were read.
abbrev pub IsOfText : RunEnd → Type 0
IsOfText Accepted = ⊤
IsOfText Refused = ⊤
IsOfText Memory = ⊥
IsOfText ReadFailed = ⊥
IsOfText WriteFailed = ⊥
IsOfText NotUtf8 = ⊤

-- This end says that nothing is written.
abbrev pub IsSilent : RunEnd → Type 0
IsSilent Accepted = ⊥
IsSilent Refused = ⊥
IsSilent Memory = ⊤
IsSilent ReadFailed = ⊤
IsSilent WriteFailed = ⊥
IsSilent NotUtf8 = ⊤
