-- What is written of words, one after another.
use Rattle.std.specs.Prelude.{ℕ, ◌≡◌, ◌≤◌, ◌+◌, min, Bool, List, [], ◌∷◌, ◌++◌, codes, drop, length, map, Option, Some, None, Result, Ok, Err, IfSome, IsUtf8, ⊤}
use Rattle.std.specs.Io.KnownBytes.{Appends, IsAtEnd}
use Rattle.std.specs.declared.alloc.Global.{Global}
use Rattle.std.specs.declared.vec.Vec.{Vec}
use Rattle.timefd_lang_component.specs.Tree.{Text, trees}
use Rattle.timefd_lang_component.specs.Reserved.{reserve}
use Rattle.timefd_date_format.specs.declared.text.TextError.{TextError}
use Rattle.timefd_date_format.specs.declared.text.TextError.TheVariants as fails
use Rattle.timefd_date_format.specs.declared.field.Unshown.{Unshown}
use Rattle.timefd_date_format.specs.declared.write.FormatError.{FormatError}
use Rattle.timefd_date_format.specs.declared.write.FormatError.TheVariants as lacks
use Rattle.timefd_date_format.specs.Written.{written, written_all}
use Rattle.timefd_lang_node_list.specs.Item.Meaning.{item_trees}
use Rattle.timefd_parse.specs.Description.{description_tree}
use Rattle.timefd_date_moment.specs.declared.moment.Moment.{Moment}
use Rattle.timefd_parse.specs.declared.parsing.BorrowedOutput.{BorrowedOutput}
use Rattle.timefd_parse.specs.declared.parsing.BorrowedOutput.TheVariants.{Items, Description}
use Rattle.timefd_lint_rewrite.specs.Lines.{AreLinesOf, IsNextLine, without_newline}
use Rattle.timefd_format.specs.declared.frame.LineFrame.{LineFrame}
use Rattle.timefd_format.specs.declared.frame.LineFrame.TheVariants.{Line}
use Rattle.timefd_format.specs.declared.lines.LineRead.{LineRead}
use Rattle.timefd_format.specs.declared.lines.LineRead.TheVariants as reads
use Rattle.timefd_format.specs.declared.otherwise.Otherwise.{Otherwise}
use Rattle.timefd_format.specs.declared.outcome.WordOutcome.{WordOutcome}
use Rattle.timefd_format.specs.declared.outcome.WordOutcome.TheVariants as came
use Rattle.timefd_format.specs.declared.outcome.WordTally.{WordTally}
use Rattle.timefd_format.specs.declared.source.MomentSource.{MomentSource}
use Rattle.timefd_format.specs.Frames.{Replaces, framed}
use Rattle.timefd_format.specs.Sources.{IsMomentIn}
use Rattle.timefd_format.specs.Tallies.{at_end, tally_of, both}

-- The text that a description and a moment determine, or the first component that can't show the
-- moment.
abbrev pub written_of : Moment → BorrowedOutput → Result Text Unshown
written_of m (Items items) = written_all m (trees (item_trees items.items))
written_of m (Description d) = written m (description_tree d)

-- The room ends with that text, from the returned index on.
abbrev pub EndsWith : Result Text Unshown → Text → Result ℕ FormatError → Type 0
EndsWith written room (Ok at) = (at ≤ length room) × (written ≡ Ok (drop at room))
EndsWith written room (Err lacks.Room) = ⊤
EndsWith written room (Err (lacks.Unshown u)) = written ≡ Err u

-- A line is that text and a newline.
abbrev pub IsLineOf : Result Text Unshown → Text → Type 0
IsLineOf (Ok text) line = line ≡ text ++ codes "\n"
IsLineOf (Err u) line = ⊥

-- The room ends with that line, from the returned index on.
abbrev pub EndsWithLine : Result Text Unshown → Text → Result ℕ FormatError → Type 0
EndsWithLine written room (Ok at) = (at ≤ length room) × IsLineOf written (drop at room)
EndsWithLine written room (Err lacks.Room) = ⊤
EndsWithLine written room (Err (lacks.Unshown u)) = written ≡ Err u

-- that text and a newline
abbrev pub IsLine : Result Text Unshown → Result (Vec ℕ Global) TextError → Type 0
IsLine (Ok text) (Ok line) = line.items ≡ text ++ codes "\n"
IsLine (Ok text) (Err (fails.Unshown u)) = ⊥
IsLine (Ok text) (Err (fails.Memory e)) = ⊤
IsLine (Err v) (Ok line) = ⊥
IsLine (Err v) (Err (fails.Unshown u)) = u ≡ v
IsLine (Err v) (Err (fails.Memory e)) = ⊤

-- That text is appended with what is written around it, and no other byte.
abbrev pub AppendsIn : LineFrame → Result Text Unshown → Option Text → Option Text → Type 0
AppendsIn frame (Ok text) before after = Appends before after (framed frame text)
AppendsIn frame (Err u) before after = ⊥

-- That text is appended. Or this component can't show the moment, and nothing is appended.
abbrev pub IsSent : LineFrame → Result Text Unshown → Option Text → Option Text → Option Unshown → Type 0
IsSent frame written before after None = AppendsIn frame written before after
IsSent frame written before after (Some u) = (written ≡ Err u) × (after ≡ before)

-- What the moment of a word becomes, and how that changes what is written.
abbrev pub IsOneOfMoment : Otherwise → LineFrame → Text → Moment → BorrowedOutput → Option Text → Option Text
    → WordOutcome → Type 0
IsOneOfMoment otherwise frame word m o before after (came.Written n) =
    (n ≡ m) × AppendsIn frame (written_of m o) before after
IsOneOfMoment otherwise frame word m o before after (came.Unshown n u) =
    (n ≡ m) × (written_of m o ≡ Err u) × Replaces otherwise frame word before after
IsOneOfMoment otherwise frame word m o before after (came.Unread e) = ⊥
IsOneOfMoment otherwise frame word m o before after came.NotText = ⊥

-- What a word becomes. If it names or shows a moment that the description can show, that is written;
-- otherwise what `--else` asks for.
abbrev pub IsOne : Otherwise → MomentSource → BorrowedOutput → LineFrame → Text → Option Text → Option Text
    → WordOutcome → Type 0
IsOne otherwise source o frame word before after (came.Written m) =
    IsMomentIn source o word (Ok m) × AppendsIn frame (written_of m o) before after
IsOne otherwise source o frame word before after (came.Unshown m u) =
    IsMomentIn source o word (Ok m) × (written_of m o ≡ Err u) × Replaces otherwise frame word before after
IsOne otherwise source o frame word before after (came.Unread e) =
    IsMomentIn source o word (Err e) × Replaces otherwise frame word before after
IsOne otherwise source o frame word before after came.NotText =
    (¬ IsUtf8 word) × Replaces otherwise frame word before after

-- what a word adds to the tally
abbrev pub IsTallyOf : Otherwise → MomentSource → BorrowedOutput → LineFrame → Text → Option Text → Option Text
    → WordTally → Type 0
IsTallyOf otherwise source o frame word before after tally =
    (outcome : WordOutcome) × IsOne otherwise source o frame word before after outcome
    × (tally ≡ tally_of outcome)

-- What the words become, one after another, and what the end after them is: whether a read failed.
abbrev pub Runs : Bool → Otherwise → MomentSource → BorrowedOutput → List Text → Option Text → Option Text
    → WordTally → Type 0
Runs failed otherwise source o [] before after tally = (after ≡ before) × (tally ≡ at_end failed)
Runs failed otherwise source o (word ∷ words) before after tally = (outcome : WordOutcome) × (between : Option Text)
    × (more : WordTally) × IsOne otherwise source o Line word before between outcome
    × Runs failed otherwise source o words between after more × (tally ≡ both (tally_of outcome) more)

-- The words are the lines of a reader: all of them, unless a read failed.
abbrev pub RunsOn : Bool → Otherwise → MomentSource → BorrowedOutput → Option Text → Option Text → Option Text
    → WordTally → Type 0
RunsOn failed otherwise source o bytes before after tally = (lines : List Text)
    × AreLinesOf bytes lines failed
    × Runs failed otherwise source o (map without_newline lines) before after tally

abbrev pub RunsOver : Otherwise → MomentSource → BorrowedOutput → Option Text → Option Text → Option Text
    → WordTally → Type 0
RunsOver otherwise source o bytes before after tally =
    (failed : Bool) × RunsOn failed otherwise source o bytes before after tally

-- What reading one more line does to some bytes. Nothing is known about a reader that has failed.
abbrev pub IsReadMore : Option Text → Option Text → Text → Text → LineRead → Type 0
IsReadMore old new bytes longer reads.Line =
    (line : Text) × (longer ≡ bytes ++ line) × IsNextLine old line new
IsReadMore old new bytes longer reads.End =
    IsAtEnd old × (longer ≡ bytes) × IfSome old (λ xs. new ≡ Some [])
IsReadMore old new bytes longer reads.Failed = ⊤

-- What reading a line does. Nothing is known about a reader that has failed.
abbrev pub IsRead : Option Text → Option Text → Text → LineRead → Type 0
IsRead old new line reads.Line = IsNextLine old line new
IsRead old new line reads.End = IsAtEnd old
IsRead old new line reads.Failed = ⊤

-- How many bytes are reserved for a line: for the longest text of the description and some more, or for most
-- texts.
abbrev pub line_room : BorrowedOutput → ℕ
line_room (Items items) = 256
line_room (Description d) = min (reserve (description_tree d)) 65536 + 64
