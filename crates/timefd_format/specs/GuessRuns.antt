-- How a run ends that looks for a description.
use Rattle.std.specs.Prelude.{◌≡◌, ◌≢◌, ◌⊎◌, ◌++◌, Bool, true, false, List, [], ◌∷◌, map, Option, None, Some, IsTrue, IsUtf8, ⊤}
use Rattle.std.specs.Io.KnownBytes.{Keeps}
use Rattle.timefd_lang_component.specs.Tree.{Text}
use Rattle.timefd_lint_rewrite.specs.Lines.{AreLinesOf, without_newline}
use Rattle.timefd_format.specs.declared.guess_run.GuessEnd.{GuessEnd}
use Rattle.timefd_format.specs.declared.guess_run.GuessEnd.TheVariants as ends
use Rattle.timefd_format.specs.Guessed.{WritesGuesses}

-- What is written of some texts. Nothing is known of a run that memory or the output ends.
abbrev pub GuessesOver : List Text → Option Text → Option Text → GuessEnd → Type 0
GuessesOver texts before after ends.Found = (texts ≢ []) × WritesGuesses texts before after true
GuessesOver texts before after ends.NotFound = (texts ≢ []) × WritesGuesses texts before after false
GuessesOver texts before after ends.NoText = (texts ≡ []) × (after ≡ before)
GuessesOver texts before after ends.NotText = ⊥
GuessesOver texts before after ends.Memory = ⊤
GuessesOver texts before after ends.Read = ⊥
GuessesOver texts before after ends.Write = ⊤

-- A run ends with a failed read or write only if the input or the output has failed.
abbrev pub FailsOnlyIf : Bool → Bool → GuessEnd → Type 0
FailsOnlyIf input_failed output_failed ends.Found = ⊤
FailsOnlyIf input_failed output_failed ends.NotFound = ⊤
FailsOnlyIf input_failed output_failed ends.NoText = ⊤
FailsOnlyIf input_failed output_failed ends.NotText = ⊤
FailsOnlyIf input_failed output_failed ends.Memory = ⊤
FailsOnlyIf input_failed output_failed ends.Read = IsTrue input_failed
FailsOnlyIf input_failed output_failed ends.Write = IsTrue output_failed

-- The texts are all lines of the input, each without its newline.
abbrev pub AreTextsOf : Option Text → List Text → Type 0
AreTextsOf bytes texts =
    (lines : List Text) × AreLinesOf bytes lines false × (texts ≡ map without_newline lines)

-- A line isn't UTF-8, or memory ran out.
abbrev pub IsLineEnd : Text → GuessEnd → Type 0
IsLineEnd line ends.Found = ⊥
IsLineEnd line ends.NotFound = ⊥
IsLineEnd line ends.NoText = ⊥
IsLineEnd line ends.NotText = ¬ IsUtf8 (without_newline line)
IsLineEnd line ends.Memory = ⊤
IsLineEnd line ends.Read = ⊥
IsLineEnd line ends.Write = ⊥

-- One of the lines isn't UTF-8, a read failed, or memory ran out.
abbrev pub IsUnreadEnd : Option Text → GuessEnd → Type 0
IsUnreadEnd bytes ends.Found = ⊥
IsUnreadEnd bytes ends.NotFound = ⊥
IsUnreadEnd bytes ends.NoText = ⊥
IsUnreadEnd bytes ends.NotText = (lines : List Text) × (line : Text) × AreLinesOf bytes (lines ++ line ∷ []) true
    × (¬ IsUtf8 (without_newline line))
IsUnreadEnd bytes ends.Memory = ⊤
IsUnreadEnd bytes ends.Read = ⊤
IsUnreadEnd bytes ends.Write = ⊥

-- What was written is passed on.
abbrev pub IsFlushedEnd : Bool → Option Text → Option Text → GuessEnd → Type 0
IsFlushedEnd found before after ends.Found = (found ≡ true) × Keeps before after
IsFlushedEnd found before after ends.NotFound = (found ≡ false) × Keeps before after
IsFlushedEnd found before after ends.NoText = ⊥
IsFlushedEnd found before after ends.NotText = ⊥
IsFlushedEnd found before after ends.Memory = ⊥
IsFlushedEnd found before after ends.Read = ⊥
IsFlushedEnd found before after ends.Write = ⊤

-- The lines of the input are the texts, if all of it can be read; else nothing is written.
abbrev pub IsInputGuess : Option Text → Option Text → Option Text → GuessEnd → Type 0
IsInputGuess input before after end =
    ((texts : List Text) × AreTextsOf input texts × GuessesOver texts before after end)
    ⊎ (IsUnreadEnd input end × (after ≡ before))

abbrev pub IsGuessRun : List Text → Option Text → Option Text → Option Text → GuessEnd → Type 0
IsGuessRun [] input before after end = IsInputGuess input before after end
IsGuessRun (word ∷ words) input before after end = GuessesOver (word ∷ words) before after end
