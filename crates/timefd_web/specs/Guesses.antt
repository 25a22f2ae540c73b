-- What is reported about texts whose description is looked for.
use Rattle.std.specs.Prelude.{ℕ, ◌≡◌, ◌++◌, All, List, [], codes, length}
use Rattle.std.specs.Str.Lines.{lines}
use Rattle.timefd_parse.specs.Tree.{Text}
use Rattle.timefd_lint_drawing.specs.Json.{text_field, number_field}
use Rattle.timefd_description.specs.Guessing.Candidates.{all_entries}
use Rattle.timefd_description.specs.Guessing.Found.{AreGuesses, ReadsBack}
use Rattle.timefd_description.specs.declared.guessing.guessing.Guess.{Guess}
use Rattle.timefd_web.specs.Records.{listed}

-- a description, and how many of the texts don't show which number is the day and which is the month
abbrev pub guess_object : Guess → Text
guess_object g =
    [] ++ text_field (codes "{\"description\":") g.description.now
    ++ number_field (codes ",\"undecided\":") g.undecided ++ codes "}"

-- the descriptions, and how many texts there are
abbrev pub guesses_object : List Guess → ℕ → Text
guesses_object found count =
    [] ++ (codes "{\"guesses\":" ++ listed guess_object found)
    ++ number_field (codes ",\"texts\":") count ++ codes "}"

-- The object lists the descriptions that the lines of the text may be written by, likeliest first. Each
-- of them reads each line and writes it back.
pub record Guessed (text object : Text) : Type 0 where
  pub found : List Guess
  pub are_guesses : AreGuesses all_entries (lines text) found
  pub reads : All (ReadsBack (lines text)) found
  pub said : object ≡ guesses_object found (length (lines text))
