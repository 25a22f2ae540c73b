-- What is written about texts whose description is looked for.
use Rattle.std.specs.Prelude.{ℕ, ◌≡◌, ◌++◌, Bool, true, false, List, [], ◌∷◌, codes, decimal, length, Option}
use Rattle.std.specs.Io.KnownBytes.{Appends}
use Rattle.timefd_lang_component.specs.Tree.{Text}
use Rattle.timefd_description.specs.Guessing.Candidates.{all_entries}
use Rattle.timefd_description.specs.Guessing.Found.{AreGuesses}
use Rattle.timefd_description.specs.declared.guessing.guessing.Guess.{Guess}

abbrev pub guess_line : Guess → Text
guess_line guess = guess.description.now ++ codes "\n"

-- a line of each description
abbrev pub guess_lines : List Guess → Text
guess_lines [] = []
guess_lines (guess ∷ more) = guess_line guess ++ guess_lines more

abbrev pub is_any : List Guess → Bool
is_any [] = false
is_any (guess ∷ more) = true

-- The descriptions that may be meant are written, one a line, and the result says whether there is
-- one.
abbrev pub WritesGuesses : List Text → Option Text → Option Text → Bool → Type 0
WritesGuesses texts before after found =
    (guesses : List Guess) × AreGuesses all_entries texts guesses
    × Appends before after (guess_lines guesses) × (found ≡ is_any guesses)

-- the message about texts that don't show which number is the day and which is the month
abbrev pub swapped_message : ℕ → ℕ → Text
swapped_message undecided count =
    codes "timefd_format: day and month may be swapped: " ++ (decimal undecided
    ++ (codes " of " ++ (decimal count ++ codes " texts leave it open\n")))
