-- Lines of descriptions, one more after others.
use Rattle.std.proofs.Common.{◌≡◌, Bool, List, [], ◌∷◌, ◌++◌, Option, codes, sym, ap, subst, ◌∙◌, append_assoc, append-nil}
use Rattle.std.specs.Io.KnownBytes.{Appends}
use Rattle.timefd_lang_component.specs.Tree.{Text}
use Rattle.timefd_description.specs.declared.guessing.guessing.Guess.{Guess}
use Rattle.timefd_description.specs.Guessing.Candidates.{all_entries}
use Rattle.timefd_description.specs.Guessing.Found.{AreGuesses}
use Rattle.timefd_format.specs.Guessed.{WritesGuesses, guess_lines, is_any}

pub writes : (texts : List Text) (before after : Option Text) (lines : Text)
    (guesses : List Guess) (found : Bool) → AreGuesses all_entries texts guesses
    → lines ≡ guess_lines guesses → Appends before after lines → found ≡ is_any guesses
    → WritesGuesses texts before after found
writes texts before after lines guesses found are is appended any =
    (guesses, are, subst (Appends before after) is appended, any)

pub line_more : (old between new : Text) (rest after : List Guess) (guess : Guess) (all : Text)
    → between ≡ old ++ guess.description.now → new ≡ between ++ codes "\n" → rest ≡ guess ∷ after
    → old ++ guess_lines rest ≡ all → new ++ guess_lines after ≡ all
line_more old between new rest after guess all first second split so_far =
    ap (λ x. x ++ guess_lines after) (second ∙ ap (λ x. x ++ codes "\n") first)
    ∙ append_assoc (old ++ guess.description.now) (codes "\n") (guess_lines after)
    ∙ append_assoc old guess.description.now (codes "\n" ++ guess_lines after)
    ∙ ap (λ x. old ++ x) (sym (append_assoc guess.description.now (codes "\n") (guess_lines after)))
    ∙ ap (λ r. old ++ guess_lines r) (sym split) ∙ so_far

pub lines_done : (lines : Text) (rest : List Guess) (all : Text) → rest ≡ []
    → lines ++ guess_lines rest ≡ all → lines ≡ all
lines_done lines rest all none so_far =
    sym (append-nil lines) ∙ ap (λ r. lines ++ guess_lines r) (sym none) ∙ so_far
