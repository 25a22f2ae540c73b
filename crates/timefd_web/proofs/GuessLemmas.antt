-- From the lines of a text and their descriptions to what is reported about them.
use Rattle.std.proofs.Common.{ℕ, suc, ◌≡◌, ◌∙◌, All, List, [], ◌∷◌, Result, IfOk, ap, length, map, refl, subst}
use denote.Ref.{Bor}
use Rattle.std.proofs.lemmas.Result.{IfOk-weaker}
use Rattle.std.specs.declared.alloc.AllocError.{AllocError}
use Rattle.std.specs.declared.alloc.Global.{Global}
use Rattle.std.specs.declared.vec.Vec.{Vec}
use Rattle.std.specs.Str.Lines.{lines}
use Rattle.timefd_parse.specs.Tree.{Text}
use Rattle.timefd_description.specs.Guessing.Candidates.{all_entries}
use Rattle.timefd_description.specs.Guessing.Found.{AreGuesses, ReadsBack, texts}
use Rattle.timefd_description.specs.declared.guessing.guessing.Guess.{Guess}
use Rattle.timefd_web.specs.Guesses.{Guessed, guesses_object}

texts_map : (all : List (Bor Text)) → texts all ≡ map (λ text. text.now) all
texts_map [] = refl
texts_map (text ∷ more) = ap (λ rest. text.now ∷ rest) (texts_map more)

texts_length : (all : List (Bor Text)) → length all ≡ length (texts all)
texts_length [] = refl
texts_length (text ∷ more) = ap (λ n. suc n) (texts_length more)

-- Lines that are collected are those of the text.
pub all_collected : {E : Type 0} → (r : Result (Vec (Bor Text) Global) E) (text : Text)
    → IfOk r (λ all. map (λ line. line.now) all.items ≡ lines text)
    → IfOk r (λ all. texts all.items ≡ lines text)
all_collected r text is = IfOk-weaker r _ _ (λ all are. texts_map all.items ∙ are) is

pub guessed : (text : Text) (all borrowed : List (Bor Text)) (found given : List Guess) (count : ℕ)
    (r : Result (Vec ℕ Global) AllocError) → texts all ≡ lines text → borrowed ≡ all
    → AreGuesses all_entries (texts borrowed) found → All (ReadsBack (texts borrowed)) found
    → given ≡ found → count ≡ length all
    → IfOk r (λ object. object.items ≡ guesses_object given count)
    → IfOk r (λ object. Guessed text object.items)
guessed text all borrowed found given count r are same first reads given_is counted is =
    let lines_are : texts borrowed ≡ lines text = ap texts same ∙ are in
    IfOk-weaker r _ _ (λ object said. record {
      found = found;
      are_guesses = subst (λ list. AreGuesses all_entries list found) lines_are first;
      reads = subst (λ list. All (ReadsBack list) found) lines_are reads;
      said = said ∙ (ap (λ g. guesses_object g count) given_is
          ∙ ap (guesses_object found) (counted ∙ (texts_length all ∙ ap length are)));
    }) is
