-- The nearest of the options is an option.
use Rattle.std.proofs.Common.{◌≡◌, ◌&&◌, Bool, true, false, List, [], ◌∷◌, ◌++◌, Option, Some, None, Result, Ok, Err, refl, subst}
use Rattle.std.specs.Prelude.{IfOk, IfSome, IsTrue, option_map}
use Rattle.std.specs.List.{list_all}
use Rattle.std.specs.declared.alloc.AllocError.{AllocError}
use denote.Ref.{Bor}
use Rattle.timefd_parse.specs.Tree.{Text}
use Rattle.timefd_lint_diagnosis.specs.Nearest.{IsNearest}
use Rattle.timefd_lint_options.specs.Suggestions.{long_names}
use Rattle.timefd_lint_options.specs.Words.{is_option}

first_of : (a b : Bool) → (a && b) ≡ true → a ≡ true
first_of true b both = refl
first_of false b both = both

second_of : (a b : Bool) → (a && b) ≡ true → b ≡ true
second_of true b both = both
second_of false true both = refl
second_of false false both = both

between : (front back : List Text) (w : Text) → list_all is_option (front ++ w ∷ back) ≡ true
    → is_option w ≡ true
between [] back w all = first_of (is_option w) (list_all is_option back) all
between (x ∷ front) back w all =
    between front back w (second_of (is_option x) (list_all is_option (front ++ w ∷ back)) all)

all_options : list_all is_option long_names ≡ true
all_options = refl

is_named : (word : Text) (found : Option (Bor Text))
    → IsNearest long_names word (option_map (λ w. w.now) found)
    → IfSome found (λ w. IsTrue (is_option w.now))
is_named word None nearest = tt
is_named word (Some w) nearest =
    between nearest.1.front nearest.1.back w.now
    (subst (λ ws. list_all is_option ws ≡ true) nearest.1.split all_options)

pub option_named : (words : List Text) (word : Text) (r : Result (Option (Bor Text)) AllocError)
    → words ≡ long_names
    → IfOk r (λ found. IsNearest words word (option_map (λ w. w.now) found))
    → IfOk r (λ found. IfSome found (λ w. IsTrue (is_option w.now)))
option_named words word (Ok found) same nearest =
    is_named word found (subst (λ ws. IsNearest ws word (option_map (λ w. w.now) found)) same nearest)
option_named words word (Err e) same nearest = tt
