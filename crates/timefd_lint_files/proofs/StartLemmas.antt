-- Names without the `./` and the `../` that they begin with.
use Rattle.std.proofs.Common.{◌≡◌, Bool, true, false, [], ◌∷◌, refl, sym, ap, ◌∙◌, if◌then◌else◌}
use Rattle.std.specs.Prelude.{Option, Some, None}
use Rattle.timefd_lint_files.specs.declared.start.NameParts.{NameParts}
use Rattle.timefd_lint_files.specs.Matching.{Text}
use Rattle.timefd_lint_files.specs.Starts.{Begun, begun, is_here, is_up, next, parent, seen, seen_any, start_in}

same : {one other : Begun} → ◌≡◌ {A = Option Begun} (Some one) (Some other) → one ≡ other
same e = cc

again : (one other : Begun) → ◌≡◌ {A = Option Begun} (Some one) (Some other)
    → start_in one.front one.rest ≡ start_in other.front other.rest
again one other e = ap (λ (b : Begun). start_in b.front b.rest) (same e)

-- one more step
on : (front rest : Text) (b : Begun) → next front rest ≡ Some b → start_in front rest ≡ start_in b.front b.rest
on front [] b e = absurd cc
on front (first ∷ []) b e = absurd cc
on front (first ∷ (second ∷ [])) b e = here (is_here first second) e
  where
    here : (is : Bool) → ◌≡◌ {A = Option Begun} (if is then Some (begun front []) else None) (Some b)
        → (if is then begun front [] else begun front (first ∷ second ∷ [])) ≡ start_in b.front b.rest
    here true is = again (begun front []) b is
    here false is = absurd cc
on front (first ∷ (second ∷ (third ∷ rest))) b e =
    here (is_here first second) (is_up front first second third) e
  where
    here : (is up : Bool)
        → ◌≡◌ {A = Option Begun} (if is then Some (begun front (third ∷ rest))
        else if up then Some (begun (parent front) rest) else None) (Some b)
        → (if is then start_in front (third ∷ rest) else if up then start_in (parent front) rest
        else begun front (first ∷ second ∷ third ∷ rest)) ≡ start_in b.front b.rest
    here true up is = again (begun front (third ∷ rest)) b is
    here false true is = again (begun (parent front) rest) b is
    here false false is = absurd cc

-- no further step
last : (front rest : Text) → next front rest ≡ None → start_in front rest ≡ begun front rest
last front [] e = refl
last front (first ∷ []) e = refl
last front (first ∷ (second ∷ [])) e = here (is_here first second) e
  where
    here : (is : Bool) → ◌≡◌ {A = Option Begun} (if is then Some (begun front []) else None) None
        → (if is then begun front [] else begun front (first ∷ second ∷ [])) ≡ begun front (first ∷ second ∷ [])
    here true is = absurd cc
    here false is = refl
last front (first ∷ (second ∷ (third ∷ rest))) e =
    here (is_here first second) (is_up front first second third) e
  where
    here : (is up : Bool)
        → ◌≡◌ {A = Option Begun} (if is then Some (begun front (third ∷ rest))
        else if up then Some (begun (parent front) rest) else None) None
        → (if is then start_in front (third ∷ rest) else if up then start_in (parent front) rest
        else begun front (first ∷ second ∷ third ∷ rest)) ≡ begun front (first ∷ second ∷ third ∷ rest)
    here true up is = absurd cc
    here false true is = absurd cc
    here false false is = refl

pub goes_on : (front rest : Text) (found : Option NameParts) (start : NameParts) (all : Begun)
    → seen_any found ≡ next front rest → found ≡ Some start → start_in front rest ≡ all
    → start_in start.front.now start.rest.now ≡ all
goes_on front rest found start all is some so_far =
    sym (on front rest (seen start) (sym is ∙ ap seen_any some)) ∙ so_far

pub stops : (front rest : Text) (found : Option NameParts) (all : Begun)
    → seen_any found ≡ next front rest → found ≡ None → start_in front rest ≡ all → begun front rest ≡ all
stops front rest found all is none so_far = sym (last front rest (sym is ∙ ap seen_any none)) ∙ so_far
