-- Names that are used, in a walk over tokens.
use Rattle.std.proofs.Common.{ℕ, ◌≡◌, ◌∙◌, ◌+◌, ◌<◌, ◌≤◌, ◌++◌, List, [], ◌∷◌, ap, append_assoc, append-nil, drop, get_or, length, sym}
use Rattle.std.proofs.lemmas.List.{drop_all, drop_more}
use Rattle.std.specs.Option.{option_to_list}
use Rattle.std.specs.Prelude.{Option}
use Rattle.timefd_lint_scan.specs.declared.alias.Alias.{Alias}
use Rattle.timefd_lint_scan.specs.declared.calls.OpenBracket.{OpenBracket}
use Rattle.timefd_lint_scan.specs.declared.own_call.OwnCall.{OwnCall}
use Rattle.timefd_lint_scan.specs.declared.piece.PlacedToken.{PlacedToken}
use Rattle.timefd_lint_scan.specs.declared.token.Token.TheVariants.{White}
use Rattle.timefd_lint_scan.specs.declared.uses.Use.{Use}
use Rattle.timefd_lint_scan.specs.Bytes.{Text}
use Rattle.timefd_lint_scan.specs.Frames.{innermost, passed}
use Rattle.timefd_lint_scan.specs.Using.{in_calls, in_calls_from, in_loops, in_loops_from, loop_at, use_at}

-- What is found so far, followed by what is found from an index on, is all that there is.
abbrev pub AreSoFar : Text → List PlacedToken → List Alias → List OwnCall → ℕ → List OpenBracket → List Use → Type 0
AreSoFar source ps aliases own i frames got =
    got ++ in_calls_from source ps aliases own i (drop i ps) frames ≡ in_calls source ps aliases own

pub one_more : (source : Text) (ps : List PlacedToken) (aliases : List Alias) (own : List OwnCall) (i : ℕ) (p other : PlacedToken)
    (before later : List OpenBracket) (found : Option Use) (got now : List Use) → i < length ps → p ≡ get_or ps i other
    → later ≡ passed source ps aliases own [] i before → found ≡ use_at source ps i p (innermost later)
    → now ≡ got ++ option_to_list found → AreSoFar source ps aliases own i before got
    → AreSoFar source ps aliases own (i + 1) later now
one_more source ps aliases own i p other before later found got now below at opened is pushed so_far =
    let after : List PlacedToken = drop (i + 1) ps in
    let split : drop i ps ≡ p ∷ after = drop_more ps i other below ∙ ap (λ x. x ∷ after) (sym at) in
    let left : List OpenBracket → List Use = λ a. in_calls_from source ps aliases own (i + 1) after a in
    let step : List OpenBracket → List Use =
    λ a. option_to_list (use_at source ps i p (innermost a)) ++ left a in
    let here : option_to_list found ++ left later ≡ in_calls_from source ps aliases own i (drop i ps) before =
    ap (λ u. option_to_list u ++ left later) is
    ∙ (ap step opened ∙ ap (λ l. in_calls_from source ps aliases own i l before) (sym split)) in
    ap (λ t. t ++ left later) pushed
    ∙ (append_assoc got (option_to_list found) (left later) ∙ (ap (λ t. got ++ t) here ∙ so_far))

-- What a name is, by the brackets that are open at it.
pub used_at : (source : Text) (ps : List PlacedToken) (i : ℕ) (p : PlacedToken) (frames seen : List OpenBracket) (frame : Option OpenBracket)
    → seen ≡ frames → frame ≡ innermost seen → use_at source ps i p frame ≡ use_at source ps i p (innermost frames)
used_at source ps i p frames seen frame all inner = ap (use_at source ps i p) (inner ∙ ap innermost all)

pub at_last : (source : Text) (ps : List PlacedToken) (aliases : List Alias) (own : List OwnCall) (i : ℕ) (frames : List OpenBracket) (got : List Use)
    → length ps ≤ i → AreSoFar source ps aliases own i frames got → got ≡ in_calls source ps aliases own
at_last source ps aliases own i frames got none so_far =
    sym (append-nil got)
    ∙ (ap (λ l. got ++ in_calls_from source ps aliases own i l frames) (sym (drop_all i ps none)) ∙ so_far)

pub no_piece : PlacedToken
no_piece = record { token = White; start = 0; end = 0 }

-- The lists of loops found so far, followed by those found from an index on, are all that there are.
abbrev pub AreLoopsSoFar : Text → List PlacedToken → List Use → ℕ → List Use → Type 0
AreLoopsSoFar source ps us i got = got ++ in_loops_from source ps us i (drop i ps) ≡ in_loops source ps us

pub one_more_loop : (source : Text) (ps : List PlacedToken) (us : List Use) (i : ℕ) (other : PlacedToken) (got now : List Use)
    → i < length ps → now ≡ got ++ option_to_list (loop_at source ps us i) → AreLoopsSoFar source ps us i got
    → AreLoopsSoFar source ps us (i + 1) now
one_more_loop source ps us i other got now below pushed so_far =
    let left : List Use = in_loops_from source ps us (i + 1) (drop (i + 1) ps) in
    ap (λ t. t ++ left) pushed
    ∙ (append_assoc got (option_to_list (loop_at source ps us i)) left
    ∙ (ap (λ l. got ++ in_loops_from source ps us i l) (sym (drop_more ps i other below)) ∙ so_far))

pub last_loop : (source : Text) (ps : List PlacedToken) (us : List Use) (i : ℕ) (got : List Use) → length ps ≤ i
    → AreLoopsSoFar source ps us i got → got ≡ in_loops source ps us
last_loop source ps us i got none so_far =
    sym (append-nil got)
    ∙ (ap (λ l. got ++ in_loops_from source ps us i l) (sym (drop_all i ps none)) ∙ so_far)
