-- Where the blocks that tokens are in begin and end.
use Rattle.std.proofs.Common.{ℕ, ◌≡◌, ◌==◌, ◌∙◌, ◌+◌, ◌-◌, ◌<◌, ◌≤◌, ◌++◌, List, [], ◌∷◌, add-one, ap, arith, drop, false, get_or, inl, inr, length}
use Rattle.std.proofs.Common.{length-append, nat_le, refl, reverse, subst, suc, sym, true, zero}
use Rattle.std.proofs.lemmas.Bool.{cases_Bool}
use Rattle.std.proofs.lemmas.Bool.Decides.{nat_tests}
use Rattle.std.proofs.lemmas.Grind.{reverse_onto}
use Rattle.std.proofs.lemmas.List.{drop_all, drop_more, get_or_push}
use Rattle.std.proofs.lemmas.Option.{unwrap_or-slice_get}
use Rattle.std.proofs.lemmas.List.Elements.{All-contains, All-nil, All-push, All-same}
use Rattle.std.specs.List.{Contains, slice_get}
use Rattle.std.specs.Option.{unwrap_or}
use Rattle.timefd_lint_scan.specs.declared.blocks.TokenPosition.{TokenPosition}
use Rattle.timefd_lint_scan.specs.declared.piece.PlacedToken.{PlacedToken}
use Rattle.timefd_lint_scan.specs.Aliases.{block_end}
use Rattle.timefd_lint_scan.specs.Bytes.{Text}
use Rattle.timefd_lint_scan.specs.Layouts.{AreEnds, IsEnd, but_first, closings, closings_before}
use Rattle.timefd_lint_scan.specs.Scopes.{stays_open}
use Rattle.timefd_lint_scan.specs.Words.{is_closing, is_opening, text_of}

pub reversed : (n : ℕ) (ns : List ℕ) → reverse (n ∷ ns) ≡ reverse ns ++ n ∷ []
reversed n ns = reverse_onto ns n []

further_on : (ns : List ℕ) (d other : ℕ) → get_or (but_first ns) d other ≡ get_or ns (d + 1) other
further_on [] d other = refl
further_on (n ∷ ns) d other = rw (add-one) refl

closed : (source : Text) (position other depth : ℕ) (p : PlacedToken) (ps : List PlacedToken) → nat_le position p.start ≡ false
    → is_opening (text_of source p) ≡ false → is_closing (text_of source p) ≡ true
    → position ≤ get_or (p.start ∷ closings source ps) depth other
    → ((d : ℕ) → position ≤ get_or (closings source ps) d other → stays_open source position d ps ≡ true)
    → stays_open source position depth (p ∷ ps) ≡ true
closed source position other zero p ps late not closes within further =
    absurd (grind (arith, nat_tests, late, within))
closed source position other (suc depth) p ps late not closes within further =
    let positive : (suc depth == 0) ≡ false = grind (arith, nat_tests) in
    let less : suc depth - 1 ≡ depth = omega arith in
    rw (late, not, closes, positive, less) (further depth within)

-- Up to the position of the bracket that closes a block, the block is open.
pub stays : (source : Text) (position other depth : ℕ) (ps : List PlacedToken) → position ≤ get_or (closings source ps) depth other
    → stays_open source position depth ps ≡ true
stays source position other depth [] within = refl
stays source position other depth (p ∷ ps) within = elim (cases_Bool (nat_le position p.start)) [
  | inl early ↦ rw early refl
  | inr late ↦ elim (cases_Bool (is_opening (text_of source p))) [
    | inl opens ↦
        let here : closings source (p ∷ ps) ≡ but_first (closings source ps) = rw opens refl in
        let bound : position ≤ get_or (closings source ps) (depth + 1) other =
        subst (λ n. position ≤ n) (ap (λ ns. get_or ns depth other) here ∙ further_on (closings source ps) depth other) within in
        rw (late, opens) (stays source position other (depth + 1) ps bound)
    | inr not ↦ elim (cases_Bool (is_closing (text_of source p))) [
      | inl closes ↦
          let here : closings source (p ∷ ps) ≡ p.start ∷ closings source ps = rw (not, closes) refl in
          let bound : position ≤ get_or (p.start ∷ closings source ps) depth other =
          subst (λ ns. position ≤ get_or ns depth other) here within in
          closed source position other depth p ps late not closes bound (λ d fits. stays source position other d ps fits)
      | inr neither ↦
          let here : closings source (p ∷ ps) ≡ closings source ps = rw (not, neither) refl in
          let bound : position ≤ get_or (closings source ps) depth other =
          subst (λ ns. position ≤ get_or ns depth other) here within in
          rw (late, not, neither) (stays source position other depth ps bound)
    ]
  ]
]

closed_at : (source : Text) (depth : ℕ) (p : PlacedToken) (ps : List PlacedToken)
    → is_opening (text_of source p) ≡ false → is_closing (text_of source p) ≡ true
    → ((d : ℕ) → block_end source d ps ≡ get_or (closings source ps) d (length source))
    → block_end source depth (p ∷ ps) ≡ get_or (p.start ∷ closings source ps) depth (length source)
closed_at source zero p ps not closes further = rw (not, closes) refl
closed_at source (suc depth) p ps not closes further =
    let positive : (suc depth == 0) ≡ false = grind (arith, nat_tests) in
    let less : suc depth - 1 ≡ depth = omega arith in
    rw (not, closes, positive, less) (further depth)

-- A block ends at the bracket that closes it.
pub ends_at : (source : Text) (depth : ℕ) (ps : List PlacedToken)
    → block_end source depth ps ≡ get_or (closings source ps) depth (length source)
ends_at source depth [] = refl
ends_at source depth (p ∷ ps) = elim (cases_Bool (is_opening (text_of source p))) [
  | inl opens ↦ rw opens (ends_at source (depth + 1) ps ∙ sym (further_on (closings source ps) depth (length source)))
  | inr not ↦ elim (cases_Bool (is_closing (text_of source p))) [
    | inl closes ↦
        let here : closings source (p ∷ ps) ≡ p.start ∷ closings source ps = rw (not, closes) refl in
        closed_at source depth p ps not closes (λ d. ends_at source d ps)
        ∙ ap (λ ns. get_or ns depth (length source)) (sym here)
    | inr neither ↦ rw (not, neither) (ends_at source depth ps)
  ]
]

pub last_is : (ns st : List ℕ) (other : ℕ) → ns ≡ reverse st → unwrap_or (slice_get ns (length ns - 1)) other ≡ get_or st 0 other
last_is ns [] other same = subst (λ l. unwrap_or (slice_get l (length l - 1)) other ≡ other) (sym same) refl
last_is ns (n ∷ st) other same =
    let here : ns ≡ reverse st ++ n ∷ [] = same ∙ reversed n st in
    let place : length (reverse st) ≡ length ns - 1 = omega (arith, ap length here, length-append (reverse st) (n ∷ [])) in
    unwrap_or-slice_get ns (length ns - 1) other
    ∙ (ap (λ l. get_or l (length ns - 1) other) here ∙ get_or_push (reverse st) n other (length ns - 1) place)

pub split_at : (ps : List PlacedToken) (n left : ℕ) (p other : PlacedToken) → n + 1 ≡ left → n < length ps → p ≡ get_or ps n other
    → drop n ps ≡ p ∷ drop left ps
split_at ps n left p other next below at =
    drop_more ps n other below ∙ (ap (λ x. x ∷ drop (n + 1) ps) (sym at) ∙ ap (λ k. p ∷ drop k ps) next)

-- one token more, from the back
pub one_back : (source : Text) (ps : List PlacedToken) (n left : ℕ) (p other : PlacedToken) (before now : List ℕ) → n + 1 ≡ left
    → n < length ps → p ≡ get_or ps n other → before ≡ reverse (closings source (drop left ps))
    → ((st : List ℕ) → before ≡ reverse st → now ≡ reverse (closings_before source p st))
    → now ≡ reverse (closings source (drop n ps))
one_back source ps n left p other before now next below at was passed =
    let split : drop n ps ≡ p ∷ drop left ps = split_at ps n left p other next below at in
    passed (closings source (drop left ps)) was ∙ ap (λ l. reverse (closings source l)) (sym split)

-- Up to the position that is kept for a token, its block is open.
pub open_up_to : (source : Text) (ps : List PlacedToken) (ends : List TokenPosition) (kept : TokenPosition) (token position : ℕ)
    → AreEnds source ps ends → Contains ends kept → kept.token ≡ token → position ≤ kept.position
    → stays_open source position 0 (drop token ps) ≡ true
open_up_to source ps ends kept token position are among same within =
    let is : kept.position ≡ block_end source 0 (drop kept.token ps) = All-contains (IsEnd source ps) ends kept are among in
    let bound : position ≤ get_or (closings source (drop token ps)) 0 (length source) =
    subst (λ n. position ≤ n) (is ∙ (ap (λ k. block_end source 0 (drop k ps)) same ∙ ends_at source 0 (drop token ps))) within in
    stays source position (length source) 0 (drop token ps) bound

-- what closes first, if anything does
pub end_is : (source : Text) (ps : List PlacedToken) (value : ℕ) (stack : List ℕ) → stack ≡ reverse (closings source ps)
    → ((st : List ℕ) → stack ≡ reverse st → value ≡ get_or st 0 (length source)) → value ≡ block_end source 0 ps
end_is source ps value stack closed last = last (closings source ps) closed ∙ sym (ends_at source 0 ps)

pub end_more : (source : Text) (ps : List PlacedToken) (n : ℕ) (kept : TokenPosition) (stack : List ℕ) (ends now : List TokenPosition)
    → kept.token ≡ n → stack ≡ reverse (closings source (drop n ps))
    → ((st : List ℕ) → stack ≡ reverse st → kept.position ≡ get_or st 0 (length source)) → now ≡ ends ++ kept ∷ []
    → AreEnds source ps ends → AreEnds source ps now
end_more source ps n kept stack ends now token closed last pushed are =
    let is : IsEnd source ps kept =
    end_is source (drop n ps) kept.position stack closed last ∙ ap (λ k. block_end source 0 (drop k ps)) (sym token) in
    All-same (IsEnd source ps) now (ends ++ kept ∷ []) pushed (All-push (IsEnd source ps) ends kept are is)

pub no_ends : (source : Text) (ps : List PlacedToken) → AreEnds source ps []
no_ends source ps = All-nil (IsEnd source ps)

pub none_closed : (source : Text) (ps : List PlacedToken) (n : ℕ) → length ps ≤ n → [] ≡ reverse (closings source (drop n ps))
none_closed source ps n none = ap (λ l. reverse (closings source l)) (sym (drop_all n ps none))
