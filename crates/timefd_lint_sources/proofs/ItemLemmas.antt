-- Brackets with nested descriptions and nothing else.
use Rattle.std.proofs.Common.{ℕ, ◌≡◌, true, List, [], ◌∷◌, ◌++◌, refl, sym, ap, subst, ◌∙◌, arith, true≢false}
use Rattle.std.specs.Prelude.{Option, None, Some, MatchOption}
use Rattle.std.specs.Borrow.{Bor}
use Rattle.timefd_parse.specs.Tree.{Text}
use Rattle.timefd_language.proofs.Before.{head_before-is}
use Rattle.timefd_language.specs.Bytes.{backslash, left, right, is_run_byte, is_white, ZeroOrMore}
use Rattle.timefd_language.specs.Cut.{IsCut, BeginsWith}
use Rattle.timefd_language.specs.declared.text.Start.{Start}
use Rattle.timefd_language.specs.declared.text.Start.TheVariants as starts
use Rattle.timefd_language.specs.declared.description_version.DescriptionVersion.{DescriptionVersion}
use Rattle.timefd_language.specs.declared.description_version.DescriptionVersion.TheVariants.{Three}
use Rattle.timefd_parse.proofs.BracketLemmas.{same_cut}
use Rattle.timefd_parse.specs.BracketParts.{BeginsNamed, BeginsNested, FindsNested, NamesHeads}
use Rattle.timefd_lint_sources.specs.Items.{Closes, HasEnd, IsClosing, IsItem}

pub is_item : (v : DescriptionVersion) (text name nested first after rest : Text)
    → BeginsNamed text name nested → BeginsNested v nested first after → HasEnd v after rest
    → IsItem v text first after rest
is_item v text name nested first after rest named begins end =
    record { name = name; nested = nested; named = named; begins = begins; end = end }

-- The name, and what follows it, are found.
pub name_found : (text : Text) (found : Option (Bor (List ℕ) × Bor (List ℕ))) → NamesHeads text found
    → (name nested : Text) → BeginsNamed text name nested
    → MatchOption found ⊥ (λ parts. (parts.0.now ≡ name) × (parts.1.now ≡ nested))
name_found text found names name nested begins =
    names (record { white = begins.white; name = name; modifiers = [] }) nested
    (record { white = begins.all_white; name = begins.word; modifiers = tt }) begins.stops
    (begins.whole ∙ head_before-is (record { white = begins.white; name = name; modifiers = [] }) nested)

pub nested_found : (v : DescriptionVersion) (text : Text) (found : Option (Bor (List ℕ) × Bor (List ℕ)))
    → FindsNested v text found → (inner after : Text) → BeginsNested v text inner after
    → MatchOption found ⊥ (λ parts. (parts.0.now ≡ inner) × (parts.1.now ≡ after))
nested_found v text found finds inner after begins =
    finds begins.white inner after begins.list begins.all_white begins.inside begins.whole

-- A nested description before the rest of a bracket leaves its end as it is.

pub after_one : (v : DescriptionVersion) (text inner after rest : Text) → BeginsNested v text inner after
    → HasEnd v after rest → HasEnd v text rest
after_one v text inner after rest begins end =
    record { others = inner ∷ end.others; closes = (after, begins, end.closes) }

closing_or_opening : (white white' rest rest' : Text) → ZeroOrMore is_white white → ZeroOrMore is_white white'
    → white ++ right ∷ rest ≡ white' ++ left ∷ rest' → ⊥
closing_or_opening white white' rest rest' all all' same =
    let both = same_cut is_white (white ++ right ∷ rest) white (right ∷ rest) white' (left ∷ rest')
    (record { whole = refl; passes = all; stops = refl }) same all' refl in
    other (right ∷ rest) (left ∷ rest') refl refl both.rest
  where
    head : Text → ℕ
    head [] = 0
    head (b ∷ text) = b

    other : (a b : Text) → head a ≡ right → head b ≡ left → a ≡ b → ⊥
    other a b is is' e = omega (arith, is, is', ap head e)

-- If a bracket goes on with a nested description, what follows that has the same end.
pub end_after : (v : DescriptionVersion) (text rest : Text)
    (found : Option (Bor (List ℕ) × Bor (List ℕ))) (parts : Bor (List ℕ) × Bor (List ℕ))
    → FindsNested v text found → found ≡ Some parts → BeginsNested v text parts.0.now parts.1.now
    → HasEnd v text rest → HasEnd v parts.1.now rest
end_after v text rest found parts finds is begins end = by end.others end.closes
  where
    by : (others : List Text) → Closes v others text rest
        → HasEnd v parts.1.now rest
    by [] (white, all, whole) =
        absurd (closing_or_opening white begins.white rest _ all begins.all_white (sym whole ∙ begins.whole))
    by (inner ∷ others) (after, begins', closes) =
        let same : (parts.0.now ≡ inner) × (parts.1.now ≡ after) =
        subst (λ o. MatchOption o ⊥ (λ p. (p.0.now ≡ inner) × (p.1.now ≡ after))) is
        (nested_found v text found finds inner after begins') in
        subst (λ t. HasEnd v t rest) (sym same.1) (record { others = others; closes = closes })

-- Where no nested description follows, the bracket is closed.
pub closed_here : (v : DescriptionVersion) (text rest : Text) → FindsNested v text None
    → HasEnd v text rest → IsClosing text rest
closed_here v text rest none end = by end.others end.closes
  where
    by : (others : List Text) → Closes v others text rest
        → IsClosing text rest
    by [] closing = closing
    by (inner ∷ others) (after, begins, closes) = absurd (nested_found v text None none inner after begins)

pub ends_here : (v : DescriptionVersion) (text rest : Text) → IsClosing text rest → HasEnd v text rest
ends_here v text rest closing = record { others = []; closes = closing }

-- Only one rest follows `]`.
pub same_closing : (text white closing rest : Text) → IsCut is_white text white closing
    → IsClosing text rest → closing ≡ right ∷ rest
same_closing text white closing rest parts (w, all, whole) =
    (same_cut is_white text white closing w (right ∷ rest) parts whole all refl).rest

pub is_closing : (text white closing rest : Text) → IsCut is_white text white closing
    → closing ≡ right ∷ rest → IsClosing text rest
is_closing text white closing rest parts is =
    (white, parts.passes, parts.whole ∙ ap (λ t. white ++ t) is)

abbrev first_byte : Text → ℕ
first_byte [] = 0
first_byte (b ∷ bytes) = b

no_run_byte : (b : ℕ) → is_run_byte Three b ≡ true → b ≡ right → ⊥
no_run_byte b runs is = true≢false (sym (subst (λ x. is_run_byte Three x ≡ true) is runs))

-- A text that begins with something else doesn't close.
pub never_closed : (s : Start) (text rest : Text) → BeginsWith s text
    → ((x : Bor (List ℕ)) → s ≡ starts.Closing x → ⊥) → text ≡ right ∷ rest → ⊥
never_closed starts.End text rest is other e =
    let same : 0 ≡ right = ap first_byte (sym is ∙ e) in omega (arith, same)
never_closed (starts.Opening x) text rest is other e =
    let same : left ≡ right = ap first_byte (sym is ∙ e) in omega (arith, same)
never_closed (starts.Closing x) text rest is other e = other x refl
never_closed (starts.Backslash x) text rest is other e =
    let same : backslash ≡ right = ap first_byte (sym is ∙ e) in omega (arith, same)
never_closed starts.Other text rest is other e =
    no_run_byte is.0 is.3 (ap first_byte (sym is.2 ∙ e))

-- The same item is found.
pub same_item : (v : DescriptionVersion) (text first after rest : Text) (names nests : Option (Bor (List ℕ) × Bor (List ℕ)))
    (named nested : Bor (List ℕ) × Bor (List ℕ)) → NamesHeads text names → names ≡ Some named
    → FindsNested v named.1.now nests → nests ≡ Some nested → IsItem v text first after rest
    → (nested.0.now ≡ first) × (nested.1.now ≡ after) × HasEnd v nested.1.now rest
same_item v text first after rest names nests named nested heads is finds is' item =
    let name = subst (λ o. MatchOption o ⊥ (λ p. (p.0.now ≡ item.name) × (p.1.now ≡ item.nested))) is
    (name_found text names heads item.name item.nested item.named) in
    let parts : (nested.0.now ≡ first) × (nested.1.now ≡ after) =
    subst (λ o. MatchOption o ⊥ (λ p. (p.0.now ≡ first) × (p.1.now ≡ after))) is'
    (nested_found v named.1.now nests finds first after
    (subst (λ t. BeginsNested v t first after) (sym name.1) item.begins)) in
    (parts.0, parts.1, subst (λ t. HasEnd v t rest) (sym parts.1) item.end)

-- Without a name, or a nested description after it, there is no item.

pub no_name : (v : DescriptionVersion) (text : Text) (names : Option (Bor (List ℕ) × Bor (List ℕ)))
    → NamesHeads text names → ((p : Bor (List ℕ) × Bor (List ℕ)) → names ≡ Some p → ⊥)
    → (first after rest : Text) → IsItem v text first after rest → ⊥
no_name v text None heads none first after rest item =
    name_found text None heads item.name item.nested item.named
no_name v text (Some p) heads none first after rest item = none p refl

pub no_nested : (v : DescriptionVersion) (text : Text) (names nests : Option (Bor (List ℕ) × Bor (List ℕ)))
    (named : Bor (List ℕ) × Bor (List ℕ)) → NamesHeads text names → names ≡ Some named
    → FindsNested v named.1.now nests → ((p : Bor (List ℕ) × Bor (List ℕ)) → nests ≡ Some p → ⊥)
    → (first after rest : Text) → IsItem v text first after rest → ⊥
no_nested v text names (Some p) named heads is finds none first after rest item = none p refl
no_nested v text names None named heads is finds none first after rest item =
    let name = subst (λ o. MatchOption o ⊥ (λ p. (p.0.now ≡ item.name) × (p.1.now ≡ item.nested))) is
    (name_found text names heads item.name item.nested item.named) in
    nested_found v named.1.now None finds first after
    (subst (λ t. BeginsNested v t first after) (sym name.1) item.begins)

-- If nothing closes it, there is no item either.
pub no_end : (v : DescriptionVersion) (text : Text) (names nests : Option (Bor (List ℕ) × Bor (List ℕ)))
    (named nested : Bor (List ℕ) × Bor (List ℕ)) (ends : Option (Bor (List ℕ))) → NamesHeads text names
    → names ≡ Some named → FindsNested v named.1.now nests → nests ≡ Some nested
    → ((rest : Text) → HasEnd v nested.1.now rest → MatchOption ends ⊥ (λ found. found.now ≡ rest)) → ends ≡ None
    → (first after rest : Text) → IsItem v text first after rest → ⊥
no_end v text names nests named nested ends heads is finds is' all none first after rest item =
    subst (λ o. MatchOption o ⊥ (λ (found : Bor (List ℕ)). found.now ≡ rest)) none
    (all rest (same_item v text first after rest names nests named nested heads is finds is' item).2)

pub the_item : (v : DescriptionVersion) (text : Text) (names nests : Option (Bor (List ℕ) × Bor (List ℕ)))
    (named nested : Bor (List ℕ) × Bor (List ℕ)) (ends : Option (Bor (List ℕ))) (end : Bor (List ℕ))
    → NamesHeads text names
    → names ≡ Some named → FindsNested v named.1.now nests → nests ≡ Some nested
    → ((rest : Text) → HasEnd v nested.1.now rest → MatchOption ends ⊥ (λ found. found.now ≡ rest)) → ends ≡ Some end
    → (first after rest : Text) → IsItem v text first after rest
    → (nested.0.now ≡ first) × (nested.1.now ≡ after) × (end.now ≡ rest)
the_item v text names nests named nested ends end heads is finds is' all some first after rest item =
    let parts = same_item v text first after rest names nests named nested heads is finds is' item in (
      parts.0,
      parts.1,
      subst (λ o. MatchOption o ⊥ (λ (found : Bor (List ℕ)). found.now ≡ rest)) some (all rest parts.2),
    )
