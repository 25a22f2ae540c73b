-- Rules about nested descriptions.
use Rattle.std.proofs.Common.{ℕ, ◌≡◌, ◌+◌, Bool, not, if◌then◌else◌, List, [], ◌∷◌, ◌++◌, append-nil, length, map, Some, Ok, Err, refl, ap, ◌∙◌, arith}
use Rattle.timefd_lang_component.specs.Tree.{Text, optional, first, trees, pack}
use Rattle.timefd_lang_fault.specs.Faults.{fault}
use Rattle.timefd_language.specs.declared.description_version.DescriptionVersion.{DescriptionVersion}
use Rattle.timefd_language.specs.declared.description_version.DescriptionVersion.TheVariants.{Three}
use Rattle.timefd_lang_fault.specs.declared.name.Name.{Name}
use Rattle.timefd_language.specs.Bytes.{is_version_three}
use Rattle.timefd_lang_fault.specs.Words.{expected_white, expected_nested, expected_alternative, optional_item, first_item}
use Rattle.timefd_language.specs.Head.{Head, placed, placed_from, name_index, head_text}
use Rattle.timefd_language.specs.Verdict.{PlacedDescription, ◌or◌, refuse, unless, too_many, nested_wanted, any_modifier, is_formatted, only}
use Rattle.timefd_language.specs.Grammar.{Nested, no_nested, nested, items, spelling, nested_text, parts_from, bracket_verdict}
use Rattle.timefd_laws.specs.Heads.{IsNamed, IsSpaced}
use Rattle.timefd_laws.specs.Nests.{WhiteWanted, ComponentsNestNothing, UnknownNamesNestNothing, IsGoodOptional, OneOptionalAtMost, OneOptionalAtLeast, OptionalInVersionThreeAlone, GoodOptional, FirstInVersionThreeAlone, OneAlternativeAtLeast, alternatives, GoodFirst}
use Rattle.timefd_laws.proofs.HeadLemmas.{is_optional, is_first, is_ordinary, is_spaced, all_good}

pub white_wanted : WhiteWanted
white_wanted v h ps ns white = ap (λ k. Err (fault expected_white k)) (omega arith)

-- Names that nest nothing.

pub components_nest_nothing : ComponentsNestNothing
components_nest_nothing v h n space ps ns white named spaced =
    is_ordinary (is_version_three v) h (parts_from (length (head_text h)) (nested space ps ns))
    (length (head_text h ++ nested_text (nested space ps ns) ++ white))
    (is_spaced (length (head_text h)) (nested space ps ns) spaced) named.0 named.1

pub unknown_names_nest_nothing : UnknownNamesNestNothing
unknown_names_nest_nothing v h space ps ns white named spaced =
    is_ordinary (is_version_three v) h (parts_from (length (head_text h)) (nested space ps ns))
    (length (head_text h ++ nested_text (nested space ps ns) ++ white))
    (is_spaced (length (head_text h)) (nested space ps ns) spaced) named.0 named.1

-- `optional`

good_optional_is : (v : DescriptionVersion) (h : Head) (ns : Nested) (white : Text)
    → IsGoodOptional v h → IsSpaced ns
    → bracket_verdict v h ns white
    ≡ (let parts = parts_from (length (head_text h)) ns in
    unless (too_many parts or nested_wanted expected_nested parts
    (length (head_text h ++ nested_text ns ++ white)) or refuse (not (is_version_three v))
    optional_item 0) (optional (is_formatted (is_version_three v) (placed h)) (only parts)))
good_optional_is v h ns white good spaced =
    let strict : Bool = is_version_three v in
    let k : ℕ = length (head_text h) in
    let close : ℕ = length (head_text h ++ nested_text ns ++ white) in
    let parts : List PlacedDescription = parts_from k ns in
    is_optional strict h parts close (is_spaced k ns spaced) good.0
    ∙ ap (λ x. unless (x or too_many parts or nested_wanted expected_nested parts close
    or refuse (not strict) optional_item 0) (optional (is_formatted strict (placed h)) (only parts)))
    (all_good v Name.Optional h good.1)

pub one_optional_at_most : OneOptionalAtMost
one_optional_at_most v h space gap ps qs ns white good spaced =
    good_optional_is v h (nested space ps (nested gap qs ns)) white good spaced

pub one_optional_at_least : OneOptionalAtLeast
one_optional_at_least v h white good =
    good_optional_is v h no_nested white good tt
    ∙ ap (λ x. Err (fault expected_nested (length (x ++ white)))) (append-nil (head_text h))

pub optional_in_version_three_alone : OptionalInVersionThreeAlone
optional_in_version_three_alone v h space ps white good spaced lax =
    good_optional_is v h (nested space ps no_nested) white good spaced
    ∙ ap (λ b. unless (refuse (not b) optional_item 0)
    (optional (is_formatted (is_version_three v) (placed h)) (pack (items ps)))) lax

pub good_optional : GoodOptional
good_optional h space ps white good spaced =
    good_optional_is Three h (nested space ps no_nested) white good spaced

-- `first`

good_first_is : (v : DescriptionVersion) (h : Head) (ns : Nested) (white : Text)
    → IsNamed v h (Some Name.First) → h.modifiers ≡ [] → IsSpaced ns
    → bracket_verdict v h ns white
    ≡ (let parts = parts_from (length (head_text h)) ns in
    unless (if is_version_three v then nested_wanted expected_alternative parts
    (length (head_text h ++ nested_text ns ++ white)) else Some (fault first_item 0))
    (first (trees (map (λ p. pack p.trees) parts))))
good_first_is v h ns white named none spaced =
    let strict : Bool = is_version_three v in
    let k : ℕ = length (head_text h) in
    let close : ℕ = length (head_text h ++ nested_text ns ++ white) in
    let parts : List PlacedDescription = parts_from k ns in
    is_first strict h parts close (is_spaced k ns spaced) named.0 named.1
    ∙ ap (λ ms. unless (any_modifier (placed_from (name_index h + length h.name) ms)
    or (if strict then nested_wanted expected_alternative parts close else Some
    (fault first_item 0))) (first (trees (map (λ p. pack p.trees) parts)))) none

pub first_in_version_three_alone : FirstInVersionThreeAlone
first_in_version_three_alone v h ns white named none spaced lax =
    let parts : List PlacedDescription = parts_from (length (head_text h)) ns in
    good_first_is v h ns white named none spaced
    ∙ ap (λ b. unless (if b then nested_wanted expected_alternative parts
    (length (head_text h ++ nested_text ns ++ white)) else Some (fault first_item 0))
    (first (trees (map (λ p. pack p.trees) parts)))) lax

pub one_alternative_at_least : OneAlternativeAtLeast
one_alternative_at_least h white named none =
    good_first_is Three h no_nested white named none tt
    ∙ ap (λ x. Err (fault expected_alternative (length (x ++ white)))) (append-nil (head_text h))

all_alternatives : (k : ℕ) (ns : Nested)
    → map (λ p. pack p.trees) (parts_from k ns) ≡ alternatives ns
all_alternatives k no_nested = refl
all_alternatives k (nested white ps ns) =
    ap (λ ts. pack (items ps) ∷ ts)
    (all_alternatives (k + length white + 1 + length (spelling ps) + 1) ns)

pub good_first : GoodFirst
good_first h space ps ns white named none spaced =
    good_first_is Three h (nested space ps ns) white named none spaced
    ∙ ap (λ ts. Ok (first (trees ts)))
    (all_alternatives (length (head_text h)) (nested space ps ns))
