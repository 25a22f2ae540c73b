-- Aliases that a source declares, and where their blocks end.
use Rattle.std.proofs.Common.{ℕ, ◌≡◌, ◌∙◌, ◌++◌, ◌-◌, ◌<◌, ◌≤◌, false, true, List, [], ◌∷◌, ap, append_assoc, arith, drop, get_or, length, refl}
use Rattle.std.proofs.Common.{reverse, subst, sym, take}
use Rattle.std.proofs.lemmas.List.{drop_all, reverse-append, take_all}
use Rattle.std.proofs.lemmas.Option.{slice_get-get_or}
use Rattle.std.proofs.lemmas.Slice.Eq.{bytes_eq-Decides}
use Rattle.std.specs.Option.{option_to_list}
use Rattle.std.specs.Prelude.{Option, Some, None, bytes_eq, codes}
use Rattle.timefd_lint_scan.specs.declared.alias.Alias.{Alias}
use Rattle.timefd_lint_scan.specs.declared.own_call.OwnCall.{OwnCall}
use Rattle.timefd_lint_scan.specs.declared.piece.PlacedToken.{PlacedToken}
use Rattle.timefd_lint_scan.specs.Aliases.{IsUntil, alias_at, aliases_in, block_end, self_at, statement_end}
use Rattle.timefd_lint_scan.specs.Bytes.{Text}
use Rattle.timefd_lint_scan.specs.Words.{text_of}

same_end : (source : Text) (p : PlacedToken) (ps : List PlacedToken) → bytes_eq (text_of source p) (codes ";") ≡ false
    → statement_end source (p ∷ ps) ≡ statement_end source ps
same_end source p ps not = rw not refl

-- A token that ends no statement is passed over.
pub passed_over : (source : Text) (p : PlacedToken) (ps : List PlacedToken) (until : Option ℕ)
    → bytes_eq (text_of source p) (codes ";") ≡ false → IsUntil source (p ∷ ps) until → IsUntil source ps until
passed_over source p ps None not is = tt
passed_over source p ps (Some until) not is = is ∙ same_end source p ps not

-- A colon ends no statement.
pub passed_colon : (source : Text) (p : PlacedToken) (ps : List PlacedToken) (until : Option ℕ)
    → bytes_eq (text_of source p) (codes ":") ≡ true → IsUntil source (p ∷ ps) until → IsUntil source ps until
passed_colon source p ps until colon is =
    let text : text_of source p ≡ codes ":" = (bytes_eq-Decides (text_of source p) (codes ":")).0 colon in
    let not : bytes_eq (text_of source p) (codes ";") ≡ false = rw text refl in
    passed_over source p ps until not is

pub no_end : (source : Text) (ps : List PlacedToken) (n : ℕ) → length ps ≤ n → length source ≡ statement_end source (drop n ps)
no_end source ps n none = ap (statement_end source) (sym (drop_all n ps none))

-- one token more, from the back, that ends a statement
pub ended : (source : Text) (ps : List PlacedToken) (n left until : ℕ) (p : PlacedToken) → drop n ps ≡ p ∷ drop left ps
    → bytes_eq (text_of source p) (codes ";") ≡ true → until ≡ block_end source 0 (drop left ps)
    → until ≡ statement_end source (drop n ps)
ended source ps n left until p split ends is =
    let here : statement_end source (p ∷ drop left ps) ≡ block_end source 0 (drop left ps) = rw ends refl in
    is ∙ (sym here ∙ ap (statement_end source) (sym split))

-- one that doesn't
pub stays_until : (source : Text) (ps : List PlacedToken) (n left until : ℕ) (p : PlacedToken) → drop n ps ≡ p ∷ drop left ps
    → bytes_eq (text_of source p) (codes ";") ≡ false → until ≡ statement_end source (drop left ps)
    → until ≡ statement_end source (drop n ps)
stays_until source ps n left until p split not is =
    is ∙ (sym (same_end source p (drop left ps) not) ∙ ap (statement_end source) (sym split))

reverse_option : (found : Option Alias) → reverse (option_to_list found) ≡ option_to_list found
reverse_option None = refl
reverse_option (Some alias) = refl

pushed_option : (found : Option Alias) (old now : List Alias) → now ≡ old ++ option_to_list found
    → reverse now ≡ option_to_list found ++ reverse old
pushed_option found old now pushed =
    ap reverse pushed
    ∙ (reverse-append old (option_to_list found) ∙ ap (λ l. l ++ reverse old) (reverse_option found))

pub one_more : (source : Text) (own : List OwnCall) (ps : List PlacedToken) (n left : ℕ) (p : PlacedToken) (itself found : Option Alias)
    (old between now : List Alias) → drop n ps ≡ p ∷ drop left ps → itself ≡ self_at source own p (drop left ps) → between ≡ old ++ option_to_list itself
    → found ≡ alias_at source own p (drop left ps) → now ≡ between ++ option_to_list found
    → reverse old ≡ aliases_in source own (drop left ps) → reverse now ≡ aliases_in source own (drop n ps)
one_more source own ps n left p itself found old between now split is first has second so_far =
    pushed_option found between now second
    ∙ (ap (λ l. option_to_list found ++ l) (pushed_option itself old between first)
    ∙ (sym (append_assoc (option_to_list found) (option_to_list itself) (reverse old))
    ∙ (ap (λ l. option_to_list found ++ option_to_list itself ++ l) so_far
    ∙ (ap (λ o. option_to_list o ++ option_to_list itself ++ aliases_in source own (drop left ps)) has
    ∙ (ap (λ o. option_to_list (alias_at source own p (drop left ps)) ++ option_to_list o ++ aliases_in source own (drop left ps)) is
    ∙ ap (aliases_in source own) (sym split))))))

any_other : (ps : List PlacedToken) (n : ℕ) (d other : PlacedToken) → n < length ps → get_or ps n d ≡ get_or ps n other
any_other ps n d other below = cc (slice_get-get_or ps n d below, slice_get-get_or ps n other below)

-- Two colons end no statement.
pub passed_colons : (source : Text) (ps : List PlacedToken) (d : PlacedToken) (until : Option ℕ) → 3 ≤ length ps
    → bytes_eq (text_of source (get_or ps 0 d)) (codes ":") ≡ true
    → bytes_eq (text_of source (get_or ps 1 d)) (codes ":") ≡ true → IsUntil source ps until
    → IsUntil source (get_or ps 2 d ∷ take (length ps - 3) (drop 3 ps)) until
passed_colons source [] d until long first second is = absurd (omega (arith, long))
passed_colons source (p ∷ []) d until long first second is = absurd (omega (arith, long))
passed_colons source (p ∷ q ∷ []) d until long first second is = absurd (omega (arith, long))
passed_colons source (p ∷ q ∷ r ∷ ps) d until long first second is =
    let all : take (length (p ∷ q ∷ r ∷ ps) - 3) ps ≡ ps = take_all (length (p ∷ q ∷ r ∷ ps) - 3) ps (omega arith) in
    subst (λ rest. IsUntil source (r ∷ rest) until) (sym all)
    (passed_colon source q (r ∷ ps) until second (passed_colon source p (q ∷ r ∷ ps) until first is))

-- the same for tokens that are read
pub items_passed : (source : Text) (ps : List PlacedToken) (p q r : PlacedToken) (until : Option ℕ) → 3 ≤ length ps
    → p ≡ get_or ps 0 p → q ≡ get_or ps 1 q → r ≡ get_or ps 2 r → bytes_eq (text_of source p) (codes ":") ≡ true
    → bytes_eq (text_of source q) (codes ":") ≡ true → IsUntil source ps until
    → IsUntil source (r ∷ take (length ps - 3) (drop 3 ps)) until
items_passed source ps p q r until long here next last first second is =
    let one : bytes_eq (text_of source (get_or ps 0 r)) (codes ":") ≡ true =
    subst (λ x. bytes_eq (text_of source x) (codes ":") ≡ true) (here ∙ any_other ps 0 p r (omega (arith, long))) first in
    let two : bytes_eq (text_of source (get_or ps 1 r)) (codes ":") ≡ true =
    subst (λ x. bytes_eq (text_of source x) (codes ":") ≡ true) (next ∙ any_other ps 1 q r (omega (arith, long))) second in
    subst (λ x. IsUntil source (x ∷ take (length ps - 3) (drop 3 ps)) until) (sym last)
    (passed_colons source ps r until long one two is)
