-- The languages that read a text which has no component.
use Rattle.std.proofs.Common.{◌≡◌, ◌==◌, cond, Bool, true, false, List, [], ◌∷◌, ◌++◌, append-nil, append_assoc, refl, sym, ap, ◌∙◌}
use Rattle.std.specs.List.{filter, list_any}
use Rattle.timefd_parse.specs.Tree.{Text}
use Rattle.timefd_lang_dialect.specs.declared.dialect.Dialect.{Dialect}
use Rattle.timefd_lang_dialect.specs.Readers.{readers}
use Rattle.timefd_lint_warnings.specs.Hints.{alone, is_offered, offered}

pub one_kept : (test : Dialect → Bool) (dialect : Dialect) (old new : List Dialect)
    → test dialect ≡ true → new ≡ old ++ dialect ∷ [] → new ≡ old ++ filter test (alone dialect)
one_kept test dialect old new is e =
    e ∙ ap (λ xs. old ++ xs) (sym (by (test dialect) is))
  where
    by : (t : Bool) → t ≡ true → cond t (dialect ∷ []) [] ≡ dialect ∷ []
    by true is = refl
    by false is = cc

pub none_kept : (test : Dialect → Bool) (dialect : Dialect) (old : List Dialect)
    → test dialect ≡ false → old ≡ old ++ filter test (alone dialect)
none_kept test dialect old is =
    sym (ap (λ xs. old ++ xs) (by (test dialect) is) ∙ append-nil old)
  where
    by : (t : Bool) → t ≡ false → cond t (dialect ∷ []) [] ≡ []
    by true is = cc
    by false is = refl

pub one_more : (test : Dialect → Bool) (dialect : Dialect) (rest old new whole : List Dialect)
    → old ++ filter test (dialect ∷ rest) ≡ whole → new ≡ old ++ filter test (alone dialect)
    → new ++ filter test rest ≡ whole
one_more test dialect rest old new whole so_far e =
    ap (λ xs. xs ++ filter test rest) e ∙ append_assoc old (filter test (alone dialect)) (filter test rest)
    ∙ ap (λ xs. old ++ xs) (by (test dialect)) ∙ so_far
  where
    by : (t : Bool) → cond t (dialect ∷ []) [] ++ filter test rest
        ≡ cond t (dialect ∷ filter test rest) (filter test rest)
    by true = refl
    by false = refl

-- Those that are kept of all that read the text are the ones that are named.
pub are_offered : (text bytes : Text) (percent : Bool) (all given none dialects : List Dialect)
    → bytes ≡ text → percent ≡ list_any (λ b. b == 37) bytes → all ≡ readers text → given ≡ all → none ≡ []
    → dialects ≡ none ++ filter (is_offered percent) given → dialects ≡ offered text
are_offered text bytes percent all given none dialects same found read taken empty kept =
    kept ∙ ap (λ xs. xs ++ filter (is_offered percent) given) empty
    ∙ ap (λ xs. filter (is_offered percent) xs) (taken ∙ read)
    ∙ ap (λ p. filter (is_offered p) (readers text)) (found ∙ ap (λ t. list_any (λ b. b == 37) t) same)
