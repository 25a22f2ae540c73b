-- One more word, and the last one.
use Rattle.std.proofs.Common.{◌≡◌, List, [], ◌∷◌, ◌++◌, codes, refl, sym, ap, ◌∙◌, append_assoc, append-nil}
use Rattle.std.proofs.lemmas.List.{map-append}
use denote.Ref.{Bor}
use Rattle.timefd_parse.specs.Tree.{Text}
use Rattle.timefd_lint_diagnosis.specs.Words.{texts}
use Rattle.timefd_lint_options.specs.declared.order.Next.{Next}
use Rattle.timefd_lint_options.specs.declared.order.Next.TheVariants.{Any}
use Rattle.timefd_lint_options.specs.Order.{after, end_by, last, names_at, names_from, options_at, options_from, ordered}

abbrev now_of : Bor Text → Text
now_of w = w.now

pub nothing : (old : List Text) → old ≡ old ++ []
nothing old = sym (append-nil old)

pub pushed : (old new : List (Bor Text)) (word : Bor Text) → new ≡ old ++ word ∷ []
    → texts new ≡ texts old ++ word.now ∷ []
pushed old new word is = ap texts is ∙ map-append now_of old (word ∷ [])

pub pushed_two : (old middle new : List Text) (first second : Text) → middle ≡ old ++ first ∷ []
    → new ≡ middle ++ second ∷ [] → new ≡ old ++ first ∷ second ∷ []
pushed_two old middle new first second one two =
    two ∙ (ap (λ ws. ws ++ second ∷ []) one ∙ append_assoc old (first ∷ []) (second ∷ []))

-- The words that are left decide on the options, the names, and what follows the last word.
pub record IsOrderedFrom (next : Next) (rest options names all : List Text) : Type 0 where
  pub options_left : options ++ options_from next rest ≡ options_from Any all
  pub names_left : names ++ names_from next rest ≡ names_from Any all
  pub last_left : last next rest ≡ last Any all

pub one_more : (next new_next : Next) (word : Bor Text) (more rest : List (Bor Text))
    (options new_options names new_names all : List Text)
    → new_options ≡ options ++ options_at next word.now → new_names ≡ names ++ names_at next word.now
    → new_next ≡ after next word.now → rest ≡ word ∷ more
    → IsOrderedFrom next (texts rest) options names all
    → IsOrderedFrom new_next (texts more) new_options new_names all
one_more next new_next word more rest options new_options names new_names all opts nams is split so_far = record {
  options_left = ap (λ x. x ++ options_from new_next (texts more)) opts
      ∙ (ap (λ n. (options ++ options_at next word.now) ++ options_from n (texts more)) is
      ∙ (append_assoc options (options_at next word.now) (options_from (after next word.now) (texts more))
      ∙ (ap (λ ws. options ++ options_from next (texts ws)) (sym split) ∙ so_far.options_left)));
  names_left = ap (λ x. x ++ names_from new_next (texts more)) nams
      ∙ (ap (λ n. (names ++ names_at next word.now) ++ names_from n (texts more)) is
      ∙ (append_assoc names (names_at next word.now) (names_from (after next word.now) (texts more))
      ∙ (ap (λ ws. names ++ names_from next (texts ws)) (sym split) ∙ so_far.names_left)));
  last_left = ap (λ n. last n (texts more)) is ∙ (ap (λ ws. last next (texts ws)) (sym split) ∙ so_far.last_left);
}

pub at_last : (next : Next) (rest : List (Bor Text)) (options names answer all : List Text) → rest ≡ []
    → IsOrderedFrom next (texts rest) options names all → answer ≡ options ++ end_by next names
    → answer ≡ ordered all
at_last next rest options names answer all none so_far is =
    is
    ∙ (ap (λ o. o ++ end_by next names)
    (sym (append-nil options) ∙ (ap (λ ws. options ++ options_from next (texts ws)) (sym none) ∙ so_far.options_left))
    ∙ (ap (λ n. options_from Any all ++ end_by next n)
    (sym (append-nil names) ∙ (ap (λ ws. names ++ names_from next (texts ws)) (sym none) ∙ so_far.names_left))
    ∙ ap (λ n. options_from Any all ++ end_by n (names_from Any all))
    (ap (λ ws. last next (texts ws)) (sym none) ∙ so_far.last_left)))

-- The names after the options, and none.
pub joined : (options ended all names : List (Bor Text)) (dashes : Bor Text) → dashes.now ≡ codes "--"
    → ended ≡ options ++ dashes ∷ [] → all ≡ ended ++ names
    → texts all ≡ texts options ++ codes "--" ∷ texts names
joined options ended all names dashes is end added =
    ap texts added ∙ (map-append now_of ended names
    ∙ (ap (λ ws. texts ws ++ texts names) end
    ∙ (ap (λ ws. ws ++ texts names) (map-append now_of options (dashes ∷ []))
    ∙ (append_assoc (texts options) (dashes.now ∷ []) (texts names)
    ∙ ap (λ d. texts options ++ d ∷ texts names) is))))

pub alone : (options : List (Bor Text)) → texts options ≡ texts options ++ []
alone options = sym (append-nil (texts options))
