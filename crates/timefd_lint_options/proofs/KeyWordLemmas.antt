-- One more key, and one more word.
use Rattle.std.proofs.Common.{◌≡◌, List, [], ◌∷◌, ◌++◌, sym, ap, ◌∙◌, append_assoc, append-nil}
use Rattle.std.specs.Prelude.{Result, Ok, Err}
use Rattle.std.proofs.lemmas.List.{map-append}
use denote.Ref.{Bor}
use Rattle.timefd_parse.specs.Tree.{Text}
use Rattle.timefd_lint_scan.specs.declared.keys.key.DescriptionKey.{DescriptionKey}
use Rattle.timefd_lint_scan.specs.declared.keys.key.KeyFault.{KeyFault}
use Rattle.timefd_lint_scan.specs.Keys.Keys.{Named, key_of, keys_in, listed, named, named_all, seen}
use Rattle.timefd_lint_options.specs.declared.keys.Expected.{Expected}
use Rattle.timefd_lint_options.specs.KeyWords.{after, keys_at, keys_from}

pub is_key : (word : Text) (old new : List DescriptionKey) (key : DescriptionKey) (r : Result DescriptionKey KeyFault)
    → seen r ≡ key_of word → r ≡ Ok key → new ≡ old ++ key ∷ []
    → named_all new ≡ named_all old ++ keys_in word
is_key word old new key r same is pushed =
    ap named_all pushed ∙ (map-append named old (key ∷ [])
    ∙ ap (λ x. named_all old ++ listed x) (sym (ap seen is) ∙ same))

pub is_none : (word : Text) (old : List DescriptionKey) (fault : KeyFault) (r : Result DescriptionKey KeyFault)
    → seen r ≡ key_of word → r ≡ Err fault → named_all old ≡ named_all old ++ keys_in word
is_none word old fault r same is =
    sym (append-nil (named_all old)) ∙ ap (λ x. named_all old ++ listed x) (sym (ap seen is) ∙ same)

pub no_key : (old : List DescriptionKey) → named_all old ≡ named_all old ++ []
no_key old = sym (append-nil (named_all old))

pub one_more : (expected next : Expected) (word : Bor Text) (more rest : List (Bor Text))
    (old new all : List Named) → new ≡ old ++ keys_at expected word.now
    → next ≡ after expected word.now → rest ≡ word ∷ more
    → old ++ keys_from expected rest ≡ all → new ++ keys_from next more ≡ all
one_more expected next word more rest old new all pushed is split so_far =
    ap (λ x. x ++ keys_from next more) pushed
    ∙ (ap (λ e. (old ++ keys_at expected word.now) ++ keys_from e more) is
    ∙ (append_assoc old (keys_at expected word.now) (keys_from (after expected word.now) more)
    ∙ (ap (λ ws. old ++ keys_from expected ws) (sym split) ∙ so_far)))

pub at_last : (expected : Expected) (rest : List (Bor Text)) (old all : List Named) → rest ≡ []
    → old ++ keys_from expected rest ≡ all → old ≡ all
at_last expected rest old all none so_far =
    sym (append-nil old) ∙ (ap (λ ws. old ++ keys_from expected ws) (sym none) ∙ so_far)
