-- One more key after others.
use Rattle.std.proofs.Common.{◌≡◌, List, [], ◌∷◌, ◌++◌, sym, ap, ◌∙◌, append_assoc, append-nil}
use Rattle.std.proofs.lemmas.List.{map-append}
use Rattle.timefd_lint_scan.specs.declared.keys.key.DescriptionKey.{DescriptionKey}
use Rattle.timefd_lint_scan.specs.Keys.Keys.{Named}
use Rattle.timefd_lint_scan.specs.Keys.Keys as borrowed
use Rattle.timefd_lint_options.specs.declared.config.keys.OwnedKey.{OwnedKey}
use Rattle.timefd_lint_options.specs.Config.Config.{named, named_all}

pub one_more : (old new : List DescriptionKey) (key : DescriptionKey) (first : OwnedKey) (more rest : List OwnedKey)
    (all : List Named) → new ≡ old ++ key ∷ [] → borrowed.named key ≡ named first → rest ≡ first ∷ more
    → borrowed.named_all old ++ named_all rest ≡ all → borrowed.named_all new ++ named_all more ≡ all
one_more old new key first more rest all is same split so_far =
    ap (λ keys. borrowed.named_all keys ++ named_all more) is
    ∙ (ap (λ keys. keys ++ named_all more) (map-append borrowed.named old (key ∷ []))
    ∙ (append_assoc (borrowed.named_all old) (borrowed.named key ∷ []) (named_all more)
    ∙ (ap (λ it. borrowed.named_all old ++ it ∷ named_all more) same
    ∙ (ap (λ keys. borrowed.named_all old ++ named_all keys) (sym split) ∙ so_far))))

pub at_last : (keys : List DescriptionKey) (rest : List OwnedKey) (all : List Named) → rest ≡ []
    → borrowed.named_all keys ++ named_all rest ≡ all → borrowed.named_all keys ≡ all
at_last keys rest all none so_far =
    sym (append-nil (borrowed.named_all keys))
    ∙ (ap (λ more. borrowed.named_all keys ++ named_all more) (sym none) ∙ so_far)

pub one_again : (old new : List DescriptionKey) (key first : DescriptionKey) (more rest : List DescriptionKey) (all : List Named)
    → new ≡ old ++ key ∷ [] → borrowed.named key ≡ borrowed.named first → rest ≡ first ∷ more
    → borrowed.named_all old ++ borrowed.named_all rest ≡ all → borrowed.named_all new ++ borrowed.named_all more ≡ all
one_again old new key first more rest all is same split so_far =
    ap (λ keys. borrowed.named_all keys ++ borrowed.named_all more) is
    ∙ (ap (λ keys. keys ++ borrowed.named_all more) (map-append borrowed.named old (key ∷ []))
    ∙ (append_assoc (borrowed.named_all old) (borrowed.named key ∷ []) (borrowed.named_all more)
    ∙ (ap (λ it. borrowed.named_all old ++ it ∷ borrowed.named_all more) same
    ∙ (ap (λ keys. borrowed.named_all old ++ borrowed.named_all keys) (sym split) ∙ so_far))))

pub last_again : (keys rest : List DescriptionKey) (all : List Named) → rest ≡ []
    → borrowed.named_all keys ++ borrowed.named_all rest ≡ all → borrowed.named_all keys ≡ all
last_again keys rest all none so_far =
    sym (append-nil (borrowed.named_all keys))
    ∙ (ap (λ more. borrowed.named_all keys ++ borrowed.named_all more) (sym none) ∙ so_far)
