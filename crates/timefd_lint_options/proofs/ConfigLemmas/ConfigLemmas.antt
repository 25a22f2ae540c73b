-- One more key.
use Rattle.std.proofs.Common.{◌≡◌, List, [], ◌∷◌, ◌++◌, refl, sym, ap, ◌∙◌, append_assoc, string_bytes}
use Rattle.std.specs.Prelude.{Result, Ok, Err}
use Rattle.std.proofs.lemmas.List.{map-append}
use Rattle.timefd_lint_scan.specs.Keys.Keys.{Named}
use Rattle.toml.specs.View.{members_view, view}
use Rattle.toml.proofs.Views.{Entry}
use Rattle.timefd_lint_options.specs.declared.config.keys.OwnedKey.{OwnedKey}
use Rattle.timefd_lint_options.specs.Config.Config.{in_front, key_of, keys_in, named, named_all, with_key}
use Rattle.timefd_lint_options.specs.Config.Faults.{Fault}

-- keys, followed by further ones, unless something is wrong with those
abbrev pub after : List Named → Result (List Named) Fault → Result (List Named) Fault
after done (Ok keys) = Ok (done ++ keys)
after done (Err fault) = Err fault

pub after_none : (rest : Result (List Named) Fault) → after [] rest ≡ rest
after_none (Ok keys) = refl
after_none (Err fault) = refl

pub one_more : (done : List Named) (key : Named) (rest : Result (List Named) Fault)
    → after (done ++ key ∷ []) rest ≡ after done (in_front key rest)
one_more done key (Ok keys) = ap Ok (append_assoc done (key ∷ []) keys)
one_more done key (Err fault) = refl

-- a key that is pushed, and the remaining entries
pub pushed : (old new : List OwnedKey) (key : OwnedKey) (e : Entry) (more rest : List Entry)
    (all : Result (List Named) Fault) → new ≡ old ++ key ∷ [] → rest ≡ e ∷ more
    → key_of (string_bytes e.0) (view e.1) ≡ Ok (named key)
    → after (named_all old) (keys_in (members_view rest)) ≡ all
    → after (named_all new) (keys_in (members_view more)) ≡ all
pushed old new key e more rest all is split read so_far =
    ap (λ keys. after (named_all keys) (keys_in (members_view more))) is
    ∙ (ap (λ keys. after keys (keys_in (members_view more))) (map-append named old (key ∷ []))
    ∙ (one_more (named_all old) (named key) (keys_in (members_view more))
    ∙ (ap (λ first. after (named_all old) (with_key first (keys_in (members_view more)))) (sym read)
    ∙ (ap (λ es. after (named_all old) (keys_in (members_view es))) (sym split) ∙ so_far))))
