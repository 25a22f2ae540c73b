-- Why a file of settings can't be used.
use Rattle.std.proofs.Common.{◌≡◌, Option, Some, None, Result, Ok, Err, IfOk, codes, inl, inr, sym, subst, string_bytes}
use Rattle.std.specs.Prelude.{IfSome, IsUtf8, String}
use Rattle.std.specs.declared.alloc.AllocError.{AllocError}
use Rattle.std.specs.declared.alloc.Global.{Global}
use Rattle.timefd_parse.specs.Tree.{Text}
use Rattle.timefd_lang_warnings.specs.declared.warning.Warning.{Warning}
use Rattle.timefd_lang_warnings.specs.Codes as warnings
use Rattle.timefd_lint_options.specs.declared.config.error.ConfigError.{ConfigError}
use Rattle.timefd_lint_options.specs.declared.config.error.ConfigError.TheVariants as errors
use Rattle.timefd_lint_options.specs.Config.Config.{config_of}
use Rattle.timefd_lint_options.specs.Config.Faults.{Fault, fault}
use Rattle.timefd_lint.specs.declared.config.ConfigFailure.{ConfigFailure}
use Rattle.timefd_lint.specs.declared.config.ConfigFailure.TheVariants.{Memory, Wrong}
use Rattle.timefd_lint.specs.Unusable.{IsFaultIn, IsSaidFor, IsSaidIf, IsWrongText, Says, about, reported, wrong}

-- What a sentence says is reported, unless there is no memory for it.
pub says : (Is : Text → Type 0) (r : Result (String Global) AllocError) (failure : ConfigFailure) → failure ≡ reported r
    → IfOk r (λ sentence. Is (string_bytes sentence)) → Says Is failure
says Is (Ok sentence) failure is said = subst (Says Is) (sym is) said
says Is (Err error) failure is said = subst (Says Is) (sym is) tt

-- The bytes aren't UTF-8.
pub of_no_text : (file bytes : Text) (r : Result (String Global) AllocError) (failure : ConfigFailure)
    → failure ≡ reported r → (¬ IsUtf8 bytes)
    → IfOk r (λ sentence. string_bytes sentence ≡ wrong file (codes "the bytes aren't UTF-8"))
    → Says (IsWrongText file bytes) failure
of_no_text file bytes (Ok sentence) failure is no_text said =
    subst (Says (IsWrongText file bytes)) (sym is) (inl (no_text, said))
of_no_text file bytes (Err error) failure is no_text said = subst (Says (IsWrongText file bytes)) (sym is) tt

-- Something is wrong with their text.
pub of_text : (file bytes text : Text) (failure : ConfigFailure) → text ≡ bytes → Says (IsFaultIn file text) failure
    → Says (IsWrongText file bytes) failure
of_text file bytes text Memory same said = tt
of_text file bytes text (Wrong sentence) same said =
    inr (subst (λ (t : Text). IsFaultIn file t (string_bytes sentence)) same said)

by_fault : (file text : Text) (maybe : Option Fault) (r : Result (String Global) AllocError) (failure : ConfigFailure)
    → failure ≡ reported r → IfSome maybe (λ fault. config_of text ≡ Err fault)
    → IfOk r (λ sentence. IsSaidIf file text maybe (string_bytes sentence)) → Says (IsFaultIn file text) failure
by_fault file text None (Ok sentence) failure is at said = absurd said
by_fault file text (Some fault) (Ok sentence) failure is at said =
    subst (Says (IsFaultIn file text)) (sym is) (fault, at, said)
by_fault file text maybe (Err error) failure is at said = subst (Says (IsFaultIn file text)) (sym is) tt

-- The sentence on an error is on the fault of the text.
pub of_fault : (file text : Text) (error : ConfigError) (r : Result (String Global) AllocError) (failure : ConfigFailure)
    → failure ≡ reported r → IfSome (fault error) (λ fault. config_of text ≡ Err fault)
    → IfOk r (λ sentence. IsSaidFor file text error (string_bytes sentence)) → Says (IsFaultIn file text) failure
of_fault file text error r failure is at said = by_fault file text (fault error) r failure is at said

-- The level of a warning is no string.
pub of_no_level : (file text name : Text) (warning : Warning) (error : ConfigError) (r : Result (String Global) AllocError)
    → error ≡ errors.NoLevel warning → name ≡ warnings.name_of warning
    → IfOk r (λ sentence. string_bytes sentence ≡ about file name
    (codes "has no string for its level: it is one of \"allow\", \"warn\", \"deny\""))
    → IfOk r (λ sentence. IsSaidFor file text error (string_bytes sentence))
of_no_level file text name warning error r is named said =
    subst (λ (e : ConfigError). IfOk r (λ sentence. IsSaidFor file text e (string_bytes sentence))) (sym is)
    (subst (λ (n : Text). IfOk r (λ sentence. string_bytes sentence ≡ about file n
    (codes "has no string for its level: it is one of \"allow\", \"warn\", \"deny\""))) named said)

-- The value of a key names no language.
pub of_no_language : (file text name : Text) (key : String Global) (error : ConfigError)
    (r : Result (String Global) AllocError) → error ≡ errors.UnknownLanguage key → name ≡ string_bytes key
    → IfOk r (λ sentence. string_bytes sentence ≡ about file name
    (codes "has no language: it is one of 1, 2, 3, \"strftime\", \"python\", \"c\", \"gnu\", \"chrono\", \"jiff\", \"ruby\", \"java\", \"go\", \"moment\""))
    → IfOk r (λ sentence. IsSaidFor file text error (string_bytes sentence))
of_no_language file text name key error r is named said =
    subst (λ (e : ConfigError). IfOk r (λ sentence. IsSaidFor file text e (string_bytes sentence))) (sym is)
    (subst (λ (n : Text). IfOk r (λ sentence. string_bytes sentence ≡ about file n
    (codes "has no language: it is one of 1, 2, 3, \"strftime\", \"python\", \"c\", \"gnu\", \"chrono\", \"jiff\", \"ruby\", \"java\", \"go\", \"moment\"")))
    named said)

-- A key of calls, or its value, is wrong.
pub of_key : (file text name what : Text) (made : String Global → ConfigError) (key : String Global) (error : ConfigError)
    (r : Result (String Global) AllocError) → error ≡ made key → name ≡ string_bytes key
    → ((sentence : Text) → sentence ≡ about file (string_bytes key) what → IsSaidFor file text (made key) sentence)
    → IfOk r (λ sentence. string_bytes sentence ≡ about file name what)
    → IfOk r (λ sentence. IsSaidFor file text error (string_bytes sentence))
of_key file text name what made key error (Ok sentence) is named reads said =
    subst (λ (e : ConfigError). IsSaidFor file text e (string_bytes sentence)) (sym is)
    (reads (string_bytes sentence) (subst (λ (n : Text). string_bytes sentence ≡ about file n what) named said))
of_key file text name what made key error (Err e) is named reads said = tt
