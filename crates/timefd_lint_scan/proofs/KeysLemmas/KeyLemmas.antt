-- A word, cut at its first equals sign.
use Rattle.std.proofs.Common.{◌≡◌, Bool, length, sym, ap, ◌∙◌, arith, eq-eqb}
use Rattle.std.specs.Prelude.{None, Some, Result, Err, if◌then◌else◌}
use Rattle.std.specs.List.{after_first, before_first, position_or_len}
use Rattle.std.proofs.lemmas.Str.Pattern.{IsSplitOnceResult, split_once_first}
use borrow.Author.Tests.{ne_eqb}
use denote.Ref.{Bor}
use Rattle.timefd_lint_scan.specs.Bytes.{Text}
use Rattle.timefd_lint_scan.specs.declared.keys.key.KeyFault.{KeyFault}
use Rattle.timefd_lint_scan.specs.declared.keys.key.KeyFault.TheVariants.{NoEqualsSign}
use Rattle.timefd_lint_scan.specs.Keys.Keys.{Named, answer_of, is_equals_sign, key_of}

abbrev by_test : Text → Bool → Result Named KeyFault
by_test word none = if none then Err NoEqualsSign
    else answer_of (before_first is_equals_sign word) (after_first is_equals_sign word)

pub cut : (word : Text) (name language : Bor Text) (r : Result Named KeyFault)
    → IsSplitOnceResult 61 word (Some (name, language))
    → r ≡ answer_of name.now language.now → r ≡ key_of word
cut word name language r parts is =
    let m = split_once_first 61 word (Some (name, language)) parts (omega arith) in
    is ∙ (ap (λ (n : Text). answer_of n language.now) m.1
    ∙ (ap (λ (l : Text). answer_of (before_first is_equals_sign word) l) m.2
    ∙ sym (ap (by_test word) (ne_eqb (position_or_len is_equals_sign word) (length word) (λ e. omega (arith, m.0, e))))))

pub whole : (word : Text) (r : Result Named KeyFault) → IsSplitOnceResult 61 word None
    → r ≡ Err NoEqualsSign → r ≡ key_of word
whole word r none is =
    let m = split_once_first 61 word None none (omega arith) in
    is ∙ sym (ap (by_test word) (eq-eqb (position_or_len is_equals_sign word) (length word) m))
