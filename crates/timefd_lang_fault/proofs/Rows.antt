-- Worked rows.
use Rattle.std.proofs.Common.{◌≡◌, refl, codes, []}
use Rattle.std.specs.Fmt.{digits}
use Rattle.timefd_lang_fault.specs.Faults.{fault, missing_modifier, not_supported, invalid_combination, invalid_name, unclosed_bracket}
use Rattle.timefd_lang_fault.specs.Sentences.{sentence}

unsupported : sentence (fault (not_supported (codes "modifier") []) 1) ≡ codes
    "modifier is not supported at byte index 1"
unfolding digits
unsupported = refl

unsupported_in : sentence (fault (not_supported (codes "nested format descriptions")
    (codes "on this component")) 0)
    ≡ codes "nested format descriptions is not supported in on this component at byte index 0"
unfolding digits
unsupported_in = refl

combination : sentence (fault (invalid_combination (codes "padding") (codes "for long month")) 17)
    ≡ codes "the `padding` modifier is not valid at byte index 17 for long month"
unfolding digits
combination = refl

missing : sentence (fault (missing_modifier (codes "count")) 1) ≡ codes
    "missing required modifier `count` for component at byte index 1"
unfolding digits
missing = refl

unclosed : sentence (fault unclosed_bracket 4) ≡ codes "unclosed opening bracket at byte index 4"
unfolding digits
unclosed = refl

unknown : sentence (fault (invalid_name (codes "foo")) 6) ≡ codes
    "invalid component name `foo` at byte index 6"
unfolding digits
unknown = refl
