-- The sentence of each fault.
use Rattle.std.specs.Prelude.{ℕ, [], ◌∷◌, ◌++◌, codes}
use Rattle.std.specs.Fmt.{decimal}
use Rattle.timefd_lang_fault.specs.Faults.{Text, Kind, unclosed_bracket, invalid_name, invalid_modifier, missing_name, missing_modifier, expected, not_supported, duplicate_modifier, invalid_combination, Fault, fault_of}
use Rattle.timefd_lang_fault.specs.declared.invalid_format_description.InvalidFormatDescription.{InvalidFormatDescription}

-- what is not supported, and in what
abbrev pub unsupported : Text → Text → ℕ → Text
unsupported what [] index = what ++ (codes " is not supported at byte index " ++ decimal index)
unsupported what (c ∷ cs) index =
    what ++ (codes " is not supported in "
    ++ ((c ∷ cs) ++ (codes " at byte index " ++ decimal index)))

abbrev pub sentence_at : Kind → ℕ → Text
sentence_at unclosed_bracket index =
    codes "unclosed opening bracket at byte index " ++ decimal index
sentence_at (invalid_name name) index =
    codes "invalid component name `" ++ (name ++ (codes "` at byte index " ++ decimal index))
sentence_at (invalid_modifier value) index =
    codes "invalid modifier `" ++ (value ++ (codes "` at byte index " ++ decimal index))
sentence_at missing_name index = codes "missing component name at byte index " ++ decimal index
sentence_at (missing_modifier name) index =
    codes "missing required modifier `"
    ++ (name ++ (codes "` for component at byte index " ++ decimal index))
sentence_at (expected what) index =
    codes "expected " ++ (what ++ (codes " at byte index " ++ decimal index))
sentence_at (not_supported what context) index = unsupported what context index
sentence_at (duplicate_modifier name) index =
    codes "duplicate modifier `" ++ (name ++ (codes "` at byte index " ++ decimal index))
sentence_at (invalid_combination modifier context) index =
    codes "the `" ++ (modifier ++ (codes
    "` modifier is not valid at byte index " ++ (decimal index ++ (codes " " ++ context))))

abbrev pub sentence : Fault → Text
sentence f = sentence_at f.kind f.index

abbrev pub error_sentence : InvalidFormatDescription → Text
error_sentence error = sentence (fault_of error)
