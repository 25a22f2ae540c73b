-- The codes of what is reported about descriptions.
use Rattle.std.specs.Prelude.{Bool, true, false, List, [], ◌∷◌, ◌++◌, bytes_eq, codes, if◌then◌else◌, map}
use Rattle.timefd_parse.specs.Tree.{Text}
use Rattle.timefd_lang_dialect.specs.Reasons as reasons
use Rattle.timefd_lang_dialect.specs.TrapWords as traps
use Rattle.timefd_parse.specs.Codes as faults
use Rattle.timefd_lint_warnings.specs.Dialects.Codes.{all_reasons, all_traps}
use Rattle.timefd_lang_warnings.specs.Codes as warnings

-- the code of bytes that aren't UTF-8, and those of all faults, of all warnings, and of what is reported of formats of other
-- languages
abbrev pub description_codes : List Text
description_codes =
    codes "not-text" ∷ (map faults.name_of faults.all
    ++ (map warnings.name_of warnings.all ++ (map reasons.name all_reasons ++ map traps.name all_traps)))

-- A word is one of these codes.
abbrev pub is_among : List Text → Text → Bool
is_among [] word = false
is_among (code ∷ rest) word = if bytes_eq word code then true else is_among rest word
