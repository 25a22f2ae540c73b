-- A word that should be the code of an error or a warning, or a level.
use Rattle.std.specs.Prelude.{List, [], ◌∷◌, ◌++◌, codes, map}
use Rattle.timefd_parse.specs.Tree.{Text}
use Rattle.timefd_parse.specs.Codes as faults
use Rattle.timefd_lang_warnings.specs.declared.warning.Warning.{Warning}
use Rattle.timefd_lang_warnings.specs.Codes as warnings
use Rattle.timefd_lint.specs.ErrorCodes.{name_of}
use Rattle.timefd_lang_dialect.specs.Reasons as reasons
use Rattle.timefd_lang_dialect.specs.TrapWords as traps
use Rattle.timefd_lint_warnings.specs.Dialects.Codes.{all_reasons}
use Rattle.timefd_lint.specs.NoneOf.{IsNoneOf}
use Rattle.timefd_lint.specs.Rules.{others, own_traps}

-- the codes of what is refused in formats of other languages, and of traps
abbrev pub codes_of_others : List Text
codes_of_others = map reasons.name all_reasons ++ map traps.name own_traps

-- the codes of all faults, of all other errors, of all warnings, and on formats of other languages
abbrev pub all_codes : List Text
all_codes =
    map faults.name_of faults.all
    ++ (map name_of others ++ (map warnings.name_of warnings.all ++ codes_of_others))

-- The sentence names the nearest code, if one is near, and lists all.
abbrev pub IsNoCode : Text → Text → Type 0
IsNoCode name text = IsNoneOf (codes "there is no error or warning") all_codes name text

-- the codes of all warnings
abbrev pub warning_codes : List Text
warning_codes = map warnings.name_of warnings.all

-- the same of warnings alone
abbrev pub IsNoWarning : Text → Text → Type 0
IsNoWarning name text = IsNoneOf (codes "there is no warning") warning_codes name text

-- the words for levels
abbrev pub level_words : List Text
level_words = codes "allow" ∷ codes "warn" ∷ codes "deny" ∷ []

abbrev pub without_level : Warning → Text
without_level warning = codes "`" ++ (warnings.name_of warning ++ codes "` has no level")

-- a word that is no level, for this warning
abbrev pub IsNoLevel : Warning → Text → Text → Type 0
IsNoLevel warning word text = IsNoneOf (without_level warning) level_words word text
