-- Which error or warning is explained, and its page.
use Rattle.std.specs.Prelude.{List, [], ◌∷◌, ◌++◌, Option, Some, None, ◌&&◌, not, codes, bytes_eq, nat_eq, if◌then◌else◌}
use Rattle.std.specs.List.{starts_with}
use denote.Ref.{Bor}
use Rattle.timefd_parse.specs.Tree.{Text}
use Rattle.timefd_lang_warnings.specs.declared.warning.Warning as warnings
use Rattle.timefd_lang_warnings.specs.Codes as of_warnings
use Rattle.timefd_lint.specs.declared.error_code.ErrorCode.{ErrorCode}
use Rattle.timefd_lint.specs.declared.page.Subject.{Subject}
use Rattle.timefd_lint.specs.declared.page.Subject.TheVariants.{Error, Warning, Reason, Trap}
use Rattle.timefd_lang_warnings.specs.Explanations.{explanation_of}
use Rattle.timefd_lang_dialect.specs.declared.reason.Reason as reasons
use Rattle.timefd_lang_dialect.specs.declared.trap.Trap as traps
use Rattle.timefd_lang_dialect.specs.Reasons as of_reasons
use Rattle.timefd_lang_dialect.specs.TrapWords as of_traps
use Rattle.timefd_lint_warnings.specs.Dialects.Codes.{reason_named, trap_named}
use Rattle.timefd_lint.specs.ErrorCodes.{name_of, named}
use Rattle.timefd_lint.specs.ErrorPages.{explanation, summary}

abbrev pub of_warning : Option warnings.Warning → Option Subject
of_warning None = None
of_warning (Some warning) = Some (Warning warning)

abbrev pub of_trap : Option traps.Trap → Option Subject
of_trap None = None
of_trap (Some trap) = Some (Trap trap)

abbrev pub or_trap : Text → Option reasons.Reason → Option Subject
or_trap name (Some reason) = Some (Reason reason)
or_trap name None = of_trap (trap_named name)

-- what is reported of formats of other languages by this name
abbrev pub other_named : Text → Option Subject
other_named name = or_trap name (reason_named name)

abbrev pub or_other : Text → Option Subject → Option Subject
or_other name (Some subject) = Some subject
or_other name None = other_named name

abbrev pub or_warning : Text → Option ErrorCode → Option Subject
or_warning name (Some code) = Some (Error code)
or_warning name None = or_other name (of_warning (of_warnings.named name))

-- the error or warning with this name
abbrev pub subject_named : Text → Option Subject
subject_named name = or_warning name (named name)

-- what these two words explain: the option, and a name
abbrev pub explained_in : List (Bor Text) → Option Subject
explained_in [] = None
explained_in (option ∷ []) = None
explained_in (option ∷ name ∷ []) =
    if bytes_eq option.now (codes "--explain") then subject_named name.now else None
explained_in (option ∷ name ∷ next ∷ words) = None

abbrev pub unknown_by : Option Subject → Text → Option Text
unknown_by None name = Some name
unknown_by (Some subject) name = None

-- a name that neither an error nor a warning has
abbrev pub unknown : Text → Option Text
unknown name = unknown_by (subject_named name) name

-- the word that explains nothing: the option, and a name that isn't one; another option is none
abbrev pub unexplained_in : List (Bor Text) → Option Text
unexplained_in [] = None
unexplained_in (option ∷ []) = None
unexplained_in (option ∷ name ∷ []) =
    if bytes_eq option.now (codes "--explain") && not (starts_with nat_eq name.now (codes "-")) then unknown name.now else None
unexplained_in (option ∷ name ∷ next ∷ words) = None

abbrev pub page_of : Text → Text → Text → Text
page_of name sentence means =
    name ++ (codes ": " ++ (sentence ++ (codes "\n\n" ++ (means ++ codes "\n"))))

-- The page has the name and a sentence, and below them what it means.
abbrev pub page_on : Subject → Text
page_on (Error code) = page_of (name_of code) (summary code) (explanation code)
page_on (Warning warning) =
    page_of (of_warnings.name_of warning) (of_warnings.sentence_of warning) (explanation_of warning)
page_on (Reason reason) = page_of (of_reasons.name reason) (of_reasons.sentence reason) (of_reasons.cure reason)
page_on (Trap trap) = page_of (of_traps.name trap) (of_traps.sentence trap) (of_traps.cure trap)
