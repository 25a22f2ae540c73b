-- The levels that a file of settings gives warnings.
use Rattle.std.specs.Prelude.{Option, Some, None, Result, Ok, Err, codes, bytes_eq, if◌then◌else◌}
use Rattle.timefd_lint_scan.specs.Bytes.{Text}
use Rattle.timefd_lang_warnings.specs.declared.levels.Level.{Level}
use Rattle.timefd_lang_warnings.specs.declared.levels.Level.TheVariants.{Allowed, Warned, Denied}
use Rattle.timefd_lang_warnings.specs.declared.levels.Levels as of_warnings
use Rattle.timefd_lang_warnings.specs.declared.warning.Warning.{Warning}
use Rattle.timefd_lang_warnings.specs.Codes as warnings
use Rattle.timefd_lang_warnings.specs.Levels.{all_at, by, level_of, with_level}
use Rattle.toml.specs.Data.{Data, string, integer, float, boolean, datetime, array, table, Members, no_members, member}
use Rattle.timefd_lint_options.specs.Config.Faults.{Fault, NoLevel, UnknownLevel, UnknownWarning}

abbrev pub Levels : Type 0
Levels = of_warnings.Levels

-- the level that a word names
abbrev pub level_named : Text → Option Level
level_named word =
    if bytes_eq word (codes "allow") then Some Allowed
    else if bytes_eq word (codes "warn") then Some Warned
    else if bytes_eq word (codes "deny") then Some Denied
    else None

abbrev pub level_by : Warning → Text → Option Level → Result Level Fault
level_by warning word (Some level) = Ok level
level_by warning word None = Err (UnknownLevel warning word)

-- the level that a word names for a warning
abbrev pub level_in : Warning → Text → Result Level Fault
level_in warning word = level_by warning word (level_named word)

-- the level that a value names for a warning
abbrev pub level_valued : Warning → Data → Result Level Fault
level_valued warning (string word) = level_in warning word
level_valued warning (integer number) = Err (NoLevel warning)
level_valued warning (float number) = Err (NoLevel warning)
level_valued warning (boolean value) = Err (NoLevel warning)
level_valued warning (datetime value) = Err (NoLevel warning)
level_valued warning (array items) = Err (NoLevel warning)
level_valued warning (table rows) = Err (NoLevel warning)

abbrev pub set_by : Levels → Warning → Result Level Fault → Result Levels Fault
set_by levels warning (Ok level) = Ok (with_level levels warning level)
set_by levels warning (Err fault) = Err fault

abbrev pub entry_by : Option Warning → Levels → Text → Data → Result Levels Fault
entry_by (Some warning) levels name value = set_by levels warning (level_valued warning value)
entry_by None levels name value = Err (UnknownWarning name)

-- An entry sets the level of the warning whose code is its name.
abbrev pub with_entry : Levels → Text → Data → Result Levels Fault
with_entry levels name value = entry_by (warnings.named name) levels name value

abbrev pub then_all : (Levels → Result Levels Fault) → Result Levels Fault → Result Levels Fault
then_all more (Ok levels) = more levels
then_all more (Err fault) = Err fault

abbrev pub with_entries : Levels → Members → Result Levels Fault
with_entries levels no_members = Ok levels
with_entries levels (member name value rest) =
    then_all (λ more. with_entries more rest) (with_entry levels name value)

-- the levels in a table, or what is wrong with the first entry that sets none; what has no entry is reported
abbrev pub levels_in : Members → Result Levels Fault
levels_in rows = with_entries (all_at Warned) rows

-- The command line can allow and deny a warning. If it does neither, the level of the file counts.
abbrev pub chosen : Level → Level → Level
chosen Allowed file = Allowed
chosen Warned file = file
chosen Denied file = Denied

-- the levels of a command line over those of a file
abbrev pub over : Levels → Levels → Levels
over own file = by (λ w. chosen (level_of own w) (level_of file w))
