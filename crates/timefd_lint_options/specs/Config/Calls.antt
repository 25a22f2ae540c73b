-- The calls that a file of settings names.
use Rattle.std.specs.Prelude.{ℕ, ◌==◌, ◌-◌, Bool, not, ◌&&◌, Option, Some, None, Result, Ok, Err, List, [], ◌∷◌, length, map, if◌then◌else◌, string_bytes, nat_le}
use Rattle.std.specs.List.{after_first, before_first, position_or_len}
use Rattle.timefd_lint_scan.specs.declared.dialect.FormatLanguage.{FormatLanguage}
use Rattle.timefd_lint_scan.specs.declared.own_call.OwnCall.{OwnCall}
use Rattle.timefd_lint_scan.specs.After.{after_run}
use Rattle.timefd_lint_scan.specs.Bytes.{Text, is_word}
use Rattle.timefd_lint_scan.specs.Dialects.{dialect_named}
use Rattle.toml.specs.Data.{Data, string, integer, float, boolean, datetime, array, table, Members, no_members, member}
use Rattle.timefd_lint_options.specs.declared.config.calls.ArgumentFault.{ArgumentFault}
use Rattle.timefd_lint_options.specs.declared.config.calls.ArgumentFault.TheVariants as faults
use Rattle.timefd_lint_options.specs.declared.config.calls.CallPath as declared
use Rattle.timefd_lint_options.specs.declared.config.calls.DescribedArgument.{DescribedArgument}
use Rattle.timefd_lint_options.specs.Config.Faults.{Fault, NotACall, NoArgument, UnknownCallLanguage, NoNumber}

-- a call by the bytes of its names
pub record Called : Type 0 where
  pub owner : Text
  pub name : Text
  pub dialect : FormatLanguage
  pub argument : ℕ

abbrev pub called : OwnCall → Called
called call = record {
  owner = string_bytes call.owner;
  name = string_bytes call.name;
  dialect = call.dialect;
  argument = call.argument;
}

abbrev pub called_all : List OwnCall → List Called
called_all calls = map called calls

-- Letters, digits and `_`, and what isn't ASCII.
abbrev pub is_name : Text → Bool
is_name text = not (length text == 0) && (length (after_run is_word text) == 0)

abbrev pub is_colon : ℕ → Bool
is_colon b = b == 58

-- what a call is named by: its name, and before it a type or a module; nothing if any is meant
pub record Path : Type 0 where
  pub owner : Text
  pub name : Text

abbrev pub path : declared.CallPath → Path
path p = record { owner = p.owner.now; name = p.name.now }

abbrev pub path_any : Option declared.CallPath → Option Path
path_any None = None
path_any (Some p) = Some (path p)

abbrev pub alone : Text → Option Path
alone name = if is_name name then Some (record { owner = []; name = name }) else None

-- A second colon follows the first.
abbrev pub after_colon : Text → Option Text
after_colon [] = None
after_colon (b ∷ bytes) = if is_colon b then Some bytes else None

abbrev pub owned_by : Text → Option Text → Option Path
owned_by owner None = None
owned_by owner (Some name) = if is_name owner && is_name name then Some (record { owner = owner; name = name }) else None

-- `parse_date`, `DateBased::new`
abbrev pub path_in : Text → Option Path
path_in text =
    if position_or_len is_colon text == length text then alone text
    else owned_by (before_first is_colon text) (after_colon (after_first is_colon text))

abbrev pub is_mark : ℕ → Bool
is_mark b = b == 33

-- a key without the exclamation mark at its end, if it has one; none if one is elsewhere
abbrev pub without_mark : Text → Option Text
without_mark key =
    if position_or_len is_mark key == length key then Some key
    else if length (after_first is_mark key) == 0 then Some (before_first is_mark key)
    else None

abbrev pub path_in_any : Option Text → Option Path
path_in_any None = None
path_in_any (Some text) = path_in text

-- a path, or that of a macro: `show_date!`
abbrev pub path_of : Text → Option Path
path_of key = path_in_any (without_mark key)

abbrev pub digit_of : ℕ → Option ℕ
digit_of b = if nat_le 48 b && nat_le b 57 then Some (b - 48) else None

-- a number with one digit
abbrev pub number_of : Text → Option ℕ
number_of [] = None
number_of (digit ∷ []) = digit_of digit
number_of (first ∷ second ∷ rest) = None

abbrev pub argument_by : Option FormatLanguage → Option ℕ → Result DescribedArgument ArgumentFault
argument_by None number = Err faults.UnknownLanguage
argument_by (Some dialect) None = Err faults.NoNumber
argument_by (Some dialect) (Some number) = Ok (record { dialect = dialect; number = number })

-- The argument in a word like `chrono:1`, or why there is none.
abbrev pub argument_of : Text → Result DescribedArgument ArgumentFault
argument_of word =
    if position_or_len is_colon word == length word then Err faults.NoColon
    else argument_by (dialect_named (before_first is_colon word)) (number_of (after_first is_colon word))

abbrev pub argument_valued : Data → Result DescribedArgument ArgumentFault
argument_valued (string word) = argument_of word
argument_valued (integer number) = Err faults.NoColon
argument_valued (float number) = Err faults.NoColon
argument_valued (boolean value) = Err faults.NoColon
argument_valued (datetime value) = Err faults.NoColon
argument_valued (array items) = Err faults.NoColon
argument_valued (table rows) = Err faults.NoColon

abbrev pub refused : ArgumentFault → Text → Fault
refused faults.NoColon name = NoArgument name
refused faults.UnknownLanguage name = UnknownCallLanguage name
refused faults.NoNumber name = NoNumber name

abbrev pub call_with : Path → DescribedArgument → Called
call_with p argument = record {
  owner = p.owner;
  name = p.name;
  dialect = argument.dialect;
  argument = argument.number;
}

abbrev pub call_by : Text → Path → Result DescribedArgument ArgumentFault → Result Called Fault
call_by key p (Ok argument) = Ok (call_with p argument)
call_by key p (Err fault) = Err (refused fault key)

abbrev pub call_on : Text → Option Path → Data → Result Called Fault
call_on key None value = Err (NotACall key)
call_on key (Some p) value = call_by key p (argument_valued value)

-- the call with this key and value
abbrev pub call_of : Text → Data → Result Called Fault
call_of key value = call_on key (path_of key) value

abbrev pub in_front : Called → Result (List Called) Fault → Result (List Called) Fault
in_front call (Ok calls) = Ok (call ∷ calls)
in_front call (Err fault) = Err fault

abbrev pub with_call : Result Called Fault → Result (List Called) Fault → Result (List Called) Fault
with_call (Ok call) after = in_front call after
with_call (Err fault) after = Err fault

-- the calls of a table, or what is wrong with the first entry that isn't a call
abbrev pub calls_in : Members → Result (List Called) Fault
calls_in no_members = Ok []
calls_in (member name value rest) = with_call (call_of name value) (calls_in rest)
