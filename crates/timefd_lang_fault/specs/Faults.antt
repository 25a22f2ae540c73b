-- The faults of a text, each with its position.
use Rattle.std.specs.Prelude.{ℕ, Bool, true, false, List, string_bytes}
use Rattle.timefd_lang_fault.specs.declared.invalid_format_description.InvalidFormatDescription.{InvalidFormatDescription}
use Rattle.timefd_lang_fault.specs.declared.invalid_format_description.InvalidFormatDescription.TheVariants.{UnclosedOpeningBracket, InvalidComponentName, InvalidModifier, MissingComponentName, MissingRequiredModifier, Expected, NotSupported, DuplicateModifier, InvalidModifierCombination}

-- bytes
abbrev pub Text : Type 0
Text = List ℕ

pub data Kind : Type 0 where
  unclosed_bracket : Kind
  invalid_name : Text → Kind
  invalid_modifier : Text → Kind
  missing_name : Kind
  missing_modifier : Text → Kind
  expected : Text → Kind
  not_supported : Text → Text → Kind
  duplicate_modifier : Text → Kind
  invalid_combination : Text → Text → Kind

pub record Fault : Type 0 where
  pub kind : Kind
  pub index : ℕ

-- whether a fault of this kind quotes the text, so that a copy of it takes memory
abbrev pub quotes : Kind → Bool
quotes (invalid_name name) = true
quotes (invalid_modifier value) = true
quotes other = false

abbrev pub fault : Kind → ℕ → Fault
fault kind index = record { kind = kind; index = index }

-- the fault that an error is
abbrev pub fault_of : InvalidFormatDescription → Fault
fault_of (UnclosedOpeningBracket index) = fault unclosed_bracket index
fault_of (InvalidComponentName name index) = fault (invalid_name (string_bytes name)) index
fault_of (InvalidModifier value index) = fault (invalid_modifier (string_bytes value)) index
fault_of (MissingComponentName index) = fault missing_name index
fault_of (MissingRequiredModifier name index) = fault (missing_modifier name.now) index
fault_of (Expected what index) = fault (expected what.now) index
fault_of (NotSupported what context index) = fault (not_supported what.now context.now) index
fault_of (DuplicateModifier name index) = fault (duplicate_modifier name.now) index
fault_of (InvalidModifierCombination modifier context index) =
    fault (invalid_combination modifier.now context.now) index

abbrev pub index : InvalidFormatDescription → ℕ
index error = (fault_of error).index
