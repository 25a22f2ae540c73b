-- What is wrong with a file of settings.
use Rattle.std.specs.Prelude.{Option, Some, None, string_bytes}
use Rattle.timefd_lint_scan.specs.Bytes.{Text}
use Rattle.timefd_lang_warnings.specs.declared.warning.Warning.{Warning}
use Rattle.timefd_lint_options.specs.declared.config.error.ConfigError.{ConfigError}
use Rattle.timefd_lint_options.specs.declared.config.error.ConfigError.TheVariants as error

-- what is wrong with a text
pub data Fault : Type 0 where
  NotToml : Fault
  UnknownName : Text → Fault
  KeysNotATable : Fault
  EmptyName : Fault
  WrongType : Text → Fault
  UnknownLanguage : Text → Fault
  NotAList : Fault
  NotAPattern : Fault
  LevelsNotATable : Fault
  UnknownWarning : Text → Fault
  NoLevel : Warning → Fault
  UnknownLevel : Warning → Text → Fault
  CallsNotATable : Fault
  NotACall : Text → Fault
  NoArgument : Text → Fault
  UnknownCallLanguage : Text → Fault
  NoNumber : Text → Fault

-- what an error says about the text: nothing if memory ran out
abbrev pub fault : ConfigError → Option Fault
fault error.Memory = None
fault (error.NotToml why) = Some NotToml
fault (error.UnknownName name) = Some (UnknownName (string_bytes name))
fault error.KeysNotATable = Some KeysNotATable
fault error.EmptyName = Some EmptyName
fault (error.WrongType name) = Some (WrongType (string_bytes name))
fault (error.UnknownLanguage name) = Some (UnknownLanguage (string_bytes name))
fault error.NotAList = Some NotAList
fault error.NotAPattern = Some NotAPattern
fault error.LevelsNotATable = Some LevelsNotATable
fault (error.UnknownWarning name) = Some (UnknownWarning (string_bytes name))
fault (error.NoLevel warning) = Some (NoLevel warning)
fault (error.UnknownLevel warning word) = Some (UnknownLevel warning (string_bytes word))
fault error.CallsNotATable = Some CallsNotATable
fault (error.NotACall key) = Some (NotACall (string_bytes key))
fault (error.NoArgument key) = Some (NoArgument (string_bytes key))
fault (error.UnknownCallLanguage key) = Some (UnknownCallLanguage (string_bytes key))
fault (error.NoNumber key) = Some (NoNumber (string_bytes key))
