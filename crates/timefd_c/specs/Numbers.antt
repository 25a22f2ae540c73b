-- The numbers of `examples/timefd.h`, except those of nodes.
use Rattle.std.specs.Prelude.{◌≡◌, Some, None}
use Rattle.timefd_language.specs.declared.description_version.DescriptionVersion.TheVariants.{One, Two, Three}
use Rattle.timefd_language.specs.declared.description_version.Language.TheVariants.{Version, Strftime}
use Rattle.timefd_lang_dialect.specs.declared.dialect.Dialect.TheVariants as dialects
use Rattle.timefd_c.specs.declared.answer.TheConstants.{ACCEPTED, REFUSED, NOT_UTF8, NO_MEMORY, UNKNOWN_KIND, NO_CONVERSION}
use Rattle.timefd_c.specs.declared.date_answer.TheConstants.{UNREAD, CONTRADICTION, MISSING, DATE_NOT_UTF8}
use Rattle.timefd_c.specs.declared.format_answer.TheConstants.{UNSHOWN, OUT_OF_RANGE, NO_DESCRIPTION}
use Rattle.timefd_c.specs.declared.nodes.TheConstants.{VERSION}
use Rattle.timefd_c.specs.FormatConversions.{dialect_of}
use Rattle.timefd_c.specs.Languages.{language_of}

pub record Numbers : Type 0 where
  pub version : VERSION ≡ 2000
  -- the statuses
  pub accepted : ACCEPTED ≡ 0
  pub refused : REFUSED ≡ 1
  pub not_utf8 : NOT_UTF8 ≡ 2
  pub no_memory : NO_MEMORY ≡ 3
  pub unknown_kind : UNKNOWN_KIND ≡ 4
  pub unshown : UNSHOWN ≡ 5
  pub out_of_range : OUT_OF_RANGE ≡ 6
  pub no_conversion : NO_CONVERSION ≡ 7
  pub no_description : NO_DESCRIPTION ≡ 8
  pub unread : UNREAD ≡ 9
  pub contradiction : CONTRADICTION ≡ 10
  pub missing : MISSING ≡ 11
  pub date_not_utf8 : DATE_NOT_UTF8 ≡ 12
  -- the languages
  pub version_1 : language_of 1 ≡ Some (Version One)
  pub version_2 : language_of 2 ≡ Some (Version Two)
  pub version_3 : language_of 3 ≡ Some (Version Three)
  pub strftime : language_of 4 ≡ Some Strftime
  -- the dialects; no dialect has the number of a language
  pub python : dialect_of 101 ≡ Some dialects.Python
  pub c : dialect_of 102 ≡ Some dialects.C
  pub gnu : dialect_of 103 ≡ Some dialects.Gnu
  pub chrono : dialect_of 104 ≡ Some dialects.Chrono
  pub jiff : dialect_of 105 ≡ Some dialects.Jiff
  pub ruby : dialect_of 106 ≡ Some dialects.Ruby
  pub java : dialect_of 107 ≡ Some dialects.Java
  pub go : dialect_of 108 ≡ Some dialects.Go
  pub moment : dialect_of 109 ≡ Some dialects.Moment
  pub not_1 : dialect_of 1 ≡ None
  pub not_2 : dialect_of 2 ≡ None
  pub not_3 : dialect_of 3 ≡ None
  pub not_4 : dialect_of 4 ≡ None
