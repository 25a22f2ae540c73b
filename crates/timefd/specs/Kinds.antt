-- The language of each kind.
use Rattle.timefd_parse.specs.DescriptionVersion.{DescriptionVersion}
use Rattle.timefd_parse.specs.LanguageType.{Language}
use Rattle.timefd_parse.specs.LanguageType.TheVariants.{Version}
use Rattle.timefd.specs.declared.kind.Kind.{Kind}
use Rattle.timefd.specs.declared.kind.Kind.TheVariants.{One, Two, Three, Strftime}

abbrev pub language_of : Kind → Language
language_of One = Version DescriptionVersion.One
language_of Two = Version DescriptionVersion.Two
language_of Three = Version DescriptionVersion.Three
language_of Strftime = Language.Strftime
