-- The pieces that a text begins with.
use Rattle.std.specs.Prelude.{◌≡◌, ◌⊎◌, List, [], ◌++◌}
use Rattle.timefd_parse.specs.Tree.{Text, Tree}
use Rattle.timefd_language.specs.Broken.{Broken, IsBroken, broken_text}
use Rattle.timefd_language.specs.Grammar.{nesting_limit}
use Rattle.timefd_language.specs.Strftime.{IllDirective, IsIll, ill_text}
use Rattle.timefd_language.specs.declared.description_version.Language.{Language}
use Rattle.timefd_language.specs.declared.description_version.Language.TheVariants.{Version, Strftime}
use Rattle.timefd_parse.specs.Language.{SpellsIn}

-- The text begins with a construct that no piece begins with.
abbrev pub IsBrokenText : Language → Text → Type 0
IsBrokenText (Version v) text = (b : Broken) × IsBroken v nesting_limit 0 b × (text ≡ broken_text b)
IsBrokenText Strftime text = (ill : IllDirective) × IsIll ill × (text ≡ ill_text ill)

abbrev pub BeginsNoPiece : Language → Text → Type 0
BeginsNoPiece language text = (text ≡ []) ⊎ IsBrokenText language text

-- The front of the text is pieces, and no further piece follows it.
pub record IsGoodFront (language : Language) (text front : Text) : Type 0 where
  pub rest : Text
  pub whole : text ≡ front ++ rest
  pub list : List Tree
  pub spelled : SpellsIn language nesting_limit front list
  pub stops : BeginsNoPiece language rest
