-- The first piece of a text, and what follows it.
use Rattle.std.specs.Prelude.{◌≡◌, ◌<◌, List, [], ◌∷◌, ◌++◌, length}
use Rattle.std.specs.Str.{IsUtf8}
use Rattle.timefd_lang_component.specs.Tree.{Text, Tree}
use Rattle.timefd_language.specs.Grammar.{nesting_limit}
use Rattle.timefd_language.specs.Directives.StrftimeReading as strftime
use Rattle.timefd_language.specs.declared.description_version.Language.{Language}
use Rattle.timefd_language.specs.declared.description_version.Language.TheVariants.{Version, Strftime}
use Rattle.timefd_parse.specs.Language.{SpellsIn}
use Rattle.timefd_parse.specs.Read.{Leads}

abbrev pub EndsWith : Text → Text → Type 0
EndsWith text rest = (front : Text) × (text ≡ front ++ rest)

-- The text is a piece, which is this tree, and the rest: what the rest begins with, the text has
-- after that piece.
abbrev pub LeadsIn : Language → Text → Tree → Text → Type 0
LeadsIn (Version v) text tree rest = Leads v nesting_limit 0 text tree rest
LeadsIn Strftime text tree rest = strftime.Leads text tree rest

-- less of the text is left after its first piece
pub record IsAfterFirst (language : Language) (text rest : Text) : Type 0 where
  pub tree : Tree
  pub leads : LeadsIn language text tree rest
  pub shorter : length rest < length text
  pub utf8 : IsUtf8 rest

-- The piece spells one tree, and what the rest begins with, the text has after that piece.
pub record IsFirst (language : Language) (text piece rest : Text) : Type 0 where
  pub tree : Tree
  pub alone : SpellsIn language nesting_limit piece (tree ∷ [])
  pub leads : LeadsIn language text tree rest

-- the piece spells the first of the list, and the rest spells the others
pub record BeginsList (language : Language) (piece rest : Text) (list : List Tree) : Type 0 where
  pub tree : Tree
  pub others : List Tree
  pub whole : list ≡ tree ∷ others
  pub first : SpellsIn language nesting_limit piece (tree ∷ [])
  pub after : SpellsIn language nesting_limit rest others
