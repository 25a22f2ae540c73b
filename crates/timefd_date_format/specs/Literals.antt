-- Trees whose literals are all UTF-8, as the literals of a parsed text are.
use Rattle.std.specs.Prelude.{⊤}
use Rattle.std.specs.Str.{IsUtf8}
use Rattle.timefd_lang_component.specs.Tree.{Tree, component, literal, compound, optional, first, Trees, no_trees, more_trees}

abbrev mutual
  pub HasUtf8Literals : Tree → Type 0
  HasUtf8Literals (component c) = ⊤
  HasUtf8Literals (literal bytes) = IsUtf8 bytes
  HasUtf8Literals (compound ts) = HaveUtf8Literals ts
  HasUtf8Literals (optional format t) = HasUtf8Literals t
  HasUtf8Literals (first ts) = HaveUtf8Literals ts

  pub HaveUtf8Literals : Trees → Type 0
  HaveUtf8Literals no_trees = ⊤
  HaveUtf8Literals (more_trees t ts) = HasUtf8Literals t × HaveUtf8Literals ts
