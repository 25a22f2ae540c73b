-- Words as the code has them.
use Rattle.std.specs.Prelude.{List, map}
use denote.Ref.{Bor}
use Rattle.timefd_parse.specs.Tree.{Text}

abbrev pub texts : List (Bor Text) → List Text
texts ws = map (λ w. w.now) ws
