-- A word that is none of those that there are.
use Rattle.std.specs.Prelude.{◌≡◌, List, ◌++◌, Option, Some, None, codes}
use Rattle.std.specs.List.{join_by}
use Rattle.timefd_parse.specs.Tree.{Text}
use Rattle.timefd_lint_diagnosis.specs.Nearest.{IsNearest}
use Rattle.timefd_lint_drawing.specs.Shown.{safe}

abbrev pub front : Text → Text → Text
front what name = what ++ (codes " `" ++ (safe name ++ codes "`"))

abbrev pub sentence : Text → Text → Option Text → Text → Text
sentence what name (Some word) listed =
    front what name ++ (codes "; the nearest is `" ++ (word ++ (codes "`; all are " ++ listed)))
sentence what name None listed = front what name ++ (codes "; all are " ++ listed)

abbrev pub listed : List Text → Text
listed all = join_by (λ word. word) (codes ", ") all

-- The sentence names the nearest of these words, if one is near, and lists all.
abbrev pub IsNoneOf : Text → List Text → Text → Text → Type 0
IsNoneOf what all name text =
    (nearest : Option Text) × IsNearest all name nearest × (text ≡ sentence what name nearest (listed all))
