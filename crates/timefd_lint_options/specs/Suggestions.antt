-- The options that are suggested for a word that isn't one.
use Rattle.std.specs.Prelude.{codes, List, [], ◌∷◌}
use Rattle.timefd_parse.specs.Tree.{Text}

abbrev pub long_names : List Text
long_names = codes "--language" ∷ codes "--format" ∷ codes "--color" ∷ codes "--comment" ∷ codes "--key"
    ∷ codes "--whole" ∷ codes "--source" ∷ codes "--explain" ∷ codes "--to" ∷ codes "--normal" ∷ codes "--fix" ∷ codes "--unsafe"
    ∷ codes "--write"
    ∷ codes "--partial" ∷ codes "--warn" ∷ codes "--deny" ∷ codes "--allow" ∷ codes "--lsp" ∷ codes "--quiet" ∷ codes "--help" ∷ codes "--version" ∷ []
