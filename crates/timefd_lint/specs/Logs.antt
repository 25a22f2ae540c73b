-- A log of results.
use Rattle.std.specs.Prelude.{◌≡◌, ℕ, List, Option, ◌++◌, codes, drop}
use Rattle.std.specs.Io.KnownBytes.{Appends}
use Rattle.timefd_parse.specs.Tree.{Text}
use Rattle.timefd_lint.specs.Rules.{AreRules}

-- A comma precedes each member of a list. The first one's is left out in a log.
abbrev pub joined : Text → Text → Text → Text
joined front members end = front ++ drop 1 members ++ end

-- the part before the rules: it names the program
abbrev pub program : Text
program = codes "{\"$schema\":\"https://json.schemastore.org/sarif-2.1.0.json\",\"version\":\"2.1.0\",\"runs\":[\n{\"columnKind\":\"unicodeCodePoints\",\"tool\":{\"driver\":{\"name\":\"timefd_lint\",\"version\":\"0.2.0\",\"rules\":[\n"

-- The part before the results: the program, and the rules.
abbrev pub IsHead : Text → Type 0
IsHead head = (rules : Text) × AreRules rules × (head ≡ joined program rules (codes "]}},\"results\":[\n"))

-- The log with these results is written.
abbrev pub WritesLog : Text → Option (List ℕ) → Option (List ℕ) → Type 0
WritesLog results old new =
    (head : Text) × IsHead head × Appends old new (joined head results (codes "]}]}\n"))
