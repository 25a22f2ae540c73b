-- The parameters of a message of an editor.
use Rattle.std.specs.Prelude.{ℕ, List, Option, Some, None, codes, option_and_then}
use Rattle.serde_json.specs.Data.{Data, Items}
use Rattle.serde_json.specs.Find.{as_array, as_number, as_str, as_u64, pointer}
use Rattle.timefd_lint_lsp.specs.declared.editor.position.DocumentPosition.{DocumentPosition}
use Rattle.timefd_lint_lsp.specs.declared.editor.position.DocumentRange.{DocumentRange}

abbrev pub text_by : List ℕ → Data → Option (List ℕ)
text_by path d = option_and_then as_str (pointer path d)

abbrev pub count_by : List ℕ → Data → Option ℕ
count_by path d = option_and_then (λ m. option_and_then as_u64 (as_number m)) (pointer path d)

abbrev pub position_from : Option ℕ → Option ℕ → Option DocumentPosition
position_from (Some line) (Some character) = Some (record { line = line; character = character })
position_from (Some line) None = None
position_from None character = None

abbrev pub position_by : List ℕ → List ℕ → Data → Option DocumentPosition
position_by line character d = position_from (count_by line d) (count_by character d)

abbrev pub range_from : Option DocumentPosition → Option DocumentPosition → Option DocumentRange
range_from (Some start) (Some end) = Some (record { start = start; end = end })
range_from (Some start) None = None
range_from None end = None

abbrev pub range_of : Data → Option DocumentRange
range_of d = range_from
    (position_by (codes "/params/range/start/line") (codes "/params/range/start/character") d)
    (position_by (codes "/params/range/end/line") (codes "/params/range/end/character") d)

-- the range that a change of a document replaces
abbrev pub range_in : Data → Option DocumentRange
range_in d = range_from
    (position_by (codes "/range/start/line") (codes "/range/start/character") d)
    (position_by (codes "/range/end/line") (codes "/range/end/character") d)

abbrev pub position_in : Data → Option DocumentPosition
position_in d = position_by (codes "/params/position/line") (codes "/params/position/character") d

abbrev pub uri_of : Data → Option (List ℕ)
uri_of d = text_by (codes "/params/textDocument/uri") d

abbrev pub root_or : Option (List ℕ) → Option (List ℕ) → Option (List ℕ)
root_or (Some uri) first = Some uri
root_or None first = first

-- the root of an editor, or else the first of its folders
abbrev pub root_of : Data → Option (List ℕ)
root_of d = root_or (text_by (codes "/params/rootUri") d) (text_by (codes "/params/workspaceFolders/0/uri") d)

abbrev pub changes_of : Data → Option Items
changes_of d = option_and_then as_array (pointer (codes "/params/contentChanges") d)
