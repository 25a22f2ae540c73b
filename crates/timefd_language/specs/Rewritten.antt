-- A text of version 1, rewritten for version 2.
use Rattle.std.specs.Prelude.{◌==◌, if◌then◌else◌, [], ◌∷◌, ◌++◌}
use Rattle.timefd_lang_component.specs.Tree.{Text}
use Rattle.timefd_language.specs.Bytes.{left, right, backslash}
use Rattle.timefd_language.specs.Head.{head_text}
use Rattle.timefd_language.specs.Grammar.{Pieces, no_pieces, run, escape, closing, bracket, nested_text}

-- the bytes with each `\` doubled
abbrev pub doubled : Text → Text
doubled [] = []
doubled (b ∷ bytes) = if b == backslash then backslash ∷ backslash ∷ doubled bytes else b ∷ doubled
    bytes

-- Brackets stay as they are, `[[` becomes `\[`, `]` becomes `\]`, and each `\` of a run is doubled.
abbrev pub rewritten : Pieces → Text
rewritten no_pieces = []
rewritten (run bytes rest) = doubled bytes ++ rewritten rest
rewritten (escape a b rest) = backslash ∷ left ∷ rewritten rest
rewritten (closing rest) = backslash ∷ right ∷ rewritten rest
rewritten (bracket h ns white tree rest) =
    head_text h ++ nested_text ns ++ white ++ right ∷ rewritten rest
