-- The release of `time` that a source needs once it is converted.
use Rattle.std.specs.Prelude.{Bool, true, false, ◌&&◌, [], codes}
use Rattle.timefd_parse.specs.Tree.{Text}
use Rattle.timefd_parse.specs.DescriptionVersion.TheVariants as versions
use Rattle.timefd_lint_sources.specs.declared.rewriting.change.Change.{Change}
use Rattle.timefd_lint_sources.specs.declared.rewriting.change.Change.TheVariants.{Mended, Least, Normal}
use Rattle.timefd_lint.specs.declared.options.RunOptions.{RunOptions}
use Rattle.timefd_lint.specs.declared.rewriting.Rewriting.{Rewriting}
use Rattle.timefd_lint.specs.Sources.{is_rust}

abbrev pub is_to_three : Change → Bool
is_to_three (Mended fixes) = false
is_to_three (Least versions.One) = false
is_to_three (Least versions.Two) = false
is_to_three (Least versions.Three) = true
is_to_three Normal = true

-- whether a file is a source of Rust that is converted to version 3
abbrev pub needs_three : RunOptions → Rewriting → Text → Bool
needs_three options rewriting name = is_rust options name && is_to_three rewriting.sources

-- what stands before the diff of a file
abbrev pub head_if : Bool → Text
head_if true = codes "version 3 needs `time` 0.3.55 or later\n"
head_if false = []

abbrev pub head_of : RunOptions → Rewriting → Text → Text
head_of options rewriting name = head_if (needs_three options rewriting name)

-- what the report on a file that was written back ends with
abbrev pub end_if : Bool → Text
end_if true = codes "; version 3 needs `time` 0.3.55 or later"
end_if false = []

abbrev pub end_of : RunOptions → Rewriting → Text → Text
end_of options rewriting name = end_if (needs_three options rewriting name)
