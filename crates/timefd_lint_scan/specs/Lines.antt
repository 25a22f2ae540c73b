-- Lines of a source.
use Rattle.std.specs.Prelude.{ℕ, ◌-◌, drop, length, take}
use Rattle.std.specs.List.{suffix_len}
use Rattle.timefd_lint_scan.specs.After.{after_run}
use Rattle.timefd_lint_scan.specs.Bytes.{Text, class_test}
use Rattle.timefd_lint_scan.specs.declared.class.ByteSet.TheVariants.{Line}

-- where the line of a position begins: after the last line feed before it
abbrev pub line_start : Text → ℕ → ℕ
line_start source at = at - suffix_len (class_test Line) (take at source)

-- where the next line ends, after the one that ends at a position
abbrev pub next_line_end : Text → ℕ → ℕ
next_line_end source at = length source - length (after_run (class_test Line) (drop 1 (drop at source)))
