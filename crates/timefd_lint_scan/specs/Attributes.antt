-- Descriptions in attributes: `#[time(format = "%F")]`.
use Rattle.std.specs.Prelude.{ℕ, Bool, false, ◌&&◌, if◌then◌else◌, List, codes, bytes_eq, Option, Some, None}
use Rattle.timefd_lint_scan.specs.declared.dialect.FormatLanguage.{FormatLanguage}
use Rattle.timefd_lint_scan.specs.declared.dialect.FormatLanguage.TheVariants.{One, Chrono}
use Rattle.timefd_lint_scan.specs.declared.piece.PlacedToken.{PlacedToken}
use Rattle.timefd_lint_scan.specs.declared.known.Items.TheVariants.{Taken}
use Rattle.timefd_lint_scan.specs.declared.known.Known.{Known}
use Rattle.timefd_lint_scan.specs.declared.version.VersionPosition.TheVariants as positions
use Rattle.timefd_lint_scan.specs.Bytes.{Text}
use Rattle.timefd_lint_scan.specs.Dates.{has_percent}
use Rattle.timefd_lint_scan.specs.Words.{text_at, text_before}

abbrev pub is_in_attribute : Text → List PlacedToken → ℕ → Bool
is_in_attribute source ps i =
    bytes_eq (text_before source ps i 1) (codes "=") && bytes_eq (text_before source ps i 2) (codes "format")
    && bytes_eq (text_before source ps i 3) (codes "(") && bytes_eq (text_before source ps i 4) (codes "time")
    && bytes_eq (text_before source ps i 5) (codes "[") && bytes_eq (text_before source ps i 6) (codes "#")

-- With a `%` the literal is chrono's.
abbrev pub dialect_by_bytes : Text → FormatLanguage
dialect_by_bytes literal = if has_percent literal then Chrono else One

-- what an attribute says about a token
abbrev pub known_by_attribute : Text → List PlacedToken → ℕ → Option Known
known_by_attribute source ps i =
    if is_in_attribute source ps i then Some (record {
      dialect = dialect_by_bytes (text_at source ps i);
      items = Taken;
      version = positions.Call;
      wants_percent = false;
      call = None;
    })
    else None
