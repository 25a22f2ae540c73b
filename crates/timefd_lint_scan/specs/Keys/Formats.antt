-- Formats of files with keys.
use Rattle.std.specs.Prelude.{Bool, ◌||◌, Option, Some, None, codes, nat_eq, if◌then◌else◌}
use Rattle.std.specs.List.{ends_with}
use Rattle.timefd_lint_scan.specs.Bytes.{Text}
use Rattle.timefd_lint_scan.specs.declared.keys.format.FileFormat.{FileFormat}
use Rattle.timefd_lint_scan.specs.declared.keys.format.FileFormat.TheVariants.{Toml, Json, Yaml}

abbrev pub ends_in : Text → Text → Bool
ends_in name ending = ends_with nat_eq name ending

-- the format of a file with this name, by its extension
abbrev pub format_named : Text → Option FileFormat
format_named name =
    if ends_in name (codes ".toml") then Some Toml
    else if ends_in name (codes ".json") then Some Json
    else if ends_in name (codes ".yaml") || ends_in name (codes ".yml") then Some Yaml
    else None
