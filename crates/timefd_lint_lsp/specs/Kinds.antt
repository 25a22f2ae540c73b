-- How the descriptions in a document are found.
use Rattle.std.specs.Prelude.{ℕ, List, Option, Some, codes, bytes_eq, nat_eq, option_map, if◌then◌else◌}
use Rattle.std.specs.List.{ends_with}
use Rattle.timefd_lint_scan.specs.declared.keys.format.FileFormat.TheVariants.{Toml, Json, Yaml}
use Rattle.timefd_lint_scan.specs.Keys.Formats.{format_named}
use Rattle.timefd_lint_lsp.specs.declared.documents.DocumentKind.{DocumentKind}
use Rattle.timefd_lint_lsp.specs.declared.documents.DocumentKind.TheVariants as kinds

-- by the ending of the name
abbrev pub kind_named : List ℕ → Option DocumentKind
kind_named uri =
    if ends_with nat_eq uri (codes ".rs") then Some kinds.Rust
    else option_map kinds.Keys (format_named uri)

-- by the name of the language, or else by the ending
abbrev pub kind_of : List ℕ → List ℕ → Option DocumentKind
kind_of language uri =
    if bytes_eq language (codes "rust") then Some kinds.Rust
    else if bytes_eq language (codes "toml") then Some (kinds.Keys Toml)
    else if bytes_eq language (codes "json") then Some (kinds.Keys Json)
    else if bytes_eq language (codes "yaml") then Some (kinds.Keys Yaml)
    else kind_named uri
