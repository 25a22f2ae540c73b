-- The names that a source gives to items of libraries: `use time::format_description as fd`.
use Rattle.std.specs.Prelude.{ℕ, ⊤, ◌≡◌, ◌+◌, ◌-◌, Bool, ◌&&◌, ◌||◌, ◌==◌, nat_le, nat_lt, if◌then◌else◌, List, [], ◌∷◌, ◌++◌, codes, bytes_eq, length}
use Rattle.std.specs.Prelude.{Option, Some, None, string_bytes}
use Rattle.std.specs.List.{list_any}
use Rattle.std.specs.Option.{option_or, option_to_list}
use Rattle.timefd_lint_scan.specs.declared.alias.Alias.{Alias}
use Rattle.timefd_lint_scan.specs.declared.own_call.OwnCall.{OwnCall}
use Rattle.timefd_lint_scan.specs.declared.piece.PlacedToken.{PlacedToken}
use Rattle.timefd_lint_scan.specs.Bytes.{Text}
use Rattle.timefd_lint_scan.specs.Words.{is_closing, is_opening, text_at, text_of}

-- the tokens after the first one that is this sign; empty if there is no such token
abbrev pub after_first : Text → Text → List PlacedToken → List PlacedToken
after_first source sign [] = []
after_first source sign (p ∷ ps) =
    if bytes_eq (text_of source p) sign then ps else after_first source sign ps

-- Where the block that these tokens begin in ends. `depth` blocks inside of it are open.
abbrev pub block_end : Text → ℕ → List PlacedToken → ℕ
block_end source depth [] = length source
block_end source depth (p ∷ ps) =
    if is_opening (text_of source p) then block_end source (depth + 1) ps
    else if is_closing (text_of source p) then
    (if depth == 0 then p.start else block_end source (depth - 1) ps)
    else block_end source depth ps

abbrev pub is_known : Text → Bool
is_known name =
    bytes_eq name (codes "format_description") || bytes_eq name (codes "parse_borrowed")
    || bytes_eq name (codes "parse_owned") || bytes_eq name (codes "parse_strftime_borrowed")
    || bytes_eq name (codes "parse_strftime_owned") || bytes_eq name (codes "StrftimeItems")
    || bytes_eq name (codes "strtime")

-- A project's call has this name, or this owner.
abbrev pub has_name : Text → OwnCall → Bool
has_name name call = bytes_eq (string_bytes call.name) name || bytes_eq (string_bytes call.owner) name

abbrev pub is_of_own : List OwnCall → Text → Bool
is_of_own own name = list_any (has_name name) own

abbrev pub ends_import : Text → Bool
ends_import text =
    bytes_eq text (codes ";") || bytes_eq text (codes ",") || bytes_eq text (codes "}")
    || bytes_eq text (codes "as")

-- where the block ends that the statement is in that these tokens begin in
abbrev pub statement_end : Text → List PlacedToken → ℕ
statement_end source ps = block_end source 0 (after_first source (codes ";") ps)

-- Where the block ends that the statement of these tokens is in, if that is known.
abbrev pub IsUntil : Text → List PlacedToken → Option ℕ → Type 0
IsUntil source ps None = ⊤
IsUntil source ps (Some until) = until ≡ statement_end source ps

-- An alias is valid up to the end of the block that its statement is in.
abbrev pub alias_of : Text → PlacedToken → PlacedToken → List PlacedToken → Alias
alias_of source name original after = record {
  name = name;
  original = original;
  until = statement_end source after;
}

-- `original as name`
abbrev pub renamed : Text → PlacedToken → List PlacedToken → Option Alias
renamed source original [] = None
renamed source original (sign ∷ []) = None
renamed source original (sign ∷ name ∷ ps) =
    if bytes_eq (text_of source sign) (codes "as") then
    Some (alias_of source name original (sign ∷ name ∷ ps))
    else None

-- `original;`, `original,`, `original}`, `original as name`
abbrev pub imported : Text → PlacedToken → List PlacedToken → Option Alias
imported source original after =
    if ends_import (text_at source after 0) then
    option_or (renamed source original after) (Some (alias_of source original original after))
    else None

-- `.., parse, ..}`
abbrev pub parse_in_list : Text → List PlacedToken → Option Alias
parse_in_list source [] = None
parse_in_list source (p ∷ ps) =
    if bytes_eq (text_of source p) (codes "}") then None
    else if bytes_eq (text_of source p) (codes "parse") then imported source p ps
    else parse_in_list source ps

-- after `format_description::`
abbrev pub parse_or_list : Text → PlacedToken → List PlacedToken → Option Alias
parse_or_list source next after =
    if bytes_eq (text_of source next) (codes "{") then parse_in_list source after
    else if bytes_eq (text_of source next) (codes "parse") then imported source next after
    else None

-- after `format_description`
abbrev pub parse_after : Text → List PlacedToken → Option Alias
parse_after source [] = None
parse_after source (first ∷ []) = None
parse_after source (first ∷ second ∷ []) = None
parse_after source (first ∷ second ∷ next ∷ after) =
    if bytes_eq (text_of source first) (codes ":") && bytes_eq (text_of source second) (codes ":") then
    parse_or_list source next after
    else None

-- the import of `parse` that follows the name of its module
abbrev pub parse_beside : Text → PlacedToken → List PlacedToken → Option Alias
parse_beside source p after =
    if bytes_eq (text_of source p) (codes "format_description") then parse_after source after else None

-- An alias matters for a name: for a known one, and for those of a project's calls.
abbrev pub is_imported : List OwnCall → Text → Bool
is_imported own name = is_known name || is_of_own own name

-- the alias that is declared at a token, which these follow
abbrev pub alias_at : Text → List OwnCall → PlacedToken → List PlacedToken → Option Alias
alias_at source own p after =
    if is_imported own (text_of source p) then
    option_or (renamed source p after) (parse_beside source p after)
    else None

-- `{self as name, ..}`, but not in a list in that one
abbrev pub self_in_list : Text → PlacedToken → List PlacedToken → Option Alias
self_in_list source original [] = None
self_in_list source original (p ∷ ps) =
    if bytes_eq (text_of source p) (codes "}") || bytes_eq (text_of source p) (codes "{") then None
    else if bytes_eq (text_of source p) (codes "self") then renamed source original ps
    else self_in_list source original ps

abbrev pub self_after_sign : Text → PlacedToken → PlacedToken → List PlacedToken → Option Alias
self_after_sign source original next after =
    if bytes_eq (text_of source next) (codes "{") then self_in_list source original after else None

-- `::{self as name, ..}`, after a module's name
abbrev pub self_after : Text → PlacedToken → List PlacedToken → Option Alias
self_after source original [] = None
self_after source original (first ∷ []) = None
self_after source original (first ∷ second ∷ []) = None
self_after source original (first ∷ second ∷ next ∷ after) =
    if bytes_eq (text_of source first) (codes ":") && bytes_eq (text_of source second) (codes ":") then
    self_after_sign source original next after
    else None

-- the alias of the module that a token names, if it is declared in the list of what is imported from it
abbrev pub self_at : Text → List OwnCall → PlacedToken → List PlacedToken → Option Alias
self_at source own p after = if is_imported own (text_of source p) then self_after source p after else None

-- the aliases of a source, in order
abbrev pub aliases_in : Text → List OwnCall → List PlacedToken → List Alias
aliases_in source own [] = []
aliases_in source own (p ∷ ps) =
    option_to_list (alias_at source own p ps) ++ option_to_list (self_at source own p ps) ++ aliases_in source own ps

abbrev pub is_named_so : Text → Alias → Text → ℕ → Bool
is_named_so source alias name position =
    bytes_eq (text_of source alias.name) name && nat_le alias.name.start position && nat_lt position alias.until

-- the original of the first alias with this name that is valid at a position
abbrev pub original_of : Text → Text → ℕ → List Alias → Option PlacedToken
original_of source name position [] = None
original_of source name position (alias ∷ others) =
    if is_named_so source alias name position then Some alias.original
    else original_of source name position others

abbrev pub name_or : Text → Text → Option PlacedToken → Text
name_or source name None = name
name_or source name (Some original) = text_of source original

-- the original of a name's alias, or the name itself if it isn't an alias
abbrev pub real_name : Text → Text → ℕ → List Alias → Text
real_name source name position aliases = name_or source name (original_of source name position aliases)
