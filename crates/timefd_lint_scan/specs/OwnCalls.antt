-- Calls that a project's settings name: a function, a method or a macro whose argument is a description.
use Rattle.std.specs.Prelude.{ℕ, ◌-◌, ◌==◌, Bool, not, ◌&&◌, if◌then◌else◌, List, [], ◌∷◌, codes, bytes_eq, length, Option, Some, None, string_bytes}
use Rattle.std.specs.Option.{option_or}
use Rattle.timefd_lint_scan.specs.declared.alias.Alias.{Alias}
use Rattle.timefd_lint_scan.specs.declared.calls.Call.{Call}
use Rattle.timefd_lint_scan.specs.declared.calls.Call.TheVariants.{Own}
use Rattle.timefd_lint_scan.specs.declared.own_call.OwnCall.{OwnCall}
use Rattle.timefd_lint_scan.specs.declared.piece.PlacedToken.{PlacedToken}
use Rattle.timefd_lint_scan.specs.Aliases.{real_name}
use Rattle.timefd_lint_scan.specs.Bytes.{Text}
use Rattle.timefd_lint_scan.specs.Calls.{call_of, is_turbofish}
use Rattle.timefd_lint_scan.specs.Words.{position_at, text_at, text_before}

abbrev pub is_named : OwnCall → Text → Text → Bool
is_named call owner name = bytes_eq (string_bytes call.name) name && bytes_eq (string_bytes call.owner) owner

-- the first of these calls with this name that belongs to this owner, or to any if it is empty
abbrev pub first_named : List OwnCall → Text → Text → Option Call
first_named [] owner name = None
first_named (call ∷ calls) owner name =
    if is_named call owner name then Some (Own call.dialect call.argument) else first_named calls owner name

-- A setting that names the owner counts before one that doesn't.
abbrev pub own_named : List OwnCall → Text → Text → Option Call
own_named calls owner name = option_or (first_named calls owner name) (first_named calls [] name)

-- `f::<T>(`
abbrev pub turbofish_index : Text → List PlacedToken → ℕ → Option ℕ
turbofish_index source ps i = if is_turbofish source ps i then Some (i - 6) else None

-- the index of the name of the call whose bracket this token opens: `f(`, `.f(`, `f::<T>(`, `f!(`, `f![`
abbrev pub name_index : Text → List PlacedToken → ℕ → Option ℕ
name_index source ps i =
    if bytes_eq (text_before source ps i 1) (codes "!") then Some (i - 2)
    else if not (bytes_eq (text_at source ps i) (codes "(")) then None
    else if bytes_eq (text_before source ps i 1) (codes ">") then turbofish_index source ps i
    else Some (i - 1)

-- the name before `::` in front of a name; empty if there is none
abbrev pub owner_at : Text → List PlacedToken → List Alias → ℕ → Text
owner_at source ps aliases at =
    if bytes_eq (text_before source ps at 1) (codes ":") && bytes_eq (text_before source ps at 2) (codes ":") then
    real_name source (text_before source ps at 3) (position_at ps at) aliases
    else []

-- A function's definition, `fn f(`, is no call.
abbrev pub own_at : Text → List PlacedToken → List Alias → List OwnCall → Option ℕ → Option Call
own_at source ps aliases own None = None
own_at source ps aliases own (Some at) =
    if bytes_eq (text_before source ps at 1) (codes "fn") then None
    else own_named own (owner_at source ps aliases at) (real_name source (text_at source ps at) (position_at ps at) aliases)

-- the project's call whose arguments are in the bracket that this token opens
abbrev pub own_call : Text → List PlacedToken → List Alias → List OwnCall → ℕ → Option Call
own_call source ps aliases own i =
    if length own == 0 then None else own_at source ps aliases own (name_index source ps i)

abbrev pub or_known : Option Call → Call → Call
or_known None known = known
or_known (Some call) known = call

-- The call whose arguments are in the bracket that this token opens. A project's setting counts before what a name
-- means in `time` and other libraries.
abbrev pub call_at : Text → List PlacedToken → List Alias → List OwnCall → ℕ → Call
call_at source ps aliases own i = or_known (own_call source ps aliases own i) (call_of source ps aliases i)
