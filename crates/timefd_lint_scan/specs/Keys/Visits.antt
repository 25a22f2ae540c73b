-- What is at a position of a file with keys, and where to look next.
use Rattle.std.specs.Prelude.{ℕ, ◌+◌, ◌-◌, ◌^◌, Bool, true, false, not, ◌&&◌, ◌||◌, ◌==◌, nat_lt, max, min, if◌then◌else◌, List, [], ◌∷◌, Option}
use Rattle.std.specs.Prelude.{Some, None, drop, length}
use Rattle.timefd_lint_scan.specs.Bytes.{Text, is_skipped}
use Rattle.timefd_lint_scan.specs.declared.dialect.FormatLanguage.{FormatLanguage}
use Rattle.timefd_lint_scan.specs.declared.keys.format.FileFormat.{FileFormat}
use Rattle.timefd_lint_scan.specs.declared.keys.format.FileFormat.TheVariants.{Toml, Json, Yaml}
use Rattle.timefd_lint_scan.specs.declared.keys.key.DescriptionKey.{DescriptionKey}
use Rattle.timefd_lint_scan.specs.declared.keys.spot.Elements.{Elements}
use Rattle.timefd_lint_scan.specs.declared.keys.spot.KeySpot.{KeySpot}
use Rattle.timefd_lint_scan.specs.Keys.Depths.{depth_at}
use Rattle.timefd_lint_scan.specs.Keys.Languages.{language_of}
use Rattle.timefd_lint_scan.specs.Keys.Names.{Name, is_quote, name_at, value_after}
use Rattle.timefd_lint_scan.specs.Keys.Passing.{after_passed, begins_comment_at}
use Rattle.timefd_lint_scan.specs.Keys.Strings.{Reading, string_at}

abbrev pub first_spot : KeySpot
first_spot = record { at = 0; depth = 0; list = None }

-- The next spot is after a position, and not after the end of the source.
abbrev pub moved : Text → ℕ → KeySpot → KeySpot
moved source at next = record {
  at = min (max next.at (at + 1)) (length source);
  depth = next.depth;
  list = next.list;
}

-- a string that is wanted as a value, if a comment names its language or `other` is one
pub record Wanted : Type 0 where
  pub start : ℕ
  pub other : Option FormatLanguage

-- The string that is wanted, or the position of a value that isn't looked at, and where to look next.
pub record Visit : Type 0 where
  pub string : Option Wanted
  pub unread : Option ℕ
  pub next : KeySpot

abbrev pub passing : KeySpot → Visit
passing next = record { string = None; unread = None; next = next }

-- A value in this language isn't looked at.
abbrev pub unread_in : Option FormatLanguage → ℕ → Option ℕ
unread_in None start = None
unread_in (Some dialect) start = Some start

abbrev pub unread_visit : Option FormatLanguage → ℕ → KeySpot → Visit
unread_visit other start next = record { string = None; unread = unread_in other start; next = next }

abbrev pub begins_quote : Text → Bool
begins_quote [] = false
begins_quote (b ∷ bytes) = is_quote Yaml b

-- A value without quotes is in brackets, so that its end isn't known.
abbrev pub is_unsure : FileFormat → Text → ℕ → ℕ → Bool
is_unsure Toml source start depth = false
is_unsure Json source start depth = false
is_unsure Yaml source start depth = nat_lt 0 depth && not (begins_quote (drop start source))

-- The string is wanted, if there is one; otherwise the value isn't looked at, and `past` is next.
abbrev pub visit_of : Option FormatLanguage → ℕ → ℕ → Option Elements → KeySpot → Option Reading → Visit
visit_of other start depth list past None = unread_visit other start past
visit_of other start depth list past (Some r) = record {
  string = Some (record { start = start; other = other });
  unread = None;
  next = record { at = min (r.closing + 1) (2 ^ 64 - 1); depth = depth; list = list };
}

abbrev pub string_visit : FileFormat → Text → Option FormatLanguage → ℕ → ℕ → Option Elements → KeySpot → Visit
string_visit format source other start depth list past =
    if is_unsure format source start depth then unread_visit other start past
    else visit_of other start depth list past (string_at format source start)

abbrev pub begins_list : Text → Bool
begins_list [] = false
begins_list (b ∷ bytes) = b == 91

-- The value at a position is a string, or a list whose strings are values.
abbrev pub value_visit : FileFormat → Text → Option FormatLanguage → ℕ → ℕ → Visit
value_visit format source other start depth =
    if begins_list (drop start source) then passing (record {
      at = min (start + 1) (2 ^ 64 - 1);
      depth = depth_at source start depth;
      list = Some (record { other = other });
    })
    else string_visit format source other start depth None (record { at = start; depth = depth; list = None })

-- past the comment, the string of several lines or the sign at a position
abbrev pub past_at : FileFormat → Text → ℕ → ℕ → Option Elements → KeySpot
past_at format source at depth list = record {
  at = length source - length (after_passed format source at);
  depth = depth_at source at depth;
  list = list;
}

abbrev pub is_between : Text → Bool
is_between [] = true
is_between (b ∷ bytes) = is_skipped b || (b == 44)

abbrev pub closes_list : Text → Bool
closes_list [] = false
closes_list (b ∷ bytes) = b == 93

-- The element of a list is a string, and a value; after any other one the rest of the list isn't looked at.
abbrev pub element_visit : FileFormat → Text → ℕ → ℕ → Elements → Visit
element_visit format source at depth elements =
    if is_between (drop at source) || begins_comment_at format source at then
    passing (past_at format source at depth (Some elements))
    else if closes_list (drop at source) then passing (past_at format source at depth None)
    else string_visit format source elements.other at depth (Some elements)
    (past_at format source at depth None)

abbrev pub visit_after : FileFormat → Text → List DescriptionKey → ℕ → ℕ → Name → Option Text → Visit
visit_after format source keys at depth name None =
    passing (record { at = length source - length name.after; depth = depth; list = None })
visit_after format source keys at depth name (Some value) =
    value_visit format source (language_of format source keys at name) (length source - length value) depth

abbrev pub visit_named : FileFormat → Text → List DescriptionKey → ℕ → ℕ → Option Name → Visit
visit_named format source keys at depth None = passing (past_at format source at depth None)
visit_named format source keys at depth (Some name) =
    visit_after format source keys at depth name (value_after format name.after)

abbrev pub visit_in : FileFormat → Text → List DescriptionKey → ℕ → ℕ → Option Elements → Visit
visit_in format source keys at depth None = visit_named format source keys at depth (name_at format source at)
visit_in format source keys at depth (Some elements) = element_visit format source at depth elements

-- what is at a spot: an element of a list, or the value of the key whose name begins there
abbrev pub visit_at : FileFormat → Text → List DescriptionKey → KeySpot → Visit
visit_at format source keys spot = visit_in format source keys spot.at spot.depth spot.list
