-- Descriptions that dates and times are often written by, likeliest first.
use Rattle.std.specs.Prelude.{codes, List, [], ◌∷◌, ◌++◌, Option, Some, None}
use denote.Ref.{Bor}
use Rattle.timefd_parse.specs.Tree.{Text}
use Rattle.timefd_description.specs.declared.guessing.candidate.Candidate.{Candidate}
use Rattle.timefd_description.specs.declared.guessing.candidates.Group.{Group}
use Rattle.timefd_description.specs.declared.guessing.candidates.Group.TheVariants.{Rfc3339, Iso8601, Spaced, Compact, Mail, Programs, Servers, Named, Local, Unix, Times}

-- a description, and the same one with day and month swapped
pub record Entry : Type 0 where
  pub text : Text
  pub swapped : Option Text

abbrev pub alone : Text → Entry
alone text = record { text = text; swapped = None }

infix 80 ◌swaps_to◌
abbrev pub ◌swaps_to◌ : Text → Text → Entry
text swaps_to other = record { text = text; swapped = Some other }

-- the rows of the code
abbrev pub text_option : Option (Bor Text) → Option Text
text_option None = None
text_option (Some text) = Some text.now

abbrev pub entry_of : Candidate → Entry
entry_of row = record { text = row.description.now; swapped = text_option row.swapped }

abbrev pub entries : List Candidate → List Entry
entries [] = []
entries (row ∷ rows) = entry_of row ∷ entries rows

unfoldable pub rfc_3339_entries : List Entry
rfc_3339_entries =
    alone (codes "[year]-[month]-[day]T[hour]:[minute]:[second]Z")
    ∷ alone (codes "[year]-[month]-[day]T[hour]:[minute]:[second].[subsecond digits:3]Z")
    ∷ alone (codes "[year]-[month]-[day]T[hour]:[minute]:[second].[subsecond digits:6]Z")
    ∷ alone (codes "[year]-[month]-[day]T[hour]:[minute]:[second].[subsecond digits:9]Z")
    ∷ alone (codes "[year]-[month]-[day]T[hour]:[minute]:[second].[subsecond]Z")
    ∷ alone (codes "[year]-[month]-[day]T[hour]:[minute]:[second][offset_hour sign:mandatory]:[offset_minute]")
    ∷ alone (codes "[year]-[month]-[day]T[hour]:[minute]:[second].[subsecond digits:3][offset_hour sign:mandatory]:[offset_minute]")
    ∷ alone (codes "[year]-[month]-[day]T[hour]:[minute]:[second].[subsecond digits:6][offset_hour sign:mandatory]:[offset_minute]")
    ∷ alone (codes "[year]-[month]-[day]T[hour]:[minute]:[second].[subsecond digits:9][offset_hour sign:mandatory]:[offset_minute]")
    ∷ alone (codes "[year]-[month]-[day]T[hour]:[minute]:[second].[subsecond][offset_hour sign:mandatory]:[offset_minute]")
    ∷ []

unfoldable pub iso_8601_entries : List Entry
iso_8601_entries =
    alone (codes "[year]-[month]-[day]")
    ∷ alone (codes "[year]-[month]-[day]T[hour]:[minute]:[second]")
    ∷ alone (codes "[year]-[month]-[day]T[hour]:[minute]:[second].[subsecond digits:3]")
    ∷ alone (codes "[year]-[month]-[day]T[hour]:[minute]:[second].[subsecond digits:6]")
    ∷ alone (codes "[year]-[month]-[day]T[hour]:[minute]:[second].[subsecond digits:9]")
    ∷ alone (codes "[year]-[month]-[day]T[hour]:[minute]:[second].[subsecond]")
    ∷ alone (codes "[year]-[month]-[day]T[hour]:[minute]")
    ∷ alone (codes "[year]-[month]-[day]T[hour]:[minute]Z")
    ∷ alone (codes "[year]-[month]-[day]T[hour]:[minute][offset_hour sign:mandatory]:[offset_minute]")
    ∷ alone (codes "[year]-[month]-[day]T[hour]:[minute]:[second][offset_hour sign:mandatory][offset_minute]")
    ∷ alone (codes "[year]-[month]-[day]T[hour]:[minute]:[second].[subsecond digits:3][offset_hour sign:mandatory][offset_minute]")
    ∷ alone (codes "[year]-[month]-[day]T[hour]:[minute]:[second].[subsecond digits:6][offset_hour sign:mandatory][offset_minute]")
    ∷ alone (codes "[year]-[month]-[day]T[hour]:[minute]:[second].[subsecond digits:9][offset_hour sign:mandatory][offset_minute]")
    ∷ alone (codes "[year]-[month]-[day]T[hour]:[minute]:[second].[subsecond][offset_hour sign:mandatory][offset_minute]")
    ∷ []

unfoldable pub spaced_entries : List Entry
spaced_entries =
    alone (codes "[year]-[month]-[day] [hour]:[minute]:[second]")
    ∷ alone (codes "[year]-[month]-[day] [hour]:[minute]:[second].[subsecond digits:3]")
    ∷ alone (codes "[year]-[month]-[day] [hour]:[minute]:[second].[subsecond digits:6]")
    ∷ alone (codes "[year]-[month]-[day] [hour]:[minute]:[second].[subsecond digits:9]")
    ∷ alone (codes "[year]-[month]-[day] [hour]:[minute]:[second].[subsecond]")
    ∷ alone (codes "[year]-[month]-[day] [hour]:[minute]")
    ∷ alone (codes "[year]-[month]-[day] [hour]:[minute]:[second][offset_hour sign:mandatory]:[offset_minute]")
    ∷ alone (codes "[year]-[month]-[day] [hour]:[minute]:[second].[subsecond digits:3][offset_hour sign:mandatory]:[offset_minute]")
    ∷ alone (codes "[year]-[month]-[day] [hour]:[minute]:[second].[subsecond digits:6][offset_hour sign:mandatory]:[offset_minute]")
    ∷ alone (codes "[year]-[month]-[day] [hour]:[minute]:[second].[subsecond digits:9][offset_hour sign:mandatory]:[offset_minute]")
    ∷ alone (codes "[year]-[month]-[day] [hour]:[minute]:[second].[subsecond][offset_hour sign:mandatory]:[offset_minute]")
    ∷ alone (codes "[year]-[month]-[day] [hour]:[minute]:[second],[subsecond digits:3]")
    ∷ alone (codes "[year]-[month]-[day] [hour]:[minute]:[second]Z")
    ∷ alone (codes "[year]-[month]-[day] [hour]:[minute]:[second].[subsecond digits:3]Z")
    ∷ alone (codes "[year]-[month]-[day] [hour]:[minute]:[second].[subsecond digits:6]Z")
    ∷ alone (codes "[year]-[month]-[day] [hour]:[minute]:[second] UTC")
    ∷ alone (codes "[year]-[month]-[day] [hour]:[minute]:[second].[subsecond digits:3] UTC")
    ∷ alone (codes "[year]-[month]-[day] [hour]:[minute]:[second].[subsecond digits:6] UTC")
    ∷ alone (codes "[year]-[month]-[day] [hour]:[minute]:[second].[subsecond digits:9] UTC")
    ∷ alone (codes "[year]-[month]-[day] [hour]:[minute]:[second].[subsecond] UTC")
    ∷ alone (codes "[year]-[month]-[day] [hour]:[minute]:[second] [offset_hour sign:mandatory][offset_minute]")
    ∷ alone (codes "[year]-[month]-[day] [hour]:[minute]:[second].[subsecond digits:3] [offset_hour sign:mandatory][offset_minute]")
    ∷ alone (codes "[year]-[month]-[day] [hour]:[minute]:[second].[subsecond digits:6] [offset_hour sign:mandatory][offset_minute]")
    ∷ alone (codes "[year]-[month]-[day] [hour]:[minute]:[second].[subsecond digits:9] [offset_hour sign:mandatory][offset_minute]")
    ∷ alone (codes "[year]-[month]-[day] [hour]:[minute]:[second].[subsecond] [offset_hour sign:mandatory][offset_minute]")
    ∷ alone (codes "[year]-[month]-[day] [hour]:[minute]:[second][offset_hour sign:mandatory]")
    ∷ alone (codes "[year]-[month]-[day] [hour]:[minute]:[second].[subsecond digits:3][offset_hour sign:mandatory]")
    ∷ alone (codes "[year]-[month]-[day] [hour]:[minute]:[second].[subsecond digits:6][offset_hour sign:mandatory]")
    ∷ alone (codes "[year]-[month]-[day] [hour]:[minute]:[second].[subsecond digits:9][offset_hour sign:mandatory]")
    ∷ alone (codes "[year]-[month]-[day] [hour]:[minute]:[second].[subsecond][offset_hour sign:mandatory]")
    ∷ []

unfoldable pub compact_entries : List Entry
compact_entries =
    alone (codes "[year][month][day]")
    ∷ alone (codes "[year][month][day]T[hour][minute][second]Z")
    ∷ alone (codes "[year][month][day]T[hour][minute][second]")
    ∷ alone (codes "[year][month][day]T[hour][minute][second][offset_hour sign:mandatory][offset_minute]")
    ∷ alone (codes "[year][month][day][hour][minute][second]")
    ∷ alone (codes "[year][month][day]-[hour][minute][second]")
    ∷ alone (codes "[year][month][day]_[hour][minute][second]")
    ∷ alone (codes "[year base:iso_week]-W[week_number]-[weekday repr:monday]")
    ∷ alone (codes "[year]-[ordinal]")
    ∷ []

unfoldable pub mail_entries : List Entry
mail_entries =
    alone (codes "[weekday repr:short], [day] [month repr:short] [year] [hour]:[minute]:[second] [offset_hour sign:mandatory][offset_minute]")
    ∷ alone (codes "[weekday repr:short], [day] [month repr:short] [year] [hour]:[minute]:[second] GMT")
    ∷ alone (codes "[weekday repr:short], [day padding:none] [month repr:short] [year] [hour]:[minute]:[second] [offset_hour sign:mandatory][offset_minute]")
    ∷ alone (codes "[weekday repr:short], [day padding:none] [month repr:short] [year] [hour]:[minute]:[second] GMT")
    ∷ alone (codes "[day] [month repr:short] [year] [hour]:[minute]:[second] [offset_hour sign:mandatory][offset_minute]")
    ∷ alone (codes "[day] [month repr:short] [year] [hour]:[minute]:[second] GMT")
    ∷ alone (codes "[day padding:none] [month repr:short] [year] [hour]:[minute]:[second] [offset_hour sign:mandatory][offset_minute]")
    ∷ alone (codes "[day padding:none] [month repr:short] [year] [hour]:[minute]:[second] GMT")
    ∷ []

unfoldable pub programs_entries : List Entry
programs_entries =
    alone (codes "[weekday repr:short] [month repr:short] [day padding:space] [hour]:[minute]:[second] [year]")
    ∷ alone (codes "[weekday repr:short] [month repr:short] [day padding:space] [hour]:[minute]:[second] UTC [year]")
    ∷ alone (codes "[weekday repr:short] [month repr:short] [day padding:none] [hour]:[minute]:[second] [year]")
    ∷ alone (codes "[weekday repr:short] [month repr:short] [day padding:none] [hour]:[minute]:[second] [year] [offset_hour sign:mandatory][offset_minute]")
    ∷ alone (codes "[weekday repr:short] [month repr:short] [day] [year]")
    ∷ alone (codes "[weekday repr:short] [month repr:short] [day] [year] [hour]:[minute]:[second]")
    ∷ alone (codes "[weekday repr:short] [month repr:short] [day] [year] [hour]:[minute]:[second] GMT[offset_hour sign:mandatory][offset_minute]")
    ∷ []

unfoldable pub servers_entries : List Entry
servers_entries =
    alone (codes "[day]/[month repr:short]/[year]:[hour]:[minute]:[second] [offset_hour sign:mandatory][offset_minute]")
    ∷ alone (codes "[day]/[month repr:short]/[year]:[hour]:[minute]:[second]")
    ∷ alone (codes "[year]/[month]/[day]")
    ∷ alone (codes "[year]/[month]/[day] [hour]:[minute]:[second]")
    ∷ alone (codes "[year]/[month]/[day] [hour]:[minute]:[second].[subsecond digits:3]")
    ∷ alone (codes "[year]/[month]/[day] [hour]:[minute]:[second].[subsecond digits:6]")
    ∷ alone (codes "[year]/[month]/[day] [hour]:[minute]:[second].[subsecond digits:9]")
    ∷ alone (codes "[year]/[month]/[day] [hour]:[minute]:[second].[subsecond]")
    ∷ alone (codes "[year]/[month]/[day] [hour]:[minute]")
    ∷ []

unfoldable pub named_entries : List Entry
named_entries =
    alone (codes "[day padding:none] [month repr:long] [year]")
    ∷ alone (codes "[day padding:none] [month repr:short] [year]")
    ∷ alone (codes "[month repr:long] [day padding:none], [year]")
    ∷ alone (codes "[month repr:short] [day padding:none], [year]")
    ∷ alone (codes "[weekday], [day padding:none] [month repr:long] [year]")
    ∷ alone (codes "[weekday], [month repr:long] [day padding:none], [year]")
    ∷ alone (codes "[weekday repr:short], [day padding:none] [month repr:short] [year]")
    ∷ alone (codes "[weekday repr:short], [month repr:short] [day padding:none], [year]")
    ∷ alone (codes "[day] [month repr:long] [year]")
    ∷ alone (codes "[day] [month repr:short] [year]")
    ∷ alone (codes "[month repr:long] [day], [year]")
    ∷ alone (codes "[month repr:short] [day], [year]")
    ∷ alone (codes "[weekday], [day] [month repr:long] [year]")
    ∷ alone (codes "[weekday], [month repr:long] [day], [year]")
    ∷ alone (codes "[weekday repr:short], [day] [month repr:short] [year]")
    ∷ alone (codes "[weekday repr:short], [month repr:short] [day], [year]")
    ∷ alone (codes "[day]-[month repr:short]-[year]")
    ∷ alone (codes "[day]-[month repr:short]-[year] [hour]:[minute]:[second]")
    ∷ alone (codes "[day padding:none] [month repr:short] [year] [hour]:[minute]")
    ∷ alone (codes "[day padding:none] [month repr:short] [year] [hour]:[minute]:[second]")
    ∷ alone (codes "[day padding:none] [month repr:long] [year] [hour]:[minute]")
    ∷ alone (codes "[month repr:short] [day padding:none], [year] [hour repr:12 padding:none]:[minute]:[second] [period]")
    ∷ alone (codes "[month repr:short] [day padding:none], [year], [hour repr:12 padding:none]:[minute]:[second] [period]")
    ∷ alone (codes "[month repr:long] [day padding:none], [year] at [hour repr:12 padding:none]:[minute] [period]")
    ∷ []

unfoldable pub local_entries : List Entry
local_entries =
    alone (codes "[day].[month].[year]")
    ∷ alone (codes "[day padding:none].[month padding:none].[year]")
    ∷ alone (codes "[day].[month].[year] [hour]:[minute]")
    ∷ alone (codes "[day padding:none].[month padding:none].[year] [hour]:[minute]")
    ∷ alone (codes "[day].[month].[year] [hour]:[minute]:[second]")
    ∷ alone (codes "[day padding:none].[month padding:none].[year] [hour]:[minute]:[second]")
    ∷ alone (codes "[day].[month].[year], [hour]:[minute]:[second]")
    ∷ alone (codes "[day padding:none].[month padding:none].[year], [hour]:[minute]:[second]")
    ∷ codes "[day]/[month]/[year]" swaps_to codes "[month]/[day]/[year]"
    ∷ codes "[month]/[day]/[year]" swaps_to codes "[day]/[month]/[year]"
    ∷ codes "[day padding:none]/[month padding:none]/[year]" swaps_to codes "[month padding:none]/[day padding:none]/[year]"
    ∷ codes "[month padding:none]/[day padding:none]/[year]" swaps_to codes "[day padding:none]/[month padding:none]/[year]"
    ∷ codes "[day]/[month]/[year] [hour]:[minute]" swaps_to codes "[month]/[day]/[year] [hour]:[minute]"
    ∷ codes "[month]/[day]/[year] [hour]:[minute]" swaps_to codes "[day]/[month]/[year] [hour]:[minute]"
    ∷ codes "[day padding:none]/[month padding:none]/[year] [hour]:[minute]" swaps_to codes "[month padding:none]/[day padding:none]/[year] [hour]:[minute]"
    ∷ codes "[month padding:none]/[day padding:none]/[year] [hour]:[minute]" swaps_to codes "[day padding:none]/[month padding:none]/[year] [hour]:[minute]"
    ∷ codes "[day]/[month]/[year] [hour]:[minute]:[second]" swaps_to codes "[month]/[day]/[year] [hour]:[minute]:[second]"
    ∷ codes "[month]/[day]/[year] [hour]:[minute]:[second]" swaps_to codes "[day]/[month]/[year] [hour]:[minute]:[second]"
    ∷ codes "[day padding:none]/[month padding:none]/[year] [hour]:[minute]:[second]"
    swaps_to codes "[month padding:none]/[day padding:none]/[year] [hour]:[minute]:[second]"
    ∷ codes "[month padding:none]/[day padding:none]/[year] [hour]:[minute]:[second]"
    swaps_to codes "[day padding:none]/[month padding:none]/[year] [hour]:[minute]:[second]"
    ∷ codes "[day]/[month]/[year], [hour]:[minute]:[second]" swaps_to codes "[month]/[day]/[year], [hour]:[minute]:[second]"
    ∷ codes "[month]/[day]/[year], [hour]:[minute]:[second]" swaps_to codes "[day]/[month]/[year], [hour]:[minute]:[second]"
    ∷ codes "[day padding:none]/[month padding:none]/[year], [hour]:[minute]:[second]"
    swaps_to codes "[month padding:none]/[day padding:none]/[year], [hour]:[minute]:[second]"
    ∷ codes "[month padding:none]/[day padding:none]/[year], [hour]:[minute]:[second]"
    swaps_to codes "[day padding:none]/[month padding:none]/[year], [hour]:[minute]:[second]"
    ∷ codes "[day]/[month]/[year] [hour repr:12]:[minute] [period]" swaps_to codes "[month]/[day]/[year] [hour repr:12]:[minute] [period]"
    ∷ codes "[month]/[day]/[year] [hour repr:12]:[minute] [period]" swaps_to codes "[day]/[month]/[year] [hour repr:12]:[minute] [period]"
    ∷ codes "[day padding:none]/[month padding:none]/[year] [hour repr:12 padding:none]:[minute] [period]"
    swaps_to codes "[month padding:none]/[day padding:none]/[year] [hour repr:12 padding:none]:[minute] [period]"
    ∷ codes "[month padding:none]/[day padding:none]/[year] [hour repr:12 padding:none]:[minute] [period]"
    swaps_to codes "[day padding:none]/[month padding:none]/[year] [hour repr:12 padding:none]:[minute] [period]"
    ∷ codes "[day]/[month]/[year] [hour repr:12]:[minute]:[second] [period]" swaps_to codes "[month]/[day]/[year] [hour repr:12]:[minute]:[second] [period]"
    ∷ codes "[month]/[day]/[year] [hour repr:12]:[minute]:[second] [period]" swaps_to codes "[day]/[month]/[year] [hour repr:12]:[minute]:[second] [period]"
    ∷ codes "[day padding:none]/[month padding:none]/[year] [hour repr:12 padding:none]:[minute]:[second] [period]"
    swaps_to codes "[month padding:none]/[day padding:none]/[year] [hour repr:12 padding:none]:[minute]:[second] [period]"
    ∷ codes "[month padding:none]/[day padding:none]/[year] [hour repr:12 padding:none]:[minute]:[second] [period]"
    swaps_to codes "[day padding:none]/[month padding:none]/[year] [hour repr:12 padding:none]:[minute]:[second] [period]"
    ∷ codes "[day]/[month]/[year], [hour repr:12]:[minute]:[second] [period]"
    swaps_to codes "[month]/[day]/[year], [hour repr:12]:[minute]:[second] [period]"
    ∷ codes "[month]/[day]/[year], [hour repr:12]:[minute]:[second] [period]"
    swaps_to codes "[day]/[month]/[year], [hour repr:12]:[minute]:[second] [period]"
    ∷ codes "[day padding:none]/[month padding:none]/[year], [hour repr:12 padding:none]:[minute]:[second] [period]"
    swaps_to codes "[month padding:none]/[day padding:none]/[year], [hour repr:12 padding:none]:[minute]:[second] [period]"
    ∷ codes "[month padding:none]/[day padding:none]/[year], [hour repr:12 padding:none]:[minute]:[second] [period]"
    swaps_to codes "[day padding:none]/[month padding:none]/[year], [hour repr:12 padding:none]:[minute]:[second] [period]"
    ∷ codes "[day]-[month]-[year]" swaps_to codes "[month]-[day]-[year]"
    ∷ codes "[month]-[day]-[year]" swaps_to codes "[day]-[month]-[year]"
    ∷ codes "[day padding:none]-[month padding:none]-[year]" swaps_to codes "[month padding:none]-[day padding:none]-[year]"
    ∷ codes "[month padding:none]-[day padding:none]-[year]" swaps_to codes "[day padding:none]-[month padding:none]-[year]"
    ∷ codes "[day]-[month]-[year] [hour]:[minute]" swaps_to codes "[month]-[day]-[year] [hour]:[minute]"
    ∷ codes "[month]-[day]-[year] [hour]:[minute]" swaps_to codes "[day]-[month]-[year] [hour]:[minute]"
    ∷ codes "[day padding:none]-[month padding:none]-[year] [hour]:[minute]" swaps_to codes "[month padding:none]-[day padding:none]-[year] [hour]:[minute]"
    ∷ codes "[month padding:none]-[day padding:none]-[year] [hour]:[minute]" swaps_to codes "[day padding:none]-[month padding:none]-[year] [hour]:[minute]"
    ∷ codes "[day]-[month]-[year] [hour]:[minute]:[second]" swaps_to codes "[month]-[day]-[year] [hour]:[minute]:[second]"
    ∷ codes "[month]-[day]-[year] [hour]:[minute]:[second]" swaps_to codes "[day]-[month]-[year] [hour]:[minute]:[second]"
    ∷ codes "[day padding:none]-[month padding:none]-[year] [hour]:[minute]:[second]"
    swaps_to codes "[month padding:none]-[day padding:none]-[year] [hour]:[minute]:[second]"
    ∷ codes "[month padding:none]-[day padding:none]-[year] [hour]:[minute]:[second]"
    swaps_to codes "[day padding:none]-[month padding:none]-[year] [hour]:[minute]:[second]"
    ∷ []

unfoldable pub unix_entries : List Entry
unix_entries =
    alone (codes "[unix_timestamp]")
    ∷ alone (codes "[unix_timestamp precision:millisecond]")
    ∷ []

unfoldable pub times_entries : List Entry
times_entries =
    alone (codes "[hour]:[minute]:[second]")
    ∷ alone (codes "[hour]:[minute]")
    ∷ alone (codes "[hour]:[minute]:[second].[subsecond digits:3]")
    ∷ alone (codes "[hour]:[minute]:[second].[subsecond digits:6]")
    ∷ alone (codes "[hour]:[minute]:[second].[subsecond digits:9]")
    ∷ alone (codes "[hour]:[minute]:[second].[subsecond]")
    ∷ alone (codes "[hour repr:12]:[minute] [period]")
    ∷ alone (codes "[hour repr:12]:[minute]:[second] [period]")
    ∷ alone (codes "[hour repr:12 padding:none]:[minute] [period]")
    ∷ alone (codes "[hour repr:12 padding:none]:[minute]:[second] [period]")
    ∷ []

abbrev pub rows_of : Group → List Entry
rows_of Rfc3339 = rfc_3339_entries
rows_of Iso8601 = iso_8601_entries
rows_of Spaced = spaced_entries
rows_of Compact = compact_entries
rows_of Mail = mail_entries
rows_of Programs = programs_entries
rows_of Servers = servers_entries
rows_of Named = named_entries
rows_of Local = local_entries
rows_of Unix = unix_entries
rows_of Times = times_entries

abbrev pub all_groups : List Group
all_groups =
    Rfc3339
    ∷ Iso8601
    ∷ Spaced
    ∷ Compact
    ∷ Mail
    ∷ Programs
    ∷ Servers
    ∷ Named
    ∷ Local
    ∷ Unix
    ∷ Times
    ∷ []

-- the rows of groups, one group after another
abbrev pub rows_in : List Group → List Entry
rows_in [] = []
rows_in (group ∷ groups) = rows_of group ++ rows_in groups

abbrev pub all_entries : List Entry
all_entries = rows_in all_groups
