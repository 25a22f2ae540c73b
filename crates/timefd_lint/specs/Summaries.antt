-- The line that says how much was checked.
use Rattle.std.specs.Prelude.{ℕ, Bool, true, false, ◌++◌, codes, nat_eq, if◌then◌else◌}
use Rattle.std.specs.Fmt.{decimal}
use Rattle.timefd_parse.specs.Tree.{Text}
use Rattle.timefd_lint.specs.declared.tally.LintTally.{LintTally}

-- the word for one, or for any other number
abbrev pub noun : ℕ → Text → Text → Text
noun n one several = if nat_eq n 1 then one else several

abbrev pub descriptions : ℕ → Text
descriptions n = noun n (codes "description") (codes "descriptions")

abbrev pub files : ℕ → Text
files n = noun n (codes "file") (codes "files")

abbrev pub warnings : ℕ → Text
warnings n = noun n (codes "warning") (codes "warnings")

abbrev pub calls : ℕ → Text
calls n = noun n (codes "call") (codes "calls")

abbrev pub values : ℕ → Text
values n = noun n (codes "value of a key") (codes "values of keys")

abbrev pub errors : ℕ → Text
errors n = noun n (codes "error in a comment") (codes "errors in comments")

-- as `8 descriptions, 6 refused`
abbrev pub refusals : LintTally → Text
refusals tally =
    decimal tally.descriptions
    ++ (codes " " ++ (descriptions tally.descriptions
    ++ (codes ", " ++ (decimal tally.refused ++ codes " refused"))))

-- as `8 descriptions, 6 refused, 2 files`
abbrev pub without_warnings : LintTally → ℕ → Text
without_warnings tally file_count =
    refusals tally
    ++ (codes ", " ++ (decimal file_count ++ (codes " " ++ files file_count)))

-- as `8 descriptions, 6 refused, 1 warning, 2 files`
abbrev pub with_warnings : LintTally → ℕ → Text
with_warnings tally file_count =
    refusals tally
    ++ (codes ", " ++ (decimal tally.warnings
    ++ (codes " " ++ (warnings tally.warnings
    ++ (codes ", " ++ (decimal file_count ++ (codes " " ++ files file_count)))))))

-- with the warnings, if they are reported
abbrev pub counted : Bool → LintTally → ℕ → Text
counted true tally file_count = with_warnings tally file_count
counted false tally file_count = without_warnings tally file_count

-- as `.., 2 files; 3 calls with a name in place of a text`
abbrev pub with_calls : Text → ℕ → Text
with_calls line unread =
    line ++ (codes "; " ++ (decimal unread ++ (codes " " ++ (calls unread
    ++ codes " with a name in place of a text"))))

-- with the calls, if there are any
abbrev pub with_unread_calls : Text → ℕ → Text
with_unread_calls line unread = if nat_eq unread 0 then line else with_calls line unread

-- as `.., 2 files; 2 values of keys not looked at`
abbrev pub with_values : Text → ℕ → Text
with_values line unread =
    line ++ (codes "; " ++ (decimal unread ++ (codes " " ++ (values unread ++ codes " not looked at"))))

-- with the values, if there are any
abbrev pub with_unread_values : Text → ℕ → Text
with_unread_values line unread = if nat_eq unread 0 then line else with_values line unread

-- as `.., 2 files; 2 errors in comments`
abbrev pub with_wrong : Text → ℕ → Text
with_wrong line wrong = line ++ (codes "; " ++ (decimal wrong ++ (codes " " ++ errors wrong)))

-- with the errors in comments, if there are any
abbrev pub with_any_wrong : Text → ℕ → Text
with_any_wrong line wrong = if nat_eq wrong 0 then line else with_wrong line wrong

-- as `.., 2 files; 2 allowed by comments`
abbrev pub with_allowed : Text → ℕ → Text
with_allowed line allowed = line ++ (codes "; " ++ (decimal allowed ++ codes " allowed by comments"))

-- with what comments allow, if they allow anything
abbrev pub with_any_allowed : Text → ℕ → Text
with_any_allowed line allowed = if nat_eq allowed 0 then line else with_allowed line allowed

abbrev pub summary : Bool → LintTally → ℕ → Text
summary warns tally file_count =
    with_any_allowed
    (with_any_wrong
    (with_unread_values (with_unread_calls (counted warns tally file_count) tally.unread_calls) tally.unread_values)
    tally.wrong_comments)
    tally.allowed
