-- The rows of each dialect.
use Rattle.std.specs.Prelude.{List, ◌++◌}
use Rattle.timefd_lang_dialect.specs.declared.dialect.Dialect.{Dialect}
use Rattle.timefd_lang_dialect.specs.declared.dialect.Dialect.TheVariants.{Python, C, Gnu, Chrono, Jiff, Ruby, Java, Go, Moment}
use Rattle.timefd_lang_dialect.specs.Dialects.{leading_of, unknown_rows}
use Rattle.timefd_lang_dialect.specs.Groups.{Group, all_rows}
use Rattle.timefd_lang_dialect.specs.Rows.{Entry}
use Rattle.timefd_lang_dialect.specs.Python.{python_groups}
use Rattle.timefd_lang_dialect.specs.C.{c_groups}
use Rattle.timefd_lang_dialect.specs.Gnu.{gnu_groups}
use Rattle.timefd_lang_dialect.specs.Chrono.{chrono_groups}
use Rattle.timefd_lang_dialect.specs.Jiff.{jiff_groups}
use Rattle.timefd_lang_dialect.specs.Ruby.{ruby_groups}
use Rattle.timefd_lang_dialect.specs.Java.{java_groups}
use Rattle.timefd_lang_dialect.specs.Go.{go_groups}
use Rattle.timefd_lang_dialect.specs.Moment.{moment_groups}

-- the rows that a byte selects, in groups
abbrev pub groups_of : Dialect → List Group
groups_of Python = python_groups
groups_of C = c_groups
groups_of Gnu = gnu_groups
groups_of Chrono = chrono_groups
groups_of Jiff = jiff_groups
groups_of Ruby = ruby_groups
groups_of Java = java_groups
groups_of Go = go_groups
groups_of Moment = moment_groups

abbrev pub rows_of : Dialect → List Entry
rows_of dialect = all_rows (groups_of dialect) ++ unknown_rows (leading_of dialect)
