-- The texts of version 3 in the tables are texts of version 3.
use Rattle.std.proofs.Common.{◌≡◌, Bool, true, false, List, Result, Ok, Err, refl}
use Rattle.timefd_lang_component.specs.Tree.{Tree}
use Rattle.timefd_lang_fault.specs.Faults.{Fault}
use Rattle.timefd_lang_dialect.specs.declared.dialect.Dialect.{Dialect}
use Rattle.timefd_lang_dialect.specs.declared.dialect.Dialect.TheVariants.{Python, C, Gnu, Chrono, Jiff, Ruby, Java, Go, Moment}
use Rattle.timefd_lang_dialect.specs.Rows.{Entry, Meaning, written, refused}
use Rattle.timefd_lang_dialect.specs.Tables.{rows_of}
use Rattle.timefd_lang_dialect.specs.Python.{python_groups}
use Rattle.timefd_lang_dialect.specs.C.{c_groups}
use Rattle.timefd_lang_dialect.specs.CPadded.{c_padded}
use Rattle.timefd_lang_dialect.specs.CMarked.{c_marked}
use Rattle.timefd_lang_dialect.specs.Gnu.{gnu_groups}
use Rattle.timefd_lang_dialect.specs.GnuPadded.{gnu_padded}
use Rattle.timefd_lang_dialect.specs.GnuMarked.{gnu_marked}
use Rattle.timefd_lang_dialect.specs.Chrono.{chrono_groups}
use Rattle.timefd_lang_dialect.specs.Jiff.{jiff_groups}
use Rattle.timefd_lang_dialect.specs.JiffPadded.{jiff_padded}
use Rattle.timefd_lang_dialect.specs.JiffMarked.{jiff_marked}
use Rattle.timefd_lang_dialect.specs.Ruby.{ruby_groups}
use Rattle.timefd_lang_dialect.specs.RubyPadded.{ruby_padded}
use Rattle.timefd_lang_dialect.specs.RubyMarked.{ruby_marked}
use Rattle.timefd_lang_dialect.specs.Java.{java_groups}
use Rattle.timefd_lang_dialect.specs.JavaRefused.{java_refused}
use Rattle.timefd_lang_dialect.specs.Go.{go_groups}
use Rattle.timefd_lang_dialect.specs.Moment.{moment_groups}
use Rattle.timefd_lang_dialect.specs.MomentEscaped.{moment_escaped}
use Rattle.timefd_lang_dialect.proofs.RowLemmas.{all_pass}
use Rattle.timefd_language.specs.declared.description_version.DescriptionVersion.TheVariants.{Three}
use Rattle.timefd_language.specs.Grammar.{nesting_limit}
use Rattle.timefd_language.proofs.Reader.{answer_of}

abbrev pub is_read : Result (List Tree) Fault → Bool
is_read (Ok list) = true
is_read (Err f) = false

abbrev pub meaning_reads : Meaning → Bool
meaning_reads (written text range) = is_read (answer_of Three nesting_limit text)
meaning_reads (refused reason) = true

abbrev pub reads : Entry → Bool
reads row = meaning_reads row.meaning

pub all_read : (dialect : Dialect) → all_pass reads (rows_of dialect) ≡ true
unfolding python_groups c_groups c_padded c_marked gnu_groups gnu_padded gnu_marked chrono_groups
    jiff_groups jiff_padded jiff_marked ruby_groups ruby_padded ruby_marked java_groups java_refused
    go_groups moment_groups moment_escaped answer_of
all_read Python = refl
all_read C = refl
all_read Gnu = refl
all_read Chrono = refl
all_read Jiff = refl
all_read Ruby = refl
all_read Java = refl
all_read Go = refl
all_read Moment = refl
