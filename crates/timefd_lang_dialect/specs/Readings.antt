-- What reads the texts that each dialect's rows write.
use Rattle.std.specs.Prelude.{codes, List, [], ◌∷◌}
use Rattle.timefd_lang_dialect.specs.declared.dialect.Dialect.{Dialect}
use Rattle.timefd_lang_dialect.specs.declared.dialect.Dialect.TheVariants.{Python, C, Gnu, Chrono, Jiff, Ruby, Java, Go, Moment}
use Rattle.timefd_lang_dialect.specs.declared.reason.Reason.TheVariants.{TwoDigitYear}
use Rattle.timefd_lang_dialect.specs.Rows.{Entry, ◌means◌, ◌refused_for◌}

unfoldable pub python_readings : List Entry
python_readings =
    codes "[year repr:last_two]" refused_for TwoDigitYear
    ∷ codes "[month]/[day]/[year repr:last_two]" refused_for TwoDigitYear
    ∷ codes "[year repr:last_two base:iso_week]" refused_for TwoDigitYear
    ∷ codes "[year repr:last_two padding:none]" refused_for TwoDigitYear
    ∷ codes "[year repr:last_two base:iso_week padding:none]" refused_for TwoDigitYear
    ∷ codes "[year repr:last_two padding:space]" refused_for TwoDigitYear
    ∷ codes "[year repr:last_two base:iso_week padding:space]" refused_for TwoDigitYear
    ∷ codes "[day]" means codes "[day padding:none]"
    ∷ codes "[hour]" means codes "[hour padding:none]"
    ∷ codes "[hour repr:12]" means codes "[hour repr:12 padding:none]"
    ∷ codes "[ordinal]" means codes "[ordinal padding:none]"
    ∷ codes "[month]" means codes "[month padding:none]"
    ∷ codes "[minute]" means codes "[minute padding:none]"
    ∷ codes "[second]" means codes "[second padding:none]"
    ∷ codes "[weekday repr:short]" means codes "[weekday repr:short case_sensitive:false]"
    ∷ codes "[weekday]" means codes "[weekday case_sensitive:false]"
    ∷ codes "[month repr:short]" means codes "[month repr:short case_sensitive:false]"
    ∷ codes "[month repr:long]" means codes "[month repr:long case_sensitive:false]"
    ∷ codes "[period]" means codes "[period case_sensitive:false]"
    ∷ codes "[subsecond digits:6]" means codes "[subsecond]"
    ∷ codes "[offset_hour sign:mandatory][offset_minute]" means codes "[first [[offset_hour sign:mandatory]:[offset_minute]:[offset_second]] [[offset_hour sign:mandatory][offset_minute][offset_second]] [[offset_hour sign:mandatory]:[offset_minute]] [[offset_hour sign:mandatory][offset_minute]]]"
    ∷ []

unfoldable pub c_readings : List Entry
c_readings =
    codes "[year repr:last_two]" refused_for TwoDigitYear
    ∷ codes "[year repr:last_two base:iso_week]" refused_for TwoDigitYear
    ∷ codes "[month]/[day]/[year repr:last_two]" refused_for TwoDigitYear
    ∷ codes "[year repr:last_two padding:none]" refused_for TwoDigitYear
    ∷ codes "[year repr:last_two padding:space]" refused_for TwoDigitYear
    ∷ codes "[year repr:last_two base:iso_week padding:none]" refused_for TwoDigitYear
    ∷ codes "[year repr:last_two base:iso_week padding:space]" refused_for TwoDigitYear
    ∷ codes "[day]" means codes "[day padding:none]"
    ∷ codes "[hour]" means codes "[hour padding:none]"
    ∷ codes "[hour repr:12]" means codes "[hour repr:12 padding:none]"
    ∷ codes "[ordinal]" means codes "[ordinal padding:none]"
    ∷ codes "[month]" means codes "[month padding:none]"
    ∷ codes "[minute]" means codes "[minute padding:none]"
    ∷ codes "[second]" means codes "[second padding:none]"
    ∷ codes "[year]" means codes "[year padding:none]"
    ∷ codes "[weekday repr:short]" means codes "[first [[weekday case_sensitive:false]] [[weekday repr:short case_sensitive:false]]]"
    ∷ codes "[weekday]" means codes "[first [[weekday case_sensitive:false]] [[weekday repr:short case_sensitive:false]]]"
    ∷ codes "[month repr:short]" means codes "[first [[month repr:long case_sensitive:false]] [[month repr:short case_sensitive:false]]]"
    ∷ codes "[month repr:long]" means codes "[first [[month repr:long case_sensitive:false]] [[month repr:short case_sensitive:false]]]"
    ∷ codes "[period]" means codes "[period case_sensitive:false]"
    ∷ codes "[offset_hour sign:mandatory][offset_minute]" means codes "[first [[offset_hour sign:mandatory]:[offset_minute]] [[offset_hour sign:mandatory][offset_minute]] [[offset_hour sign:mandatory]]]"
    ∷ codes "[period case:lower]" means codes "[period case_sensitive:false]"
    ∷ []

unfoldable pub gnu_readings : List Entry
gnu_readings =
    codes "[year repr:last_two]" refused_for TwoDigitYear
    ∷ codes "[year repr:last_two base:iso_week]" refused_for TwoDigitYear
    ∷ codes "[month]/[day]/[year repr:last_two]" refused_for TwoDigitYear
    ∷ codes "[year repr:last_two padding:none]" refused_for TwoDigitYear
    ∷ codes "[year repr:last_two padding:space]" refused_for TwoDigitYear
    ∷ codes "[year repr:last_two base:iso_week padding:none]" refused_for TwoDigitYear
    ∷ codes "[year repr:last_two base:iso_week padding:space]" refused_for TwoDigitYear
    ∷ []

unfoldable pub chrono_readings : List Entry
chrono_readings =
    codes "[year repr:last_two]" refused_for TwoDigitYear
    ∷ codes "[year repr:last_two base:iso_week]" refused_for TwoDigitYear
    ∷ codes "[month]/[day]/[year repr:last_two]" refused_for TwoDigitYear
    ∷ codes "[year repr:last_two padding:none]" refused_for TwoDigitYear
    ∷ codes "[year repr:last_two padding:space]" refused_for TwoDigitYear
    ∷ codes "[year repr:last_two base:iso_week padding:none]" refused_for TwoDigitYear
    ∷ codes "[year repr:last_two base:iso_week padding:space]" refused_for TwoDigitYear
    ∷ codes "[day]" means codes "[day padding:none]"
    ∷ codes "[hour]" means codes "[hour padding:none]"
    ∷ codes "[hour repr:12]" means codes "[hour repr:12 padding:none]"
    ∷ codes "[ordinal]" means codes "[ordinal padding:none]"
    ∷ codes "[month]" means codes "[month padding:none]"
    ∷ codes "[minute]" means codes "[minute padding:none]"
    ∷ codes "[second]" means codes "[second padding:none]"
    ∷ codes "[year]" means codes "[year padding:none]"
    ∷ codes "[weekday repr:short]" means codes "[weekday repr:short case_sensitive:false]"
    ∷ codes "[weekday]" means codes "[first [[weekday case_sensitive:false]] [[weekday repr:short case_sensitive:false]]]"
    ∷ codes "[month repr:short]" means codes "[month repr:short case_sensitive:false]"
    ∷ codes "[month repr:long]" means codes "[first [[month repr:long case_sensitive:false]] [[month repr:short case_sensitive:false]]]"
    ∷ codes "[period]" means codes "[period case_sensitive:false]"
    ∷ codes "[period case:lower]" means codes "[period case_sensitive:false]"
    ∷ codes ".[subsecond digits:3]" means codes "[optional [.[subsecond]]]"
    ∷ codes ".[subsecond digits:6]" means codes "[optional [.[subsecond]]]"
    ∷ codes ".[subsecond digits:9]" means codes "[optional [.[subsecond]]]"
    ∷ codes "[offset_hour sign:mandatory][offset_minute]" means codes "[first [[offset_hour sign:mandatory]:[offset_minute]] [[offset_hour sign:mandatory][offset_minute]]]"
    ∷ codes "[offset_hour sign:mandatory]:[offset_minute]" means codes "[first [[offset_hour sign:mandatory]:[offset_minute]] [[offset_hour sign:mandatory][offset_minute]]]"
    ∷ []

unfoldable pub jiff_readings : List Entry
jiff_readings =
    codes "[year repr:last_two]" refused_for TwoDigitYear
    ∷ codes "[year repr:last_two base:iso_week]" refused_for TwoDigitYear
    ∷ codes "[month]/[day]/[year repr:last_two]" refused_for TwoDigitYear
    ∷ codes "[year repr:last_two padding:none]" refused_for TwoDigitYear
    ∷ codes "[year repr:last_two padding:space]" refused_for TwoDigitYear
    ∷ codes "[year repr:last_two base:iso_week padding:none]" refused_for TwoDigitYear
    ∷ codes "[year repr:last_two base:iso_week padding:space]" refused_for TwoDigitYear
    ∷ codes "[day]" means codes "[day padding:none]"
    ∷ codes "[hour]" means codes "[hour padding:none]"
    ∷ codes "[hour repr:12]" means codes "[hour repr:12 padding:none]"
    ∷ codes "[ordinal]" means codes "[ordinal padding:none]"
    ∷ codes "[month]" means codes "[month padding:none]"
    ∷ codes "[minute]" means codes "[minute padding:none]"
    ∷ codes "[second]" means codes "[second padding:none]"
    ∷ codes "[year]" means codes "[year padding:none]"
    ∷ codes "[weekday repr:short]" means codes "[weekday repr:short case_sensitive:false]"
    ∷ codes "[weekday]" means codes "[weekday case_sensitive:false]"
    ∷ codes "[month repr:short]" means codes "[month repr:short case_sensitive:false]"
    ∷ codes "[month repr:long]" means codes "[month repr:long case_sensitive:false]"
    ∷ codes "[period]" means codes "[period case_sensitive:false]"
    ∷ codes "[period case:lower]" means codes "[period case_sensitive:false]"
    ∷ codes "[subsecond digits:1]" means codes "[subsecond]"
    ∷ codes "[subsecond digits:2]" means codes "[subsecond]"
    ∷ codes "[subsecond digits:3]" means codes "[subsecond]"
    ∷ codes "[subsecond digits:4]" means codes "[subsecond]"
    ∷ codes "[subsecond digits:5]" means codes "[subsecond]"
    ∷ codes "[subsecond digits:6]" means codes "[subsecond]"
    ∷ codes "[subsecond digits:7]" means codes "[subsecond]"
    ∷ codes "[subsecond digits:8]" means codes "[subsecond]"
    ∷ codes "[subsecond digits:9]" means codes "[subsecond]"
    ∷ codes ".[subsecond digits:1]" means codes "[optional [.[subsecond]]]"
    ∷ codes ".[subsecond digits:2]" means codes "[optional [.[subsecond]]]"
    ∷ codes ".[subsecond digits:3]" means codes "[optional [.[subsecond]]]"
    ∷ codes ".[subsecond digits:4]" means codes "[optional [.[subsecond]]]"
    ∷ codes ".[subsecond digits:5]" means codes "[optional [.[subsecond]]]"
    ∷ codes ".[subsecond digits:6]" means codes "[optional [.[subsecond]]]"
    ∷ codes ".[subsecond digits:7]" means codes "[optional [.[subsecond]]]"
    ∷ codes ".[subsecond digits:8]" means codes "[optional [.[subsecond]]]"
    ∷ codes ".[subsecond digits:9]" means codes "[optional [.[subsecond]]]"
    ∷ []

unfoldable pub ruby_readings : List Entry
ruby_readings =
    codes "[year repr:last_two]" refused_for TwoDigitYear
    ∷ codes "[year repr:last_two base:iso_week]" refused_for TwoDigitYear
    ∷ codes "[month]/[day]/[year repr:last_two]" refused_for TwoDigitYear
    ∷ codes "[year repr:last_two padding:none]" refused_for TwoDigitYear
    ∷ codes "[year repr:last_two padding:space]" refused_for TwoDigitYear
    ∷ codes "[year repr:last_two base:iso_week padding:none]" refused_for TwoDigitYear
    ∷ codes "[year repr:last_two base:iso_week padding:space]" refused_for TwoDigitYear
    ∷ codes "[day]" means codes "[day padding:none]"
    ∷ codes "[hour]" means codes "[hour padding:none]"
    ∷ codes "[hour repr:12]" means codes "[hour repr:12 padding:none]"
    ∷ codes "[ordinal]" means codes "[ordinal padding:none]"
    ∷ codes "[month]" means codes "[month padding:none]"
    ∷ codes "[minute]" means codes "[minute padding:none]"
    ∷ codes "[second]" means codes "[second padding:none]"
    ∷ codes "[weekday repr:short]" means codes "[first [[weekday case_sensitive:false]] [[weekday repr:short case_sensitive:false]]]"
    ∷ codes "[weekday]" means codes "[first [[weekday case_sensitive:false]] [[weekday repr:short case_sensitive:false]]]"
    ∷ codes "[month repr:short]" means codes "[first [[month repr:long case_sensitive:false]] [[month repr:short case_sensitive:false]]]"
    ∷ codes "[month repr:long]" means codes "[first [[month repr:long case_sensitive:false]] [[month repr:short case_sensitive:false]]]"
    ∷ codes "[period]" means codes "[period case_sensitive:false]"
    ∷ codes "[period case:lower]" means codes "[period case_sensitive:false]"
    ∷ codes "[offset_hour sign:mandatory][offset_minute]" means codes "[first [[offset_hour sign:mandatory]:[offset_minute]:[offset_second]] [[offset_hour sign:mandatory][offset_minute][offset_second]] [[offset_hour sign:mandatory]:[offset_minute]] [[offset_hour sign:mandatory][offset_minute]]]"
    ∷ codes "[offset_hour sign:mandatory]:[offset_minute]" means codes "[first [[offset_hour sign:mandatory]:[offset_minute]:[offset_second]] [[offset_hour sign:mandatory][offset_minute][offset_second]] [[offset_hour sign:mandatory]:[offset_minute]] [[offset_hour sign:mandatory][offset_minute]]]"
    ∷ codes "[offset_hour sign:mandatory]:[offset_minute]:[offset_second]" means codes "[first [[offset_hour sign:mandatory]:[offset_minute]:[offset_second]] [[offset_hour sign:mandatory][offset_minute][offset_second]] [[offset_hour sign:mandatory]:[offset_minute]] [[offset_hour sign:mandatory][offset_minute]]]"
    ∷ codes "[subsecond digits:3]" means codes "[subsecond]"
    ∷ codes "[subsecond digits:9]" means codes "[subsecond]"
    ∷ []

unfoldable pub java_readings : List Entry
java_readings =
    codes "[year repr:last_two]" refused_for TwoDigitYear
    ∷ []

unfoldable pub go_readings : List Entry
go_readings =
    codes "[year repr:last_two]" refused_for TwoDigitYear
    ∷ codes "[month repr:long]" means codes "[month repr:long case_sensitive:false]"
    ∷ codes "[month repr:short]" means codes "[month repr:short case_sensitive:false]"
    ∷ codes "[weekday]" means codes "[weekday case_sensitive:false]"
    ∷ codes "[weekday repr:short]" means codes "[weekday repr:short case_sensitive:false]"
    ∷ codes "[ordinal padding:space]" means codes "[ordinal padding:none]"
    ∷ codes "[hour]" means codes "[hour padding:none]"
    ∷ []

unfoldable pub moment_readings : List Entry
moment_readings =
    codes "[year repr:last_two]" refused_for TwoDigitYear
    ∷ codes "[year repr:last_two base:iso_week]" refused_for TwoDigitYear
    ∷ codes "[month repr:short]" means codes "[month repr:short case_sensitive:false]"
    ∷ codes "[month repr:long]" means codes "[month repr:long case_sensitive:false]"
    ∷ codes "[weekday repr:short]" means codes "[weekday repr:short case_sensitive:false]"
    ∷ codes "[weekday]" means codes "[weekday case_sensitive:false]"
    ∷ codes "[period]" means codes "[period case_sensitive:false]"
    ∷ codes "[period case:lower]" means codes "[period case_sensitive:false]"
    ∷ codes "[offset_hour sign:mandatory]:[offset_minute]" means codes "[first [[offset_hour sign:mandatory]:[offset_minute]] [[offset_hour sign:mandatory][offset_minute]] [[offset_hour sign:mandatory]]]"
    ∷ codes "[offset_hour sign:mandatory][offset_minute]" means codes "[first [[offset_hour sign:mandatory]:[offset_minute]] [[offset_hour sign:mandatory][offset_minute]] [[offset_hour sign:mandatory]]]"
    ∷ []

abbrev pub readings_of : Dialect → List Entry
readings_of Python = python_readings
readings_of C = c_readings
readings_of Gnu = gnu_readings
readings_of Chrono = chrono_readings
readings_of Jiff = jiff_readings
readings_of Ruby = ruby_readings
readings_of Java = java_readings
readings_of Go = go_readings
readings_of Moment = moment_readings
