-- The rows of Java, by the byte that selects them, the longest first.
use Rattle.std.specs.Prelude.{codes, List, [], ◌∷◌}
use Rattle.timefd_lang_dialect.specs.declared.reason.Reason.TheVariants.{GmtOffset, LocalWeek, NarrowName, TooManyLetters, VariableOffset, VariableWidth, ZForUtc}
use Rattle.timefd_lang_dialect.specs.declared.row.Range.TheVariants.{WholeMinutes, YearsFrom1, YearsFrom100}
use Rattle.timefd_lang_dialect.specs.Groups.{Group, under}
use Rattle.timefd_lang_dialect.specs.Rows.{◌means◌, ◌refused_for◌, within}
use Rattle.timefd_lang_dialect.specs.JavaRefused.{java_refused}

unfoldable pub java_groups : List Group
java_groups =
    under 117 (codes "uuuuuuuuuu" refused_for TooManyLetters
    ∷ codes "uuuuuuuuu" means codes "00000[year]"
    ∷ codes "uuuuuuuu" means codes "0000[year]"
    ∷ codes "uuuuuuu" means codes "000[year]"
    ∷ codes "uuuuuu" means codes "00[year]"
    ∷ codes "uuuuu" means codes "0[year]"
    ∷ codes "uuuu" means codes "[year]"
    ∷ within YearsFrom100 (codes "uuu") (codes "[year padding:none]")
    ∷ codes "uu" means codes "[year repr:last_two]"
    ∷ codes "u" means codes "[year padding:none]"
    ∷ [])
    ∷ under 121 (codes "yyyyyyyyyy" refused_for TooManyLetters
    ∷ within YearsFrom1 (codes "yyyyyyyyy") (codes "00000[year]")
    ∷ within YearsFrom1 (codes "yyyyyyyy") (codes "0000[year]")
    ∷ within YearsFrom1 (codes "yyyyyyy") (codes "000[year]")
    ∷ within YearsFrom1 (codes "yyyyyy") (codes "00[year]")
    ∷ within YearsFrom1 (codes "yyyyy") (codes "0[year]")
    ∷ within YearsFrom1 (codes "yyyy") (codes "[year]")
    ∷ within YearsFrom100 (codes "yyy") (codes "[year padding:none]")
    ∷ within YearsFrom1 (codes "yy") (codes "[year repr:last_two]")
    ∷ within YearsFrom1 (codes "y") (codes "[year padding:none]")
    ∷ [])
    ∷ under 77 (codes "MMMMMM" refused_for TooManyLetters
    ∷ codes "MMMMM" refused_for NarrowName
    ∷ codes "MMMM" means codes "[month repr:long]"
    ∷ codes "MMM" means codes "[month repr:short]"
    ∷ codes "MM" means codes "[month]"
    ∷ codes "M" means codes "[month padding:none]"
    ∷ [])
    ∷ under 76 (codes "LLLLLL" refused_for TooManyLetters
    ∷ codes "LLLLL" refused_for NarrowName
    ∷ codes "LLLL" means codes "[month repr:long]"
    ∷ codes "LLL" means codes "[month repr:short]"
    ∷ codes "LL" means codes "[month]"
    ∷ codes "L" means codes "[month padding:none]"
    ∷ [])
    ∷ under 100 (codes "ddd" refused_for TooManyLetters
    ∷ codes "dd" means codes "[day]"
    ∷ codes "d" means codes "[day padding:none]"
    ∷ [])
    ∷ under 68 (codes "DDDD" refused_for TooManyLetters
    ∷ codes "DDD" means codes "[ordinal]"
    ∷ codes "DD" refused_for VariableWidth
    ∷ codes "D" means codes "[ordinal padding:none]"
    ∷ [])
    ∷ under 69 (codes "EEEEEE" refused_for TooManyLetters
    ∷ codes "EEEEE" refused_for NarrowName
    ∷ codes "EEEE" means codes "[weekday]"
    ∷ codes "EEE" means codes "[weekday repr:short]"
    ∷ codes "EE" means codes "[weekday repr:short]"
    ∷ codes "E" means codes "[weekday repr:short]"
    ∷ [])
    ∷ under 101 (codes "eeeeee" refused_for TooManyLetters
    ∷ codes "eeeee" refused_for NarrowName
    ∷ codes "eeee" means codes "[weekday]"
    ∷ codes "eee" means codes "[weekday repr:short]"
    ∷ codes "ee" refused_for LocalWeek
    ∷ codes "e" refused_for LocalWeek
    ∷ [])
    ∷ under 99 (codes "cccccc" refused_for TooManyLetters
    ∷ codes "ccccc" refused_for NarrowName
    ∷ codes "cccc" means codes "[weekday]"
    ∷ codes "ccc" means codes "[weekday repr:short]"
    ∷ codes "cc" refused_for TooManyLetters
    ∷ codes "c" refused_for LocalWeek
    ∷ [])
    ∷ under 97 (codes "aa" refused_for TooManyLetters
    ∷ codes "a" means codes "[period]"
    ∷ [])
    ∷ under 72 (codes "HHH" refused_for TooManyLetters
    ∷ codes "HH" means codes "[hour]"
    ∷ codes "H" means codes "[hour padding:none]"
    ∷ [])
    ∷ under 104 (codes "hhh" refused_for TooManyLetters
    ∷ codes "hh" means codes "[hour repr:12]"
    ∷ codes "h" means codes "[hour repr:12 padding:none]"
    ∷ [])
    ∷ under 109 (codes "mmm" refused_for TooManyLetters
    ∷ codes "mm" means codes "[minute]"
    ∷ codes "m" means codes "[minute padding:none]"
    ∷ [])
    ∷ under 115 (codes "sss" refused_for TooManyLetters
    ∷ codes "ss" means codes "[second]"
    ∷ codes "s" means codes "[second padding:none]"
    ∷ [])
    ∷ under 83 (codes "SSSSSSSSSS" refused_for TooManyLetters
    ∷ codes "SSSSSSSSS" means codes "[subsecond digits:9]"
    ∷ codes "SSSSSSSS" means codes "[subsecond digits:8]"
    ∷ codes "SSSSSSS" means codes "[subsecond digits:7]"
    ∷ codes "SSSSSS" means codes "[subsecond digits:6]"
    ∷ codes "SSSSS" means codes "[subsecond digits:5]"
    ∷ codes "SSSS" means codes "[subsecond digits:4]"
    ∷ codes "SSS" means codes "[subsecond digits:3]"
    ∷ codes "SS" means codes "[subsecond digits:2]"
    ∷ codes "S" means codes "[subsecond digits:1]"
    ∷ [])
    ∷ under 110 (codes "nnnnnnnnnn" refused_for TooManyLetters
    ∷ codes "nnnnnnnnn" means codes "[subsecond digits:9]"
    ∷ codes "nnnnnnnn" refused_for VariableWidth
    ∷ codes "nnnnnnn" refused_for VariableWidth
    ∷ codes "nnnnnn" refused_for VariableWidth
    ∷ codes "nnnnn" refused_for VariableWidth
    ∷ codes "nnnn" refused_for VariableWidth
    ∷ codes "nnn" refused_for VariableWidth
    ∷ codes "nn" refused_for VariableWidth
    ∷ codes "n" refused_for VariableWidth
    ∷ [])
    ∷ under 120 (codes "xxxxxx" refused_for TooManyLetters
    ∷ within WholeMinutes (codes "xxxxx") (codes "[offset_hour sign:mandatory]:[offset_minute]")
    ∷ within WholeMinutes (codes "xxxx") (codes "[offset_hour sign:mandatory][offset_minute]")
    ∷ codes "xxx" means codes "[offset_hour sign:mandatory]:[offset_minute]"
    ∷ codes "xx" means codes "[offset_hour sign:mandatory][offset_minute]"
    ∷ codes "x" refused_for VariableOffset
    ∷ [])
    ∷ under 90 (codes "ZZZZZZ" refused_for TooManyLetters
    ∷ codes "ZZZZZ" refused_for ZForUtc
    ∷ codes "ZZZZ" refused_for GmtOffset
    ∷ codes "ZZZ" means codes "[offset_hour sign:mandatory][offset_minute]"
    ∷ codes "ZZ" means codes "[offset_hour sign:mandatory][offset_minute]"
    ∷ codes "Z" means codes "[offset_hour sign:mandatory][offset_minute]"
    ∷ [])
    ∷ java_refused
