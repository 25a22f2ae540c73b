-- The rows of moment, by the byte that selects them, the longest first.
use Rattle.std.specs.Prelude.{codes, List, [], ◌∷◌}
use Rattle.timefd_lang_dialect.specs.declared.reason.Reason.TheVariants.{Era, HourFrom0Or24, LocalWeek, Locale, OrdinalSuffix, Quarter, Reserved, TwoLetterName, ZoneName}
use Rattle.timefd_lang_dialect.specs.declared.row.Range.TheVariants.{From1970, YearsFrom1}
use Rattle.timefd_lang_dialect.specs.Groups.{Group, under}
use Rattle.timefd_lang_dialect.specs.Rows.{◌means◌, ◌refused_for◌, within}
use Rattle.timefd_lang_dialect.specs.MomentEscaped.{moment_escaped}

unfoldable pub moment_groups : List Group
moment_groups =
    under 77 (codes "MMMM" means codes "[month repr:long]"
    ∷ codes "MMM" means codes "[month repr:short]"
    ∷ codes "MM" means codes "[month]"
    ∷ codes "Mo" refused_for OrdinalSuffix
    ∷ codes "M" means codes "[month padding:none]"
    ∷ [])
    ∷ under 68 (codes "DDDD" means codes "[ordinal]"
    ∷ codes "DDDo" refused_for OrdinalSuffix
    ∷ codes "DDD" means codes "[ordinal padding:none]"
    ∷ codes "DD" means codes "[day]"
    ∷ codes "Do" refused_for OrdinalSuffix
    ∷ codes "D" means codes "[day padding:none]"
    ∷ [])
    ∷ under 100 (codes "dddd" means codes "[weekday]"
    ∷ codes "ddd" means codes "[weekday repr:short]"
    ∷ codes "dd" refused_for TwoLetterName
    ∷ codes "do" refused_for OrdinalSuffix
    ∷ codes "d" means codes "[weekday repr:sunday one_indexed:false]"
    ∷ [])
    ∷ under 69 (codes "E" means codes "[weekday repr:monday]" ∷ [])
    ∷ under 101 (codes "e" refused_for LocalWeek ∷ [])
    ∷ under 119 (codes "ww" refused_for LocalWeek
    ∷ codes "wo" refused_for LocalWeek
    ∷ codes "w|" refused_for Reserved
    ∷ codes "w" refused_for LocalWeek
    ∷ [])
    ∷ under 103 (codes "ggggg" refused_for LocalWeek
    ∷ codes "gggg" refused_for LocalWeek
    ∷ codes "gg" refused_for LocalWeek
    ∷ [])
    ∷ under 87 (codes "Wo" refused_for OrdinalSuffix
    ∷ codes "WW" means codes "[week_number]"
    ∷ codes "W|" refused_for Reserved
    ∷ codes "W" means codes "[week_number padding:none]"
    ∷ [])
    ∷ under 81 (codes "Qo" refused_for OrdinalSuffix
    ∷ codes "Q" refused_for Quarter
    ∷ [])
    ∷ under 121 (codes "yyyy" refused_for Era
    ∷ codes "yyy" refused_for Era
    ∷ codes "yo" refused_for OrdinalSuffix
    ∷ codes "yy" refused_for Era
    ∷ codes "y" refused_for Era
    ∷ [])
    ∷ under 89 (codes "YYYYYY" means codes "+00[year]"
    ∷ codes "YYYYY" means codes "0[year]"
    ∷ codes "YYYY" means codes "[year]"
    ∷ codes "YY" means codes "[year repr:last_two]"
    ∷ codes "Y" means codes "[year]"
    ∷ [])
    ∷ under 71 (within YearsFrom1 (codes "GGGGG") (codes "0[year base:iso_week]")
    ∷ within YearsFrom1 (codes "GGGG") (codes "[year base:iso_week]")
    ∷ within YearsFrom1 (codes "GG") (codes "[year repr:last_two base:iso_week]")
    ∷ [])
    ∷ under 78 (codes "NNNNN" refused_for Era
    ∷ codes "NNNN" refused_for Era
    ∷ codes "NNN" refused_for Era
    ∷ codes "NN" refused_for Era
    ∷ codes "N" refused_for Era
    ∷ [])
    ∷ under 65 (codes "A" means codes "[period]" ∷ [])
    ∷ under 97 (codes "a" means codes "[period case:lower]" ∷ [])
    ∷ under 72 (codes "Hmmss" means codes "[hour padding:none][minute][second]"
    ∷ codes "Hmm" means codes "[hour padding:none][minute]"
    ∷ codes "HH" means codes "[hour]"
    ∷ codes "H" means codes "[hour padding:none]"
    ∷ [])
    ∷ under 104 (codes "hmmss" means codes "[hour repr:12 padding:none][minute][second]"
    ∷ codes "hmm" means codes "[hour repr:12 padding:none][minute]"
    ∷ codes "hh" means codes "[hour repr:12]"
    ∷ codes "h" means codes "[hour repr:12 padding:none]"
    ∷ [])
    ∷ under 109 (codes "mm" means codes "[minute]"
    ∷ codes "m" means codes "[minute padding:none]"
    ∷ [])
    ∷ under 115 (codes "ss" means codes "[second]"
    ∷ codes "s" means codes "[second padding:none]"
    ∷ [])
    ∷ under 107 (codes "kk" refused_for HourFrom0Or24
    ∷ codes "k" refused_for HourFrom0Or24
    ∷ [])
    ∷ under 83 (codes "SSSSSSSSS" means codes "[subsecond digits:3]000000"
    ∷ codes "SSSSSSSS" means codes "[subsecond digits:3]00000"
    ∷ codes "SSSSSSS" means codes "[subsecond digits:3]0000"
    ∷ codes "SSSSSS" means codes "[subsecond digits:3]000"
    ∷ codes "SSSSS" means codes "[subsecond digits:3]00"
    ∷ codes "SSSS" means codes "[subsecond digits:3]0"
    ∷ codes "SSS" means codes "[subsecond digits:3]"
    ∷ codes "SS" means codes "[subsecond digits:2]"
    ∷ codes "S" means codes "[subsecond digits:1]"
    ∷ [])
    ∷ under 88 (codes "X" means codes "[unix_timestamp]" ∷ [])
    ∷ under 120 (within From1970 (codes "x") (codes "[unix_timestamp precision:millisecond]") ∷ [])
    ∷ under 90 (codes "ZZ" means codes "[offset_hour sign:mandatory][offset_minute]"
    ∷ codes "Z" means codes "[offset_hour sign:mandatory]:[offset_minute]"
    ∷ [])
    ∷ under 122 (codes "zz" refused_for ZoneName
    ∷ codes "z" refused_for ZoneName
    ∷ [])
    ∷ under 76 (codes "LLLL" refused_for Locale
    ∷ codes "LTS" refused_for Locale
    ∷ codes "LLL" refused_for Locale
    ∷ codes "LT" refused_for Locale
    ∷ codes "LL" refused_for Locale
    ∷ codes "L" refused_for Locale
    ∷ [])
    ∷ under 108 (codes "llll" refused_for Locale
    ∷ codes "lll" refused_for Locale
    ∷ codes "ll" refused_for Locale
    ∷ codes "l" refused_for Locale
    ∷ [])
    ∷ under 10 ((10 ∷ []) refused_for Reserved ∷ [])
    ∷ under 13 ((13 ∷ []) refused_for Reserved ∷ [])
    ∷ under 226 ((226 ∷ 128 ∷ 168 ∷ []) refused_for Reserved
    ∷ (226 ∷ 128 ∷ 169 ∷ []) refused_for Reserved
    ∷ [])
    ∷ moment_escaped
