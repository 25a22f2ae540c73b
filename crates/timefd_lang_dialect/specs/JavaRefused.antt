-- The rows of letters that are always refused of Java, by the byte that selects them, the longest first.
use Rattle.std.specs.Prelude.{codes, List, [], ◌∷◌}
use Rattle.timefd_lang_dialect.specs.declared.reason.Reason.TheVariants.{DayPeriod, Era, GmtOffset, HourFrom0Or24, JulianDay, LocalWeek, OptionalPart, PadLetter, Quarter, Reserved, TooManyLetters, UnitOfDay, UnknownLetter, WeekOfMonth, ZForUtc, ZoneName}
use Rattle.timefd_lang_dialect.specs.Groups.{Group, under}
use Rattle.timefd_lang_dialect.specs.Rows.{◌refused_for◌}

unfoldable pub java_refused : List Group
java_refused =
    under 66 (codes "BBBBBB" refused_for TooManyLetters
    ∷ codes "BBBBB" refused_for DayPeriod
    ∷ codes "BBBB" refused_for DayPeriod
    ∷ codes "BBB" refused_for TooManyLetters
    ∷ codes "BB" refused_for TooManyLetters
    ∷ codes "B" refused_for DayPeriod
    ∷ [])
    ∷ under 75 (codes "KKK" refused_for TooManyLetters
    ∷ codes "KK" refused_for HourFrom0Or24
    ∷ codes "K" refused_for HourFrom0Or24
    ∷ [])
    ∷ under 107 (codes "kkk" refused_for TooManyLetters
    ∷ codes "kk" refused_for HourFrom0Or24
    ∷ codes "k" refused_for HourFrom0Or24
    ∷ [])
    ∷ under 65 (codes "AAAAAAAAAA" refused_for TooManyLetters
    ∷ codes "AAAAAAAAA" refused_for UnitOfDay
    ∷ codes "AAAAAAAA" refused_for UnitOfDay
    ∷ codes "AAAAAAA" refused_for UnitOfDay
    ∷ codes "AAAAAA" refused_for UnitOfDay
    ∷ codes "AAAAA" refused_for UnitOfDay
    ∷ codes "AAAA" refused_for UnitOfDay
    ∷ codes "AAA" refused_for UnitOfDay
    ∷ codes "AA" refused_for UnitOfDay
    ∷ codes "A" refused_for UnitOfDay
    ∷ [])
    ∷ under 78 (codes "NNNNNNNNNN" refused_for TooManyLetters
    ∷ codes "NNNNNNNNN" refused_for UnitOfDay
    ∷ codes "NNNNNNNN" refused_for UnitOfDay
    ∷ codes "NNNNNNN" refused_for UnitOfDay
    ∷ codes "NNNNNN" refused_for UnitOfDay
    ∷ codes "NNNNN" refused_for UnitOfDay
    ∷ codes "NNNN" refused_for UnitOfDay
    ∷ codes "NNN" refused_for UnitOfDay
    ∷ codes "NN" refused_for UnitOfDay
    ∷ codes "N" refused_for UnitOfDay
    ∷ [])
    ∷ under 103 (codes "gggggggggg" refused_for TooManyLetters
    ∷ codes "ggggggggg" refused_for JulianDay
    ∷ codes "gggggggg" refused_for JulianDay
    ∷ codes "ggggggg" refused_for JulianDay
    ∷ codes "gggggg" refused_for JulianDay
    ∷ codes "ggggg" refused_for JulianDay
    ∷ codes "gggg" refused_for JulianDay
    ∷ codes "ggg" refused_for JulianDay
    ∷ codes "gg" refused_for JulianDay
    ∷ codes "g" refused_for JulianDay
    ∷ [])
    ∷ under 89 (codes "YYYYYYYYYY" refused_for TooManyLetters
    ∷ codes "YYYYYYYYY" refused_for LocalWeek
    ∷ codes "YYYYYYYY" refused_for LocalWeek
    ∷ codes "YYYYYYY" refused_for LocalWeek
    ∷ codes "YYYYYY" refused_for LocalWeek
    ∷ codes "YYYYY" refused_for LocalWeek
    ∷ codes "YYYY" refused_for LocalWeek
    ∷ codes "YYY" refused_for LocalWeek
    ∷ codes "YY" refused_for LocalWeek
    ∷ codes "Y" refused_for LocalWeek
    ∷ [])
    ∷ under 119 (codes "www" refused_for TooManyLetters
    ∷ codes "ww" refused_for LocalWeek
    ∷ codes "w" refused_for LocalWeek
    ∷ [])
    ∷ under 87 (codes "WW" refused_for TooManyLetters
    ∷ codes "W" refused_for LocalWeek
    ∷ [])
    ∷ under 70 (codes "FF" refused_for TooManyLetters
    ∷ codes "F" refused_for WeekOfMonth
    ∷ [])
    ∷ under 81 (codes "QQQQQQ" refused_for TooManyLetters
    ∷ codes "QQQQQ" refused_for Quarter
    ∷ codes "QQQQ" refused_for Quarter
    ∷ codes "QQQ" refused_for Quarter
    ∷ codes "QQ" refused_for Quarter
    ∷ codes "Q" refused_for Quarter
    ∷ [])
    ∷ under 113 (codes "qqqqqq" refused_for TooManyLetters
    ∷ codes "qqqqq" refused_for Quarter
    ∷ codes "qqqq" refused_for Quarter
    ∷ codes "qqq" refused_for Quarter
    ∷ codes "qq" refused_for Quarter
    ∷ codes "q" refused_for Quarter
    ∷ [])
    ∷ under 71 (codes "GGGGGG" refused_for TooManyLetters
    ∷ codes "GGGGG" refused_for Era
    ∷ codes "GGGG" refused_for Era
    ∷ codes "GGG" refused_for Era
    ∷ codes "GG" refused_for Era
    ∷ codes "G" refused_for Era
    ∷ [])
    ∷ under 86 (codes "VVV" refused_for TooManyLetters
    ∷ codes "VV" refused_for ZoneName
    ∷ codes "V" refused_for TooManyLetters
    ∷ [])
    ∷ under 118 (codes "vvvvv" refused_for TooManyLetters
    ∷ codes "vvvv" refused_for ZoneName
    ∷ codes "vvv" refused_for TooManyLetters
    ∷ codes "vv" refused_for TooManyLetters
    ∷ codes "v" refused_for ZoneName
    ∷ [])
    ∷ under 122 (codes "zzzzz" refused_for TooManyLetters
    ∷ codes "zzzz" refused_for ZoneName
    ∷ codes "zzz" refused_for ZoneName
    ∷ codes "zz" refused_for ZoneName
    ∷ codes "z" refused_for ZoneName
    ∷ [])
    ∷ under 79 (codes "OOOOO" refused_for TooManyLetters
    ∷ codes "OOOO" refused_for GmtOffset
    ∷ codes "OOO" refused_for TooManyLetters
    ∷ codes "OO" refused_for TooManyLetters
    ∷ codes "O" refused_for GmtOffset
    ∷ [])
    ∷ under 88 (codes "XXXXXX" refused_for TooManyLetters
    ∷ codes "XXXXX" refused_for ZForUtc
    ∷ codes "XXXX" refused_for ZForUtc
    ∷ codes "XXX" refused_for ZForUtc
    ∷ codes "XX" refused_for ZForUtc
    ∷ codes "X" refused_for ZForUtc
    ∷ [])
    ∷ under 112 (codes "pppppppppp" refused_for TooManyLetters
    ∷ codes "ppppppppp" refused_for PadLetter
    ∷ codes "pppppppp" refused_for PadLetter
    ∷ codes "ppppppp" refused_for PadLetter
    ∷ codes "pppppp" refused_for PadLetter
    ∷ codes "ppppp" refused_for PadLetter
    ∷ codes "pppp" refused_for PadLetter
    ∷ codes "ppp" refused_for PadLetter
    ∷ codes "pp" refused_for PadLetter
    ∷ codes "p" refused_for PadLetter
    ∷ [])
    ∷ under 98 (codes "b" refused_for UnknownLetter ∷ [])
    ∷ under 102 (codes "f" refused_for UnknownLetter ∷ [])
    ∷ under 105 (codes "i" refused_for UnknownLetter ∷ [])
    ∷ under 106 (codes "j" refused_for UnknownLetter ∷ [])
    ∷ under 108 (codes "l" refused_for UnknownLetter ∷ [])
    ∷ under 111 (codes "o" refused_for UnknownLetter ∷ [])
    ∷ under 114 (codes "r" refused_for UnknownLetter ∷ [])
    ∷ under 116 (codes "t" refused_for UnknownLetter ∷ [])
    ∷ under 67 (codes "C" refused_for UnknownLetter ∷ [])
    ∷ under 73 (codes "I" refused_for UnknownLetter ∷ [])
    ∷ under 74 (codes "J" refused_for UnknownLetter ∷ [])
    ∷ under 80 (codes "P" refused_for UnknownLetter ∷ [])
    ∷ under 82 (codes "R" refused_for UnknownLetter ∷ [])
    ∷ under 84 (codes "T" refused_for UnknownLetter ∷ [])
    ∷ under 85 (codes "U" refused_for UnknownLetter ∷ [])
    ∷ under 91 (codes "[" refused_for OptionalPart ∷ [])
    ∷ under 93 (codes "]" refused_for OptionalPart ∷ [])
    ∷ under 35 (codes "#" refused_for Reserved ∷ [])
    ∷ under 123 (codes "{" refused_for Reserved ∷ [])
    ∷ under 125 (codes "}" refused_for Reserved ∷ [])
    ∷ []
