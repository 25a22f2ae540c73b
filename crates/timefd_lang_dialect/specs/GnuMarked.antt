-- The rows of widths and other marks of GNU date, by the byte that selects them, the longest first.
use Rattle.std.specs.Prelude.{codes, List, [], ◌∷◌}
use Rattle.timefd_lang_dialect.specs.declared.reason.Reason.TheVariants.{Capitals, Flag, Width}
use Rattle.timefd_lang_dialect.specs.declared.row.Range.TheVariants.{YearsFrom1}
use Rattle.timefd_lang_dialect.specs.Groups.{Group, under}
use Rattle.timefd_lang_dialect.specs.Rows.{◌means◌, ◌refused_for◌, within}
use Rattle.timefd_lang_dialect.specs.Strftime.{colon, percent_sign}

unfoldable pub gnu_marked : List Group
gnu_marked =
    under 37 percent_sign
    ∷ under 58 colon
    ∷ under 49 (codes "%1N" means codes "[subsecond digits:1]"
    ∷ codes "%1u" means codes "[weekday repr:monday]"
    ∷ codes "%1w" means codes "[weekday repr:sunday one_indexed:false]"
    ∷ codes "%1" refused_for Width
    ∷ [])
    ∷ under 50 (codes "%2N" means codes "[subsecond digits:2]"
    ∷ codes "%2d" means codes "[day]"
    ∷ codes "%2e" means codes "[day padding:space]"
    ∷ codes "%2H" means codes "[hour]"
    ∷ codes "%2k" means codes "[hour padding:space]"
    ∷ codes "%2I" means codes "[hour repr:12]"
    ∷ codes "%2l" means codes "[hour repr:12 padding:space]"
    ∷ codes "%2m" means codes "[month]"
    ∷ codes "%2M" means codes "[minute]"
    ∷ codes "%2S" means codes "[second]"
    ∷ codes "%2U" means codes "[week_number repr:sunday]"
    ∷ codes "%2V" means codes "[week_number]"
    ∷ codes "%2W" means codes "[week_number repr:monday]"
    ∷ codes "%2y" means codes "[year repr:last_two]"
    ∷ codes "%2g" means codes "[year repr:last_two base:iso_week]"
    ∷ codes "%2C" means codes "[year repr:century]"
    ∷ codes "%2" refused_for Width
    ∷ [])
    ∷ under 51 (codes "%3N" means codes "[subsecond digits:3]"
    ∷ codes "%3j" means codes "[ordinal]"
    ∷ codes "%3" refused_for Width
    ∷ [])
    ∷ under 52 (codes "%4N" means codes "[subsecond digits:4]"
    ∷ codes "%4Y" means codes "[year]"
    ∷ within YearsFrom1 (codes "%4G") (codes "[year base:iso_week]")
    ∷ codes "%4" refused_for Width
    ∷ [])
    ∷ under 53 (codes "%5N" means codes "[subsecond digits:5]"
    ∷ codes "%5" refused_for Width
    ∷ [])
    ∷ under 54 (codes "%6N" means codes "[subsecond digits:6]"
    ∷ codes "%6" refused_for Width
    ∷ [])
    ∷ under 55 (codes "%7N" means codes "[subsecond digits:7]"
    ∷ codes "%7" refused_for Width
    ∷ [])
    ∷ under 56 (codes "%8N" means codes "[subsecond digits:8]"
    ∷ codes "%8" refused_for Width
    ∷ [])
    ∷ under 57 (codes "%9N" means codes "[subsecond digits:9]"
    ∷ codes "%9" refused_for Width
    ∷ [])
    ∷ under 94 (codes "%^a" refused_for Capitals
    ∷ codes "%^A" refused_for Capitals
    ∷ codes "%^b" refused_for Capitals
    ∷ codes "%^B" refused_for Capitals
    ∷ codes "%^h" refused_for Capitals
    ∷ codes "%^d" means codes "[day]"
    ∷ codes "%^e" means codes "[day padding:space]"
    ∷ codes "%^H" means codes "[hour]"
    ∷ codes "%^k" means codes "[hour padding:space]"
    ∷ codes "%^I" means codes "[hour repr:12]"
    ∷ codes "%^l" means codes "[hour repr:12 padding:space]"
    ∷ codes "%^j" means codes "[ordinal]"
    ∷ codes "%^m" means codes "[month]"
    ∷ codes "%^M" means codes "[minute]"
    ∷ codes "%^S" means codes "[second]"
    ∷ codes "%^U" means codes "[week_number repr:sunday]"
    ∷ codes "%^V" means codes "[week_number]"
    ∷ codes "%^W" means codes "[week_number repr:monday]"
    ∷ codes "%^y" means codes "[year repr:last_two]"
    ∷ codes "%^g" means codes "[year repr:last_two base:iso_week]"
    ∷ codes "%^C" means codes "[year repr:century]"
    ∷ codes "%^Y" means codes "[year]"
    ∷ within YearsFrom1 (codes "%^G") (codes "[year base:iso_week]")
    ∷ codes "%^u" means codes "[weekday repr:monday]"
    ∷ codes "%^w" means codes "[weekday repr:sunday one_indexed:false]"
    ∷ codes "%^p" means codes "[period]"
    ∷ codes "%^P" means codes "[period case:lower]"
    ∷ codes "%^n" means (10 ∷ [])
    ∷ codes "%^t" means (9 ∷ [])
    ∷ codes "%^s" means codes "[unix_timestamp]"
    ∷ codes "%^" refused_for Flag
    ∷ [])
    ∷ under 35 (codes "%#a" refused_for Capitals
    ∷ codes "%#A" refused_for Capitals
    ∷ codes "%#b" refused_for Capitals
    ∷ codes "%#B" refused_for Capitals
    ∷ codes "%#h" refused_for Capitals
    ∷ codes "%#p" means codes "[period case:lower]"
    ∷ codes "%#d" means codes "[day]"
    ∷ codes "%#e" means codes "[day padding:space]"
    ∷ codes "%#H" means codes "[hour]"
    ∷ codes "%#k" means codes "[hour padding:space]"
    ∷ codes "%#I" means codes "[hour repr:12]"
    ∷ codes "%#l" means codes "[hour repr:12 padding:space]"
    ∷ codes "%#j" means codes "[ordinal]"
    ∷ codes "%#m" means codes "[month]"
    ∷ codes "%#M" means codes "[minute]"
    ∷ codes "%#S" means codes "[second]"
    ∷ codes "%#U" means codes "[week_number repr:sunday]"
    ∷ codes "%#V" means codes "[week_number]"
    ∷ codes "%#W" means codes "[week_number repr:monday]"
    ∷ codes "%#y" means codes "[year repr:last_two]"
    ∷ codes "%#g" means codes "[year repr:last_two base:iso_week]"
    ∷ codes "%#C" means codes "[year repr:century]"
    ∷ codes "%#Y" means codes "[year]"
    ∷ within YearsFrom1 (codes "%#G") (codes "[year base:iso_week]")
    ∷ codes "%#u" means codes "[weekday repr:monday]"
    ∷ codes "%#w" means codes "[weekday repr:sunday one_indexed:false]"
    ∷ codes "%#P" means codes "[period case:lower]"
    ∷ codes "%#n" means (10 ∷ [])
    ∷ codes "%#t" means (9 ∷ [])
    ∷ codes "%#s" means codes "[unix_timestamp]"
    ∷ codes "%#" refused_for Flag
    ∷ [])
    ∷ []
