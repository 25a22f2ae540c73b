-- The rows of Python, by the byte that selects them, the longest first.
use Rattle.std.specs.Prelude.{codes, List, [], ◌∷◌}
use Rattle.timefd_lang_dialect.specs.declared.reason.Reason.TheVariants.{Capitals, LocalTime, Platform}
use Rattle.timefd_lang_dialect.specs.declared.row.Range.TheVariants.{WholeMinutes, YearsFrom1000}
use Rattle.timefd_lang_dialect.specs.Groups.{Group, under}
use Rattle.timefd_lang_dialect.specs.Rows.{◌means◌, ◌refused_for◌, within}
use Rattle.timefd_lang_dialect.specs.Strftime.{capital_a, capital_b, capital_d, capital_e, capital_h, capital_i, capital_m, capital_p, capital_r, capital_s, capital_t, capital_u, capital_v, capital_w, capital_x, capital_z, percent_sign, small_a, small_b, small_c, small_d, small_e, small_h, small_j, small_k, small_l, small_m, small_n, small_p, small_r, small_t, small_u, small_w, small_x, small_y, small_z}

unfoldable pub python_groups : List Group
python_groups =
    under 100 small_d
    ∷ under 72 capital_h
    ∷ under 73 capital_i
    ∷ under 106 small_j
    ∷ under 109 small_m
    ∷ under 77 capital_m
    ∷ under 83 capital_s
    ∷ under 85 capital_u
    ∷ under 86 capital_v
    ∷ under 87 capital_w
    ∷ under 121 small_y
    ∷ under 89 (within YearsFrom1000 (codes "%Y") (codes "[year]") ∷ [])
    ∷ under 71 (within YearsFrom1000 (codes "%G") (codes "[year base:iso_week]") ∷ [])
    ∷ under 117 small_u
    ∷ under 119 small_w
    ∷ under 97 small_a
    ∷ under 65 capital_a
    ∷ under 98 small_b
    ∷ under 66 capital_b
    ∷ under 112 small_p
    ∷ under 37 percent_sign
    ∷ under 102 (codes "%f" means codes "[subsecond digits:6]" ∷ [])
    ∷ under 122 small_z
    ∷ under 58 (within WholeMinutes (codes "%:z") (codes "[offset_hour sign:mandatory]:[offset_minute]") ∷ [])
    ∷ under 90 capital_z
    ∷ under 101 small_e
    ∷ under 107 small_k
    ∷ under 108 small_l
    ∷ under 103 (codes "%g" means codes "[year repr:last_two base:iso_week]" ∷ [])
    ∷ under 67 (within YearsFrom1000 (codes "%C") (codes "[year repr:century]") ∷ [])
    ∷ under 104 small_h
    ∷ under 80 capital_p
    ∷ under 68 capital_d
    ∷ under 70 (within YearsFrom1000 (codes "%F") (codes "[year]-[month]-[day]") ∷ [])
    ∷ under 114 small_r
    ∷ under 82 capital_r
    ∷ under 84 capital_t
    ∷ under 110 small_n
    ∷ under 116 small_t
    ∷ under 45 (codes "%-d" means codes "[day padding:none]"
    ∷ codes "%-e" means codes "[day padding:none]"
    ∷ codes "%-H" means codes "[hour padding:none]"
    ∷ codes "%-k" means codes "[hour padding:none]"
    ∷ codes "%-I" means codes "[hour repr:12 padding:none]"
    ∷ codes "%-l" means codes "[hour repr:12 padding:none]"
    ∷ codes "%-j" means codes "[ordinal padding:none]"
    ∷ codes "%-m" means codes "[month padding:none]"
    ∷ codes "%-M" means codes "[minute padding:none]"
    ∷ codes "%-S" means codes "[second padding:none]"
    ∷ codes "%-U" means codes "[week_number repr:sunday padding:none]"
    ∷ codes "%-V" means codes "[week_number padding:none]"
    ∷ codes "%-W" means codes "[week_number repr:monday padding:none]"
    ∷ codes "%-y" means codes "[year repr:last_two padding:none]"
    ∷ codes "%-g" means codes "[year repr:last_two base:iso_week padding:none]"
    ∷ codes "%-Y" means codes "[year padding:none]"
    ∷ codes "%-G" means codes "[year base:iso_week padding:none]"
    ∷ codes "%-C" means codes "[year repr:century padding:none]"
    ∷ [])
    ∷ under 95 (codes "%_d" means codes "[day padding:space]"
    ∷ codes "%_e" means codes "[day padding:space]"
    ∷ codes "%_H" means codes "[hour padding:space]"
    ∷ codes "%_k" means codes "[hour padding:space]"
    ∷ codes "%_I" means codes "[hour repr:12 padding:space]"
    ∷ codes "%_l" means codes "[hour repr:12 padding:space]"
    ∷ codes "%_j" means codes "[ordinal padding:space]"
    ∷ codes "%_m" means codes "[month padding:space]"
    ∷ codes "%_M" means codes "[minute padding:space]"
    ∷ codes "%_S" means codes "[second padding:space]"
    ∷ codes "%_U" means codes "[week_number repr:sunday padding:space]"
    ∷ codes "%_V" means codes "[week_number padding:space]"
    ∷ codes "%_W" means codes "[week_number repr:monday padding:space]"
    ∷ codes "%_y" means codes "[year repr:last_two padding:space]"
    ∷ codes "%_g" means codes "[year repr:last_two base:iso_week padding:space]"
    ∷ [])
    ∷ under 48 (codes "%0d" means codes "[day]"
    ∷ codes "%0e" means codes "[day]"
    ∷ codes "%0H" means codes "[hour]"
    ∷ codes "%0k" means codes "[hour]"
    ∷ codes "%0I" means codes "[hour repr:12]"
    ∷ codes "%0l" means codes "[hour repr:12]"
    ∷ codes "%0j" means codes "[ordinal]"
    ∷ codes "%0m" means codes "[month]"
    ∷ codes "%0M" means codes "[minute]"
    ∷ codes "%0S" means codes "[second]"
    ∷ codes "%0U" means codes "[week_number repr:sunday]"
    ∷ codes "%0V" means codes "[week_number]"
    ∷ codes "%0W" means codes "[week_number repr:monday]"
    ∷ codes "%0y" means codes "[year repr:last_two]"
    ∷ codes "%0g" means codes "[year repr:last_two base:iso_week]"
    ∷ [])
    ∷ under 115 (codes "%s" refused_for LocalTime ∷ [])
    ∷ under 94 (codes "%^a" refused_for Capitals
    ∷ codes "%^A" refused_for Capitals
    ∷ codes "%^b" refused_for Capitals
    ∷ codes "%^B" refused_for Capitals
    ∷ codes "%^h" refused_for Capitals
    ∷ [])
    ∷ under 35 (codes "%#a" refused_for Capitals
    ∷ codes "%#A" refused_for Capitals
    ∷ codes "%#b" refused_for Capitals
    ∷ codes "%#B" refused_for Capitals
    ∷ codes "%#d" refused_for Platform
    ∷ codes "%#m" refused_for Platform
    ∷ codes "%#H" refused_for Platform
    ∷ codes "%#I" refused_for Platform
    ∷ codes "%#j" refused_for Platform
    ∷ codes "%#M" refused_for Platform
    ∷ codes "%#S" refused_for Platform
    ∷ codes "%#y" refused_for Platform
    ∷ codes "%#Y" refused_for Platform
    ∷ codes "%#c" refused_for Platform
    ∷ codes "%#x" refused_for Platform
    ∷ [])
    ∷ under 69 capital_e
    ∷ under 79 (codes "%Od" means codes "[day]"
    ∷ codes "%Oe" means codes "[day padding:space]"
    ∷ codes "%OH" means codes "[hour]"
    ∷ codes "%OI" means codes "[hour repr:12]"
    ∷ codes "%Om" means codes "[month]"
    ∷ codes "%OM" means codes "[minute]"
    ∷ codes "%OS" means codes "[second]"
    ∷ codes "%Ou" means codes "[weekday repr:monday]"
    ∷ codes "%OU" means codes "[week_number repr:sunday]"
    ∷ codes "%OV" means codes "[week_number]"
    ∷ codes "%Ow" means codes "[weekday repr:sunday one_indexed:false]"
    ∷ codes "%OW" means codes "[week_number repr:monday]"
    ∷ codes "%Oy" means codes "[year repr:last_two]"
    ∷ [])
    ∷ under 99 small_c
    ∷ under 120 small_x
    ∷ under 88 capital_x
    ∷ []
