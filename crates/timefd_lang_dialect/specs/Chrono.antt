-- The rows of chrono, by the byte that selects them, the longest first.
use Rattle.std.specs.Prelude.{codes, List, [], ◌∷◌}
use Rattle.timefd_lang_dialect.specs.declared.reason.Reason.TheVariants.{Flag, ReadingOnly, VariableFraction, VariableWidth}
use Rattle.timefd_lang_dialect.specs.declared.row.Range.TheVariants.{WholeMinutes, YearsFrom1}
use Rattle.timefd_lang_dialect.specs.Groups.{Group, under}
use Rattle.timefd_lang_dialect.specs.Rows.{◌means◌, ◌refused_for◌, within}
use Rattle.timefd_lang_dialect.specs.Strftime.{capital_a, capital_b, capital_c, capital_d, capital_f, capital_g, capital_h, capital_i, capital_m, capital_p, capital_r, capital_s, capital_t, capital_u, capital_v, capital_w, capital_x, capital_y, capital_z, percent_sign, small_a, small_b, small_d, small_e, small_g, small_h, small_j, small_k, small_l, small_m, small_n, small_p, small_r, small_s, small_t, small_u, small_w, small_x, small_y, small_z}

unfoldable pub chrono_groups : List Group
chrono_groups =
    under 100 small_d
    ∷ under 101 small_e
    ∷ under 72 capital_h
    ∷ under 107 small_k
    ∷ under 73 capital_i
    ∷ under 108 small_l
    ∷ under 106 small_j
    ∷ under 109 small_m
    ∷ under 77 capital_m
    ∷ under 83 capital_s
    ∷ under 85 capital_u
    ∷ under 86 capital_v
    ∷ under 87 capital_w
    ∷ under 121 small_y
    ∷ under 103 small_g
    ∷ under 67 capital_c
    ∷ under 89 capital_y
    ∷ under 71 capital_g
    ∷ under 117 small_u
    ∷ under 119 small_w
    ∷ under 97 small_a
    ∷ under 65 capital_a
    ∷ under 98 small_b
    ∷ under 66 capital_b
    ∷ under 104 small_h
    ∷ under 112 small_p
    ∷ under 80 capital_p
    ∷ under 68 capital_d
    ∷ under 70 capital_f
    ∷ under 114 small_r
    ∷ under 82 capital_r
    ∷ under 84 capital_t
    ∷ under 37 percent_sign
    ∷ under 110 small_n
    ∷ under 116 small_t
    ∷ under 102 (codes "%f" means codes "[subsecond digits:9]" ∷ [])
    ∷ under 118 (codes "%v" means codes "[day padding:space]-[month repr:short]-[year]" ∷ [])
    ∷ under 115 small_s
    ∷ under 45 (codes "%-s" means codes "[unix_timestamp]"
    ∷ codes "%-f" refused_for VariableWidth
    ∷ codes "%-d" means codes "[day padding:none]"
    ∷ codes "%-e" means codes "[day padding:none]"
    ∷ codes "%-H" means codes "[hour padding:none]"
    ∷ codes "%-k" means codes "[hour padding:none]"
    ∷ codes "%-I" means codes "[hour repr:12 padding:none]"
    ∷ codes "%-l" means codes "[hour repr:12 padding:none]"
    ∷ codes "%-j" means codes "[ordinal padding:none]"
    ∷ codes "%-m" means codes "[month padding:none]"
    ∷ codes "%-M" means codes "[minute padding:none]"
    ∷ codes "%-S" means codes "[second padding:none]"
    ∷ codes "%-U" means codes "[week_number repr:sunday padding:none]"
    ∷ codes "%-V" means codes "[week_number padding:none]"
    ∷ codes "%-W" means codes "[week_number repr:monday padding:none]"
    ∷ codes "%-y" means codes "[year repr:last_two padding:none]"
    ∷ within YearsFrom1 (codes "%-g") (codes "[year repr:last_two base:iso_week padding:none]")
    ∷ codes "%-C" means codes "[year repr:century padding:none]"
    ∷ codes "%-Y" means codes "[year padding:none]"
    ∷ within YearsFrom1 (codes "%-G") (codes "[year base:iso_week padding:none]")
    ∷ codes "%-u" means codes "[weekday repr:monday]"
    ∷ codes "%-w" means codes "[weekday repr:sunday one_indexed:false]"
    ∷ codes "%-" refused_for Flag
    ∷ [])
    ∷ under 51 (codes "%3f" means codes "[subsecond digits:3]" ∷ [])
    ∷ under 54 (codes "%6f" means codes "[subsecond digits:6]" ∷ [])
    ∷ under 57 (codes "%9f" means codes "[subsecond digits:9]" ∷ [])
    ∷ under 46 (codes "%.3f" means codes ".[subsecond digits:3]"
    ∷ codes "%.6f" means codes ".[subsecond digits:6]"
    ∷ codes "%.9f" means codes ".[subsecond digits:9]"
    ∷ codes "%.f" refused_for VariableFraction
    ∷ [])
    ∷ under 48 (codes "%0f" means codes "[subsecond digits:9]"
    ∷ codes "%0s" refused_for VariableWidth
    ∷ codes "%0d" means codes "[day]"
    ∷ codes "%0e" means codes "[day]"
    ∷ codes "%0H" means codes "[hour]"
    ∷ codes "%0k" means codes "[hour]"
    ∷ codes "%0I" means codes "[hour repr:12]"
    ∷ codes "%0l" means codes "[hour repr:12]"
    ∷ codes "%0j" means codes "[ordinal]"
    ∷ codes "%0m" means codes "[month]"
    ∷ codes "%0M" means codes "[minute]"
    ∷ codes "%0S" means codes "[second]"
    ∷ codes "%0U" means codes "[week_number repr:sunday]"
    ∷ codes "%0V" means codes "[week_number]"
    ∷ codes "%0W" means codes "[week_number repr:monday]"
    ∷ codes "%0y" means codes "[year repr:last_two]"
    ∷ within YearsFrom1 (codes "%0g") (codes "[year repr:last_two base:iso_week]")
    ∷ codes "%0C" means codes "[year repr:century]"
    ∷ codes "%0Y" means codes "[year]"
    ∷ within YearsFrom1 (codes "%0G") (codes "[year base:iso_week]")
    ∷ codes "%0u" means codes "[weekday repr:monday]"
    ∷ codes "%0w" means codes "[weekday repr:sunday one_indexed:false]"
    ∷ codes "%0" refused_for Flag
    ∷ [])
    ∷ under 122 small_z
    ∷ under 58 (codes "%:::z" means codes "[offset_hour sign:mandatory]"
    ∷ codes "%::z" means codes "[offset_hour sign:mandatory]:[offset_minute]:[offset_second]"
    ∷ within WholeMinutes (codes "%:z") (codes "[offset_hour sign:mandatory]:[offset_minute]")
    ∷ [])
    ∷ under 43 (codes "%+" refused_for VariableFraction ∷ [])
    ∷ under 95 (codes "%_f" refused_for VariableWidth
    ∷ codes "%_s" refused_for VariableWidth
    ∷ codes "%_d" means codes "[day padding:space]"
    ∷ codes "%_e" means codes "[day padding:space]"
    ∷ codes "%_H" means codes "[hour padding:space]"
    ∷ codes "%_k" means codes "[hour padding:space]"
    ∷ codes "%_I" means codes "[hour repr:12 padding:space]"
    ∷ codes "%_l" means codes "[hour repr:12 padding:space]"
    ∷ codes "%_j" means codes "[ordinal padding:space]"
    ∷ codes "%_m" means codes "[month padding:space]"
    ∷ codes "%_M" means codes "[minute padding:space]"
    ∷ codes "%_S" means codes "[second padding:space]"
    ∷ codes "%_U" means codes "[week_number repr:sunday padding:space]"
    ∷ codes "%_V" means codes "[week_number padding:space]"
    ∷ codes "%_W" means codes "[week_number repr:monday padding:space]"
    ∷ codes "%_y" means codes "[year repr:last_two padding:space]"
    ∷ within YearsFrom1 (codes "%_g") (codes "[year repr:last_two base:iso_week padding:space]")
    ∷ codes "%_C" means codes "[year repr:century padding:space]"
    ∷ codes "%_Y" means codes "[year padding:space]"
    ∷ within YearsFrom1 (codes "%_G") (codes "[year base:iso_week padding:space]")
    ∷ codes "%_u" means codes "[weekday repr:monday]"
    ∷ codes "%_w" means codes "[weekday repr:sunday one_indexed:false]"
    ∷ codes "%_" refused_for Flag
    ∷ [])
    ∷ under 90 capital_z
    ∷ under 35 (codes "%#z" refused_for ReadingOnly ∷ [])
    ∷ under 99 (codes "%c" means codes "[weekday repr:short] [month repr:short] [day padding:space] [hour]:[minute]:[second] [year]" ∷ [])
    ∷ under 120 small_x
    ∷ under 88 capital_x
    ∷ []
