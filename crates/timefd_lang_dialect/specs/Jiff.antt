-- The rows of jiff, by the byte that selects them, the longest first.
use Rattle.std.specs.Prelude.{codes, List, [], ◌∷◌}
use Rattle.timefd_lang_dialect.specs.declared.reason.Reason.TheVariants.{ZoneName}
use Rattle.timefd_lang_dialect.specs.declared.row.Range.TheVariants.{From1970}
use Rattle.timefd_lang_dialect.specs.Groups.{Group, under}
use Rattle.timefd_lang_dialect.specs.Rows.{◌means◌, ◌refused_for◌, within}
use Rattle.timefd_lang_dialect.specs.JiffPadded.{jiff_padded}
use Rattle.timefd_lang_dialect.specs.Strftime.{capital_a, capital_b, capital_d, capital_f, capital_g, capital_h, capital_i, capital_m, capital_n, capital_p, capital_r, capital_s, capital_t, capital_u, capital_v, capital_w, capital_x, capital_y, capital_z, small_a, small_b, small_d, small_e, small_g, small_h, small_j, small_k, small_l, small_m, small_n, small_p, small_q, small_t, small_u, small_w, small_y, small_z}

unfoldable pub jiff_groups : List Group
jiff_groups =
    under 100 small_d
    ∷ under 101 small_e
    ∷ under 72 capital_h
    ∷ under 107 small_k
    ∷ under 73 capital_i
    ∷ under 108 small_l
    ∷ under 106 small_j
    ∷ under 109 small_m
    ∷ under 77 capital_m
    ∷ under 83 capital_s
    ∷ under 85 capital_u
    ∷ under 86 capital_v
    ∷ under 87 capital_w
    ∷ under 121 small_y
    ∷ under 103 small_g
    ∷ under 67 (codes "%C" means codes "[year repr:century padding:none]" ∷ [])
    ∷ under 89 capital_y
    ∷ under 71 capital_g
    ∷ under 117 small_u
    ∷ under 119 small_w
    ∷ under 97 small_a
    ∷ under 65 capital_a
    ∷ under 98 small_b
    ∷ under 66 capital_b
    ∷ under 104 small_h
    ∷ under 112 small_p
    ∷ under 80 capital_p
    ∷ under 68 capital_d
    ∷ under 70 capital_f
    ∷ under 82 capital_r
    ∷ under 84 capital_t
    ∷ under 110 small_n
    ∷ under 116 small_t
    ∷ under 102 (codes "%f" means codes "[subsecond]" ∷ [])
    ∷ under 114 (codes "%r" means codes "[hour repr:12 padding:none]:[minute]:[second] [period]" ∷ [])
    ∷ under 78 capital_n
    ∷ under 115 (within From1970 (codes "%s") (codes "[unix_timestamp]") ∷ [])
    ∷ under 122 small_z
    ∷ under 90 capital_z
    ∷ under 81 (codes "%Q" refused_for ZoneName ∷ [])
    ∷ under 113 small_q
    ∷ under 99 (codes "%c" means codes "[year] M[month] [day padding:none], [weekday repr:short] [hour]:[minute]:[second]" ∷ [])
    ∷ under 120 (codes "%x" means codes "[year] M[month] [day padding:none]" ∷ [])
    ∷ under 88 capital_x
    ∷ jiff_padded
