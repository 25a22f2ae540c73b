-- The rows of C, by the byte that selects them, the longest first.
use Rattle.std.specs.Prelude.{codes, List, [], ◌∷◌}
use Rattle.timefd_lang_dialect.specs.declared.reason.Reason.TheVariants.{Unsupported}
use Rattle.timefd_lang_dialect.specs.declared.row.Range.TheVariants.{YearsFrom1000}
use Rattle.timefd_lang_dialect.specs.Groups.{Group, under}
use Rattle.timefd_lang_dialect.specs.Rows.{◌means◌, ◌refused_for◌, within}
use Rattle.timefd_lang_dialect.specs.CPadded.{c_padded}
use Rattle.timefd_lang_dialect.specs.Strftime.{capital_a, capital_b, capital_d, capital_e, capital_h, capital_i, capital_m, capital_o, capital_p, capital_r, capital_s, capital_t, capital_u, capital_v, capital_w, capital_x, capital_z, small_a, small_b, small_c, small_d, small_e, small_g, small_h, small_j, small_k, small_l, small_m, small_n, small_p, small_r, small_s, small_t, small_u, small_w, small_x, small_y}

unfoldable pub c_groups : List Group
c_groups =
    under 100 small_d
    ∷ under 101 small_e
    ∷ under 72 capital_h
    ∷ under 107 small_k
    ∷ under 73 capital_i
    ∷ under 108 small_l
    ∷ under 106 small_j
    ∷ under 109 small_m
    ∷ under 77 capital_m
    ∷ under 83 capital_s
    ∷ under 85 capital_u
    ∷ under 86 capital_v
    ∷ under 87 capital_w
    ∷ under 121 small_y
    ∷ under 103 small_g
    ∷ under 67 (within YearsFrom1000 (codes "%C") (codes "[year repr:century]") ∷ [])
    ∷ under 89 (within YearsFrom1000 (codes "%Y") (codes "[year]") ∷ [])
    ∷ under 71 (within YearsFrom1000 (codes "%G") (codes "[year base:iso_week]") ∷ [])
    ∷ under 117 small_u
    ∷ under 119 small_w
    ∷ under 97 small_a
    ∷ under 65 capital_a
    ∷ under 98 small_b
    ∷ under 66 capital_b
    ∷ under 104 small_h
    ∷ under 112 small_p
    ∷ under 80 capital_p
    ∷ under 68 capital_d
    ∷ under 70 (within YearsFrom1000 (codes "%F") (codes "[year]-[month]-[day]") ∷ [])
    ∷ under 114 small_r
    ∷ under 82 capital_r
    ∷ under 84 capital_t
    ∷ under 110 small_n
    ∷ under 116 small_t
    ∷ under 122 (codes "%z" means codes "[offset_hour sign:mandatory][offset_minute]" ∷ [])
    ∷ under 115 small_s
    ∷ under 69 capital_e
    ∷ under 79 capital_o
    ∷ under 90 capital_z
    ∷ under 118 (codes "%v" refused_for Unsupported ∷ [])
    ∷ under 102 (codes "%f" refused_for Unsupported ∷ [])
    ∷ under 78 (codes "%N" refused_for Unsupported ∷ [])
    ∷ under 76 (codes "%L" refused_for Unsupported ∷ [])
    ∷ under 81 (codes "%Q" refused_for Unsupported ∷ [])
    ∷ under 113 (codes "%q" refused_for Unsupported ∷ [])
    ∷ under 105 (codes "%i" refused_for Unsupported ∷ [])
    ∷ under 74 (codes "%J" refused_for Unsupported ∷ [])
    ∷ under 75 (codes "%K" refused_for Unsupported ∷ [])
    ∷ under 111 (codes "%o" refused_for Unsupported ∷ [])
    ∷ under 99 small_c
    ∷ under 120 small_x
    ∷ under 88 capital_x
    ∷ c_padded
