-- The rows of GNU date, by the byte that selects them, the longest first.
use Rattle.std.specs.Prelude.{codes, List, [], ◌∷◌}
use Rattle.timefd_lang_dialect.specs.Groups.{Group, under}
use Rattle.timefd_lang_dialect.specs.Rows.{◌means◌}
use Rattle.timefd_lang_dialect.specs.GnuPadded.{gnu_padded}
use Rattle.timefd_lang_dialect.specs.Strftime.{capital_a, capital_b, capital_c, capital_d, capital_e, capital_f, capital_g, capital_h, capital_i, capital_m, capital_n, capital_o, capital_p, capital_r, capital_s, capital_t, capital_u, capital_v, capital_w, capital_x, capital_y, capital_z, small_a, small_b, small_c, small_d, small_e, small_h, small_j, small_k, small_l, small_m, small_n, small_p, small_q, small_r, small_s, small_t, small_u, small_w, small_x, small_y}

unfoldable pub gnu_groups : List Group
gnu_groups =
    under 100 small_d
    ∷ under 101 small_e
    ∷ under 72 capital_h
    ∷ under 107 small_k
    ∷ under 73 capital_i
    ∷ under 108 small_l
    ∷ under 106 small_j
    ∷ under 109 small_m
    ∷ under 77 capital_m
    ∷ under 83 capital_s
    ∷ under 85 capital_u
    ∷ under 86 capital_v
    ∷ under 87 capital_w
    ∷ under 121 small_y
    ∷ under 103 (codes "%g" means codes "[year repr:last_two base:iso_week]" ∷ [])
    ∷ under 67 capital_c
    ∷ under 89 capital_y
    ∷ under 71 capital_g
    ∷ under 117 small_u
    ∷ under 119 small_w
    ∷ under 97 small_a
    ∷ under 65 capital_a
    ∷ under 98 small_b
    ∷ under 66 capital_b
    ∷ under 104 small_h
    ∷ under 112 small_p
    ∷ under 80 capital_p
    ∷ under 68 capital_d
    ∷ under 70 capital_f
    ∷ under 114 small_r
    ∷ under 82 capital_r
    ∷ under 84 capital_t
    ∷ under 110 small_n
    ∷ under 116 small_t
    ∷ under 122 (codes "%z" means codes "[offset_hour sign:mandatory][offset_minute]" ∷ [])
    ∷ under 115 small_s
    ∷ under 78 capital_n
    ∷ under 90 capital_z
    ∷ under 113 small_q
    ∷ under 69 capital_e
    ∷ under 79 capital_o
    ∷ under 99 small_c
    ∷ under 120 small_x
    ∷ under 88 capital_x
    ∷ gnu_padded
