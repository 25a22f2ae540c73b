-- Rows of strftime that several dialects share.
use Rattle.std.specs.Prelude.{codes, List, [], ◌∷◌}
use Rattle.timefd_lang_dialect.specs.declared.reason.Reason.TheVariants.{Quarter, VariableOffset, ZoneName}
use Rattle.timefd_lang_dialect.specs.declared.row.Range.TheVariants.{WholeMinutes, YearsFrom1, YearsFrom1000}
use Rattle.timefd_lang_dialect.specs.Rows.{Entry, ◌means◌, ◌refused_for◌, within}

abbrev pub small_d : List Entry
small_d =
    codes "%d" means codes "[day]" ∷ []

abbrev pub capital_h : List Entry
capital_h =
    codes "%H" means codes "[hour]" ∷ []

abbrev pub capital_i : List Entry
capital_i =
    codes "%I" means codes "[hour repr:12]" ∷ []

abbrev pub small_j : List Entry
small_j =
    codes "%j" means codes "[ordinal]" ∷ []

abbrev pub small_m : List Entry
small_m =
    codes "%m" means codes "[month]" ∷ []

abbrev pub capital_m : List Entry
capital_m =
    codes "%M" means codes "[minute]" ∷ []

abbrev pub capital_s : List Entry
capital_s =
    codes "%S" means codes "[second]" ∷ []

abbrev pub capital_u : List Entry
capital_u =
    codes "%U" means codes "[week_number repr:sunday]" ∷ []

abbrev pub capital_v : List Entry
capital_v =
    codes "%V" means codes "[week_number]" ∷ []

abbrev pub capital_w : List Entry
capital_w =
    codes "%W" means codes "[week_number repr:monday]" ∷ []

abbrev pub small_y : List Entry
small_y =
    codes "%y" means codes "[year repr:last_two]" ∷ []

abbrev pub capital_y : List Entry
capital_y =
    codes "%Y" means codes "[year]" ∷ []

abbrev pub capital_g : List Entry
capital_g =
    within YearsFrom1 (codes "%G") (codes "[year base:iso_week]") ∷ []

abbrev pub small_u : List Entry
small_u =
    codes "%u" means codes "[weekday repr:monday]" ∷ []

abbrev pub small_w : List Entry
small_w =
    codes "%w" means codes "[weekday repr:sunday one_indexed:false]" ∷ []

abbrev pub small_a : List Entry
small_a =
    codes "%a" means codes "[weekday repr:short]" ∷ []

abbrev pub capital_a : List Entry
capital_a =
    codes "%A" means codes "[weekday]" ∷ []

abbrev pub small_b : List Entry
small_b =
    codes "%b" means codes "[month repr:short]" ∷ []

abbrev pub capital_b : List Entry
capital_b =
    codes "%B" means codes "[month repr:long]" ∷ []

abbrev pub small_p : List Entry
small_p =
    codes "%p" means codes "[period]" ∷ []

abbrev pub percent_sign : List Entry
percent_sign =
    codes "%%" means codes "%" ∷ []

abbrev pub small_z : List Entry
small_z =
    within WholeMinutes (codes "%z") (codes "[offset_hour sign:mandatory][offset_minute]") ∷ []

abbrev pub colon : List Entry
colon =
    codes "%:::z" refused_for VariableOffset
    ∷ codes "%::z" means codes "[offset_hour sign:mandatory]:[offset_minute]:[offset_second]"
    ∷ codes "%:z" means codes "[offset_hour sign:mandatory]:[offset_minute]"
    ∷ []

abbrev pub capital_z : List Entry
capital_z =
    codes "%Z" refused_for ZoneName ∷ []

abbrev pub small_e : List Entry
small_e =
    codes "%e" means codes "[day padding:space]" ∷ []

abbrev pub small_k : List Entry
small_k =
    codes "%k" means codes "[hour padding:space]" ∷ []

abbrev pub small_l : List Entry
small_l =
    codes "%l" means codes "[hour repr:12 padding:space]" ∷ []

abbrev pub small_g : List Entry
small_g =
    within YearsFrom1 (codes "%g") (codes "[year repr:last_two base:iso_week]") ∷ []

abbrev pub capital_c : List Entry
capital_c =
    codes "%C" means codes "[year repr:century]" ∷ []

abbrev pub small_h : List Entry
small_h =
    codes "%h" means codes "[month repr:short]" ∷ []

abbrev pub capital_p : List Entry
capital_p =
    codes "%P" means codes "[period case:lower]" ∷ []

abbrev pub capital_d : List Entry
capital_d =
    codes "%D" means codes "[month]/[day]/[year repr:last_two]" ∷ []

abbrev pub capital_f : List Entry
capital_f =
    codes "%F" means codes "[year]-[month]-[day]" ∷ []

abbrev pub small_r : List Entry
small_r =
    codes "%r" means codes "[hour repr:12]:[minute]:[second] [period]" ∷ []

abbrev pub capital_r : List Entry
capital_r =
    codes "%R" means codes "[hour]:[minute]" ∷ []

abbrev pub capital_t : List Entry
capital_t =
    codes "%T" means codes "[hour]:[minute]:[second]" ∷ []

abbrev pub small_n : List Entry
small_n =
    codes "%n" means (10 ∷ []) ∷ []

abbrev pub small_t : List Entry
small_t =
    codes "%t" means (9 ∷ []) ∷ []

abbrev pub small_s : List Entry
small_s =
    codes "%s" means codes "[unix_timestamp]" ∷ []

abbrev pub capital_e : List Entry
capital_e =
    within YearsFrom1000 (codes "%Ec") (codes "[weekday repr:short] [month repr:short] [day padding:space] [hour]:[minute]:[second] [year]")
    ∷ within YearsFrom1000 (codes "%EC") (codes "[year repr:century]")
    ∷ codes "%Ex" means codes "[month]/[day]/[year repr:last_two]"
    ∷ codes "%EX" means codes "[hour]:[minute]:[second]"
    ∷ codes "%Ey" means codes "[year repr:last_two]"
    ∷ within YearsFrom1000 (codes "%EY") (codes "[year]")
    ∷ []

abbrev pub capital_o : List Entry
capital_o =
    codes "%Od" means codes "[day]"
    ∷ codes "%OH" means codes "[hour]"
    ∷ codes "%OI" means codes "[hour repr:12]"
    ∷ codes "%OM" means codes "[minute]"
    ∷ codes "%OS" means codes "[second]"
    ∷ codes "%OU" means codes "[week_number repr:sunday]"
    ∷ codes "%OV" means codes "[week_number]"
    ∷ codes "%OW" means codes "[week_number repr:monday]"
    ∷ codes "%Om" means codes "[month]"
    ∷ codes "%Ou" means codes "[weekday repr:monday]"
    ∷ codes "%Ow" means codes "[weekday repr:sunday one_indexed:false]"
    ∷ codes "%Oy" means codes "[year repr:last_two]"
    ∷ codes "%Oe" means codes "[day padding:space]"
    ∷ codes "%Ok" means codes "[hour padding:space]"
    ∷ codes "%Ol" means codes "[hour repr:12 padding:space]"
    ∷ []

abbrev pub small_c : List Entry
small_c =
    within YearsFrom1000 (codes "%c") (codes "[weekday repr:short] [month repr:short] [day padding:space] [hour]:[minute]:[second] [year]") ∷ []

abbrev pub small_x : List Entry
small_x =
    codes "%x" means codes "[month]/[day]/[year repr:last_two]" ∷ []

abbrev pub capital_x : List Entry
capital_x =
    codes "%X" means codes "[hour]:[minute]:[second]" ∷ []

abbrev pub capital_n : List Entry
capital_n =
    codes "%N" means codes "[subsecond digits:9]" ∷ []

abbrev pub small_q : List Entry
small_q =
    codes "%q" refused_for Quarter ∷ []
