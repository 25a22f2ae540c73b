-- The rows of flags that set the padding of jiff, by the byte that selects them, the longest first.
use Rattle.std.specs.Prelude.{codes, List, [], ◌∷◌}
use Rattle.timefd_lang_dialect.specs.declared.reason.Reason.TheVariants.{Flag, Width}
use Rattle.timefd_lang_dialect.specs.declared.row.Range.TheVariants.{From1970, WholeMinutes, YearsFrom1}
use Rattle.timefd_lang_dialect.specs.Groups.{Group, under}
use Rattle.timefd_lang_dialect.specs.Rows.{◌means◌, ◌refused_for◌, within}
use Rattle.timefd_lang_dialect.specs.JiffMarked.{jiff_marked}

unfoldable pub jiff_padded : List Group
jiff_padded =
    under 45 (within WholeMinutes (codes "%-:z") (codes "[offset_hour sign:mandatory]:[offset_minute]")
    ∷ codes "%-F" means codes "[year]-[month]-[day]"
    ∷ codes "%-R" means codes "[hour]:[minute]"
    ∷ codes "%-T" means codes "[hour]:[minute]:[second]"
    ∷ codes "%-D" means codes "[month]/[day]/[year repr:last_two]"
    ∷ codes "%-d" means codes "[day padding:none]"
    ∷ codes "%-e" means codes "[day padding:none]"
    ∷ codes "%-H" means codes "[hour padding:none]"
    ∷ codes "%-k" means codes "[hour padding:none]"
    ∷ codes "%-I" means codes "[hour repr:12 padding:none]"
    ∷ codes "%-l" means codes "[hour repr:12 padding:none]"
    ∷ codes "%-j" means codes "[ordinal padding:none]"
    ∷ codes "%-m" means codes "[month padding:none]"
    ∷ codes "%-M" means codes "[minute padding:none]"
    ∷ codes "%-S" means codes "[second padding:none]"
    ∷ codes "%-U" means codes "[week_number repr:sunday padding:none]"
    ∷ codes "%-V" means codes "[week_number padding:none]"
    ∷ codes "%-W" means codes "[week_number repr:monday padding:none]"
    ∷ codes "%-y" means codes "[year repr:last_two padding:none]"
    ∷ within YearsFrom1 (codes "%-g") (codes "[year repr:last_two base:iso_week padding:none]")
    ∷ codes "%-C" means codes "[year repr:century padding:none]"
    ∷ codes "%-Y" means codes "[year padding:none]"
    ∷ within YearsFrom1 (codes "%-G") (codes "[year base:iso_week padding:none]")
    ∷ codes "%-u" means codes "[weekday repr:monday]"
    ∷ codes "%-w" means codes "[weekday repr:sunday one_indexed:false]"
    ∷ codes "%-a" means codes "[weekday repr:short]"
    ∷ codes "%-A" means codes "[weekday]"
    ∷ codes "%-b" means codes "[month repr:short]"
    ∷ codes "%-B" means codes "[month repr:long]"
    ∷ codes "%-h" means codes "[month repr:short]"
    ∷ codes "%-p" means codes "[period]"
    ∷ codes "%-P" means codes "[period case:lower]"
    ∷ codes "%-%" means codes "%"
    ∷ codes "%-n" means (10 ∷ [])
    ∷ codes "%-t" means (9 ∷ [])
    ∷ codes "%-c" means codes "[year] M[month] [day padding:none], [weekday repr:short] [hour]:[minute]:[second]"
    ∷ codes "%-r" means codes "[hour repr:12 padding:none]:[minute]:[second] [period]"
    ∷ codes "%-x" means codes "[year] M[month] [day padding:none]"
    ∷ codes "%-X" means codes "[hour]:[minute]:[second]"
    ∷ within From1970 (codes "%-s") (codes "[unix_timestamp]")
    ∷ within WholeMinutes (codes "%-z") (codes "[offset_hour sign:mandatory][offset_minute]")
    ∷ codes "%-1" refused_for Width
    ∷ codes "%-2" refused_for Width
    ∷ codes "%-3" refused_for Width
    ∷ codes "%-4" refused_for Width
    ∷ codes "%-5" refused_for Width
    ∷ codes "%-6" refused_for Width
    ∷ codes "%-7" refused_for Width
    ∷ codes "%-8" refused_for Width
    ∷ codes "%-9" refused_for Width
    ∷ codes "%-" refused_for Flag
    ∷ [])
    ∷ under 95 (within WholeMinutes (codes "%_:z") (codes "[offset_hour sign:mandatory]:[offset_minute]")
    ∷ codes "%_2d" means codes "[day padding:space]"
    ∷ codes "%_2e" means codes "[day padding:space]"
    ∷ codes "%_2H" means codes "[hour padding:space]"
    ∷ codes "%_2k" means codes "[hour padding:space]"
    ∷ codes "%_2I" means codes "[hour repr:12 padding:space]"
    ∷ codes "%_2l" means codes "[hour repr:12 padding:space]"
    ∷ codes "%_3j" means codes "[ordinal padding:space]"
    ∷ codes "%_2m" means codes "[month padding:space]"
    ∷ codes "%_2M" means codes "[minute padding:space]"
    ∷ codes "%_2S" means codes "[second padding:space]"
    ∷ codes "%_2U" means codes "[week_number repr:sunday padding:space]"
    ∷ codes "%_2V" means codes "[week_number padding:space]"
    ∷ codes "%_2W" means codes "[week_number repr:monday padding:space]"
    ∷ codes "%_2y" means codes "[year repr:last_two padding:space]"
    ∷ within YearsFrom1 (codes "%_2g") (codes "[year repr:last_two base:iso_week padding:space]")
    ∷ codes "%_4Y" means codes "[year padding:space]"
    ∷ within YearsFrom1 (codes "%_4G") (codes "[year base:iso_week padding:space]")
    ∷ codes "%_F" means codes "[year]-[month]-[day]"
    ∷ codes "%_R" means codes "[hour]:[minute]"
    ∷ codes "%_T" means codes "[hour]:[minute]:[second]"
    ∷ codes "%_D" means codes "[month]/[day]/[year repr:last_two]"
    ∷ codes "%_d" means codes "[day padding:space]"
    ∷ codes "%_e" means codes "[day padding:space]"
    ∷ codes "%_H" means codes "[hour padding:space]"
    ∷ codes "%_k" means codes "[hour padding:space]"
    ∷ codes "%_I" means codes "[hour repr:12 padding:space]"
    ∷ codes "%_l" means codes "[hour repr:12 padding:space]"
    ∷ codes "%_j" means codes "[ordinal padding:space]"
    ∷ codes "%_m" means codes "[month padding:space]"
    ∷ codes "%_M" means codes "[minute padding:space]"
    ∷ codes "%_S" means codes "[second padding:space]"
    ∷ codes "%_U" means codes "[week_number repr:sunday padding:space]"
    ∷ codes "%_V" means codes "[week_number padding:space]"
    ∷ codes "%_W" means codes "[week_number repr:monday padding:space]"
    ∷ codes "%_y" means codes "[year repr:last_two padding:space]"
    ∷ within YearsFrom1 (codes "%_g") (codes "[year repr:last_two base:iso_week padding:space]")
    ∷ codes "%_C" means codes "[year repr:century padding:none]"
    ∷ codes "%_Y" means codes "[year padding:space]"
    ∷ within YearsFrom1 (codes "%_G") (codes "[year base:iso_week padding:space]")
    ∷ codes "%_u" means codes "[weekday repr:monday]"
    ∷ codes "%_w" means codes "[weekday repr:sunday one_indexed:false]"
    ∷ codes "%_a" means codes "[weekday repr:short]"
    ∷ codes "%_A" means codes "[weekday]"
    ∷ codes "%_b" means codes "[month repr:short]"
    ∷ codes "%_B" means codes "[month repr:long]"
    ∷ codes "%_h" means codes "[month repr:short]"
    ∷ codes "%_p" means codes "[period]"
    ∷ codes "%_P" means codes "[period case:lower]"
    ∷ codes "%_%" means codes "%"
    ∷ codes "%_n" means (10 ∷ [])
    ∷ codes "%_t" means (9 ∷ [])
    ∷ codes "%_c" means codes "[year] M[month] [day padding:none], [weekday repr:short] [hour]:[minute]:[second]"
    ∷ codes "%_r" means codes "[hour repr:12 padding:none]:[minute]:[second] [period]"
    ∷ codes "%_x" means codes "[year] M[month] [day padding:none]"
    ∷ codes "%_X" means codes "[hour]:[minute]:[second]"
    ∷ within From1970 (codes "%_s") (codes "[unix_timestamp]")
    ∷ within WholeMinutes (codes "%_z") (codes "[offset_hour sign:mandatory][offset_minute]")
    ∷ codes "%_1" refused_for Width
    ∷ codes "%_2" refused_for Width
    ∷ codes "%_3" refused_for Width
    ∷ codes "%_4" refused_for Width
    ∷ codes "%_5" refused_for Width
    ∷ codes "%_6" refused_for Width
    ∷ codes "%_7" refused_for Width
    ∷ codes "%_8" refused_for Width
    ∷ codes "%_9" refused_for Width
    ∷ codes "%_" refused_for Flag
    ∷ [])
    ∷ under 48 (within WholeMinutes (codes "%0:z") (codes "[offset_hour sign:mandatory]:[offset_minute]")
    ∷ codes "%02d" means codes "[day]"
    ∷ codes "%02e" means codes "[day]"
    ∷ codes "%02H" means codes "[hour]"
    ∷ codes "%02k" means codes "[hour]"
    ∷ codes "%02I" means codes "[hour repr:12]"
    ∷ codes "%02l" means codes "[hour repr:12]"
    ∷ codes "%03j" means codes "[ordinal]"
    ∷ codes "%02m" means codes "[month]"
    ∷ codes "%02M" means codes "[minute]"
    ∷ codes "%02S" means codes "[second]"
    ∷ codes "%02U" means codes "[week_number repr:sunday]"
    ∷ codes "%02V" means codes "[week_number]"
    ∷ codes "%02W" means codes "[week_number repr:monday]"
    ∷ codes "%02y" means codes "[year repr:last_two]"
    ∷ within YearsFrom1 (codes "%02g") (codes "[year repr:last_two base:iso_week]")
    ∷ codes "%04Y" means codes "[year]"
    ∷ within YearsFrom1 (codes "%04G") (codes "[year base:iso_week]")
    ∷ codes "%0d" means codes "[day]"
    ∷ codes "%0e" means codes "[day]"
    ∷ codes "%0H" means codes "[hour]"
    ∷ codes "%0k" means codes "[hour]"
    ∷ codes "%0I" means codes "[hour repr:12]"
    ∷ codes "%0l" means codes "[hour repr:12]"
    ∷ codes "%0j" means codes "[ordinal]"
    ∷ codes "%0m" means codes "[month]"
    ∷ codes "%0M" means codes "[minute]"
    ∷ codes "%0S" means codes "[second]"
    ∷ codes "%0U" means codes "[week_number repr:sunday]"
    ∷ codes "%0V" means codes "[week_number]"
    ∷ codes "%0W" means codes "[week_number repr:monday]"
    ∷ codes "%0y" means codes "[year repr:last_two]"
    ∷ within YearsFrom1 (codes "%0g") (codes "[year repr:last_two base:iso_week]")
    ∷ codes "%0C" means codes "[year repr:century padding:none]"
    ∷ codes "%0Y" means codes "[year]"
    ∷ within YearsFrom1 (codes "%0G") (codes "[year base:iso_week]")
    ∷ codes "%0u" means codes "[weekday repr:monday]"
    ∷ codes "%0w" means codes "[weekday repr:sunday one_indexed:false]"
    ∷ codes "%0a" means codes "[weekday repr:short]"
    ∷ codes "%0A" means codes "[weekday]"
    ∷ codes "%0b" means codes "[month repr:short]"
    ∷ codes "%0B" means codes "[month repr:long]"
    ∷ codes "%0h" means codes "[month repr:short]"
    ∷ codes "%0p" means codes "[period]"
    ∷ codes "%0P" means codes "[period case:lower]"
    ∷ codes "%0D" means codes "[month]/[day]/[year repr:last_two]"
    ∷ codes "%0F" means codes "[year]-[month]-[day]"
    ∷ codes "%0R" means codes "[hour]:[minute]"
    ∷ codes "%0T" means codes "[hour]:[minute]:[second]"
    ∷ codes "%0%" means codes "%"
    ∷ codes "%0n" means (10 ∷ [])
    ∷ codes "%0t" means (9 ∷ [])
    ∷ codes "%0c" means codes "[year] M[month] [day padding:none], [weekday repr:short] [hour]:[minute]:[second]"
    ∷ codes "%0r" means codes "[hour repr:12 padding:none]:[minute]:[second] [period]"
    ∷ codes "%0x" means codes "[year] M[month] [day padding:none]"
    ∷ codes "%0X" means codes "[hour]:[minute]:[second]"
    ∷ within From1970 (codes "%0s") (codes "[unix_timestamp]")
    ∷ within WholeMinutes (codes "%0z") (codes "[offset_hour sign:mandatory][offset_minute]")
    ∷ codes "%01" refused_for Width
    ∷ codes "%02" refused_for Width
    ∷ codes "%03" refused_for Width
    ∷ codes "%04" refused_for Width
    ∷ codes "%05" refused_for Width
    ∷ codes "%06" refused_for Width
    ∷ codes "%07" refused_for Width
    ∷ codes "%08" refused_for Width
    ∷ codes "%09" refused_for Width
    ∷ codes "%0" refused_for Flag
    ∷ [])
    ∷ jiff_marked
