-- The rows of flags that set the padding of C, by the byte that selects them, the longest first.
use Rattle.std.specs.Prelude.{codes, List, [], ◌∷◌}
use Rattle.timefd_lang_dialect.specs.declared.reason.Reason.TheVariants.{Flag, VariableWidth, Width}
use Rattle.timefd_lang_dialect.specs.declared.row.Range.TheVariants.{YearsFrom1, YearsFrom1000}
use Rattle.timefd_lang_dialect.specs.Groups.{Group, under}
use Rattle.timefd_lang_dialect.specs.Rows.{◌means◌, ◌refused_for◌, within}
use Rattle.timefd_lang_dialect.specs.CMarked.{c_marked}

unfoldable pub c_padded : List Group
c_padded =
    under 45 (within YearsFrom1000 (codes "%-Ec") (codes "[weekday repr:short] [month repr:short] [day padding:space] [hour]:[minute]:[second] [year]")
    ∷ within YearsFrom1000 (codes "%-EC") (codes "[year repr:century]")
    ∷ codes "%-Ex" means codes "[month]/[day]/[year repr:last_two]"
    ∷ codes "%-EX" means codes "[hour]:[minute]:[second]"
    ∷ codes "%-Ey" means codes "[year repr:last_two padding:none]"
    ∷ within YearsFrom1000 (codes "%-EY") (codes "[year]")
    ∷ codes "%-Od" means codes "[day padding:none]"
    ∷ codes "%-OH" means codes "[hour padding:none]"
    ∷ codes "%-OI" means codes "[hour repr:12 padding:none]"
    ∷ codes "%-OM" means codes "[minute padding:none]"
    ∷ codes "%-OS" means codes "[second padding:none]"
    ∷ codes "%-OU" means codes "[week_number repr:sunday padding:none]"
    ∷ codes "%-OV" means codes "[week_number padding:none]"
    ∷ codes "%-OW" means codes "[week_number repr:monday padding:none]"
    ∷ codes "%-Om" means codes "[month padding:none]"
    ∷ codes "%-Ou" means codes "[weekday repr:monday]"
    ∷ codes "%-Ow" means codes "[weekday repr:sunday one_indexed:false]"
    ∷ codes "%-Oy" means codes "[year repr:last_two padding:none]"
    ∷ codes "%-Oe" means codes "[day padding:none]"
    ∷ codes "%-Ok" means codes "[hour padding:none]"
    ∷ codes "%-Ol" means codes "[hour repr:12 padding:none]"
    ∷ codes "%-z" refused_for VariableWidth
    ∷ codes "%-d" means codes "[day padding:none]"
    ∷ codes "%-e" means codes "[day padding:none]"
    ∷ codes "%-H" means codes "[hour padding:none]"
    ∷ codes "%-k" means codes "[hour padding:none]"
    ∷ codes "%-I" means codes "[hour repr:12 padding:none]"
    ∷ codes "%-l" means codes "[hour repr:12 padding:none]"
    ∷ codes "%-j" means codes "[ordinal padding:none]"
    ∷ codes "%-m" means codes "[month padding:none]"
    ∷ codes "%-M" means codes "[minute padding:none]"
    ∷ codes "%-S" means codes "[second padding:none]"
    ∷ codes "%-U" means codes "[week_number repr:sunday padding:none]"
    ∷ codes "%-V" means codes "[week_number padding:none]"
    ∷ codes "%-W" means codes "[week_number repr:monday padding:none]"
    ∷ codes "%-y" means codes "[year repr:last_two padding:none]"
    ∷ within YearsFrom1 (codes "%-g") (codes "[year repr:last_two base:iso_week padding:none]")
    ∷ within YearsFrom1000 (codes "%-C") (codes "[year repr:century]")
    ∷ within YearsFrom1000 (codes "%-Y") (codes "[year]")
    ∷ within YearsFrom1000 (codes "%-G") (codes "[year base:iso_week]")
    ∷ codes "%-u" means codes "[weekday repr:monday]"
    ∷ codes "%-w" means codes "[weekday repr:sunday one_indexed:false]"
    ∷ codes "%-a" means codes "[weekday repr:short]"
    ∷ codes "%-A" means codes "[weekday]"
    ∷ codes "%-b" means codes "[month repr:short]"
    ∷ codes "%-B" means codes "[month repr:long]"
    ∷ codes "%-h" means codes "[month repr:short]"
    ∷ codes "%-p" means codes "[period]"
    ∷ codes "%-P" means codes "[period case:lower]"
    ∷ within YearsFrom1000 (codes "%-c") (codes "[weekday repr:short] [month repr:short] [day padding:space] [hour]:[minute]:[second] [year]")
    ∷ codes "%-D" means codes "[month]/[day]/[year repr:last_two]"
    ∷ within YearsFrom1000 (codes "%-F") (codes "[year]-[month]-[day]")
    ∷ codes "%-r" means codes "[hour repr:12]:[minute]:[second] [period]"
    ∷ codes "%-R" means codes "[hour]:[minute]"
    ∷ codes "%-T" means codes "[hour]:[minute]:[second]"
    ∷ codes "%-x" means codes "[month]/[day]/[year repr:last_two]"
    ∷ codes "%-X" means codes "[hour]:[minute]:[second]"
    ∷ codes "%-%" means codes "%"
    ∷ codes "%-n" means (10 ∷ [])
    ∷ codes "%-t" means (9 ∷ [])
    ∷ codes "%-s" means codes "[unix_timestamp]"
    ∷ codes "%-1" refused_for Width
    ∷ codes "%-2" refused_for Width
    ∷ codes "%-3" refused_for Width
    ∷ codes "%-4" refused_for Width
    ∷ codes "%-5" refused_for Width
    ∷ codes "%-6" refused_for Width
    ∷ codes "%-7" refused_for Width
    ∷ codes "%-8" refused_for Width
    ∷ codes "%-9" refused_for Width
    ∷ codes "%-" refused_for Flag
    ∷ [])
    ∷ under 95 (codes "%_4Y" means codes "[year padding:space]"
    ∷ within YearsFrom1000 (codes "%_Ec") (codes "[weekday repr:short] [month repr:short] [day padding:space] [hour]:[minute]:[second] [year]")
    ∷ within YearsFrom1000 (codes "%_EC") (codes "[year repr:century]")
    ∷ codes "%_Ex" means codes "[month]/[day]/[year repr:last_two]"
    ∷ codes "%_EX" means codes "[hour]:[minute]:[second]"
    ∷ codes "%_Ey" means codes "[year repr:last_two padding:space]"
    ∷ within YearsFrom1000 (codes "%_EY") (codes "[year]")
    ∷ codes "%_Od" means codes "[day padding:space]"
    ∷ codes "%_OH" means codes "[hour padding:space]"
    ∷ codes "%_OI" means codes "[hour repr:12 padding:space]"
    ∷ codes "%_OM" means codes "[minute padding:space]"
    ∷ codes "%_OS" means codes "[second padding:space]"
    ∷ codes "%_OU" means codes "[week_number repr:sunday padding:space]"
    ∷ codes "%_OV" means codes "[week_number padding:space]"
    ∷ codes "%_OW" means codes "[week_number repr:monday padding:space]"
    ∷ codes "%_Om" means codes "[month padding:space]"
    ∷ codes "%_Ou" means codes "[weekday repr:monday]"
    ∷ codes "%_Ow" means codes "[weekday repr:sunday one_indexed:false]"
    ∷ codes "%_Oy" means codes "[year repr:last_two padding:space]"
    ∷ codes "%_Oe" means codes "[day padding:space]"
    ∷ codes "%_Ok" means codes "[hour padding:space]"
    ∷ codes "%_Ol" means codes "[hour repr:12 padding:space]"
    ∷ codes "%_2d" means codes "[day padding:space]"
    ∷ codes "%_2e" means codes "[day padding:space]"
    ∷ codes "%_2H" means codes "[hour padding:space]"
    ∷ codes "%_2k" means codes "[hour padding:space]"
    ∷ codes "%_2I" means codes "[hour repr:12 padding:space]"
    ∷ codes "%_2l" means codes "[hour repr:12 padding:space]"
    ∷ codes "%_3j" means codes "[ordinal padding:space]"
    ∷ codes "%_2m" means codes "[month padding:space]"
    ∷ codes "%_2M" means codes "[minute padding:space]"
    ∷ codes "%_2S" means codes "[second padding:space]"
    ∷ codes "%_2U" means codes "[week_number repr:sunday padding:space]"
    ∷ codes "%_2V" means codes "[week_number padding:space]"
    ∷ codes "%_2W" means codes "[week_number repr:monday padding:space]"
    ∷ codes "%_2y" means codes "[year repr:last_two padding:space]"
    ∷ within YearsFrom1 (codes "%_2g") (codes "[year repr:last_two base:iso_week padding:space]")
    ∷ codes "%_1u" means codes "[weekday repr:monday]"
    ∷ codes "%_1w" means codes "[weekday repr:sunday one_indexed:false]"
    ∷ codes "%_z" refused_for VariableWidth
    ∷ codes "%_d" means codes "[day padding:space]"
    ∷ codes "%_e" means codes "[day padding:space]"
    ∷ codes "%_H" means codes "[hour padding:space]"
    ∷ codes "%_k" means codes "[hour padding:space]"
    ∷ codes "%_I" means codes "[hour repr:12 padding:space]"
    ∷ codes "%_l" means codes "[hour repr:12 padding:space]"
    ∷ codes "%_j" means codes "[ordinal padding:space]"
    ∷ codes "%_m" means codes "[month padding:space]"
    ∷ codes "%_M" means codes "[minute padding:space]"
    ∷ codes "%_S" means codes "[second padding:space]"
    ∷ codes "%_U" means codes "[week_number repr:sunday padding:space]"
    ∷ codes "%_V" means codes "[week_number padding:space]"
    ∷ codes "%_W" means codes "[week_number repr:monday padding:space]"
    ∷ codes "%_y" means codes "[year repr:last_two padding:space]"
    ∷ within YearsFrom1 (codes "%_g") (codes "[year repr:last_two base:iso_week padding:space]")
    ∷ within YearsFrom1000 (codes "%_C") (codes "[year repr:century]")
    ∷ within YearsFrom1000 (codes "%_Y") (codes "[year]")
    ∷ within YearsFrom1000 (codes "%_G") (codes "[year base:iso_week]")
    ∷ codes "%_u" means codes "[weekday repr:monday]"
    ∷ codes "%_w" means codes "[weekday repr:sunday one_indexed:false]"
    ∷ codes "%_a" means codes "[weekday repr:short]"
    ∷ codes "%_A" means codes "[weekday]"
    ∷ codes "%_b" means codes "[month repr:short]"
    ∷ codes "%_B" means codes "[month repr:long]"
    ∷ codes "%_h" means codes "[month repr:short]"
    ∷ codes "%_p" means codes "[period]"
    ∷ codes "%_P" means codes "[period case:lower]"
    ∷ within YearsFrom1000 (codes "%_c") (codes "[weekday repr:short] [month repr:short] [day padding:space] [hour]:[minute]:[second] [year]")
    ∷ codes "%_D" means codes "[month]/[day]/[year repr:last_two]"
    ∷ within YearsFrom1000 (codes "%_F") (codes "[year]-[month]-[day]")
    ∷ codes "%_r" means codes "[hour repr:12]:[minute]:[second] [period]"
    ∷ codes "%_R" means codes "[hour]:[minute]"
    ∷ codes "%_T" means codes "[hour]:[minute]:[second]"
    ∷ codes "%_x" means codes "[month]/[day]/[year repr:last_two]"
    ∷ codes "%_X" means codes "[hour]:[minute]:[second]"
    ∷ codes "%_%" means codes "%"
    ∷ codes "%_n" means (10 ∷ [])
    ∷ codes "%_t" means (9 ∷ [])
    ∷ codes "%_s" means codes "[unix_timestamp]"
    ∷ codes "%_1" refused_for Width
    ∷ codes "%_2" refused_for Width
    ∷ codes "%_3" refused_for Width
    ∷ codes "%_4" refused_for Width
    ∷ codes "%_5" refused_for Width
    ∷ codes "%_6" refused_for Width
    ∷ codes "%_7" refused_for Width
    ∷ codes "%_8" refused_for Width
    ∷ codes "%_9" refused_for Width
    ∷ codes "%_" refused_for Flag
    ∷ [])
    ∷ under 48 (codes "%04Y" means codes "[year]"
    ∷ within YearsFrom1 (codes "%04G") (codes "[year base:iso_week]")
    ∷ codes "%02C" means codes "[year repr:century]"
    ∷ within YearsFrom1000 (codes "%0Ec") (codes "[weekday repr:short] [month repr:short] [day padding:space] [hour]:[minute]:[second] [year]")
    ∷ within YearsFrom1000 (codes "%0EC") (codes "[year repr:century]")
    ∷ codes "%0Ex" means codes "[month]/[day]/[year repr:last_two]"
    ∷ codes "%0EX" means codes "[hour]:[minute]:[second]"
    ∷ codes "%0Ey" means codes "[year repr:last_two]"
    ∷ within YearsFrom1000 (codes "%0EY") (codes "[year]")
    ∷ codes "%0Od" means codes "[day]"
    ∷ codes "%0OH" means codes "[hour]"
    ∷ codes "%0OI" means codes "[hour repr:12]"
    ∷ codes "%0OM" means codes "[minute]"
    ∷ codes "%0OS" means codes "[second]"
    ∷ codes "%0OU" means codes "[week_number repr:sunday]"
    ∷ codes "%0OV" means codes "[week_number]"
    ∷ codes "%0OW" means codes "[week_number repr:monday]"
    ∷ codes "%0Om" means codes "[month]"
    ∷ codes "%0Ou" means codes "[weekday repr:monday]"
    ∷ codes "%0Ow" means codes "[weekday repr:sunday one_indexed:false]"
    ∷ codes "%0Oy" means codes "[year repr:last_two]"
    ∷ codes "%0Oe" means codes "[day]"
    ∷ codes "%0Ok" means codes "[hour]"
    ∷ codes "%0Ol" means codes "[hour repr:12]"
    ∷ codes "%02d" means codes "[day]"
    ∷ codes "%02e" means codes "[day]"
    ∷ codes "%02H" means codes "[hour]"
    ∷ codes "%02k" means codes "[hour]"
    ∷ codes "%02I" means codes "[hour repr:12]"
    ∷ codes "%02l" means codes "[hour repr:12]"
    ∷ codes "%03j" means codes "[ordinal]"
    ∷ codes "%02m" means codes "[month]"
    ∷ codes "%02M" means codes "[minute]"
    ∷ codes "%02S" means codes "[second]"
    ∷ codes "%02U" means codes "[week_number repr:sunday]"
    ∷ codes "%02V" means codes "[week_number]"
    ∷ codes "%02W" means codes "[week_number repr:monday]"
    ∷ codes "%02y" means codes "[year repr:last_two]"
    ∷ within YearsFrom1 (codes "%02g") (codes "[year repr:last_two base:iso_week]")
    ∷ codes "%01u" means codes "[weekday repr:monday]"
    ∷ codes "%01w" means codes "[weekday repr:sunday one_indexed:false]"
    ∷ codes "%0z" means codes "[offset_hour sign:mandatory][offset_minute]"
    ∷ codes "%0d" means codes "[day]"
    ∷ codes "%0e" means codes "[day]"
    ∷ codes "%0H" means codes "[hour]"
    ∷ codes "%0k" means codes "[hour]"
    ∷ codes "%0I" means codes "[hour repr:12]"
    ∷ codes "%0l" means codes "[hour repr:12]"
    ∷ codes "%0j" means codes "[ordinal]"
    ∷ codes "%0m" means codes "[month]"
    ∷ codes "%0M" means codes "[minute]"
    ∷ codes "%0S" means codes "[second]"
    ∷ codes "%0U" means codes "[week_number repr:sunday]"
    ∷ codes "%0V" means codes "[week_number]"
    ∷ codes "%0W" means codes "[week_number repr:monday]"
    ∷ codes "%0y" means codes "[year repr:last_two]"
    ∷ within YearsFrom1 (codes "%0g") (codes "[year repr:last_two base:iso_week]")
    ∷ within YearsFrom1000 (codes "%0C") (codes "[year repr:century]")
    ∷ within YearsFrom1000 (codes "%0Y") (codes "[year]")
    ∷ within YearsFrom1000 (codes "%0G") (codes "[year base:iso_week]")
    ∷ codes "%0u" means codes "[weekday repr:monday]"
    ∷ codes "%0w" means codes "[weekday repr:sunday one_indexed:false]"
    ∷ codes "%0a" means codes "[weekday repr:short]"
    ∷ codes "%0A" means codes "[weekday]"
    ∷ codes "%0b" means codes "[month repr:short]"
    ∷ codes "%0B" means codes "[month repr:long]"
    ∷ codes "%0h" means codes "[month repr:short]"
    ∷ codes "%0p" means codes "[period]"
    ∷ codes "%0P" means codes "[period case:lower]"
    ∷ within YearsFrom1000 (codes "%0c") (codes "[weekday repr:short] [month repr:short] [day padding:space] [hour]:[minute]:[second] [year]")
    ∷ codes "%0D" means codes "[month]/[day]/[year repr:last_two]"
    ∷ within YearsFrom1000 (codes "%0F") (codes "[year]-[month]-[day]")
    ∷ codes "%0r" means codes "[hour repr:12]:[minute]:[second] [period]"
    ∷ codes "%0R" means codes "[hour]:[minute]"
    ∷ codes "%0T" means codes "[hour]:[minute]:[second]"
    ∷ codes "%0x" means codes "[month]/[day]/[year repr:last_two]"
    ∷ codes "%0X" means codes "[hour]:[minute]:[second]"
    ∷ codes "%0%" means codes "%"
    ∷ codes "%0n" means (10 ∷ [])
    ∷ codes "%0t" means (9 ∷ [])
    ∷ codes "%0s" means codes "[unix_timestamp]"
    ∷ codes "%01" refused_for Width
    ∷ codes "%02" refused_for Width
    ∷ codes "%03" refused_for Width
    ∷ codes "%04" refused_for Width
    ∷ codes "%05" refused_for Width
    ∷ codes "%06" refused_for Width
    ∷ codes "%07" refused_for Width
    ∷ codes "%08" refused_for Width
    ∷ codes "%09" refused_for Width
    ∷ codes "%0" refused_for Flag
    ∷ [])
    ∷ c_marked
