-- The rows of Go, by the byte that selects them, the longest first.
use Rattle.std.specs.Prelude.{codes, List, [], ◌∷◌}
use Rattle.timefd_lang_dialect.specs.declared.reason.Reason.TheVariants.{FractionWidth, VariableFraction, ZForUtc, ZoneName}
use Rattle.timefd_lang_dialect.specs.declared.row.NotBefore.TheVariants.{Digit, Lower}
use Rattle.timefd_lang_dialect.specs.declared.row.Range.TheVariants.{Years0To9999}
use Rattle.timefd_lang_dialect.specs.Groups.{Group, under}
use Rattle.timefd_lang_dialect.specs.Rows.{◌means◌, ◌refused_for◌, before, written, refused}

unfoldable pub go_groups : List Group
go_groups =
    under 74 (codes "January" means codes "[month repr:long]"
    ∷ before Lower (codes "Jan") (written (codes "[month repr:short]") Years0To9999)
    ∷ [])
    ∷ under 77 (codes "Monday" means codes "[weekday]"
    ∷ before Lower (codes "Mon") (written (codes "[weekday repr:short]") Years0To9999)
    ∷ codes "MST" refused_for ZoneName
    ∷ [])
    ∷ under 49 (codes "15" means codes "[hour]"
    ∷ codes "1" means codes "[month padding:none]"
    ∷ [])
    ∷ under 48 (codes "002" means codes "[ordinal]"
    ∷ codes "01" means codes "[month]"
    ∷ codes "02" means codes "[day]"
    ∷ codes "03" means codes "[hour repr:12]"
    ∷ codes "04" means codes "[minute]"
    ∷ codes "05" means codes "[second]"
    ∷ codes "06" means codes "[year repr:last_two]"
    ∷ [])
    ∷ under 50 (codes "2006" means codes "[year]"
    ∷ codes "2" means codes "[day padding:none]"
    ∷ [])
    ∷ under 95 (codes "_2006" means codes "_[year]"
    ∷ codes "__2" means codes "[ordinal padding:space]"
    ∷ codes "_2" means codes "[day padding:space]"
    ∷ [])
    ∷ under 51 (codes "3" means codes "[hour repr:12 padding:none]" ∷ [])
    ∷ under 52 (codes "4" means codes "[minute padding:none]" ∷ [])
    ∷ under 53 (codes "5" means codes "[second padding:none]" ∷ [])
    ∷ under 80 (codes "PM" means codes "[period]" ∷ [])
    ∷ under 112 (codes "pm" means codes "[period case:lower]" ∷ [])
    ∷ under 45 (codes "-07:00:00" means codes "[offset_hour sign:mandatory]:[offset_minute]:[offset_second]"
    ∷ codes "-070000" means codes "[offset_hour sign:mandatory][offset_minute][offset_second]"
    ∷ codes "-07:00" means codes "[offset_hour sign:mandatory]:[offset_minute]"
    ∷ codes "-0700" means codes "[offset_hour sign:mandatory][offset_minute]"
    ∷ codes "-07" means codes "[offset_hour sign:mandatory]"
    ∷ [])
    ∷ under 90 (codes "Z07:00:00" refused_for ZForUtc
    ∷ codes "Z070000" refused_for ZForUtc
    ∷ codes "Z07:00" refused_for ZForUtc
    ∷ codes "Z0700" refused_for ZForUtc
    ∷ codes "Z07" refused_for ZForUtc
    ∷ [])
    ∷ under 46 (codes ".0000000000" refused_for FractionWidth
    ∷ codes ".9999999999" refused_for FractionWidth
    ∷ before Digit (codes ".000000000") (written (codes ".[subsecond digits:9]") Years0To9999)
    ∷ before Digit (codes ".999999999") (refused VariableFraction)
    ∷ before Digit (codes ".00000000") (written (codes ".[subsecond digits:8]") Years0To9999)
    ∷ before Digit (codes ".99999999") (refused VariableFraction)
    ∷ before Digit (codes ".0000000") (written (codes ".[subsecond digits:7]") Years0To9999)
    ∷ before Digit (codes ".9999999") (refused VariableFraction)
    ∷ before Digit (codes ".000000") (written (codes ".[subsecond digits:6]") Years0To9999)
    ∷ before Digit (codes ".999999") (refused VariableFraction)
    ∷ before Digit (codes ".00000") (written (codes ".[subsecond digits:5]") Years0To9999)
    ∷ before Digit (codes ".99999") (refused VariableFraction)
    ∷ before Digit (codes ".0000") (written (codes ".[subsecond digits:4]") Years0To9999)
    ∷ before Digit (codes ".9999") (refused VariableFraction)
    ∷ before Digit (codes ".000") (written (codes ".[subsecond digits:3]") Years0To9999)
    ∷ before Digit (codes ".999") (refused VariableFraction)
    ∷ before Digit (codes ".00") (written (codes ".[subsecond digits:2]") Years0To9999)
    ∷ before Digit (codes ".99") (refused VariableFraction)
    ∷ before Digit (codes ".0") (written (codes ".[subsecond digits:1]") Years0To9999)
    ∷ before Digit (codes ".9") (refused VariableFraction)
    ∷ [])
    ∷ under 44 (codes ",0000000000" refused_for FractionWidth
    ∷ codes ",9999999999" refused_for FractionWidth
    ∷ before Digit (codes ",000000000") (written (codes ",[subsecond digits:9]") Years0To9999)
    ∷ before Digit (codes ",999999999") (refused VariableFraction)
    ∷ before Digit (codes ",00000000") (written (codes ",[subsecond digits:8]") Years0To9999)
    ∷ before Digit (codes ",99999999") (refused VariableFraction)
    ∷ before Digit (codes ",0000000") (written (codes ",[subsecond digits:7]") Years0To9999)
    ∷ before Digit (codes ",9999999") (refused VariableFraction)
    ∷ before Digit (codes ",000000") (written (codes ",[subsecond digits:6]") Years0To9999)
    ∷ before Digit (codes ",999999") (refused VariableFraction)
    ∷ before Digit (codes ",00000") (written (codes ",[subsecond digits:5]") Years0To9999)
    ∷ before Digit (codes ",99999") (refused VariableFraction)
    ∷ before Digit (codes ",0000") (written (codes ",[subsecond digits:4]") Years0To9999)
    ∷ before Digit (codes ",9999") (refused VariableFraction)
    ∷ before Digit (codes ",000") (written (codes ",[subsecond digits:3]") Years0To9999)
    ∷ before Digit (codes ",999") (refused VariableFraction)
    ∷ before Digit (codes ",00") (written (codes ",[subsecond digits:2]") Years0To9999)
    ∷ before Digit (codes ",99") (refused VariableFraction)
    ∷ before Digit (codes ",0") (written (codes ",[subsecond digits:1]") Years0To9999)
    ∷ before Digit (codes ",9") (refused VariableFraction)
    ∷ [])
    ∷ []
