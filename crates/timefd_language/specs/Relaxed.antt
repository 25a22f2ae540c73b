-- What a text of version 3 means in version 2.
use Rattle.std.specs.Prelude.{◌≡◌, true, false, codes, if◌then◌else◌, ⊤}
use Rattle.timefd_lang_component.specs.declared.component.Component.{Component}
use Rattle.timefd_lang_component.specs.declared.component.Component.TheVariants.{CalendarYearFullExtendedRange, CalendarYearFullStandardRange, CalendarYearCenturyExtendedRange, CalendarYearCenturyStandardRange, IsoYearFullExtendedRange, IsoYearFullStandardRange, IsoYearCenturyExtendedRange, IsoYearCenturyStandardRange}
use Rattle.timefd_lang_component.specs.Tree.{Tree, component}
use Rattle.timefd_language.specs.Head.{Head, placed}
use Rattle.timefd_language.specs.Verdict.{is_set}
use Rattle.timefd_language.specs.Grammar.{Pieces, no_pieces, run, escape, closing, bracket, Nested, no_nested, nested}

abbrev pub HasNone : Nested → Type 0
HasNone no_nested = ⊤
HasNone (nested white ps ns) = ⊥

-- no nested descriptions
abbrev pub IsFlat : Pieces → Type 0
IsFlat no_pieces = ⊤
IsFlat (run bytes rest) = IsFlat rest
IsFlat (escape a b rest) = IsFlat rest
IsFlat (closing rest) = IsFlat rest
IsFlat (bracket h ns white tree rest) = HasNone ns × IsFlat rest

-- turns a year of the standard range into one of the extended range
abbrev pub widened : Component → Component
widened (CalendarYearFullStandardRange y) =
    CalendarYearFullExtendedRange (record {
      padding = y.padding;
      sign_is_mandatory =
          y.sign_is_mandatory;
    })
widened (CalendarYearCenturyStandardRange y) =
    CalendarYearCenturyExtendedRange
    (record { padding = y.padding; sign_is_mandatory = y.sign_is_mandatory })
widened (IsoYearFullStandardRange y) =
    IsoYearFullExtendedRange (record {
      padding = y.padding;
      sign_is_mandatory =
          y.sign_is_mandatory;
    })
widened (IsoYearCenturyStandardRange y) =
    IsoYearCenturyExtendedRange (record {
      padding = y.padding;
      sign_is_mandatory =
          y.sign_is_mandatory;
    })
widened c = c

-- the component isn't a year of the extended range
abbrev pub IsStandard : Component → Type 0
IsStandard (CalendarYearFullExtendedRange y) = ⊥
IsStandard (CalendarYearCenturyExtendedRange y) = ⊥
IsStandard (IsoYearFullExtendedRange y) = ⊥
IsStandard (IsoYearCenturyExtendedRange y) = ⊥
IsStandard c = ⊤

-- a year whose head sets no range has the standard range in version 3
abbrev pub IsStandardIn : Head → Tree → Type 0
IsStandardIn h (component c) = is_set true (codes "range") (placed h) ≡ false → IsStandard c
IsStandardIn h t = ⊤

abbrev pub AreStandard : Pieces → Type 0
AreStandard no_pieces = ⊤
AreStandard (run bytes rest) = AreStandard rest
AreStandard (escape a b rest) = AreStandard rest
AreStandard (closing rest) = AreStandard rest
AreStandard (bracket h ns white tree rest) = IsStandardIn h tree × AreStandard rest

-- a year whose head sets no range has the extended range in version 2
abbrev pub relaxed_tree : Head → Tree → Tree
relaxed_tree h (component c) = component
    (if is_set true (codes "range") (placed h) then c else widened c)
relaxed_tree h t = t

abbrev pub relaxed : Pieces → Pieces
relaxed no_pieces = no_pieces
relaxed (run bytes rest) = run bytes (relaxed rest)
relaxed (escape a b rest) = escape a b (relaxed rest)
relaxed (closing rest) = closing (relaxed rest)
relaxed (bracket h ns white tree rest) = bracket h ns white (relaxed_tree h tree) (relaxed rest)
