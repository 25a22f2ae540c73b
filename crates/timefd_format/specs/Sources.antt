-- What the words of a run are, and the moments that they name or show.
use Rattle.std.specs.Prelude.{◌≡◌, Bool, List, Option, Some, None, Result, ⊤}
use denote.Ref.{Bor}
use Rattle.jiff_tz.specs.declared.timezone.TimeZone.{TimeZone}
use Rattle.timefd_lang_component.specs.Tree.{Text}
use Rattle.timefd_parse.specs.Faults.{Fault}
use Rattle.timefd_parse.specs.Grammar.{nesting_limit}
use Rattle.timefd_date_moment.specs.declared.moment.Moment.{Moment}
use Rattle.timefd_lang_node_list.specs.declared.leaves.Leaf.{Leaf}
use Rattle.timefd_parse.specs.LanguageType.{Language}
use Rattle.timefd_parse.specs.declared.parsing.BorrowedOutput.{BorrowedOutput}
use Rattle.timefd_parse.specs.Language.{FaultIn}
use Rattle.timefd_format.specs.declared.moment.MomentError.{MomentError}
use Rattle.timefd_format.specs.declared.names.GivenNames.{GivenNames}
use Rattle.timefd_format.specs.declared.source.Clocks.{Clocks}
use Rattle.timefd_format.specs.declared.source.MomentSource.{MomentSource}
use Rattle.timefd_format.specs.declared.source.SourceKind.{SourceKind}
use Rattle.timefd_format.specs.declared.source.SourceKind.TheVariants as kinds
use Rattle.timefd_format.specs.Descriptions.{IsDescribed}
use Rattle.timefd_format.specs.Moments.{IsNamed}
use Rattle.timefd_format.specs.ReadBack.{IsMadeOf, IsReadBack}
use Rattle.timefd_format.specs.Zones.{IsShownBy}

-- A text is refused only for the fault that the rules assign to it.
abbrev pub IsFaulty : Language → Text → Type 0
IsFaulty language text = (f : Fault) × FaultIn language nesting_limit text f

abbrev pub IsKindOf : GivenNames → Language → Option (Bor Text) → SourceKind → Type 0
IsKindOf names language None (kinds.Names n) = n ≡ names
IsKindOf names language None (kinds.Texts o) = ⊥
IsKindOf names language (Some text) (kinds.Names n) = ⊥
IsKindOf names language (Some text) (kinds.Texts o) = IsDescribed language text.now o

-- Words are texts of a description if one is given, and names otherwise.
abbrev pub IsSourceOf : Clocks → Language → Option (Bor Text) → Option MomentSource → Type 0
IsSourceOf clocks language None None = ⊥
IsSourceOf clocks language (Some text) None = IsFaulty language text.now
IsSourceOf clocks language text (Some source) =
    IsKindOf clocks.names language text source.kind × (source.zone ≡ clocks.zone)

abbrev pub IsFoundBy : SourceKind → Option BorrowedOutput → Text → Result Moment MomentError → Type 0
IsFoundBy (kinds.Names n) written word r = IsNamed n word r
IsFoundBy (kinds.Texts o) written word r = IsReadBack o written word r

-- What a word names, or shows by the description. It may be written by the other description, if there is one.
abbrev pub IsFoundIn : MomentSource → Option BorrowedOutput → Text → Result Moment MomentError → Type 0
IsFoundIn source written word r = IsFoundBy source.kind written word r

-- The moment of a word, as the clock of a zone shows it. Part of a date isn't enough for that.
abbrev pub IsOnClockIn : MomentSource → TimeZone → Text → Result Moment MomentError → Type 0
IsOnClockIn source zone word r =
    (found : Result Moment MomentError) × IsFoundIn source None word found × IsShownBy (Some zone) found r

abbrev pub IsMomentBy : Option TimeZone → MomentSource → BorrowedOutput → Text → Result Moment MomentError → Type 0
IsMomentBy None source written word r = IsFoundIn source (Some written) word r
IsMomentBy (Some zone) source written word r = IsOnClockIn source zone word r

-- The moment of a word that is written by the description, on the clock of the zone if there is one.
abbrev pub IsMomentIn : MomentSource → BorrowedOutput → Text → Result Moment MomentError → Type 0
IsMomentIn source written word r = IsMomentBy source.zone source written word r

abbrev pub IsTextOfKind : SourceKind → List Leaf → Type 0
IsTextOfKind (kinds.Names n) leaves = ⊥
IsTextOfKind (kinds.Texts o) leaves = IsMadeOf o leaves

-- The description to read by is the sequence of these components and literals.
abbrev pub IsTextOf : MomentSource → List Leaf → Type 0
IsTextOf source leaves = IsTextOfKind source.kind leaves

-- If leaves are given, they are those of that description.
abbrev pub AreLeavesIn : MomentSource → Option (Bor (List Leaf)) → Type 0
AreLeavesIn source None = ⊤
AreLeavesIn source (Some leaves) = IsTextOf source leaves.now

-- Nothing is reported where there is a source.
abbrev pub IsSilentOn : Option Text → Option Text → Bool → Bool → Option MomentSource → Type 0
IsSilentOn before after had_failed failed None = ⊤
IsSilentOn before after had_failed failed (Some source) = (after ≡ before) × (failed ≡ had_failed)
