-- The moments that words name.
use Rattle.std.specs.Prelude.{◌≡◌, Bool, true, false, Option, Some, None, Result, Ok, Err, codes, bytes_eq, nat_eq}
use Rattle.std.specs.List.{ends_with}
use Rattle.jiff_core.specs.declared.error.Error.{Error}
use Rattle.jiff_fmt.specs.Temporal.{PiecesParts, parse_pieces}
use Rattle.jiff_tz.specs.declared.db.TimeZoneDatabase.{TimeZoneDatabase}
use Rattle.timefd_lang_component.specs.Tree.{Text}
use Rattle.timefd_format.specs.declared.from_jiff.annotated.Annotated.{Annotated}
use Rattle.timefd_format.specs.declared.from_jiff.annotated.Annotation.{Annotation}
use Rattle.timefd_format.specs.declared.from_jiff.annotated.Annotation.TheVariants.{Named, Offset}
use Rattle.timefd_format.specs.FromJiff.Annotated.{AreAnnotated}
use Rattle.timefd_date_moment.specs.declared.moment.Moment.{Moment}
use Rattle.timefd_format.specs.declared.moment.MomentError.{MomentError}
use Rattle.timefd_format.specs.declared.moment.MomentError.TheVariants as fails
use Rattle.timefd_format.specs.declared.names.GivenNames.{GivenNames}
use Rattle.timefd_format.specs.declared.names.Now.{Now}
use Rattle.timefd_format.specs.declared.names.Now.TheVariants.{Shown, NoClock, NoZone}
use Rattle.timefd_format.specs.Brackets.{IsInAgreement, closes_once}
use Rattle.timefd_format.specs.Seconds.{IsAtSeconds, after_at}

-- what the clock shows in the zone of `TZ`, if the clock can be read and `TZ` names a zone
abbrev pub IsOfNow : Now → Result Moment MomentError → Type 0
IsOfNow (Shown m) r = r ≡ Ok m
IsOfNow NoClock r = r ≡ Err fails.Clock
IsOfNow NoZone r = r ≡ Err fails.LocalZone

abbrev pub IsUnless : Bool → Moment → Result Moment MomentError → Type 0
IsUnless true m r = r ≡ Err fails.Brackets
IsUnless false m r = r ≡ Ok m

abbrev pub IsAnnotatedIf : Bool → TimeZoneDatabase → Text → Moment → Result Moment MomentError → Type 0
IsAnnotatedIf true zones name m r = IsInAgreement zones name m r
IsAnnotatedIf false zones name m r = r ≡ Err fails.Brackets

abbrev pub IsCheckedBy : Option Annotation → TimeZoneDatabase → Text → Moment → Result Moment MomentError → Type 0
IsCheckedBy None zones word m r = IsUnless (ends_with nat_eq word (codes "]")) m r
IsCheckedBy (Some (Named name)) zones word m r = IsAnnotatedIf (closes_once word) zones name.now m r
IsCheckedBy (Some (Offset seconds)) zones word m r = r ≡ Err fails.Brackets

-- A time zone in brackets has to agree with the moment. Jiff's grammar skips anything else in brackets, so it
-- is refused here.
abbrev pub IsChecked : TimeZoneDatabase → Text → Annotated → Result Moment MomentError → Type 0
IsChecked zones word a r = IsCheckedBy a.zone zones word a.moment r

-- The moment that is written, by jiff's grammar, or what is wrong with the text.
abbrev pub IsOfText : Result PiecesParts Error → TimeZoneDatabase → Text → Result Moment MomentError → Type 0
IsOfText (Err f) zones word r = r ≡ Err (fails.Text f)
IsOfText (Ok p) zones word r = (a : Annotated) × AreAnnotated p a × IsChecked zones word a r

abbrev pub IsWritten : TimeZoneDatabase → Text → Result Moment MomentError → Type 0
IsWritten zones word r = IsOfText (parse_pieces word) zones word r

abbrev pub IsOfWord : Option Text → TimeZoneDatabase → Text → Result Moment MomentError → Type 0
IsOfWord (Some seconds) zones word r = IsAtSeconds seconds r
IsOfWord None zones word r = IsWritten zones word r

abbrev pub IsNamedBy : Bool → GivenNames → Text → Result Moment MomentError → Type 0
IsNamedBy true names word r = IsOfNow names.now r
IsNamedBy false names word r = IsOfWord (after_at word) names.zones.now word r

abbrev pub IsNamed : GivenNames → Text → Result Moment MomentError → Type 0
IsNamed names word r = IsNamedBy (bytes_eq word (codes "now")) names word r
