-- The moment that a word names.
use Rattle.std.proofs.Common.{◌≡◌, ◌⊎◌, inl, inr, Option, Some, None, Result, Ok, Err, refl, ap}
use Rattle.jiff_core.specs.declared.error.Error.{Error}
use Rattle.jiff_core.specs.declared.error.Error.TheVariants.{OutOfMemory, TimeZoneNotFound}
use Rattle.jiff_fmt.specs.Temporal.{PiecesParts}
use Rattle.jiff_tz.specs.declared.db.TimeZoneDatabase.{TimeZoneDatabase}
use Rattle.jiff_tz.specs.declared.timezone.TimeZone.{TimeZone}
use Rattle.jiff_tz.specs.Database.{IsNoZone, stored}
use Rattle.timefd_lang_component.specs.Tree.{Text}
use Rattle.timefd_format.specs.declared.from_jiff.annotated.Annotated.{Annotated}
use Rattle.timefd_format.specs.FromJiff.Annotated.{IsReadAnnotated}
use Rattle.timefd_date_moment.specs.declared.moment.Moment.{Moment}
use Rattle.timefd_format.specs.declared.moment.MomentError.{MomentError}
use Rattle.timefd_format.specs.declared.moment.MomentError.TheVariants as fails
use Rattle.timefd_format.specs.declared.source.MomentSource.{MomentSource}
use Rattle.timefd_format.specs.Moments.{IsChecked, IsOfText}
use Rattle.timefd_format.specs.Sources.{IsFoundIn, IsOnClockIn}
use Rattle.timefd_format.specs.Zones.{IsShownBy}

pub written_ok : (x : Result PiecesParts Error) (zones : TimeZoneDatabase) (word : Text) (a : Annotated)
    (r : Result Moment MomentError) → IsReadAnnotated x (Ok a) → IsChecked zones word a r → IsOfText x zones word r
written_ok (Ok p) zones word a r read checked = (a, read, checked)
written_ok (Err f) zones word a r read checked = absurd read

pub written_err : (x : Result PiecesParts Error) (zones : TimeZoneDatabase) (word : Text) (e : Error)
    → IsReadAnnotated x (Err e) → IsOfText x zones word (Err (fails.Text e))
written_err (Ok p) zones word e read = absurd read
written_err (Err f) zones word e read = ap (λ (x : Error). Err (fails.Text x)) read

pub not_stored : (zones : TimeZoneDatabase) (name : Text) (e : Error) → IsNoZone zones name e → e ≡ TimeZoneNotFound
    → stored zones name ≡ None
not_stored zones name e (inl memory) is = absurd cc
not_stored zones name e (inr none) is = none.1

pub shown_on_clock : (source : MomentSource) (zone : TimeZone) (word : Text) (found r : Result Moment MomentError)
    → IsFoundIn source None word found → IsShownBy (Some zone) found r → IsOnClockIn source zone word r
shown_on_clock source zone word found r is shown = (found, is, shown)
