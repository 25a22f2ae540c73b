-- The moment that is read from a text, and the time zone in brackets after it.
use Rattle.std.specs.Prelude.{◌≡◌, Option, Some, None, Result, Ok, Err, ⊤}
use Rattle.jiff_core.specs.declared.error.Error.{Error}
use Rattle.jiff_fmt.specs.Temporal.{PiecesParts, ZonePiece, named_zone, fixed_zone}
use Rattle.timefd_format.specs.declared.from_jiff.annotated.Annotated.{Annotated}
use Rattle.timefd_format.specs.declared.from_jiff.annotated.Annotation.{Annotation}
use Rattle.timefd_format.specs.declared.from_jiff.annotated.Annotation.TheVariants.{Named, Offset}
use Rattle.timefd_format.specs.FromJiff.Read.{AreRead}

abbrev pub IsAnnotation : ZonePiece → Annotation → Type 0
IsAnnotation (named_zone critical name) (Named text) = text.now ≡ name
IsAnnotation (named_zone critical name) (Offset seconds) = ⊥
IsAnnotation (fixed_zone critical seconds) (Named text) = ⊥
IsAnnotation (fixed_zone critical seconds) (Offset n) = n ≡ seconds

abbrev pub IsZoneRead : Option ZonePiece → Option Annotation → Type 0
IsZoneRead None None = ⊤
IsZoneRead None (Some a) = ⊥
IsZoneRead (Some z) None = ⊥
IsZoneRead (Some z) (Some a) = IsAnnotation z a

abbrev pub AreAnnotated : PiecesParts → Annotated → Type 0
AreAnnotated p a = AreRead p a.moment × IsZoneRead p.zone a.zone

-- what was written, or what is wrong with the text
abbrev pub IsReadAnnotated : Result PiecesParts Error → Result Annotated Error → Type 0
IsReadAnnotated (Ok p) (Ok a) = AreAnnotated p a
IsReadAnnotated (Ok p) (Err e) = ⊥
IsReadAnnotated (Err f) (Ok a) = ⊥
IsReadAnnotated (Err f) (Err e) = e ≡ f
