-- The time zones that are read for a run, and what is reported about a name that none of them has.
use Rattle.std.specs.Prelude.{◌≡◌, ◌⊎◌, ◌++◌, Bool, true, false, List, codes, Option, Some, None, ⊤}
use Rattle.jiff_tz.specs.declared.db.TimeZoneDatabase.{TimeZoneDatabase}
use Rattle.jiff_tz.specs.declared.timezone.TimeZone.{TimeZone}
use Rattle.jiff_tz.specs.Database.{IsInserted, IsZoneNamed, stored}
use Rattle.timefd_date_moment.specs.declared.unix_time.UnixTime.{UnixTime}
use Rattle.timefd_lang_component.specs.Tree.{Text}
use Rattle.timefd_lint_diagnosis.specs.Nearest.{IsNearest}
use Rattle.timefd_lint_drawing.specs.Shown.{safe}
use Rattle.timefd_format.specs.declared.names.Now.{Now}
use Rattle.timefd_format.specs.declared.names.Now.TheVariants.{Shown, NoClock, NoZone}
use Rattle.timefd_format.specs.declared.zones.Zones.{Zones}
use Rattle.timefd_format.specs.FromJiff.Zones.{IsOnClock, instant}

-- Whether a name gives a zone.
abbrev pub Gives : TimeZoneDatabase → Text → Bool → Type 0
Gives zones name true = (zone : TimeZone) × IsZoneNamed zones name zone
Gives zones name false = stored zones name ≡ None

-- The zone of this name is added to the others, or they stay as they were.
abbrev pub Adds : Text → TimeZoneDatabase → TimeZoneDatabase → Bool → Type 0
Adds name before after true = (bytes : Text) × IsInserted before after name bytes
Adds name before after false = after.zones.entries ≡ before.zones.entries

-- The zones stay as they were if they are all of the system, or if the name gives one of them. Otherwise the one of
-- this name is added, or they become all of the system.
abbrev pub IsWith : Zones → Text → Zones → Type 0
IsWith before name after =
    ((after ≡ before) × ((before.is_whole ≡ true) ⊎ Gives before.database name true))
    ⊎ ((before.is_whole ≡ false) × (stored before.database name ≡ None)
    × ((Adds name before.database after.database true × (after.is_whole ≡ false)) ⊎ (after.is_whole ≡ true)))

-- What `now` names is what the clock of a zone shows at an instant, if it is known.
abbrev pub IsNow : Now → Type 0
IsNow (Shown moment) = (zone : TimeZone) × (known : UnixTime) × IsOnClock zone (instant known) moment
IsNow NoClock = ⊤
IsNow NoZone = ⊤

-- the sentence for a name that no zone has, and what to write instead
abbrev pub unknown_sentence : Text → Option Text → Text
unknown_sentence name (Some nearest) =
    codes "there is no time zone `" ++ (safe name ++ (codes "`; the nearest one is " ++ safe nearest))
unknown_sentence name None =
    codes "there is no time zone `" ++ (safe name
    ++ codes "`; names look like Europe/Berlin and Etc/GMT+5")

-- The sentence names the nearest of the zones' names, if one is near.
abbrev pub IsUnknownSentence : Text → Text → Type 0
IsUnknownSentence name text =
    (names : List Text) × (nearest : Option Text) × IsNearest names name nearest
    × (text ≡ unknown_sentence name nearest)
