-- Zones that are added to others.
use Rattle.std.proofs.Common.{◌≡◌, ◌∙◌, Bool, true, false, inl, inr, refl, ap, subst, string_bytes}
use Rattle.std.specs.BTreeMap.{is_at}
use Rattle.std.specs.Cmp.Lexicographic.{slice_cmp}
use Rattle.std.specs.Ordering.{nat_cmp}
use Rattle.std.specs.Map.{lookup}
use Rattle.jiff_tz.specs.declared.db.TimeZoneDatabase.{TimeZoneDatabase}
use Rattle.jiff_tz.specs.declared.timezone.TimeZone.{TimeZone}
use Rattle.jiff_tz.specs.Database.{IsInserted, IsZoneNamed}
use Rattle.timefd_lang_component.specs.Tree.{Text}
use Rattle.timefd_format.specs.declared.zones.Zones.{Zones}
use Rattle.timefd_format.specs.KnownZones.{Adds, Gives, IsWith}

pub gives : (zones : TimeZoneDatabase) (name : Text) (zone : TimeZone) → IsZoneNamed zones name zone
    → Gives zones name true
gives zones name zone is = (zone, is)

pub added : (before after : TimeZoneDatabase) (name bytes : Text) → IsInserted before after name bytes
    → Adds name before after true
added before after name bytes is = (bytes, is)

inserted_after : (name bytes : Text) (before mid after : TimeZoneDatabase)
    → mid.zones.entries ≡ before.zones.entries → IsInserted mid after name bytes
    → IsInserted before after name bytes
inserted_after name bytes before mid after same is = record {
  zone = is.zone;
  read = is.read;
  agrees = is.agrees;
  named = is.named;
  found = is.found;
  others = λ key other. is.others key other
      ∙ ap (λ es. lookup (is_at (λ k. slice_cmp nat_cmp (string_bytes key) (string_bytes k))) es) same;
}

-- None was added first.
pub after_none : (name : Text) (before mid after : TimeZoneDatabase) (is : Bool)
    → mid.zones.entries ≡ before.zones.entries → Adds name mid after is → Adds name before after is
after_none name before mid after true same adds =
    (adds.0, inserted_after name adds.0 before mid after same adds.1)
after_none name before mid after false same adds = adds ∙ same

-- The zones that are sought in stay as they were, or grow.
pub whole : (zones : Zones) (name : Text) → zones.is_whole ≡ true → IsWith zones name zones
whole zones name all = inl (refl, inl all)

pub known : (zones : Zones) (name : Text) (is : Bool) → Gives zones.database name is → is ≡ true
    → IsWith zones name zones
known zones name is given yes_known = inl (refl, inr (subst (Gives zones.database name) yes_known given))

pub grown : (before after : Zones) (name : Text) (is added : Bool) → before.is_whole ≡ false
    → Gives before.database name is → is ≡ false → Adds name before.database after.database added
    → added ≡ true → after.is_whole ≡ false → IsWith before name after
grown before after name is added part given unknown adds one rest =
    inr (
      part,
      subst (Gives before.database name) unknown given,
      inl (subst (Adds name before.database after.database) one adds, rest),
    )

pub filled : (before after : Zones) (name : Text) (is : Bool) → before.is_whole ≡ false
    → Gives before.database name is → is ≡ false → after.is_whole ≡ true → IsWith before name after
filled before after name is part given unknown all =
    inr (part, subst (Gives before.database name) unknown given, inr all)
