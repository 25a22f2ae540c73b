-- The lists that borrowed tables hold.
use Rattle.timefd_language.specs.declared.strftime.tables.StrftimeTables.{StrftimeTables}
use Rattle.timefd_language.specs.Letters as spec
use Rattle.timefd_language.specs.Strings.{AreItems}

-- each list is the one that its letters stand for
pub record HoldsLists (tables : StrftimeTables) : Type 0 where
  pub date_and_time : AreItems tables.date_and_time spec.date_and_time
  pub short_date : AreItems tables.short_date spec.short_date
  pub iso_date : AreItems tables.iso_date spec.iso_date
  pub time_of_12 : AreItems tables.time_of_12 spec.time_of_12
  pub hour_and_minute : AreItems tables.hour_and_minute spec.hour_and_minute
  pub time_of_24 : AreItems tables.time_of_24 spec.time_of_24
  pub offset : AreItems tables.offset spec.offset
