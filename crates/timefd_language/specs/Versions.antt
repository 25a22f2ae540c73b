-- The version with a number.
use Rattle.std.specs.Prelude.{ℕ, ◌==◌, if◌then◌else◌, Option, Some, None}
use Rattle.timefd_language.specs.declared.description_version.DescriptionVersion.{DescriptionVersion}
use Rattle.timefd_language.specs.declared.description_version.DescriptionVersion.TheVariants.{One, Two, Three}

abbrev pub version_of : ℕ → Option DescriptionVersion
version_of number =
    if number == 1 then Some One
    else if number == 2 then Some Two
    else if number == 3 then Some Three
    else None
