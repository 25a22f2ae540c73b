-- The letters that the help names are those that strftime reads, by computing.
use Rattle.std.specs.Prelude.{refl}
use Rattle.timefd_lint_diagnosis.specs.Advice.{LettersAreRead}

pub letters_are_read : LettersAreRead
letters_are_read = (refl, refl)
