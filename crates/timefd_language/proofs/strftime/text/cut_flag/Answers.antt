use Rattle.std.proofs.Common.{rules, refl}
use Rattle.timefd_language.specs.Letters.{flagged}
use Rattle.timefd_language.proofs.strftime.text.cut_flag.Goals as goal

pub returns-in-95-clause-parts : goal.returns-in-95-clause-parts
returns-in-95-clause-parts c = (flagged 95, refl, refl, search rules, tt)

pub returns-in-45-clause-parts : goal.returns-in-45-clause-parts
returns-in-45-clause-parts c = (flagged 45, refl, refl, search rules, tt)

pub returns-in-48-clause-parts : goal.returns-in-48-clause-parts
returns-in-48-clause-parts c = (flagged 48, refl, refl, search rules, tt)
