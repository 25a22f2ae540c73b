use Rattle.std.proofs.Common.{refl, rules}
use Rattle.timefd_format.proofs.FieldLemmas.{slice_to_end}
use Rattle.timefd_format.proofs.PlainLemmas.{first_field}
use Rattle.timefd_format.proofs.fast.plain.field_before.Goals as goal

pub returns : goal.returns
returns c =
    first_field c.args.row.now _ _ c.args.at c.requires.first (search rules) refl
    (slice_to_end c.args.row.now _)
