use Rattle.std.proofs.Common.{◌≡◌, nat_lt, true, length, sym, subst}
use Rattle.std.specs.Prelude.{◌&&◌, eqb}
use Rattle.std.specs.List.{starts_with}
use Rattle.timefd_lang_dialect.proofs.BackLemmas.{written_there}
use Rattle.timefd_lang_dialect.proofs.reversed.after_written.Goals as goal

pub unreachable-requires : goal.unreachable-requires
unreachable-requires c =
    written_there c.written_of.result.now c.args.text.now
    (subst (λ own. (nat_lt 0 (length own) && starts_with eqb c.args.text.now own) ≡ true)
    (sym c.written_of.ensures) c.requires)
    (λ rest. c.in-None.ensures.rest rest)
