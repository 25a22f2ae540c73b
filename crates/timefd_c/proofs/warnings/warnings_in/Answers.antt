use Rattle.std.proofs.Common.{refl}
use Rattle.std.proofs.lemmas.Result.{IfOk-weaker}
use Rattle.timefd_c.proofs.WarningLemmas.{as_found}
use Rattle.timefd_c.proofs.warnings.warnings_in.Goals as goal

pub returns : goal.returns
returns c = λ list spelled.
    IfOk-weaker c.reported_of.result _ _
    (λ nodes_reported are. as_found c.args.language c.args.text.now list c.all_at.result c.in_ok-found.found _ _ nodes_reported.items
    c.all_at.ensures (c.in_ok-found.ensures list spelled) refl c.all.ensures are)
    c.reported_of.ensures
