use Rattle.std.proofs.Common.{◌<◌, length, rules, subst}
use Rattle.std.specs.Prelude.{string_bytes}
use Rattle.timefd_parse.specs.Tree.{Text}
use Rattle.timefd_lint_sources.specs.Items.{IsOpened}
use Rattle.timefd_lint_sources.proofs.OpeningLemmas.{nothing_left}
use Rattle.timefd_lint_sources.proofs.opening.opened_all.Goals as goal

pub returns-in_default : goal.returns-in_default
returns-in_default c =
    let below : c.items.count < length c.args.text.now = search rules in
    nothing_left (length c.args.text.now) c.items.count c.args.version c.args.text.now
    (string_bytes c.items.left) below
    (subst (λ (t : Text). (next : Text) → IsOpened c.args.version t next → ⊥) c.deref.ensures
    (c.in_ok-next.ensures.none c.in_default.is)) c.items.invariant
