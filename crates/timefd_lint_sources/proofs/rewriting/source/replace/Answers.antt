use Rattle.std.proofs.Common.{◌-◌, length, take, drop, rules, arith, refl, ap}
use Rattle.std.proofs.lemmas.Grind.{common_steps}
use Rattle.timefd_parse.specs.Tree.{Text}
use Rattle.timefd_lint_sources.proofs.RewritingLemmas.SourceLemmas.{has_inside, replaced}
use Rattle.timefd_lint_sources.proofs.rewriting.source.replace.Goals as goal

pub returns : goal.returns
returns c =
    replaced c.args.source.now c.args.description.now c.args.from c.body_end-end.result c.args.body.now
    c.in-Some.old.now
    (take (c.body_end-end.result - length c.in-Some.old.now - c.args.from) (drop c.args.from c.as_bytes.result.now))
    c.args.bytes.now.items c.extend_from_slice.new.self.items c.extend_from_slice-in-Some.new.self.items
    c.inside.result c.in-Some.old c.inside.ensures.inside c.in-Some.is refl c.body_end-end.ensures
    c.in-Some.ensures.position
    (omega (arith, c.in-Some.ensures.within, c.requires.after, c.body_end-end.ensures))
    (ap (λ (t : Text). take (c.body_end-end.result - length c.in-Some.old.now - c.args.from) (drop c.args.from t))
    c.as_bytes.ensures.value)
    (first_of (search rules, cc, grind (arith, common_steps)))
    (first_of (search rules, cc, grind (arith, common_steps)))

pub unreachable-requires : goal.unreachable-requires
unreachable-requires c =
    has_inside c.args.source.now c.args.description.now c.inside.result c.requires.stands
    c.inside.ensures.inside c.in-None.is
