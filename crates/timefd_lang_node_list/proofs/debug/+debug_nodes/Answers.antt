use Rattle.std.proofs.Common.{rules, ◌+◌, ◌*◌, ◌<◌, ◌≤◌, [], length, map, subst, arith}
use Rattle.timefd_lang_node_list.specs.Nodes.{arity, grown_by, part}
use Rattle.timefd_lang_node_list.proofs.PrintLemmas.{members_fall}
use Rattle.timefd_lang_node_list.proofs.debug.+debug_nodes.Goals as goal

pub write_last-write_ending-requires : goal.write_last-write_ending-requires
write_last-write_ending-requires g t c κs within =
    let there : c.in-Compound.members.count ≤ length
    (grown_by [] (map part c.split_last.result.0.now)) =
    subst (λ n. arity (part n).role ≤ length (grown_by [] (map part c.split_last.result.0.now)))
    c.in-Compound.is c.split_last.ensures.members in
    let less : length c.split_last.result.0.now * length
    c.split_last.result.0.now + c.in-Compound.members.count < length c.args.nodes.now * length
    c.args.nodes.now =
    members_fall c.split_last.result.0.now c.args.nodes.now c.in-Compound.members.count
    c.split_last.ensures.shorter there in
    (omega (arith, less), (search rules, (c.split_last.ensures.fit, there)))

pub write_last-write_ending-requires-in-First : goal.write_last-write_ending-requires-in-First
write_last-write_ending-requires-in-First g t c κs within =
    let there : c.in-First.members.count ≤ length
    (grown_by [] (map part c.split_last.result.0.now)) =
    subst (λ n. arity (part n).role ≤ length (grown_by [] (map part c.split_last.result.0.now)))
    c.in-First.is c.split_last.ensures.members in
    let less : length c.split_last.result.0.now * length
    c.split_last.result.0.now + c.in-First.members.count < length c.args.nodes.now * length
    c.args.nodes.now =
    members_fall c.split_last.result.0.now c.args.nodes.now c.in-First.members.count
    c.split_last.ensures.shorter there in
    (omega (arith, less), (search rules, (c.split_last.ensures.fit, there)))
