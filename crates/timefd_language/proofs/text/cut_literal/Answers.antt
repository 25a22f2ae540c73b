use Rattle.std.proofs.Common.{◌∙◌, ap}
use Rattle.std.specs.List.{prefix_len}
use Rattle.timefd_language.specs.Cut.{class_test}
use Rattle.timefd_language.proofs.CutLemmas.{boundary, cut_at_prefix, utf8_after}
use Rattle.timefd_language.proofs.text.cut_literal.Goals as goal

pub split_at-requires : goal.split_at-requires
split_at-requires c = rw (c.run_len.ensures.len, c.as_bytes.ensures.value)
    (boundary c.args.class c.args.text.now c.utf8.text)

pub returns-clause-parts : goal.returns-clause-parts
returns-clause-parts c =
    cut_at_prefix (class_test c.args.class) c.args.text.now _ _ c.run_len.result
    (c.run_len.ensures.len ∙ ap (prefix_len (class_test c.args.class)) c.as_bytes.ensures.value)
    c.split_at.ensures.front c.split_at.ensures.back

pub returns-clause-utf8 : goal.returns-clause-utf8
returns-clause-utf8 c =
    utf8_after c.args.class c.args.text.now _ c.run_len.result
    (c.run_len.ensures.len ∙ ap (prefix_len (class_test c.args.class)) c.as_bytes.ensures.value)
    c.utf8.text c.split_at.ensures.back
