use Rattle.std.proofs.Common.{◌∙◌, ap}
use Rattle.std.specs.List.{prefix_len}
use Rattle.timefd_language.proofs.CutLemmas.{cut_at_prefix}
use Rattle.timefd_lang_dialect.specs.Plain.{is_plain}
use Rattle.timefd_lang_dialect.proofs.PlainLemmas.{plain_boundary, plain_utf8}
use Rattle.timefd_lang_dialect.proofs.plain.cut_plain.Goals as goal

pub split_at-requires : goal.split_at-requires
split_at-requires c =
    plain_boundary c.args.dialect c.args.text.now _
    (c.plain_len.ensures.len ∙ ap (prefix_len (is_plain c.args.dialect)) c.as_bytes.ensures.value)

pub returns-clause-parts : goal.returns-clause-parts
returns-clause-parts c =
    cut_at_prefix (is_plain c.args.dialect) c.args.text.now _ _ c.plain_len.result
    (c.plain_len.ensures.len ∙ ap (prefix_len (is_plain c.args.dialect)) c.as_bytes.ensures.value)
    c.split_at.ensures.front c.split_at.ensures.back

pub returns-clause-utf8 : goal.returns-clause-utf8
returns-clause-utf8 c =
    plain_utf8 c.args.dialect c.args.text.now _ c.plain_len.result
    (c.plain_len.ensures.len ∙ ap (prefix_len (is_plain c.args.dialect)) c.as_bytes.ensures.value)
    c.utf8.text c.split_at.ensures.back
