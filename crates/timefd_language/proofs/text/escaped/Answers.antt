use Rattle.std.proofs.Common.{◌<◌, get_or, length, arith, sym, ◌∙◌, ap}
use Rattle.std.proofs.lemmas.Str.{IsCharBoundary-after_ascii}
use Rattle.timefd_language.specs.Bytes.{is_special}
use Rattle.timefd_language.proofs.CutLemmas.{special_ascii}
use Rattle.timefd_language.proofs.text.escaped.Goals as goal

pub split_at-requires : goal.split_at-requires
split_at-requires c =
    let some : 0 < length c.args.text.now =
    omega (arith, c.in-len1-up.len_at_least, c.as_bytes.ensures.len) in
    IsCharBoundary-after_ascii c.args.text.now 0 c.utf8.text some
    (special_ascii _ (ap (λ t. is_special (get_or t 0 0)) (sym c.as_bytes.ensures.value) ∙
    sym c.if-is_special.ensures))
