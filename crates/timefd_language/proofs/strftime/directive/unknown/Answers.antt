use Rattle.std.proofs.Common.{get_or, ap, sym, ◌∙◌}
use Rattle.std.proofs.lemmas.Str.{IsCharBoundary-after_ascii}
use Rattle.std.specs.Char.{is_ascii}
use Rattle.timefd_language.proofs.DirectiveLemmas.DirectiveLemmas.{ascii_below}
use Rattle.timefd_language.proofs.strftime.directive.unknown.Goals as goal

pub split_at-requires : goal.split_at-requires
split_at-requires c =
    IsCharBoundary-after_ascii c.args.text.now 0 c.utf8.text c.requires
    (ascii_below _ (ap (λ t. is_ascii (get_or t 0 0)) (sym c.as_bytes.ensures.value) ∙
    sym c.is_ascii.ensures ∙ c.if-is_ascii.true))
