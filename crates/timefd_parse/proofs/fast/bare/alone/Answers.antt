use Rattle.std.proofs.Common.{◌++◌, ◌∷◌, [], refl, ap, ◌∙◌, append_assoc}
use Rattle.timefd_language.specs.Names.{row_for}
use Rattle.timefd_parse.proofs.BareLemmas.{is_bare}
use Rattle.timefd_parse.proofs.fast.bare.alone.Goals as goal

pub returns-clause-component : goal.returns-clause-component
returns-clause-component g c =
    is_bare c.args.version _ c.args.inside.now c.in_ok-rest.rest.now c.args.name _ c.args.component
    refl (
      c.in_ok-rest.ensures.0 ∙ ap (λ t. t ++ c.in_ok-rest.rest.now) c.requires.spelled ∙
          append_assoc (row_for c.args.name).name (93 ∷ []) c.in_ok-rest.rest.now,
      c.in_ok-rest.ensures.1,
    ) refl c.requires.made
