use Rattle.std.proofs.Common.{sym, subst}
use Rattle.timefd_language.specs.declared.description_version.Language.TheVariants.{Version}
use Rattle.timefd_parse.specs.Language.{IsAmount}
use Rattle.timefd_parse.proofs.language.version_amount.Goals as goal

pub returns-in-One : goal.returns-in-One
returns-in-One c =
    subst (λ v. IsAmount (Version v) c.args.limit c.args.text.now c.count_items.result) (sym c.in-One.is)
    c.count_items.ensures

pub returns-in-Two : goal.returns-in-Two
returns-in-Two c =
    subst (λ v. IsAmount (Version v) c.args.limit c.args.text.now c.count_items-in-Two.result)
    (sym c.in-Two.is) c.count_items-in-Two.ensures

pub returns-in-Three : goal.returns-in-Three
returns-in-Three c =
    subst (λ v. IsAmount (Version v) c.args.limit c.args.text.now c.count_bytes.result)
    (sym c.in-Three.is) c.count_bytes.ensures
