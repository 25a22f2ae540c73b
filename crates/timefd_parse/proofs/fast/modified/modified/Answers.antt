use Rattle.std.proofs.Common.{refl, sym}
use Rattle.timefd_language.specs.Bytes.{is_version_three}
use Rattle.timefd_parse.proofs.BareLemmas.{is_modified}
use Rattle.timefd_parse.proofs.fast.modified.modified.Goals as goal

pub returns : goal.returns
returns c = λ white spaced.
    is_modified c.args.version (is_version_three c.args.version) white c.args.named.now c.in_ok-name.text.now
    c.in_ok-rest.rest.now c.in_ok-name.name _ _ c.in_ok-component.component
    refl spaced c.in_ok-name.ensures c.in_ok-rest.ensures
    c.in_ok-component.ensures (c.refuses.ensures c.if-refuses.false)
