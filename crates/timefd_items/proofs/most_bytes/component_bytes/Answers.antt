use Rattle.std.proofs.Common.{◌∙◌, ap, sym}
use Rattle.timefd_items.proofs.BytesLemmas.{deprecated_none, unlike}
use Rattle.timefd_items.proofs.most_bytes.component_bytes.Goals as goal
use Rattle.timefd_lang_component.specs.ComponentEquality.{component_sound}
use Rattle.timefd_lang_component.specs.Reserved.{reserved}

pub returns-then-eq : goal.returns-then-eq
returns-then-eq c =
    c.reserved_bytes.ensures ∙ ap reserved (sym c.modern.ensures.table
    ∙ component_sound _ _ (sym c.eq.ensures ∙ c.if-eq.true))

pub returns-else-eq : goal.returns-else-eq
returns-else-eq c =
    deprecated_none _ (λ e. unlike _ _ _ c.eq.ensures c.if-eq.false
    (c.modern.ensures.table ∙ e))
