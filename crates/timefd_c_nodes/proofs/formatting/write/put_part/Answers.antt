use Rattle.std.proofs.Common.{ℕ, ◌≡◌, ◌∙◌, ◌≤◌, sym, ap, subst, arith}
use Rattle.timefd_lang_component.specs.Tree.{trees}
use Rattle.timefd_date_moment.specs.declared.moment.Moment.{Moment}
use Rattle.timefd_date_format.specs.Written.{written_all}
use Rattle.timefd_c_nodes.specs.declared.formatting.part.WritingPart.{WritingPart}
use Rattle.timefd_c_nodes.specs.declared.formatting.part.WritingPart.TheVariants as part
use Rattle.timefd_c_nodes.specs.Formatting.Parts.{role}
use Rattle.timefd_c_nodes.specs.Formatting.Cursors.{TriesToWrite}
use Rattle.timefd_c_nodes.specs.Formatting.Walk.{leaves_here}
use Rattle.timefd_c_nodes.proofs.FormattingLemmas.WriteLemmas.{component_by_itself}
use Rattle.timefd_c_nodes.proofs.formatting.write.put_part.Goals as goal

written_here : (m : Moment) (skip : ℕ) (p q : WritingPart) → skip ≤ 0 → p ≡ q
    → written_all m (trees (leaves_here skip (role p))) ≡ written_all m (trees (leaves_here 0 (role q)))
written_here m skip p q none is =
    let zero_is : skip ≡ 0 = omega (arith, none) in
    ap (λ k. written_all m (trees (leaves_here k (role p)))) zero_is
    ∙ ap (λ x. written_all m (trees (leaves_here 0 (role x)))) is

pub returns-in-Component : goal.returns-in-Component
returns-in-Component c =
    subst (λ x. TriesToWrite x c.args.buffer.now c.args.end c.put_component.new.buffer c.put_component.result)
    (sym (written_here c.args.moment c.args.skip c.args.part (part.Component c.in-Component.component)
    c.if-skip-gt0.false c.in-Component.is ∙ component_by_itself c.args.moment c.in-Component.component))
    c.put_component.ensures
