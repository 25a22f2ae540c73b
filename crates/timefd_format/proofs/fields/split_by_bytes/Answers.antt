use Rattle.std.proofs.Common.{◌∙◌, refl, rules, sym}
use Rattle.timefd_format.proofs.FieldLemmas.{found, goes_on, split_bytes}
use Rattle.timefd_format.proofs.fields.split_by_bytes.Goals as goal

pub bytes-preserved : goal.bytes-preserved
bytes-preserved c =
    goes_on c.args.row.now c.bytes.rest.now _ c.bytes.quoting c.after-quoting.result _
    (split_bytes c.bytes.rest.now _ (search rules) c.in-len1-up.len_at_least) c.bytes.invariant
    (sym c.ends_field.ensures ∙ c.if-ends_field.false) c.after-quoting.ensures

pub returns-then-ends_field : goal.returns-then-ends_field
returns-then-ends_field c =
    found c.args.row.now c.bytes.rest.now _ _ c.bytes.quoting _
    (split_bytes c.bytes.rest.now _ (search rules) c.in-len1-up.len_at_least) c.bytes.invariant
    (sym c.ends_field.ensures ∙ c.if-ends_field.true) refl
