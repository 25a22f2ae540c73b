use Rattle.std.proofs.Common.{◌≡◌, ◌∙◌, ◌+◌, ◌++◌, [], drop, length, slice_index_or, sym, ap, arith, append_assoc, length-append}
use Rattle.timefd_lang_fault.specs.Parts.{joined, texts}
use Rattle.timefd_lang_fault.proofs.PartLemmas.{joined_from}
use Rattle.timefd_lang_fault.proofs.sentence.write_all.Goals as goal

pub and-excerpt-requires : goal.and-excerpt-requires
and-excerpt-requires c =
    let v = c.parts.invariant in
    let part =
    (slice_index_or c.args.parts.now c.parts.part-index
    (record { ref_ptr = (0, 0); now = [] })).now in
    let rest = joined (texts (drop (c.parts.part-index + 1) c.args.parts.now)) in
    let e : v.0 ++ (part ++ rest) ≡ joined (texts c.args.parts.now) =
    ap (λ t. v.0 ++ t)
    (sym (joined_from c.args.parts.now c.parts.part-index _ c.parts-test.true)) ∙ v.2 in
    omega (
      arith,
      c.requires,
      v.1.len,
      ap length e,
      length-append v.0 (part ++ rest),
      length-append part rest,
    )

pub parts-preserved : goal.parts-preserved
parts-preserved c =
    let v = c.parts.invariant in (
      v.0 ++ _,
      c.and-excerpt.ensures v.0 c.args.buffer.now v.1,
      append_assoc v.0 _ _
          ∙ ap (λ t. v.0 ++ t) (sym
          (joined_from c.args.parts.now c.parts.part-index _ c.parts-test.true))
          ∙ v.2,
    )
