use Rattle.std.proofs.Common.{◌≡◌, ◌∙◌, ◌+◌, ◌-◌, ◌++◌, ap, arith, drop, length, refl, take}
use Rattle.std.proofs.lemmas.List.{drop-drop, length-drop, take_all}
use Rattle.timefd_c.proofs.FastLemmas.CopyLemmas.{ends_copied}
use Rattle.timefd_c.proofs.fast.write.copy_ends.Goals as goal

pub returns : goal.returns
returns c =
    let text = c.args.text.now in
    let old = c.args.buffer.now in
    let count = c.args.count in
    let mid = c.copy_from_slice.new.self ++ drop count old in
    let from = length text - count in
    let last : c.copy_from_slice-2.new.self ≡ drop from text =
    c.copy_from_slice-2.ensures.after ∙ take_all (length text - from) (drop from text) (omega (arith, length-drop from text)) in
    let until : from + (length text - from) ≡ length text = omega arith in
    let after : drop (length text - from) (drop from mid) ≡ drop (length text) mid =
    drop-drop (length text - from) from mid ∙ ap (λ n. drop n mid) until in
    ends_copied text old mid _ count from c.requires.some c.requires.all refl
    (ap (λ t. t ++ drop count old) c.copy_from_slice.ensures.after)
    (λ i. take from mid ++ (last i ++ after i))
