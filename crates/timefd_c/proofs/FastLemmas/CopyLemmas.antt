-- A text that was copied by its ends.
use Rattle.std.proofs.Common.{ℕ, ◌≡◌, ◌∙◌, ◌+◌, ◌*◌, ◌-◌, ◌≤◌, ◌++◌, length, take, drop, sym, ap, arith, append_assoc, length-take}
use Rattle.std.proofs.Math.Seq.{drop-append-add}
use Rattle.std.proofs.lemmas.List.{drop-drop, take-append-drop, take-append-le}
use Rattle.timefd_lang_component.specs.Tree.{Text}
use Rattle.timefd_date_format.proofs.AppendLemmas.{take_take}

pub ends_copied : (text old mid new : Text) (count from : ℕ) → count ≤ length text → length text ≤ 2 * count
    → from ≡ length text - count → mid ≡ take count text ++ drop count old
    → new ≡ take from mid ++ (drop from text ++ drop (length text) mid) → new ≡ text ++ drop (length text) old
ends_copied text old mid new count from some all is first last =
    last ∙ ap (λ t. t ++ (drop from text ++ drop (length text) mid)) front
    ∙ ap (λ t. take from text ++ (drop from text ++ t)) after
    ∙ sym (append_assoc (take from text) (drop from text) (drop (length text) old))
    ∙ ap (λ t. t ++ drop (length text) old) (take-append-drop from text)
  where
    size : length (take count text) ≡ count
    size = omega (arith, length-take count text, some)

    front : take from mid ≡ take from text
    front =
        ap (take from) first
        ∙ take-append-le from (take count text) (drop count old) (omega (arith, size, is, all))
        ∙ take_take from count text (omega (arith, is, all))

    until : length text ≡ length (take count text) + (length text - count)
    until = omega (arith, size, some)

    all_of : count + (length text - count) ≡ length text
    all_of = omega (arith, some)

    after : drop (length text) mid ≡ drop (length text) old
    after =
        ap (drop (length text)) first
        ∙ ap (λ n. drop n (take count text ++ drop count old)) until
        ∙ drop-append-add (take count text) (drop count old) (length text - count)
        ∙ drop-drop (length text - count) count old
        ∙ ap (λ n. drop n old) all_of
