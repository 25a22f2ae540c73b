-- Lines that are read and written many at once.
use Rattle.std.proofs.Common.{ℕ, zero, suc, ◌≡◌, ◌≢◌, ◌∙◌, ◌+◌, ◌<◌, ◌≤◌, ◌++◌, List, [], ◌∷◌, All, Option, Some, None, Result, Ok, Err, length, take, drop, get_or, map, refl, sym, ap, subst, arith, eqb-true, eq-eqb, get_or-take, zero-le, length-append, length-take, length-drop, take-append-drop}
use Rattle.std.proofs.lemmas.List.{take_more}
use Rattle.std.proofs.lemmas.List.Elements.{All-from_get_or}
use Rattle.memchr.specs.Find.{IsFirstByte, is_byte}
use Rattle.timefd_lang_component.specs.Tree.{Text, trees}
use Rattle.timefd_date_format.specs.Appends.{IsAppended, IsKept, TriesToAppend}
use Rattle.timefd_date_format.specs.declared.field.Unshown.{Unshown}
use Rattle.timefd_date_format.specs.Written.{written_all}
use Rattle.timefd_date_format.proofs.AppendLemmas.{kept, kept_after, take_in, tries_after}
use Rattle.timefd_date_moment.specs.declared.moment.Moment.{Moment}
use Rattle.timefd_lang_node_list.specs.declared.leaves.Leaf.{Leaf}
use Rattle.timefd_lang_node_list.specs.LeafMeaning.{leaf_tree}
use Rattle.timefd_parse.specs.declared.parsing.BorrowedOutput.{BorrowedOutput}
use Rattle.timefd_lint_rewrite.specs.Lines.{without_newline}
use Rattle.timefd_format.specs.declared.fast.batch.Batch.{Batch}
use Rattle.timefd_format.specs.declared.source.MomentSource.{MomentSource}
use Rattle.timefd_format.specs.Batches.{AreLinesShown, IsBatch, IsShownAs, IsWholeLine, TriesToAppendLine, no_batch, with_newline}
use Rattle.timefd_format.specs.ReadBack.{IsMadeOf}
use Rattle.timefd_format.specs.Sources.{IsMomentIn}
use Rattle.timefd_format.specs.Written.{written_of}
use Rattle.timefd_format.proofs.FrontLemmas.{by_leaves}

-- The line up to the first newline.

pub newline_within : (text : Text) (k : ℕ) → IsFirstByte (is_byte 10) text (Some k) → k + 1 ≤ length text
newline_within text k found = omega (arith, found.0.high)

pub up_to_newline : (text : Text) (k : ℕ) → IsFirstByte (is_byte 10) text (Some k)
    → IsWholeLine (take (k + 1) text)
up_to_newline text k found =
    let inside : k < length text = found.0.high in (
      take k text,
      All-from_get_or (λ b. b ≢ 10) (take k text) 0 (λ i small is.
          let below : i < k = omega (arith, small, length-take k text) in
          found.0.before i zero-le below
          (eq-eqb (get_or text i 0) 10 (sym (get_or-take k text i 0 below) ∙ is))),
      take_more text k 0 inside ∙ ap (λ b. take k text ++ b ∷ []) (eqb-true (get_or text k 0) 10 found.1),
    )

-- A line that is appended.

appended_text : (x : Result Text Unshown) (old new : Text) (at end : ℕ) → TriesToAppend x old at new (Some end)
    → (shown : Text) × (x ≡ Ok shown) × IsAppended shown old at new end
appended_text (Ok text) old new at end put = (text, refl, put)
appended_text (Err u) old new at end put = absurd put

pub moment_appended : (source : MomentSource) (o : BorrowedOutput) (line old new : Text) (at : ℕ) (m : Moment)
    (r : Option ℕ) → IsMomentIn source o line (Ok m)
    → TriesToAppend (with_newline (written_of m o)) old at new r
    → TriesToAppendLine source o line old at new r
moment_appended source o line old new at m None is put = put
moment_appended source o line old new at m (Some end) is put =
    let h = appended_text (with_newline (written_of m o)) old new at end put in (h.0, (m, is, h.1), h.2)

pub end_inside : (text old new : Text) (at end : ℕ) → at ≤ length old → IsAppended text old at new end → end ≤ length new
end_inside text old new at end room put =
    omega (arith, put.ends, ap length put.front, length-take end new, length-append (take at old) text, length-take at old, room)

pub text_within : (x : Result Text Unshown) (old new : Text) (at end : ℕ) → at ≤ length old
    → TriesToAppend x old at new (Some end) → end ≤ length new
text_within (Ok text) old new at end room put = end_inside text old new at end room put
text_within (Err u) old new at end room put = absurd put

pub text_kept : (x : Result Text Unshown) (old new : Text) (at end : ℕ) → at ≤ length old
    → TriesToAppend x old at new (Some end) → IsKept old at new
text_kept (Ok text) old new at end room put = kept_after text old new new at end room put (kept new end)
text_kept (Err u) old new at end room put = absurd put

newline_after : (x : Result Text Unshown) (old mid new : Text) (at middle : ℕ) (r : Option ℕ) → at ≤ length old
    → TriesToAppend x old at mid (Some middle) → TriesToAppend (Ok (10 ∷ [])) mid middle new r
    → TriesToAppend (with_newline x) old at new r
newline_after (Ok text) old mid new at middle r room one two =
    tries_after text (10 ∷ []) old mid new at middle r room one two
newline_after (Err u) old mid new at middle r room one two = absurd one

pub line_appended : (m : Moment) (o : BorrowedOutput) (leaves : List Leaf) (old mid new : Text) (at middle : ℕ)
    (r : Option ℕ) → at ≤ length old → IsMadeOf o leaves
    → TriesToAppend (written_all m (trees (map leaf_tree leaves))) old at mid (Some middle)
    → TriesToAppend (Ok (10 ∷ [])) mid middle new r → TriesToAppend (with_newline (written_of m o)) old at new r
line_appended m o leaves old mid new at middle r room made one two =
    subst (λ x. TriesToAppend (with_newline x) old at new r) (by_leaves m o leaves made)
    (newline_after (written_all m (trees (map leaf_tree leaves))) old mid new at middle r room one two)

-- A batch that grows.

pub empty_batch : (source : MomentSource) (o : BorrowedOutput) (text room : Text) → IsBatch source o text room no_batch
empty_batch source o text room = ((refl, refl), omega arith, omega arith, omega arith)

pub same_batch : (source : MomentSource) (o : BorrowedOutput) (text old new : Text) (batch : Batch)
    → IsBatch source o text old batch → IsKept old batch.written new → IsBatch source o text new batch
same_batch source o text old new batch is same = (
  subst (λ w. AreLinesShown source o batch.line_count (take batch.read text) w) (sym same.front) is.0,
  is.1,
  is.2,
  omega (arith, is.3, same.same),
)

pub read_more : (text rest : Text) (at len : ℕ) → at ≤ length text → rest ≡ drop at text
    → take (at + len) text ≡ take at text ++ take len rest
read_more text rest at len inside is =
    ap (take (at + len)) (sym (take-append-drop at text))
    ∙ take_in at len (take at text) (drop at text) (omega (arith, length-take at text, inside))
    ∙ ap (λ r. take at text ++ take len r) (sym is)

pub one_more : (source : MomentSource) (o : BorrowedOutput) (text rest line old new : Text) (batch : Batch) (len end : ℕ)
    → IsBatch source o text old batch → rest ≡ drop batch.read text → len ≤ length rest
    → IsWholeLine (take len rest) → line ≡ without_newline (take len rest)
    → TriesToAppendLine source o line old batch.written new (Some end)
    → IsBatch source o text new
    (record { line_count = batch.line_count + 1; read = batch.read + len; written = end })
one_more source o text rest line old new batch len end is is_rest within whole without put =
    let some : 1 ≤ len =
    omega (arith, length-take len rest, ap length whole.2, length-append whole.0 (10 ∷ [])) in
    let next : suc batch.line_count ≡ batch.line_count + 1 = omega arith in
    let lines : AreLinesShown source o (suc batch.line_count) (take (batch.read + len) text) (take end new) = (
      take batch.read text,
      take len rest,
      take batch.written old,
      put.0,
      is.0,
      whole,
      subst (λ l. IsShownAs source o l put.0) without put.1,
      read_more text rest batch.read len is.2 is_rest,
      put.2.front,
    ) in (
      subst (λ n. AreLinesShown source o n (take (batch.read + len) text) (take end new)) next lines,
      omega (arith, is.1, some),
      omega (arith, is.2, within, ap length is_rest, length-drop batch.read text),
      end_inside put.0 old new batch.written end is.3 put.2,
    )
