-- What is written for a tree is at most as long as the bytes that the tree reserves.
use Rattle.std.proofs.Common.{ℕ, ◌≡◌, ◌+◌, ◌≤◌, inl, inr, true, false, ◌++◌, codes, length, Result, Ok, Err, IfOk, refl, ap, subst, arith, length-append}
use Rattle.std.specs.Fmt.{decimal, digits}
use Rattle.timefd_modifier.specs.declared.enums.Padding.{Padding}
use Rattle.timefd_lang_component.specs.declared.component.Component.{Component}
use Rattle.timefd_lang_component.specs.declared.component.Component.TheVariants.{OffsetHour, UnixTimestampMillisecond, UnixTimestampMicrosecond}
use Rattle.timefd_lang_component.specs.Modern.{modern, IsModern, AreModern}
use Rattle.timefd_lang_component.specs.Reserved.{reserved, reserve, reserve_all, reserve_first}
use Rattle.timefd_lang_component.specs.Texts.{filled}
use Rattle.timefd_lang_component.specs.Tree.{Text, Tree, component, literal, compound, optional, first, Trees, no_trees, more_trees}
use Rattle.timefd_lang_component.proofs.Greatest.{longest_at}
use Rattle.timefd_date_moment.specs.declared.moment.Moment.{Moment}
use Rattle.timefd_date_format.specs.declared.field.WrittenField.{WrittenField}
use Rattle.timefd_date_format.specs.declared.field.Lack.{Lack}
use Rattle.timefd_date_format.specs.declared.field.Unshown.{Unshown}
use Rattle.timefd_date_format.specs.Fields.{field, field_text}
use Rattle.timefd_date_format.specs.Laws.{IsTextOf, IsMinusZero}
use Rattle.timefd_date_format.specs.Written.{written, written_all, written_first, followed, text_of, shown}
use Rattle.timefd_lang_node_list.specs.declared.view.View.{View}
use Rattle.timefd_lang_node_list.specs.Views.{view_tree}
use Rattle.timefd_date_format.specs.declared.write.FormatError.TheVariants as fails
use Rattle.timefd_date_format.specs.Outcomes.{IsOutcome}
use Rattle.timefd_date_format.proofs.ModernLemmas.{view_modern}
use Rattle.timefd_date_format.proofs.TextLemmas.{renders}

abbrev pub Fits : ℕ → Result Text Unshown → Type 0
Fits k x = IfOk x (λ text. length text ≤ k)

two : (p : Padding) → length (filled p 2 0) ≤ 2
unfolding digits
two Padding.Zero = omega arith
two Padding.Space = omega arith
two Padding.None = omega arith

one : length (decimal 0) ≤ 1
unfolding digits
one = omega arith

signed_zero : (text digits : Text) (k : ℕ) → text ≡ codes "-" ++ digits → length digits ≤ k → length text ≤ 1 + k
signed_zero text digits k e h = omega (arith, ap length e, length-append (codes "-") digits, h)

minus : (c : Component) (text : Text) → IsMinusZero c text → length text ≤ reserved c
minus (OffsetHour m) text z = signed_zero text (filled m.padding 2 0) 2 z (two m.padding)
minus (UnixTimestampMillisecond m) text z = omega (arith, signed_zero text (decimal 0) 1 z one)
minus (UnixTimestampMicrosecond m) text z = omega (arith, signed_zero text (decimal 0) 1 z one)
minus _ text z = absurd z

text_fits : (c : Component) (text : Text) → IsTextOf c text → length text ≤ reserved c
text_fits c text (inl is) = longest_at (component c) (reserved c) refl text is
text_fits c text (inr z) = minus c text z

of_field : (c : Component) (r : Result WrittenField Lack) → IfOk r (λ f. IsTextOf c (field_text f))
    → Fits (reserved c) (text_of c r)
of_field c (Ok f) h = text_fits c (field_text f) h
of_field c (Err l) h = tt

shown_fits : (m : Moment) (c : Component) → modern c ≡ c → Fits (reserved c) (shown m c)
shown_fits m c is =
    subst (λ d. Fits (reserved d) (shown m c)) is (of_field (modern c) (field m (modern c)) (renders m (modern c)))

both : (k l : ℕ) (x y : Result Text Unshown) → Fits k x → Fits l y → Fits (k + l) (followed x y)
both k l (Ok a) (Ok b) f g = omega (arith, f, g, length-append a b)
both k l (Ok a) (Err u) f g = tt
both k l (Err u) y f g = tt

mutual
  pub fits : (m : Moment) (t : Tree) → IsModern t → Fits (reserve t) (written m t)
  fits m (component c) is = shown_fits m c is
  fits m (literal bytes) is = omega arith
  fits m (compound ts) is = fits_all m ts is
  fits m (optional true t) is = fits m t is
  fits m (optional false t) is = omega arith
  fits m (first ts) is = fits_first m ts is

  fits_all : (m : Moment) (ts : Trees) → AreModern ts → Fits (reserve_all ts) (written_all m ts)
  fits_all m no_trees is = omega arith
  fits_all m (more_trees t ts) is =
      both (reserve t) (reserve_all ts) (written m t) (written_all m ts) (fits m t is.0) (fits_all m ts is.1)

  fits_first : (m : Moment) (ts : Trees) → AreModern ts → Fits (reserve_first ts) (written_first m ts)
  fits_first m no_trees is = omega arith
  fits_first m (more_trees t ts) is = fits m t is.0

-- A buffer of the reserved bytes has room.
pub enough : (m : Moment) (v : View) (old new : Text)
    → reserve (view_tree v) ≤ length old → IsOutcome (written m (view_tree v)) old new (Err fails.Room) → ⊥
enough m v old new room h = by (written m (view_tree v)) (fits m (view_tree v) (view_modern v)) h
  where
    by : (x : Result Text Unshown) → Fits (reserve (view_tree v)) x → IsOutcome x old new (Err fails.Room) → ⊥
    by (Ok a) f h = omega (arith, room, f, h)
    by (Err u) f h = h
