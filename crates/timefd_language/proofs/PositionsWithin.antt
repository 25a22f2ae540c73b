-- The index of each fault is in its text, or at its end.
use Rattle.std.proofs.Common.{ℕ, suc, ◌≡◌, ◌+◌, ◌≤◌, List, [], ◌∷◌, ◌++◌, length, length-append, ap, subst, arith, Result, Err}
use Rattle.timefd_language.specs.declared.description_version.DescriptionVersion.{DescriptionVersion}
use Rattle.timefd_lang_component.specs.Tree.{Tree}
use Rattle.timefd_lang_fault.specs.Faults.{Kind, Fault, unclosed_bracket, invalid_name, invalid_modifier, missing_name, missing_modifier, expected, not_supported, duplicate_modifier, invalid_combination}
use Rattle.timefd_language.specs.Bytes.{left, right, colon, is_version_three}
use Rattle.timefd_language.specs.Fault.{enclosed}
use Rattle.timefd_language.specs.Head.{Modifier, Head, placed_from, name_index, modifier_text, modifiers_text, head_text}
use Rattle.timefd_language.specs.Grammar.{Nested, no_nested, nested, spelling, nested_text, parts_from, bracket_verdict}
use Rattle.timefd_language.specs.Broken.{Misfit, no_colon, no_key, no_value, misfit_text, misfit_fault, Broken, bare_closing, half_escape, nameless, ill_modified, too_deep, broken_inside, cut_off, unclosed, refused, IsBroken, broken_text, broken_fault, before_inner}
use Rattle.timefd_language.specs.Positions.{PlacedWithin}
use Rattle.timefd_language.proofs.VerdictPositions.{AllWithin, PartsWithin, WithinAnswer, within_verdict}

abbrev UpTo : ℕ → ℕ → Type 0
UpTo k i = i ≤ k

-- Heads.

modifier_len : (m : Modifier)
    → length (modifier_text m) ≡ length m.white + length m.key + 1 + length m.value
modifier_len m = omega (
  arith,
  length-append (m.white ++ m.key) (colon ∷ m.value),
  length-append m.white m.key,
)

all_within : (k at : ℕ) (ms : List Modifier) → at + length (modifiers_text ms) ≤ k
    → AllWithin (UpTo k) (placed_from at ms)
all_within k at [] h = tt
all_within k at (m ∷ ms) h = (
  omega (arith, h, modifier_len m, length-append (modifier_text m) (modifiers_text ms)),
  omega (arith, h, modifier_len m, length-append (modifier_text m) (modifiers_text ms)),
  all_within k (at + length (modifier_text m)) ms
      (omega (arith, h, length-append (modifier_text m) (modifiers_text ms))),
)

head_len : (h : Head)
    → length (head_text h)
    ≡ 1 + length h.white + length h.name + length (modifiers_text h.modifiers)
head_len h = omega (
  arith,
  length-append (h.white ++ h.name) (modifiers_text h.modifiers),
  length-append h.white h.name,
)

parts_within : (k at : ℕ) (ns : Nested) → at + length (nested_text ns) ≤ k
    → PartsWithin (UpTo k) (parts_from at ns)
parts_within k at no_nested h = tt
parts_within k at (nested white ps ns) h = (
  omega (arith, h, nested_len),
  parts_within k (at + length white + 1 + length (spelling ps) + 1) ns (omega (arith, h, nested_len)),
)
  where
    nested_len : length (nested_text (nested white ps ns))
        ≡ length white + 1 + length (spelling ps) + 1 + length (nested_text ns)
    nested_len = omega (
      arith,
      length-append (white ++ left ∷ spelling ps) (right ∷ nested_text ns),
      length-append white (left ∷ spelling ps),
    )

err_within : (k : ℕ) (r : Result Tree Fault) (f : Fault) → r ≡ Err f → WithinAnswer (UpTo k) r
    → f.index ≤ k
err_within k r f e h = subst (WithinAnswer (UpTo k)) e h

-- Broken texts.

enclosed_index : (kind : Kind) (index k : ℕ) → (enclosed kind index k).index ≤ index + k
enclosed_index unclosed_bracket index k = omega arith
enclosed_index (invalid_name name) index k = omega arith
enclosed_index (invalid_modifier value) index k = omega arith
enclosed_index missing_name index k = omega arith
enclosed_index (missing_modifier key) index k = omega arith
enclosed_index (expected what) index k = omega arith
enclosed_index (not_supported what context) index k = omega arith
enclosed_index (duplicate_modifier key) index k = omega arith
enclosed_index (invalid_combination key context) index k = omega arith

misfit_within : (word : Misfit) (k : ℕ) → (misfit_fault word k).index ≤ k + length (misfit_text word)
misfit_within (no_colon word) k = omega arith
misfit_within (no_key value) k = omega arith
misfit_within (no_value key) k = omega (arith, length-append key (colon ∷ []))

broken_within : (b : Broken) (v : DescriptionVersion) (limit n : ℕ) → IsBroken v limit n b
    → (broken_fault b).index ≤ length (broken_text b)
broken_within (bare_closing rest) v limit n is = omega arith
broken_within (half_escape []) v limit n is = omega arith
broken_within (half_escape (c ∷ rest)) v limit n is = omega arith
broken_within (nameless [] rest) v limit n is = omega arith
broken_within (nameless (w ∷ white) rest) v limit n is = omega arith
broken_within (ill_modified h white word rest) v limit n is = omega (
  arith,
  misfit_within word (length (head_text h ++ white)),
  length-append (head_text h ++ white ++ misfit_text word) rest,
  length-append (head_text h ++ white) (misfit_text word),
)
broken_within (too_deep h ns white rest) v limit n is = omega (
  arith,
  length-append (before_inner h ns white) rest,
  length-append (head_text h ++ nested_text ns ++ white) (left ∷ []),
)
broken_within (broken_inside h ns white front inner) v limit n is = omega (
  arith,
  enclosed_index (broken_fault inner).kind (broken_fault inner).index
      (length (before_inner h ns white ++ spelling front)),
  broken_within inner v limit (suc n) is.5,
  length-append (before_inner h ns white ++ spelling front) (broken_text inner),
)
broken_within (cut_off h ns white front) v limit n is = omega arith
broken_within (unclosed h ns white rest) v limit n is = omega arith
broken_within (refused h ns white f rest) v limit n is = omega (
  arith,
  err_within close (bracket_verdict v h ns white) f is.3
      (within_verdict (UpTo close) (omega arith) (is_version_three v) h (parts_from (length (head_text h)) ns) close
      (omega (arith, head_len h, lengths))
      (all_within close (name_index h + length h.name) h.modifiers
      (omega (arith, head_len h, lengths)))
      (parts_within close (length (head_text h)) ns (omega (arith, lengths)))
      (omega arith)),
  length-append (head_text h ++ nested_text ns ++ white) (right ∷ rest),
)
  where
    close : ℕ
    close = length (head_text h ++ nested_text ns ++ white)

    lengths : close ≡ length (head_text h) + length (nested_text ns) + length white
    lengths = omega (
      arith,
      length-append (head_text h ++ nested_text ns) white,
      length-append (head_text h) (nested_text ns),
    )

pub placed_within_law : PlacedWithin
placed_within_law v limit text f h = omega (
  arith,
  broken_within h.1 v limit 0 h.3,
  ap (λ x. x.index) h.5,
  ap length h.4,
  length-append (spelling h.0) (broken_text h.1),
)
