-- The ranges so far, and those of the rest.
use Rattle.std.proofs.Common.{◌≡◌, Bool, true, false, List, [], ◌∷◌, ◌++◌, sym, ap, ◌∙◌, append_assoc, append-nil}
use Rattle.std.specs.Prelude.{Option, Some, None}
use Rattle.timefd_lint_files.specs.declared.class.ByteRange.{ByteRange}
use Rattle.timefd_lint_files.specs.declared.ranges.RangeStep.{RangeStep}
use Rattle.timefd_lint_files.specs.Matching.{Text}
use Rattle.timefd_lint_files.specs.Classes.{AreRanges, after_closing, first_range, read_range}

-- Whatever ranges the rest is, the ranges so far and those together are the whole text.
pub record GoesOn (text : Text) (before now : List ByteRange) (is_first : Bool) (rest : Text) : Type 0 where
  pub read : List ByteRange
  pub pushed : now ≡ before ++ read
  pub on : (ranges : List ByteRange) (after : Option Text) → AreRanges is_first rest ranges after
      → AreRanges true text (read ++ ranges) after

pub at_first : (text : Text) (before : List ByteRange) → GoesOn text before before true text
at_first text before = record {
  read = [];
  pushed = sym (append-nil before);
  on = λ ranges after are. are;
}

pub one_more : (text rest : Text) (before now more : List ByteRange) (is_first : Bool) (found : Option RangeStep)
    (step : RangeStep)
    → GoesOn text before now is_first rest → read_range found ≡ first_range is_first rest
    → found ≡ Some step → more ≡ now ++ step.range ∷ []
    → GoesOn text before more false step.rest.now
one_more text rest before now more is_first found step so_far read is pushed = record {
  read = so_far.read ++ step.range ∷ [];
  pushed = pushed ∙ ap (λ (rs : List ByteRange). rs ++ step.range ∷ []) so_far.pushed ∙
      append_assoc before so_far.read (step.range ∷ []);
  on = λ ranges after are. rw append_assoc (so_far.on (step.range ∷ ranges) after
      (step.rest.now, sym read ∙ ap read_range is, are));
}

pub at_last : (text rest : Text) (before now : List ByteRange) (is_first : Bool) (found : Option RangeStep)
    (after : Option Text)
    → GoesOn text before now is_first rest → read_range found ≡ first_range is_first rest → found ≡ None
    → after ≡ after_closing rest
    → (more : List ByteRange) × (now ≡ before ++ more) × AreRanges true text more after
at_last text rest before now is_first found after so_far read is cut = (
  so_far.read,
  so_far.pushed,
  rw append-nil at (so_far.on [] after (sym read ∙ ap read_range is, cut)),
)
