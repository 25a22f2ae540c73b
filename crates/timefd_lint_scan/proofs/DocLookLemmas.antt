-- What is seen in a source and in its examples.
use Rattle.std.proofs.Common.{ℕ, ◌≡◌, ◌∙◌, List, [], ap, flat_map, inr, refl, subst, sym}
use Rattle.std.specs.declared.alloc.AllocError.{AllocError}
use Rattle.std.specs.Prelude.{IfOk, Result, Ok, Err}
use Rattle.timefd_lint_scan.specs.declared.candidate.CandidateLiteral.{CandidateLiteral}
use Rattle.timefd_lint_scan.specs.declared.doc_look.example.SeenExample.{SeenExample}
use Rattle.timefd_lint_scan.specs.declared.doc_look.joining.LookPart.{LookPart}
use Rattle.timefd_lint_scan.specs.declared.look.Look.{Look}
use Rattle.timefd_lint_scan.specs.declared.own_call.OwnCall.{OwnCall}
use Rattle.timefd_lint_scan.specs.Bytes.{Text}
use Rattle.timefd_lint_scan.specs.DocLooks.{AreJoined, AreSeenExamples, IsLook, IsTogether, by_position, calls_in, comments_in, long_in, merged, short_in}
use Rattle.timefd_lint_scan.specs.Gathered.{comments}
use Rattle.timefd_lint_scan.specs.Looks.{IsSeenAlone}
use Rattle.timefd_lint_scan.specs.Names.{HasNoFence}
use Rattle.timefd_lint_scan.proofs.CandidateLemmas.{all_in_order}
use Rattle.timefd_lint_scan.proofs.ExampleLemmas.{none_seen}
use Rattle.timefd_lint_scan.proofs.FenceLemmas.{no_example}
use Rattle.timefd_lint_scan.proofs.JoinLemmas.{own_joined}
use Rattle.timefd_lint_scan.proofs.MergeLemmas.{none_more}

pub are_together : (source : Text) (alone : Look) (seen : List SeenExample) (shorts literals : List CandidateLiteral) (parts : List LookPart)
    (calls longs others unread left words notes : List ℕ) (look : Look) → shorts ≡ flat_map short_in seen → literals ≡ shorts
    → parts ≡ by_position literals alone.descriptions.items → AreJoined source 0 parts look.descriptions.items
    → calls ≡ flat_map calls_in seen → longs ≡ flat_map long_in seen → others ≡ longs → unread ≡ merged calls others
    → left ≡ unread → look.calls.items ≡ merged alone.calls.items left → words ≡ flat_map comments_in seen → notes ≡ words
    → look.comments.items ≡ merged alone.comments.items notes → IsTogether source alone seen look
are_together source alone seen shorts literals parts calls longs others unread left words notes look short same placed joined named long
    those all again merged_calls said given merged_words = record {
      descriptions = subst (λ xs. AreJoined source 0 xs look.descriptions.items)
          (placed ∙ ap (λ cs. by_position cs alone.descriptions.items) (same ∙ short)) joined;
      calls = merged_calls
          ∙ ap (merged alone.calls.items)
          (again ∙ (all ∙ (ap (λ ns. merged ns others) named ∙ ap (merged (flat_map calls_in seen)) (those ∙ long))));
      comments = merged_words ∙ ap (merged alone.comments.items) (given ∙ said);
    }

pub with_examples : (source : Text) (own : List OwnCall) (alone : Look) (seen given : List SeenExample) (answer : Result Look AllocError)
    → IsSeenAlone source own alone → AreSeenExamples source own seen → given ≡ seen → IfOk answer (IsTogether source alone given)
    → IfOk answer (IsLook source own)
with_examples source own alone seen given (Ok look) by_itself examples same together = inr (record {
  alone = alone;
  by_itself = by_itself;
  seen = seen;
  examples = examples;
  together = subst (λ s. IsTogether source alone s look) same together;
})
with_examples source own alone seen given (Err e) by_itself examples same together = together

-- What is seen in a source that has no examples is all.
pub without_examples : (source bytes : Text) (own : List OwnCall) (look : Look) → IsSeenAlone source own look → bytes ≡ source
    → HasNoFence bytes → IsLook source own look
without_examples source bytes own look is here none = inr (record {
  alone = look;
  by_itself = is;
  seen = [];
  examples = record {
    notes = comments is.0;
    noted = record { all = is.0; tokens = is.1.tokens; noted = refl };
    tests = [];
    examples = sym (no_example source (comments is.0) (subst HasNoFence here none));
    seen_in = none_seen own;
  };
  together = record {
    descriptions = own_joined source 0 look.descriptions.items
        (all_in_order source 0 _ look.descriptions.items is.1.descriptions);
    calls = sym (none_more look.calls.items);
    comments = sym (none_more look.comments.items);
  };
})
