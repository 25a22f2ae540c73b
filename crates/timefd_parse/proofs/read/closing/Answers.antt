use Rattle.std.proofs.Common.{[], ap, length, refl, sym, subst, IsUtf8, lit<}
use Rattle.timefd_parse.proofs.ReadLemmas.{after_first, utf8_after_first, first_is, rest_is, not_three, closing_leads, closing_fault_of}
use Rattle.timefd_language.specs.Bytes.{is_version_three, right}
use Rattle.timefd_language.specs.Slots.{WantsIn}
use Rattle.timefd_language.specs.Spans.{version_extent}
use Rattle.timefd_language.proofs.SpanLemmas.{spans_byte}
use Rattle.timefd_parse.proofs.read.closing.Goals as goal

pub split_at-requires : goal.split_at-requires
split_at-requires c = after_first _ _ _ c.requires.1 (lit< tt) c.utf8.text

pub returns-in-Three-clause-escape : goal.returns-in-Three-clause-escape
returns-in-Three-clause-escape c = λ limit. closing_fault_of _ limit _ _ _ c.in-Three.is c.requires.1 refl refl

pub returns-clause-escape : goal.returns-clause-escape
returns-clause-escape c = λ limit.
    closing_leads _ limit _ _ _ (not_three _ c.in_default.not-Three)
    (first_is _ _ _ _ c.requires.1 c.split_at.ensures.front)
    (rest_is _ _ _ _ c.requires.1 c.split_at.ensures.back)
    (subst IsUtf8 (sym c.split_at.ensures.back)
    (utf8_after_first _ _ _ c.requires.1 (lit< tt) c.utf8.text))

pub returns-in-Three-clause-span : goal.returns-in-Three-clause-span
returns-in-Three-clause-span c =
    spans_byte version_extent (WantsIn (is_version_three c.args.version)) c.args.text.now [] right c.requires.0 _
    c.requires.1 (lit< tt) refl (ap length c.requires.1) refl tt
