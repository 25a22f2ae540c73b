use Rattle.std.proofs.Common.{◌≡◌, ◌∙◌, true, false, IsUtf8, string_bytes, sym, subst}
use Rattle.timefd_language.specs.declared.description_version.DescriptionVersion.TheVariants.{Two}
use Rattle.timefd_language.specs.declared.description_version.Language.TheVariants.{Version}
use Rattle.timefd_lift.specs.Modernized.{IsWrittenOf, KeepsItemsOf}
use Rattle.timefd_c.specs.Conversions.{ConvertsBy}
use Rattle.timefd_c.specs.declared.answer.TheConstants.{ACCEPTED}
use Rattle.timefd_c.proofs.ConversionLemmas.{converted, unconverted}
use Rattle.timefd_c.proofs.exports.timefd_v2_to_v3.Goals as goal

pub returns-in-Ok-v2_to_v3 : goal.returns-in-Ok-v2_to_v3
returns-in-Ok-v2_to_v3 c =
    let read = c.in-Ok.ensures.cases in
    let v = c.in-Ok-v2_to_v3.ensures in
    let answer = c.in-Ok-v2_to_v3.modern in
    record {
      converts = subst (λ bytes. ConvertsBy (Version Two) IsWrittenOf KeepsItemsOf bytes c.args.buffer.now
          c.write_whole.new.buffer (record {
            status = ACCEPTED;
            value = c.len.result;
            sentence_len =
                0;
            written = c.write_whole.result;
          })) read.0
          (converted (Version Two) IsWrittenOf KeepsItemsOf c.in-Ok.text.now c.args.buffer.now
          c.write_whole.new.buffer (string_bytes answer) c.deref.result.now c.len.result
          c.write_whole.result
          c.deref.ensures (c.len.ensures ∙ answer.bytes.ok.0) (subst IsUtf8 (sym read.0) read.1)
          v.rewritten v.same_items (λ other other_is. v.spelled other_is.0 other_is.1 ∙
          sym other_is.2) v.refused c.write_whole.ensures.whole
          c.write_whole.ensures.too_short);
    }

pub returns-in-Err : goal.returns-in-Err
returns-in-Err c =
    let read = c.in-Ok.ensures.cases in
    let v = c.in-Err.ensures in
    let text = c.in-Ok.text.now in
    let buffer = c.args.buffer.now in
    record {
      converts = subst (λ bytes. ConvertsBy (Version Two) IsWrittenOf KeepsItemsOf bytes buffer buffer c.of_error.result) read.0
          (subst (ConvertsBy (Version Two) IsWrittenOf KeepsItemsOf text buffer buffer) (sym c.of_error.ensures)
          (unconverted (Version Two) IsWrittenOf KeepsItemsOf text buffer c.in-Err.error (subst IsUtf8 (sym read.0) read.1) v.fault
          (λ other other_is. v.spelled other_is.0 other_is.1) v.refused
          (λ nil. let no : false ≡ true = v.empty nil in absurd cc)));
    }
