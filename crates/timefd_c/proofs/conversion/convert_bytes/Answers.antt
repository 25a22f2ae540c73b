use Rattle.std.proofs.Common.{◌≡◌, ◌∙◌, true, false, IsUtf8, length, string_bytes, sym, subst}
use Rattle.timefd_lang_convert.specs.Conversions.{FitsIn, IsConversion, KeepsItems, language_of}
use Rattle.timefd_c.specs.Conversions.{ConvertsTo}
use Rattle.timefd_c.specs.declared.answer.TheConstants.{ACCEPTED}
use Rattle.timefd_c.proofs.ConversionLemmas.{converted, error_has_room, unconverted}
use Rattle.timefd_c.proofs.conversion.convert_bytes.Goals as goal

pub returns-in-Ok-convert_by : goal.returns-in-Ok-convert_by
returns-in-Ok-convert_by c =
    let read = c.in-Ok.ensures.cases in
    let v = c.in-Ok-convert_by.ensures in
    let answer = c.in-Ok-convert_by.converted in
    let by = c.args.conversion in
    record {
      converts = subst (λ bytes. ConvertsTo by bytes c.args.buffer.now c.write_whole.new.buffer
          (record {
            status = ACCEPTED;
            value = c.len.result;
            sentence_len = 0;
            written =
                c.write_whole.result;
          })) read.0 (
            converted (language_of by) (IsConversion by) (KeepsItems by) c.in-Ok.text.now
                c.args.buffer.now c.write_whole.new.buffer (string_bytes answer)
                c.deref.result.now c.len.result c.write_whole.result
                c.deref.ensures (c.len.ensures ∙ answer.bytes.ok.0) (subst IsUtf8 (sym read.0) read.1)
                v.converted v.same_items (λ other other_is. v.described other other_is) v.refused
                c.write_whole.ensures.whole c.write_whole.ensures.too_short,
            λ e. subst (FitsIn by (length c.in-Ok.text.now))
                (sym (c.len.ensures ∙ answer.bytes.ok.0)) v.within,
          );
    }

pub returns-in-Err : goal.returns-in-Err
returns-in-Err c =
    let read = c.in-Ok.ensures.cases in
    let v = c.in-Err.ensures in
    let text = c.in-Ok.text.now in
    let buffer = c.args.buffer.now in
    let by = c.args.conversion in
    record {
      converts = subst (λ bytes. ConvertsTo by bytes buffer buffer c.of_error.result) read.0
          (subst (ConvertsTo by text buffer buffer) (sym c.of_error.ensures) (
            unconverted (language_of by) (IsConversion by) (KeepsItems by) text buffer
                c.in-Err.error (subst IsUtf8 (sym read.0) read.1) v.fault
                (λ other other_is. v.described other other_is) v.refused
                (λ nil. let no : false ≡ true = v.empty nil in absurd cc),
            error_has_room by text c.in-Err.error,
          ));
    }
