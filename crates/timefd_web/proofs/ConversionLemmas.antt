-- From what a conversion gives to what is reported about it.
use Rattle.std.proofs.Common.{ℕ, ◌≡◌, List, Result, Ok, Err, IfOk, string_bytes, subst, sym}
use Rattle.std.proofs.lemmas.Result.{IfOk-weaker}
use Rattle.std.specs.declared.alloc.AllocError.{AllocError}
use Rattle.std.specs.declared.alloc.Global.{Global}
use Rattle.std.specs.declared.vec.Vec.{Vec}
use Rattle.timefd_parse.specs.Tree.{Text}
use Rattle.timefd_lang_dialect.specs.Answers.{IsConverted}
use Rattle.timefd_lang_dialect.specs.Back.{IsFormatOf, IsMerged, LacksAt}
use Rattle.timefd_lang_dialect.specs.Items.{IsSpelledBy}
use Rattle.timefd_lang_dialect.specs.Reading.{RefusedAt}
use Rattle.timefd_lang_dialect.specs.Traps.{AreTraps}
use Rattle.timefd_lang_dialect.specs.declared.back.NoFormatError.TheVariants as lacks
use Rattle.timefd_lang_dialect.specs.declared.dialect.Dialect.{Dialect}
use Rattle.timefd_lang_dialect.specs.declared.error.DialectError.TheVariants as fails
use Rattle.timefd_lang_dialect.specs.declared.error.RefusedPart.{RefusedPart}
use Rattle.timefd_lang_dialect.specs.declared.reading.Converted.{Converted}
use Rattle.timefd_lang_dialect.specs.declared.trapping.Found.{Found}
use Rattle.timefd_web.specs.Conversions.{Converts, Formats, converted_object, format_object, lacking_object, merged_object, refused_object}

module _ (dialect : Dialect) (text : Text) (r : Result (Vec ℕ Global) AllocError) where
  pub converted_said : (c : Converted) (found traps : List Found) → IsConverted dialect text c
      → IsSpelledBy dialect text (string_bytes c.text) → AreTraps dialect text traps → found ≡ traps
      → IfOk r (λ object. object.items ≡ converted_object c found)
      → IfOk r (λ object. Converts dialect text object.items)
  converted_said c found traps converted same_items are same is =
      IfOk-weaker r _ _ (λ object said. record {
        answer = Ok c;
        found = found;
        is_conversion = (converted, same_items);
        are_traps = subst (AreTraps dialect text) (sym same) are;
        said = said;
      }) is

  pub refused_said : (refusal : RefusedPart) (found traps : List Found)
      → RefusedAt dialect text refusal.reason refusal.index → AreTraps dialect text traps
      → found ≡ traps → IfOk r (λ object. object.items ≡ refused_object refusal found)
      → IfOk r (λ object. Converts dialect text object.items)
  refused_said refusal found traps refused are same is =
      IfOk-weaker r _ _ (λ object said. record {
        answer = Err (fails.Refused refusal);
        found = found;
        is_conversion = refused;
        are_traps = subst (AreTraps dialect text) (sym same) are;
        said = said;
      }) is

  pub format_said : (c : Converted) → IsFormatOf dialect text c
      → IsSpelledBy dialect (string_bytes c.text) text
      → IfOk r (λ object. object.items ≡ format_object c)
      → IfOk r (λ object. Formats dialect text object.items)
  format_said c format same_items is =
      IfOk-weaker r _ _ (λ object said. record {
        answer = Ok c;
        is_format = (format, same_items);
        said = said;
      }) is

  pub lacking_said : (index : ℕ) → LacksAt dialect text index
      → IfOk r (λ object. object.items ≡ lacking_object index)
      → IfOk r (λ object. Formats dialect text object.items)
  lacking_said index lacks_it is =
      IfOk-weaker r _ _ (λ object said. record {
        answer = Err (lacks.Lacking index);
        is_format = lacks_it;
        said = said;
      }) is

  pub merged_said : IsMerged dialect text → IfOk r (λ object. object.items ≡ merged_object)
      → IfOk r (λ object. Formats dialect text object.items)
  merged_said merged is =
      IfOk-weaker r _ _ (λ object said. record {
        answer = Err lacks.Merged;
        is_format = merged;
        said = said;
      }) is
