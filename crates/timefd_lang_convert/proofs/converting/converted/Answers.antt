use Rattle.std.proofs.Common.{refl}
use Rattle.timefd_lang_convert.specs.Conversions.{language_of}
use Rattle.timefd_language.specs.Grammar.{nesting_limit}
use Rattle.timefd_lang_fault.proofs.OwnedLemmas.{owned_fault, owned_memory}
use Rattle.timefd_language.proofs.PlacedLemmas.{owned_placed, owned_spanned}
use Rattle.timefd_parse.proofs.AmountLemmas.{owned-assigned-in}
use Rattle.timefd_lang_convert.proofs.converting.converted.Goals as goal

pub returns-in-Ok : goal.returns-in-Ok
returns-in-Ok c = record {
  converted = c.in-Ok.ensures.converted;
  same_items = c.in-Ok.ensures.same_items;
  fault = tt;
  described = c.in-Ok.ensures.described;
  refused = c.in-Ok.ensures.refused;
  position = tt;
  span = tt;
  within = c.in-Ok.ensures.within;
  empty = λ none. refl;
}

pub returns-in-Err : goal.returns-in-Err
returns-in-Err c = record {
  converted = tt;
  same_items = tt;
  fault = owned-assigned-in (language_of c.args.conversion) nesting_limit c.args.text.now _ _
      c.in-Err.ensures.fault c.into_owned.ensures;
  described = λ answer is. owned_memory _ _ (c.in-Err.ensures.described answer is) c.into_owned.ensures;
  refused = λ f h. owned_fault f _ _ (c.in-Err.ensures.refused f h) c.into_owned.ensures;
  position = owned_placed c.args.text.now _ _ c.in-Err.ensures.position c.into_owned.ensures;
  span = owned_spanned (language_of c.args.conversion) c.args.text.now _ _ c.in-Err.ensures.span
      c.into_owned.ensures;
  within = tt;
  empty = c.in-Err.ensures.empty;
}
