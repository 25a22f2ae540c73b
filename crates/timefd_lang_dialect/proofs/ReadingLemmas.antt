-- What was read of a format so far.
use Rattle.std.proofs.Common.{◌≡◌, ◌≤◌, List, [], ◌∷◌, ◌++◌, append-nil, append_assoc, length, Result, Ok, Err, refl, sym, ap, ◌∙◌, subst, arith}
use Rattle.timefd_lang_component.specs.Tree.{Text}
use Rattle.timefd_lang_dialect.specs.declared.dialect.Dialect.{Dialect}
use Rattle.timefd_lang_dialect.specs.declared.front.FrontStep.{FrontStep}
use Rattle.timefd_lang_dialect.specs.declared.front.Stop.{Stop}
use Rattle.timefd_lang_dialect.specs.declared.limits.Limits.{Limits}
use Rattle.timefd_lang_dialect.specs.Limits.{all_limits, narrowed, limits_from}
use Rattle.timefd_lang_dialect.specs.Reading.{Piece, front_of, Leads, text_of}
use Rattle.timefd_lang_dialect.specs.Steps.{Takes, TakesAll, GivesStep, GivesSteps}

-- pieces lead from the format to the rest, with their text and their limits
pub record HasRead (dialect : Dialect) (format rest text : Text) (limits : Limits) : Type 0 where
  pub pieces : List Piece
  pub leads : Leads dialect format pieces rest
  pub written : text ≡ text_of pieces
  pub within : limits ≡ limits_from all_limits pieces
  pub left : length rest ≤ length format

-- More pieces.

leads_more : (dialect : Dialect) (text : Text) (ps qs : List Piece) (rest after : Text)
    → Leads dialect text ps rest → Leads dialect rest qs after
    → Leads dialect text (ps ++ qs) after
leads_more dialect text [] qs rest after leads more =
    subst (λ t. Leads dialect t qs after) (sym leads) more
leads_more dialect text (p ∷ ps) qs rest after leads more =
    (leads.0, leads.1, leads_more dialect leads.0 ps qs rest after leads.2 more)

text_of_more : (ps qs : List Piece) → text_of (ps ++ qs) ≡ text_of ps ++ text_of qs
text_of_more [] qs = refl
text_of_more (p ∷ ps) qs =
    ap (λ x. p.text ++ x) (text_of_more ps qs) ∙ sym (append_assoc p.text (text_of ps) (text_of qs))

limits_more : (limits : Limits) (ps qs : List Piece)
    → limits_from limits (ps ++ qs) ≡ limits_from (limits_from limits ps) qs
limits_more limits [] qs = refl
limits_more limits (p ∷ ps) qs = limits_more (narrowed p.range limits) ps qs

-- one piece

one_taken : (dialect : Dialect) (text old new : Text) (step : FrontStep)
    → Takes (front_of dialect text) text old new step → TakesAll dialect text old new step
one_taken dialect text old new step one = record {
  taken = one.taken ∷ [];
  leads = (step.rest.now, one.is, refl);
  appended = one.appended ∙ ap (λ x. old ++ x) (sym (append-nil one.taken.text));
  range = λ limits. ap (λ r. narrowed r limits) one.range;
  left = one.left;
}

pub gives_steps : (dialect : Dialect) (text old new : Text) (r : Result FrontStep Stop)
    → GivesStep (front_of dialect text) text old new r → GivesSteps dialect text old new r
gives_steps dialect text old new (Ok step) one = one_taken dialect text old new step one
gives_steps dialect text old new (Err stop) one = one

pub nothing_read : (dialect : Dialect) (format : Text)
    → HasRead dialect format format [] all_limits
nothing_read dialect format =
    record { pieces = []; leads = refl; written = refl; within = refl; left = omega arith }

pub read_more : (dialect : Dialect) (format rest text next : Text) (limits : Limits) (step : FrontStep)
    → HasRead dialect format rest text limits → TakesAll dialect rest text next step
    → HasRead dialect format step.rest.now next (narrowed step.range limits)
read_more dialect format rest text next limits step so_far more = record {
  pieces = so_far.pieces ++ more.taken;
  leads =
      leads_more dialect format so_far.pieces more.taken rest step.rest.now so_far.leads more.leads;
  written =
      more.appended ∙ ap (λ x. x ++ text_of more.taken) so_far.written
      ∙ sym (text_of_more so_far.pieces more.taken);
  within =
      sym (more.range limits) ∙ ap (λ l. limits_from l more.taken) so_far.within
      ∙ sym (limits_more all_limits so_far.pieces more.taken);
  left = omega (arith, so_far.left, more.left.shorter);
}
