-- One more description.
use Rattle.std.proofs.Common.{ℕ, ◌≡◌, ◌≤◌, List, [], ◌∷◌, ◌++◌, nat_le, inl, inr, refl, sym, ap, subst, ◌∙◌, append-nil, arith}
use Rattle.std.specs.Prelude.{Option, None, Some, MatchOption, ⊤}
use Rattle.std.specs.List.{All}
use Rattle.std.specs.Option.{option_to_list}
use Rattle.std.proofs.lemmas.Bool.{cases_Bool}
use Rattle.std.proofs.lemmas.Bool.Decides.{nat_tests}
use Rattle.std.proofs.lemmas.List.Elements.{All-nil, All-push}
use Rattle.timefd_lint_scan.specs.declared.description.SourceDescription.{SourceDescription}
use Rattle.timefd_lint_scan.specs.Bytes.{Text}
use Rattle.timefd_lint_scan.specs.Found.{AllStandIn, AreInOrder, StandsIn, begin_of, begun_after, end_after}

pub at_first : (source : Text) → AllStandIn source []
at_first source = All-nil (StandsIn source)

-- where these end, from a position on
abbrev pub end_of : ℕ → List SourceDescription → ℕ
end_of from [] = from
end_of from (d ∷ ds) = end_of d.piece.end ds

ordered : (from : ℕ) (ds : List SourceDescription) (d : SourceDescription) → AreInOrder from ds
    → end_of from ds ≤ begin_of d → AreInOrder from (ds ++ d ∷ [])
ordered from [] d so_far after = (after, tt)
ordered from (c ∷ ds) d so_far after = (so_far.0, ordered c.piece.end ds d so_far.1 after)

last_end : (from : ℕ) (ds : List SourceDescription) (d : SourceDescription) → end_of from (ds ++ d ∷ []) ≡ d.piece.end
last_end from [] d = refl
last_end from (c ∷ ds) d = last_end c.piece.end ds d

-- Something holds of each description, and they are in order, up to a position.
pub record AreUpTo (Holds : SourceDescription → Type 0) (ds : List SourceDescription) (end : ℕ) : Type 0 where
  pub each : All Holds ds
  pub in_order : AreInOrder 0 ds
  pub up_to : end ≡ end_of 0 ds

pub none_yet : (Holds : SourceDescription → Type 0) → AreUpTo Holds [] 0
none_yet Holds = record { each = All-nil Holds; in_order = tt; up_to = refl }

pub no_piece_yet : (source : Text) → AreUpTo (StandsIn source) [] 0
no_piece_yet source = none_yet (StandsIn source)

each_more : (Holds : SourceDescription → Type 0) (ds more : List SourceDescription) (found : Option SourceDescription)
    → All Holds ds → MatchOption found ⊤ Holds → more ≡ ds ++ option_to_list found → All Holds more
each_more Holds ds more None so_far holds pushed =
    subst (All Holds) (sym (pushed ∙ append-nil ds)) so_far
each_more Holds ds more (Some d) so_far holds pushed =
    subst (All Holds) (sym pushed) (All-push Holds ds d so_far holds)

below : (Holds : SourceDescription → Type 0) (end : ℕ) (found : Option SourceDescription) → MatchOption found ⊤ Holds
    → MatchOption (begun_after end found) ⊤ Holds
below Holds end None holds = tt
below Holds end (Some d) holds = elim (cases_Bool (nat_le end (begin_of d))) [
  | inl pass ↦ rw pass holds
  | inr fail ↦ rw fail tt
]

in_turn : (ds : List SourceDescription) (end : ℕ) (found : Option SourceDescription) → AreInOrder 0 ds
    → end ≡ end_of 0 ds → AreInOrder 0 (ds ++ option_to_list (begun_after end found))
    × (end_after end (begun_after end found) ≡ end_of 0 (ds ++ option_to_list (begun_after end found)))
in_turn ds end None so_far up_to =
    (subst (AreInOrder 0) (sym (append-nil ds)) so_far, up_to ∙ ap (end_of 0) (sym (append-nil ds)))
in_turn ds end (Some d) so_far up_to = elim (cases_Bool (nat_le end (begin_of d))) [
  | inl pass ↦
      let after : end ≤ begin_of d = grind (arith, nat_tests) in
      rw pass (ordered 0 ds d so_far (subst (λ (n : ℕ). n ≤ begin_of d) up_to after), sym (last_end 0 ds d))
  | inr fail ↦ rw fail
      (subst (AreInOrder 0) (sym (append-nil ds)) so_far, up_to ∙ ap (end_of 0) (sym (append-nil ds)))
]

pub any_more : (Holds : SourceDescription → Type 0) (ds more : List SourceDescription) (found : Option SourceDescription)
    (end next : ℕ) → AreUpTo Holds ds end → MatchOption found ⊤ Holds
    → more ≡ ds ++ option_to_list (begun_after end found) → next ≡ end_after end (begun_after end found)
    → AreUpTo Holds more next
any_more Holds ds more found end next so_far holds pushed ends =
    let turn = in_turn ds end found so_far.in_order so_far.up_to in record {
      each = each_more Holds ds more (begun_after end found) so_far.each (below Holds end found holds) pushed;
      in_order = subst (AreInOrder 0) (sym pushed) turn.0;
      up_to = ends ∙ turn.1 ∙ ap (end_of 0) (sym pushed);
    }
