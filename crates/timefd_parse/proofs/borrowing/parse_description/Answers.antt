use Rattle.std.proofs.Common.{◌∙◌, ◌≤◌, ◌++◌, length, refl, sym, ap, subst, arith}
use Rattle.timefd_items.specs.Builder.{built}
use Rattle.timefd_lang_component.specs.Reserved.{reserve_all}
use Rattle.timefd_lang_component.specs.Tree.{pack, trees}
use Rattle.timefd_parse.proofs.ParseLemmas.{items_spelled, same_list, none_read, no_fault_in, reserves_at_most}
use Rattle.timefd_parse.proofs.BuildingLemmas.{list_within}
use Rattle.timefd_parse.proofs.borrowing.parse_description.Goals as goal

-- all trees of the text reserve no more bytes than it has
pub finish-requires : goal.finish-requires
finish-requires c =
    let m = c.in-Ok-members.ensures.members in
    let most : reserve_all (trees (built c.members.new.builder)) ≤ length c.args.s.now =
    subst (λ ts. reserve_all (trees ts) ≤ length c.args.s.now)
    (sym (m.3 refl ∙ ap (λ ts. ts ++ m.0) c.in-Ok.ensures.empty))
    (list_within _ _ _ _ m.0 _ refl m.1) in
    omega (arith, most)

pub returns-in-Ok-finish-clause-read : goal.returns-in-Ok-finish-clause-read
returns-in-Ok-finish-clause-read c =
    let m = c.in-Ok-members.ensures.members in
    let packed = c.in-Ok-finish.ensures.ok ∙
    ap pack (m.3 refl ∙ ap (λ ts. ts ++ m.0) c.in-Ok.ensures.empty) in
    record {
      found = (m.0, items_spelled _ _ _ _ _ m.1, packed);
      fault = tt;
      spelled = λ list s. packed ∙ ap pack (same_list _ _ _ _ _ list m.1 s);
      refused = λ f h. no_fault_in _ _ _ _ _ f m.1 h;
      span = tt;
      empty = λ none. refl;
    }

pub returns-in-Ok-finish-clause-reserved : goal.returns-in-Ok-finish-clause-reserved
returns-in-Ok-finish-clause-reserved c =
    let m = c.in-Ok-members.ensures.members in
    reserves_at_most _ _ _ _ _ m.1 (c.in-Ok-finish.ensures.ok ∙
    ap pack (m.3 refl ∙ ap (λ ts. ts ++ m.0) c.in-Ok.ensures.empty))

-- Memory ran out after the last piece: the text has no fault, and it isn't the empty one.
pub returns-in-Ok-members-clause-read : goal.returns-in-Ok-members-clause-read
returns-in-Ok-members-clause-read c =
    let m = c.in-Ok-members.ensures.members in
    record {
      found = tt;
      fault = tt;
      spelled = λ list s. tt;
      refused = λ f h. no_fault_in _ _ _ _ _ f m.1 h;
      span = tt;
      empty = λ e. c.in-Err-finish.ensures.empty (m.3 refl ∙
          ap (λ ts. ts ++ m.0) c.in-Ok.ensures.empty ∙
          none_read _ _ _ _ _ m.1 e);
    }

-- There was no room for the nodes: that of the empty text takes no memory.
pub returns-in-Err-clause-read : goal.returns-in-Err-clause-read
returns-in-Err-clause-read c = record {
  found = tt;
  fault = c.error_of.ensures.fault;
  spelled = c.error_of.ensures.spelled;
  refused = c.error_of.ensures.refused;
  span = c.error_of.ensures.span tt;
  empty = λ none. c.in-Err.ensures.no_memory (c.node_room.ensures.empty none);
}

pub returns-clause-read : goal.returns-clause-read
returns-clause-read c = record {
  found = tt;
  fault = c.error_of-in-Err-members.ensures.fault;
  spelled = c.error_of-in-Err-members.ensures.spelled;
  refused = c.error_of-in-Err-members.ensures.refused;
  span = c.error_of-in-Err-members.ensures.span c.in-Err-members.ensures.span;
  empty = λ none. absurd (omega (arith, c.in-Err-members.ensures.some, ap length none));
}
