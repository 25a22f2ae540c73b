use Rattle.std.proofs.Common.{◌≡◌, ◌+◌, ◌≤◌, [], length, refl, ap, arith}
use Rattle.std.proofs.lemmas.Bool.{true≢false}
use Rattle.timefd_items.specs.Builder.{built}
use Rattle.timefd_lang_component.specs.Reserved.{reserve, reserve_all}
use Rattle.timefd_lang_component.specs.Tree.{trees}
use Rattle.timefd_language.specs.declared.description_version.DescriptionVersion.TheVariants.{Three}
use Rattle.timefd_parse.proofs.BuildingLemmas.{list_within}
use Rattle.timefd_parse.proofs.CountingLemmas.{none_built, pack_sum}
use Rattle.timefd_parse.proofs.ParseLemmas.{is_amount, none_read, no_fault_in}
use Rattle.timefd_parse.proofs.counting.count_bytes.Goals as goal

pub finish-requires : goal.finish-requires
finish-requires c =
    let m = c.in-Ok.ensures.bytes in
    let within : reserve_all (trees m.0) ≤ length c.args.text.now =
    list_within Three c.args.limit 0 c.args.text.now m.0 [] refl m.1 in
    omega (arith, m.2, within)

pub overflow_add-result : goal.overflow_add-result
overflow_add-result c =
    let m = c.in-Ok.ensures.bytes in
    let within : reserve_all (trees m.0) ≤ length c.args.text.now =
    list_within Three c.args.limit 0 c.args.text.now m.0 [] refl m.1 in
    omega (
      arith,
      m.2,
      within,
      c.max_bytes_needed.ensures.reserved,
      ap reserve c.in-Ok-finish.ensures.ok,
      pack_sum (built c.bytes_beside.new.builder),
    )

pub returns-then-len-eq0 : goal.returns-then-len-eq0
returns-then-len-eq0 c =
    let m = c.in-Ok.ensures.bytes in
    let none : built c.bytes_beside.new.builder ≡ [] =
    none_built (built c.bytes_beside.new.builder) []
    (omega (arith, c.len.ensures, c.if-len-eq0.true)) refl in
    is_amount Three c.args.limit c.args.text.now m.0 [] c.in-Ok.bytes m.1
    (omega (arith, m.2, ap (λ ts. reserve_all (trees ts)) none, pack_sum m.0))

pub returns-in-Ok-finish : goal.returns-in-Ok-finish
returns-in-Ok-finish c =
    let m = c.in-Ok.ensures.bytes in
    is_amount Three c.args.limit c.args.text.now m.0 []
    (c.in-Ok.bytes + c.max_bytes_needed.result) m.1
    (omega (
      arith,
      m.2,
      c.max_bytes_needed.ensures.reserved,
      ap reserve c.in-Ok-finish.ensures.ok,
      pack_sum (built c.bytes_beside.new.builder),
      pack_sum m.0,
    ))

pub returns-in-Ok : goal.returns-in-Ok
returns-in-Ok c =
    let m = c.in-Ok.ensures.bytes in
    record {
      read = record {
        found = tt;
        fault = tt;
        spelled = λ list s. tt;
        refused = λ f h. no_fault_in _ _ _ _ _ f m.1 h;
        span = tt;
        empty = λ e. c.in-Err-finish.ensures.empty
            (none_built _ m.0 m.3 (none_read _ _ _ _ _ m.1 e));
      };
      memory = λ lax. absurd (true≢false lax);
    }

pub returns : goal.returns
returns c =
    record {
      read = record {
        found = tt;
        fault = c.error_of.ensures.fault;
        spelled = c.error_of.ensures.spelled;
        refused = c.error_of.ensures.refused;
        span = c.error_of.ensures.span c.in-Err.ensures.span;
        empty = λ e. absurd (omega (arith, c.in-Err.ensures.some, ap length e));
      };
      memory = λ lax. absurd (true≢false lax);
    }
