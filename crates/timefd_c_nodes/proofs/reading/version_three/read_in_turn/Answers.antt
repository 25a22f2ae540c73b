use Rattle.std.proofs.Common.{◌≤◌, [], length, refl, ap, arith}
use Rattle.timefd_lang_component.specs.Reserved.{reserve_all}
use Rattle.timefd_lang_component.specs.Tree.{trees}
use Rattle.timefd_language.specs.declared.description_version.DescriptionVersion.TheVariants.{Three}
use Rattle.timefd_lang_node_list.specs.Views.{walked_all}
use Rattle.timefd_language.specs.declared.description_version.Language.TheVariants.{Version}
use Rattle.timefd_parse.proofs.BuildingLemmas.{list_within}
use Rattle.timefd_parse.proofs.CountingLemmas.{pack_sum}
use Rattle.timefd_parse.proofs.ParseLemmas.{items_spelled, no_fault_in, none_read}
use Rattle.timefd_c_nodes.proofs.ReadingLemmas.ReportLemmas.{accepted, not_read, whole_report}
use Rattle.timefd_c_nodes.proofs.reading.version_three.read_in_turn.Goals as goal

pub returns-in-Some : goal.returns-in-Some
returns-in-Some c =
    let m = c.in-Ok.ensures.pieces in
    let within : reserve_all (trees m.0) ≤ length c.args.text.now =
    list_within Three c.args.limit 0 c.args.text.now m.0 [] refl m.1 in
    accepted (Version Three) c.args.limit c.args.text.now m.0 _ _ _ _ c.report_of.result
    (items_spelled _ _ _ _ _ m.1)
    (whole_report m.0 c.in-Some.whole _ _ _ _ c.has_room.result c.report_of.result
    (c.in-Some.ensures.some m.0 _ _ _ m.2)
    (omega (arith, within, pack_sum m.0, c.type_inv.text)) c.has_room.ensures c.report_of.ensures)

pub returns-in-None : goal.returns-in-None
returns-in-None c =
    let m = c.in-Ok.ensures.pieces in
    record {
      found = tt;
      fault = tt;
      spelled = λ list s. tt;
      refused = λ f h. absurd (no_fault_in _ _ _ _ _ f m.1 h);
      empty = λ e. absurd (omega (
        arith,
        c.in-None.ensures.none refl,
        m.2.within.node_at,
        ap (λ ts. length (walked_all (trees ts))) (none_read _ _ _ _ _ m.1 e),
      ));
    }

pub returns-in-Err : goal.returns-in-Err
returns-in-Err c =
    not_read (Version Three) c.args.limit c.args.text.now _ c.error_of.result c.error_of.ensures.fault
    c.error_of.ensures.spelled c.error_of.ensures.refused c.in-Err.ensures.some
