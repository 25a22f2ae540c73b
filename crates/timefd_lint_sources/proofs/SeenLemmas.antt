-- What is seen in a source, by how its descriptions are found.
use Rattle.std.proofs.Common.{ℕ, ◌≡◌, ◌∙◌, List, ◌++◌, ap, refl, sym, subst}
use denote.Ref.{Bor}
use Rattle.timefd_parse.specs.Tree.{Text}
use Rattle.timefd_lint_scan.specs.declared.keys.format.FileFormat.{FileFormat}
use Rattle.timefd_lint_scan.specs.declared.keys.key.DescriptionKey.{DescriptionKey}
use Rattle.timefd_lint_scan.specs.Keys.Found as keyed
use Rattle.timefd_lint_scan.specs.declared.description.SourceDescription.{SourceDescription}
use Rattle.timefd_lint_scan.specs.declared.look.Look.{Look}
use Rattle.timefd_lint_scan.specs.declared.own_call.OwnCall.{OwnCall}
use Rattle.timefd_lint_scan.specs.DocLooks.{AreDescriptionsOf, IsLook}
use Rattle.timefd_lint_scan.specs.Found.{AllStandIn, AreInOrder}
use Rattle.timefd_lint_scan.proofs.LookLemmas.{all_seen, seen_in_order, seen_stand}
use Rattle.timefd_lint_sources.specs.declared.remark.Remark.{Remark}
use Rattle.timefd_lint_sources.specs.declared.source.Report.{Report}
use Rattle.timefd_lint_sources.specs.declared.reported.ItemEnd.{ItemEnd}
use Rattle.timefd_lint_sources.specs.declared.reported.Finder.TheVariants.{Rust, Keys}
use Rattle.timefd_lint_sources.specs.declared.reported.SourceText.{SourceText}
use Rattle.timefd_lint_sources.specs.declared.reported.Reporting.{Reporting}
use Rattle.timefd_lint_sources.specs.Items.{AreJudgedAs}
use Rattle.timefd_lint_sources.specs.Remarks.{AddsCodes, AreRemarksBy, AreSeenIn, AreValuesSeen, ends_of, messages_of, on_values, remarks_on}
use Rattle.timefd_lint_sources.specs.Reported.{AreJudgedIn, AreRemarksOn, AreSeen, AreSeenFirst, AreReportedAs, IsSourceReported}
use Rattle.timefd_lint_sources.proofs.FinderLemmas.{all_by_keys, all_by_rust, by_keys, by_rust}

pub of_look : (source : Text) (own : List OwnCall) (look : Look) (calls comments : List ℕ) (remarks : List Remark)
    → IsLook source own look
    → calls ≡ look.calls.items → comments ≡ look.comments.items → remarks ≡ remarks_on calls comments
    → AreSeenIn source own look.descriptions.items remarks
of_look source own look calls comments remarks is calls_are comments_are remarked = record {
  look = look;
  is = is;
  same = refl;
  remarked = remarked ∙ (ap (λ l. remarks_on l comments) calls_are ∙ ap (remarks_on look.calls.items) comments_are);
}

pub of_values : (format : FileFormat) (source : Text) (names : List DescriptionKey) (ds : List SourceDescription)
    (unread positions : List ℕ) (remarks : List Remark) → keyed.AreValues format source names ds unread
    → positions ≡ unread → remarks ≡ on_values positions → AreValuesSeen format source names ds remarks
of_values format source names ds unread positions remarks values same remarked =
    record { unread = unread; values = values; remarked = remarked ∙ ap on_values same }

pub of_rust : (s : SourceText) (source : Text) (calls : Bor (List OwnCall)) (ds : List SourceDescription) (remarks : List Remark)
    → s.finder ≡ Rust calls → source ≡ s.text.now → AreSeenIn source calls.now ds remarks → AreSeenFirst s ds remarks
of_rust s source calls ds remarks is same seen =
    let here : AreSeenIn s.text.now calls.now ds remarks =
    subst (λ t. AreSeenIn t calls.now ds remarks) same seen in record {
      all = all_by_rust s calls ds is
          (subst (AreDescriptionsOf s.text.now calls.now) here.same (all_seen s.text.now calls.now here.look here.is));
      stand = by_rust s calls ds is
          (subst (AllStandIn s.text.now) here.same (seen_stand s.text.now calls.now here.look here.is));
      in_order = subst (AreInOrder 0) here.same (seen_in_order s.text.now calls.now here.look here.is);
      remarked = subst (λ f. AreRemarksBy f s.text.now ds remarks) (sym is) here;
    }

pub of_keys : (s : SourceText) (format : FileFormat) (keys : Bor (List DescriptionKey)) (ds : List SourceDescription) (remarks : List Remark)
    → s.finder ≡ Keys format keys → AreValuesSeen format s.text.now keys.now ds remarks
    → keyed.AllValues format s.text.now keys.now ds → AreInOrder 0 ds → AreSeenFirst s ds remarks
of_keys s format keys ds remarks is seen values in_order = record {
  all = all_by_keys s format keys ds is (seen.unread, seen.values);
  stand = by_keys s format keys ds is values;
  in_order = in_order;
  remarked = subst (λ f. AreRemarksBy f s.text.now ds remarks) (sym is) seen;
}

pub with_codes : (s : SourceText) (ds : List SourceDescription) (seen remarks : List Remark) → AreSeenFirst s ds seen
    → AddsCodes s seen remarks → AreSeen s ds remarks
with_codes s ds seen remarks first more = record {
  all = first.all;
  stand = first.stand;
  in_order = first.in_order;
  remarked = (seen, first.remarked, more);
}

-- What is seen, with the descriptions as they are checked.
pub judged_of : (s : SourceText) (found judged : List SourceDescription) (remarks : List Remark) → AreSeen s found remarks
    → AreJudgedAs found judged → AreJudgedIn s judged
judged_of s found judged remarks seen are = record {
  found = found;
  all = seen.all;
  stand = seen.stand;
  in_order = seen.in_order;
  judged = are;
}

pub remarks_of : (s : SourceText) (found : List SourceDescription) (remarks : List Remark) → AreSeen s found remarks
    → AreRemarksOn s remarks
remarks_of s found remarks seen = (found, seen.remarked)

pub source_reported : (reporting : Reporting) (s : SourceText) (found : List SourceDescription) (remarks : List Remark)
    (ends : List ItemEnd) (message : Text) (r : Report) → AreSeen s found remarks
    → AreReportedAs reporting s found ends message → r.ends.items ≡ ends ++ ends_of remarks
    → r.message.items ≡ message ++ messages_of reporting.style s remarks → IsSourceReported reporting s r
source_reported reporting s found remarks ends message r seen reported all_ends all_messages = record {
  found = found;
  remarks = remarks;
  seen = seen;
  descriptions = reported.judged;
  judged = reported.are;
  ends = ends;
  message = message;
  reported = reported.reported;
  all_ends = all_ends;
  all_messages = all_messages;
}
