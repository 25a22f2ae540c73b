-- What is reported of a text.
use Rattle.std.proofs.Common.{◌≡◌, ℕ, ◌^◌, ◌<◌, ◌≤◌, ◌↔◌, Bool, IsFalse, IsTrue, Ok, Err, List, length, refl, sym, ap, subst, arith}
use Rattle.std.proofs.lemmas.Bool.{true≢false}
use Rattle.timefd_lang_fault.specs.declared.borrowed_parse_error.BorrowedParseError.{BorrowedParseError}
use Rattle.timefd_lang_fault.specs.BorrowedFaults.{IsBorrowed, IsBorrowedOf, IsMemory}
use Rattle.timefd_lang_component.specs.Reserved.{reserve, reserve_all}
use Rattle.timefd_lang_component.specs.Tree.{Text, Tree, pack, trees}
use Rattle.timefd_lang_fault.specs.Faults.{Fault}
use Rattle.timefd_language.specs.Bytes.{is_version_three}
use Rattle.timefd_language.specs.declared.description_version.DescriptionVersion.{DescriptionVersion}
use Rattle.timefd_language.specs.declared.description_version.DescriptionVersion.TheVariants.{One, Two, Three}
use Rattle.timefd_lang_node_list.specs.Nodes.{kept_bytes}
use Rattle.timefd_lang_node_list.specs.Views.{walked, walked_all}
use Rattle.timefd_language.specs.declared.description_version.Language.{Language}
use Rattle.timefd_language.specs.declared.description_version.Language.TheVariants.{Version, Strftime}
use Rattle.timefd_parse.specs.Language.{FaultIn, SpellsIn}
use Rattle.timefd_parse.proofs.ParseLemmas.{one}
use Rattle.timefd_language.proofs.DirectiveLemmas.DirectiveLemmas.{one as strftime_one}
use Rattle.timefd_c_nodes.specs.declared.node.RawNode.{RawNode}
use Rattle.timefd_c_nodes.specs.declared.position.WritePosition.{WritePosition}
use Rattle.timefd_c_nodes.specs.declared.position.Written.{Written}
use Rattle.timefd_c_nodes.specs.declared.position.TheConstants.{START}
use Rattle.timefd_c_nodes.specs.Encoding.{node_for, own_text, texts_of}
use Rattle.timefd_c_nodes.specs.Writing.{IsWritten, WritesParts, WritesWithin}
use Rattle.timefd_c_nodes.proofs.WriteLemmas.{fronts}
use Rattle.timefd_c_nodes.specs.declared.reading.progress.ReadProgress.{ReadProgress}
use Rattle.timefd_c_nodes.specs.declared.reading.report.ReadReport.{ReadReport}
use Rattle.timefd_c_nodes.specs.Reading.Progress.{HasWritten}
use Rattle.timefd_c_nodes.specs.Reading.Reports.{IsRead, IsReadAs, IsReport, Reports, ReportsParts}

abbrev pub report : ℕ → ℕ → WritePosition → Bool → ReadReport
report value bytes end written = record {
  value = value;
  bytes = bytes;
  nodes = end.nodes;
  literals =
      end.literals;
  written = written;
}

-- there is room for everything before a position
abbrev pub Fit : WritePosition → List RawNode → Text → Type 0
Fit end ns a = (end.nodes ≤ length ns) × (end.literals ≤ length a)

-- what was written as far as there was room is reported
pub reports_parts : {A : Type 0} → (node : ℕ → ℕ → A → RawNode) (own : A → Text) (all : List A)
    (counted greatest value bytes : ℕ) (end : WritePosition) (ns ms : List RawNode) (a b : Text) (t : Bool)
    (r : ReadReport) → WritesParts node own all START end ns ms a b
    → (IsTrue t ↔ Fit end ms b) → value ≡ counted → bytes ≡ greatest → r ≡ report value bytes end t
    → ReportsParts node own all counted greatest ns ms a b r
reports_parts node own all counted greatest value bytes end ns ms a b t r w fits counts reserves is =
    subst (ReportsParts node own all counted greatest ns ms a b) (sym is) (record {
      value = counts;
      bytes = reserves;
      nodes = omega (arith, w.node_at);
      literals = omega (arith, w.literal_at);
      room = (
        roomy,
        λ h. fits.1 (
          omega (arith, h.0, w.node_at, w.node_room),
          omega (arith, h.1, w.literal_at, w.literal_room),
        ),
      );
      nodes_written = λ h. (fronts node own all end ns ms a b (roomy h).0 (roomy h).1 w).nodes;
      literals_written = λ h. (fronts node own all end ns ms a b (roomy h).0 (roomy h).1 w).literals;
    })
  where
    roomy : IsTrue t → (length all ≤ length ns) × (length (texts_of own all) ≤ length a)
    roomy h = (
      omega (arith, (fits.0 h).0, w.node_at, w.node_room),
      omega (arith, (fits.0 h).1, w.literal_at, w.literal_room),
    )

pub reports_within : (ts : List Tree) (counted greatest value bytes : ℕ) (end : WritePosition)
    (ns ms : List RawNode) (a b : Text) (t : Bool) (r : ReadReport) → WritesWithin ts START end ns ms a b
    → (IsTrue t ↔ Fit end ms b) → value ≡ counted → bytes ≡ greatest → r ≡ report value bytes end t
    → Reports ts counted greatest ns ms a b r
reports_within ts counted greatest value bytes end ns ms a b t r w fits counts reserves is =
    reports_parts node_for own_text ts counted greatest value bytes end ns ms a b t r w fits counts
    reserves is

-- Items, one after another.

pub items_report : (list : List Tree) (p : ReadProgress) (ns ms : List RawNode) (a b : Text) (t : Bool)
    (r : ReadReport) → HasWritten list ns ms a b p → (IsTrue t ↔ Fit p.end ms b)
    → r ≡ report p.count p.bytes p.end t
    → Reports (walked_all (trees list)) (length list) (kept_bytes (reserve_all (trees list))) ns ms
    a b r
items_report list p ns ms a b t r all fits is =
    reports_within (walked_all (trees list)) (length list) (kept_bytes (reserve_all (trees list)))
    p.count p.bytes p.end ns ms a b t r all.within fits all.count all.bytes is

pub lax_report : (v : DescriptionVersion) (list : List Tree) (ns ms : List RawNode) (a b : Text)
    (r : ReadReport) → IsFalse (is_version_three v)
    → Reports (walked_all (trees list)) (length list) (kept_bytes (reserve_all (trees list))) ns ms
    a b r → IsReport (Version v) list ns ms a b r
lax_report One list ns ms a b r lax is = is
lax_report Two list ns ms a b r lax is = is
lax_report Three list ns ms a b r lax is = absurd (true≢false lax)

-- Everything as one tree, whose bytes a `usize` counts.
pub whole_report : (list : List Tree) (w : Written) (ns ms : List RawNode) (a b : Text) (t : Bool)
    (r : ReadReport) → IsWritten (walked (pack list)) (reserve (pack list)) START ns ms a b w
    → reserve (pack list) < 2 ^ 64 → (IsTrue t ↔ Fit w.end ms b)
    → r ≡ report w.bytes w.bytes w.end t → IsReport (Version Three) list ns ms a b r
whole_report list w ns ms a b t r is small fits e =
    let exact : w.bytes ≡ reserve (pack list) = omega (arith, is.bytes, small) in
    reports_within (walked (pack list)) (reserve (pack list)) (reserve (pack list)) w.bytes w.bytes
    w.end ns ms a b t r is.within fits exact exact e

-- The report on a tree is one on an equal tree.
pub tree_report : (t u : Tree) (ns ms : List RawNode) (a b : Text) (r : ReadReport) → t ≡ u
    → Reports (walked t) (reserve t) (reserve t) ns ms a b r
    → Reports (walked u) (reserve u) (reserve u) ns ms a b r
tree_report t u ns ms a b r is reports =
    subst (λ x. Reports (walked x) (reserve x) (reserve x) ns ms a b r) is reports

-- What was read.

pub read_as : (language : Language) (limit : ℕ) (text : Text) (list : List Tree)
    (IsReported : List Tree → ReadReport → Type 0) (r : ReadReport) → SpellsIn language limit text list
    → IsReported list r → IsReadAs language limit text IsReported (Ok r)
read_as (Version v) limit text list IsReported r spells is = record {
  found = (list, spells, is);
  fault = tt;
  spelled = λ other s.
      subst (λ l. IsReported l r) ((one v limit text).one_list list other spells s) is;
  refused = λ f h. (one v limit text).not_both list f spells h;
  empty = λ e. refl;
}
read_as Strftime limit text list IsReported r spells is = record {
  found = (list, spells, is);
  fault = tt;
  spelled = λ other s.
      subst (λ l. IsReported l r) ((strftime_one text).one_list list other spells s) is;
  refused = λ f h. (strftime_one text).not_both list f spells h;
  empty = λ e. refl;
}

pub accepted : (language : Language) (limit : ℕ) (text : Text) (list : List Tree)
    (ns ms : List RawNode) (a b : Text) (r : ReadReport) → SpellsIn language limit text list
    → IsReport language list ns ms a b r → IsRead language limit text ns ms a b (Ok r)
accepted language limit text list ns ms a b r spells is =
    read_as language limit text list (λ l x. IsReport language l ns ms a b x) r spells is

pub not_read : (language : Language) (limit : ℕ) (text : Text)
    (IsReported : List Tree → ReadReport → Type 0) (e : BorrowedParseError)
    → IsBorrowedOf (FaultIn language limit text) e
    → ((list : List Tree) → SpellsIn language limit text list → IsMemory e)
    → ((f : Fault) → FaultIn language limit text f → IsBorrowed f e) → 0 < length text
    → IsReadAs language limit text IsReported (Err e)
not_read language limit text IsReported e fault spelled refused some = record {
  found = tt;
  fault = fault;
  spelled = spelled;
  refused = refused;
  empty = λ none. absurd (omega (arith, some, ap length none));
}
