-- The answer about a text that was read as nodes, and about one that has a fault.
use Rattle.std.proofs.Common.{◌∙◌, ◌++◌, ◌∷◌, [], IsTrue, take, drop, sym, ℕ, ◌≡◌, ◌+◌, ◌≤◌, length, List, Option, Some, IsUtf8, false, refl, ap, arith}
use Rattle.std.proofs.Math.Seq.{take-append_seam}
use Rattle.timefd_lang_component.specs.Tree.{Text, Tree, pack}
use Rattle.timefd_language.proofs.ModernPieces.{pack_modern, modernity_law, strftime_modernity_law}
use Rattle.timefd_c_nodes.specs.Decoding.{read_nodes}
use Rattle.timefd_c_nodes.specs.Encoding.{nodes_from, literals_of, own_text}
use Rattle.timefd_c_nodes.proofs.DecodeLemmas.{trees_back, tree_back}
use Rattle.timefd_parse.specs.Faults.{Fault}
use Rattle.timefd_language.specs.declared.description_version.Language.{Language}
use Rattle.timefd_parse.specs.Language.{SpellsIn, FaultIn}
use Rattle.timefd_c_nodes.specs.declared.node.RawNode.{RawNode}
use Rattle.timefd_c.specs.declared.answer.TheConstants.{ACCEPTED, REFUSED}
use Rattle.timefd_c.specs.declared.answer.ReadAnswer.{ReadAnswer}
use Rattle.timefd_c_nodes.specs.declared.reading.report.ReadReport.{ReadReport}
use Rattle.timefd_language.specs.declared.description_version.DescriptionVersion.TheVariants.{One, Two, Three}
use Rattle.timefd_language.specs.declared.description_version.Language.TheVariants.{Version, Strftime}
use Rattle.timefd_language.proofs.Reserved.{reserves_within_law}
use Rattle.timefd_c_nodes.proofs.TreeLemmas.{walked_length}
use Rattle.timefd_c.proofs.LongestLemmas.{is_longest, three_reserved}
use Rattle.timefd_c.proofs.RoomLemmas.{nodes_within, literals_within}
use Rattle.timefd_c.specs.Answers.{DescribesWithin}
use Rattle.timefd_c_nodes.specs.Reading.Reports.{IsReport, parts, tops}
use Rattle.timefd_c.specs.Reading.{Reads, Gives}
use Rattle.timefd_c.proofs.AnswerLemmas as answers

abbrev pub reported : ReadReport → ReadAnswer
reported r = record {
  status = ACCEPTED;
  value = r.value;
  nodes = r.nodes;
  literals =
      r.literals;
  written = r.written;
  bytes = r.bytes;
}

abbrev pub silent : ℕ → ℕ → ReadAnswer
silent status value = record {
  status = status;
  value = value;
  nodes = 0;
  literals = 0;
  written =
      false;
  bytes = 0;
}

-- a text of version 3 has at most one node more than bytes
three_within : (language : Language) (limit : ℕ) (bytes : Text) (list : List Tree) (nodes : ℕ)
    → SpellsIn language limit bytes list
    → ◌≡◌ {A = Option Language} (Some language) (Some (Version Three))
    → nodes ≡ length (parts language list) → nodes ≤ length bytes + 1
three_within (Version One) limit bytes list nodes spelled three is = absurd cc
three_within (Version Two) limit bytes list nodes spelled three is = absurd cc
three_within (Version Three) limit bytes list nodes spelled three is =
    omega (
      arith,
      is,
      (reserves_within_law limit 0 bytes list spelled).1,
      walked_length (pack list),
    )
three_within Strftime limit bytes list nodes spelled three is = absurd cc

nodes_length : (ts : List Tree) (at used : ℕ) → length (nodes_from at used ts) ≡ length ts
nodes_length [] at used = refl
nodes_length (t ∷ ts) at used = omega (arith, nodes_length ts (at + 1) (used + length (own_text t)))

parts_back : (language : Language) (limit : ℕ) (bytes : Text) (list : List Tree)
    → SpellsIn language limit bytes list
    → read_nodes (literals_of (parts language list)) (nodes_from 0 0 (parts language list)) ≡ Some
    (tops language list)
parts_back (Version One) limit bytes list spelled =
    trees_back list (modernity_law One limit 0 bytes list spelled)
parts_back (Version Two) limit bytes list spelled =
    trees_back list (modernity_law Two limit 0 bytes list spelled)
parts_back (Version Three) limit bytes list spelled =
    tree_back (pack list) (pack_modern list
    (modernity_law Three limit 0 bytes list spelled))
parts_back Strftime limit bytes list spelled = trees_back list (strftime_modernity_law bytes list spelled)

-- the fronts of the buffers are what was written
fronts_back : (ts : List Tree) (ns ms : List RawNode) (a b : Text) (nodes literals : ℕ)
    → nodes ≡ length ts → literals ≡ length (literals_of ts)
    → ms ≡ nodes_from 0 0 ts ++ drop (length ts) ns
    → b ≡ literals_of ts ++ drop (length (literals_of ts)) a
    → read_nodes (take literals b) (take nodes ms) ≡ read_nodes (literals_of ts) (nodes_from 0 0 ts)
fronts_back ts ns ms a b nodes literals n l m k =
    ap (λ x. read_nodes x (take nodes ms)) (ap (λ i. take i b) l ∙
    ap (λ x. take (length (literals_of ts)) x) k ∙
    take-append_seam (literals_of ts) (drop (length (literals_of ts)) a))
    ∙ ap (λ x. read_nodes (literals_of ts) x) (ap (λ i. take i ms) (n ∙ sym (nodes_length ts 0 0)) ∙
    ap (λ x. take (length (nodes_from 0 0 ts)) x) m ∙
    take-append_seam (nodes_from 0 0 ts) (drop (length ts) ns))

read_back_of : (language : Language) (limit : ℕ) (bytes : Text) (list : List Tree)
    (ns ms : List RawNode) (a b : Text) (r : ReadReport) → SpellsIn language limit bytes list
    → IsReport language list ns ms a b r → IsTrue r.written
    → read_nodes (take r.literals b) (take r.nodes ms) ≡ Some (tops language list)
read_back_of language limit bytes list ns ms a b r spelled report written =
    fronts_back (parts language list) ns ms a b r.nodes r.literals report.nodes report.literals
    (report.nodes_written written) (report.literals_written written)
    ∙ parts_back language limit bytes list spelled

pub nodes_reported : (language : Language) (limit : ℕ) (bytes : Text) (ns ms : List RawNode) (a b : Text)
    (r : ReadReport) → IsUtf8 bytes
    → ((list : List Tree) × SpellsIn language limit bytes list
    × IsReport language list ns ms a b r)
    → ((list : List Tree) → SpellsIn language limit bytes list
    → IsReport language list ns ms a b r)
    → ((f : Fault) → FaultIn language limit bytes f → ⊥)
    → Reads (Some language) limit bytes ns ms a b (reported r)
nodes_reported language limit bytes ns ms a b r utf8 found spelled no_fault = record {
  answers = answers.accepting (Some language) limit bytes (List Tree)
      (DescribesWithin (Some language) limit bytes)
      (λ list. Gives (Some language) list ns ms a b (reported r)) (answers.some_not_none language)
      r.value utf8 found.0 (utf8, found.1) (λ list d. spelled list d.1)
      (λ f h. no_fault f h.1);
  read = λ e written list d. read_back_of language limit bytes list ns ms a b r d.1
      (spelled list d.1) written;
  within = λ e three. three_within language limit bytes found.0 r.nodes found.1 three
      found.2.nodes;
  nodes_within = nodes_within language limit bytes found.0 r.nodes found.1 found.2.nodes;
  literals_within = literals_within language limit bytes found.0 r.literals found.1
      found.2.literals;
  longest = λ e list d. is_longest language list r.bytes (spelled list d.1).bytes;
  reserved = λ e three. three_reserved language found.0 r.bytes r.value three found.2.bytes
      found.2.value;
  nodes_kept = λ accepted refused memory. absurd (accepted refl);
  literals_kept = λ accepted refused memory. absurd (accepted refl);
  none_counted = λ accepted. absurd (accepted refl);
  memory = λ l is none e. omega (arith, e);
}

-- a text with a fault; the answer has the status and the index
pub faulted : (language : Language) (limit : ℕ) (bytes : Text) (ns ms : List RawNode) (a b : Text)
    (f : Fault) → IsUtf8 bytes → FaultIn language limit bytes f
    → ((list : List Tree) → SpellsIn language limit bytes list → ⊥)
    → ((g : Fault) → FaultIn language limit bytes g → f ≡ g) → (bytes ≡ [] → ⊥)
    → Reads (Some language) limit bytes ns ms a b (silent REFUSED f.index)
faulted language limit bytes ns ms a b f utf8 has not_spelled one not_empty = record {
  answers = answers.refusing (Some language) limit bytes (List Tree)
      (DescribesWithin (Some language) limit bytes)
      (λ list. Gives (Some language) list ns ms a b (silent REFUSED f.index))
      (answers.some_not_none language) f (utf8, has) (λ list d. not_spelled list d.1)
      (λ g h. one g h.1) (λ some nil. not_empty nil);
  read = λ e. absurd (not_accepted e);
  within = λ e. absurd (not_accepted e);
  nodes_within = omega arith;
  literals_within = omega arith;
  longest = λ e. absurd (not_accepted e);
  reserved = λ e. absurd (not_accepted e);
  nodes_kept = λ accepted refused. absurd (refused refl);
  literals_kept = λ accepted refused. absurd (refused refl);
  none_counted = λ accepted. (refl, refl, refl, refl);
  memory = λ l is none e. omega (arith, e);
}
  where
    not_accepted : REFUSED ≡ ACCEPTED → ⊥
    not_accepted e = omega (arith, e)
