-- The answer about a text of strftime in which a composite letter is one node.
use Rattle.std.proofs.Common.{◌≡◌, ◌∙◌, List, [], ◌∷◌, ◌++◌, Some, length, map, IsUtf8, refl, sym, ap, arith}
use Rattle.std.proofs.lemmas.List.{length-map}
use Rattle.timefd_lang_component.specs.Tree.{Text, Tree}
use Rattle.timefd_parse.specs.Faults.{Fault}
use Rattle.timefd_language.specs.Grammar.{nesting_limit}
use Rattle.timefd_language.specs.Strftime.{SpellsStrftime}
use Rattle.timefd_language.specs.declared.description_version.Language.TheVariants.{Strftime}
use Rattle.timefd_parse.specs.Language.{FaultIn}
use Rattle.timefd_language.specs.declared.strftime.piece.StrftimePiece.{StrftimePiece}
use Rattle.timefd_language.specs.Directives.PieceMeaning.{piece_tree}
use Rattle.timefd_c_nodes.specs.declared.node.RawNode.{RawNode}
use Rattle.timefd_c_nodes.specs.Encoding.{literals_of, own_text, texts_of}
use Rattle.timefd_c_nodes.specs.declared.reading.report.ReadReport.{ReadReport}
use Rattle.timefd_c_nodes.specs.Reading.Composites.{piece_text}
use Rattle.timefd_c_nodes.specs.Reading.Pieces.{IsReportOfPieces}
use Rattle.timefd_c.specs.declared.answer.TheConstants.{ACCEPTED, REFUSED}
use Rattle.timefd_c.specs.Answers.{Describes}
use Rattle.timefd_c.specs.Composites.{ReadsComposites}
use Rattle.timefd_c.specs.Reading.{report_in}
use Rattle.timefd_c.proofs.AnswerLemmas as answers
use Rattle.timefd_c.proofs.LongestLemmas.{is_longest}
use Rattle.timefd_c.proofs.ReadingLemmas.{silent, reported}
use Rattle.timefd_c_nodes.proofs.ReadingLemmas.RoomLemmas.{items_within}

-- the literals of pieces are those of their trees
piece_texts : (pieces : List StrftimePiece) → texts_of piece_text pieces ≡ literals_of (map piece_tree pieces)
piece_texts [] = refl
piece_texts (p ∷ pieces) = ap (λ l. own_text (piece_tree p) ++ l) (piece_texts pieces)

pub composites_reported : (bytes : Text) (ns ms : List RawNode) (a b : Text) (r : ReadReport) → IsUtf8 bytes
    → ((list : List Tree) × SpellsStrftime bytes list × IsReportOfPieces list ns ms a b r)
    → ((list : List Tree) → SpellsStrftime bytes list → IsReportOfPieces list ns ms a b r)
    → ((f : Fault) → FaultIn Strftime nesting_limit bytes f → ⊥)
    → ReadsComposites bytes ns ms a b (reported r)
composites_reported bytes ns ms a b r utf8 found spelled no_fault =
    let all = found.2.2 in
    let few = items_within bytes found.0 found.1 in
    let count : length found.2.0 ≡ length found.0 =
    sym (length-map found.2.0 piece_tree) ∙ ap length found.2.1 in
    record {
      answers = answers.accepting (Some Strftime) nesting_limit bytes (List Tree)
          (Describes (Some Strftime) bytes)
          (λ list. IsReportOfPieces list ns ms a b (report_in (reported r)))
          (answers.some_not_none Strftime) r.value utf8 found.0 (utf8, found.1)
          (λ list d. spelled list d.1) (λ f h. no_fault f h.1);
      nodes = λ e. omega (arith, all.nodes, all.value, count);
      nodes_within = omega (arith, all.nodes, count, few.nodes);
      literals_within = omega (
        arith,
        all.literals,
        few.literals,
        ap length (piece_texts found.2.0 ∙ ap literals_of found.2.1),
      );
      longest = λ e list d. is_longest Strftime list r.bytes (spelled list d.1).2.bytes;
      nodes_kept = λ accepted refused memory. absurd (accepted refl);
      literals_kept = λ accepted refused memory. absurd (accepted refl);
      none_counted = λ accepted. absurd (accepted refl);
      memory = λ e. omega (arith, e);
    }

pub composites_faulted : (bytes : Text) (ns ms : List RawNode) (a b : Text) (f : Fault) → IsUtf8 bytes
    → FaultIn Strftime nesting_limit bytes f → ((list : List Tree) → SpellsStrftime bytes list → ⊥)
    → ((g : Fault) → FaultIn Strftime nesting_limit bytes g → f ≡ g) → (bytes ≡ [] → ⊥)
    → ReadsComposites bytes ns ms a b (silent REFUSED f.index)
composites_faulted bytes ns ms a b f utf8 has not_spelled one not_empty = record {
  answers = answers.refusing (Some Strftime) nesting_limit bytes (List Tree)
      (Describes (Some Strftime) bytes)
      (λ list. IsReportOfPieces list ns ms a b (report_in (silent REFUSED f.index)))
      (answers.some_not_none Strftime) f (utf8, has) (λ list d. not_spelled list d.1)
      (λ g h. one g h.1) (λ some nil. not_empty nil);
  nodes = λ e. absurd (not_accepted e);
  nodes_within = omega arith;
  literals_within = omega arith;
  longest = λ e. absurd (not_accepted e);
  nodes_kept = λ accepted refused. absurd (refused refl);
  literals_kept = λ accepted refused. absurd (refused refl);
  none_counted = λ accepted. (refl, refl, refl, refl);
  memory = λ e. omega (arith, e);
}
  where
    not_accepted : REFUSED ≡ ACCEPTED → ⊥
    not_accepted e = omega (arith, e)
