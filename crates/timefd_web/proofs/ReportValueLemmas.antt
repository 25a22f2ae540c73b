-- The objects that report on a text, and on a text that is read, are JSON.
use Rattle.std.proofs.Common.{◌≡◌, ◌≤◌, ℕ, true, List, [], ◌∷◌, ◌++◌, Option, Some, None, codes, decimal, map, refl, ap, ◌∙◌, arith, append_assoc, string_bytes, IsUtf8}
use Rattle.std.specs.declared.alloc.Global.{Global}
use Rattle.std.specs.declared.string.String.{String}
use Rattle.json.specs.Token.{Token, begin_object, end_object, begin_array, number, boolean}
use Rattle.json.specs.Json.{Json, member, no_members}
use Rattle.json.specs.Lex.{Lexeme, token, punctuate, fresh, after_value}
use Rattle.json.specs.Strict.{HasUniqueKeys}
use Rattle.json.specs.Tree.{depth, json_tokens, items_tokens, members_tokens}
use Rattle.json.specs.Value.{items_of}
use Rattle.timefd_parse.specs.Tree.{Text}
use Rattle.timefd_lint_explain.specs.declared.explain.Explanation.{Explanation}
use Rattle.timefd_lint_explain.specs.declared.node.ShownNode.{ShownNode}
use Rattle.timefd_web.specs.JsonLaws.Logs.{All}
use Rattle.timefd_web.specs.JsonLaws.Meaning.{IsJson}
use Rattle.timefd_web.specs.JsonLaws.Objects.{IsNumber64, text_member}
use Rattle.timefd_web.proofs.JsonLawLemmas.Distinct.{distinct_keys, unique_keys}
use Rattle.timefd_web.proofs.JsonLawLemmas.Fields.{text_lexed, number_lexed, strings, numbers, then}
use Rattle.timefd_web.proofs.JsonLawLemmas.Fronts as common
use Rattle.timefd_web.proofs.JsonLawLemmas.Fronts.{first_key, next_key}
use Rattle.timefd_web.proofs.JsonLawLemmas.Means.{means_of, tokens_of}
use Rattle.timefd_web.proofs.JsonLawLemmas.Pieces.{Lexes, closed, no_piece}
use Rattle.timefd_web.proofs.JsonLawLemmas.Results.{IsNext}
use Rattle.timefd_date_moment.specs.Display.{moment_text}
use Rattle.timefd_date_moment.specs.declared.moment.Moment.{Moment}
use Rattle.timefd_date_moment.specs.declared.fields.fault.ReadError.{ReadError}
use Rattle.timefd_date_moment.specs.Reading.Sentences.{sentence}
use Rattle.timefd_date_moment.specs.declared.reading.error.ValueError.{ValueError}
use Rattle.timefd_web.specs.declared.later.Later.{Later}
use Rattle.timefd_web.specs.Objects.{accepted_object, kind_name, node, optional, refusal}
use Rattle.timefd_web.specs.Readings.{component_in, moment_object, no_description, sentence_here, unread_object, value_object}
use Rattle.timefd_web.specs.Records.{listed}
use Rattle.timefd_web.specs.ReportValues.{IsProperNode, IsProperOption, ReportsAreJson, accepted_value, moment_value, node_value, nothing_value, optional_value, refusal_value, unread_value, value_value}
use Rattle.timefd_web.proofs.ArrayLemmas.{IsArray, array_of}
use Rattle.timefd_web.proofs.ReportFronts as front
use Rattle.timefd_web.proofs.ReportFronts.{two_keys}
use Rattle.timefd_web.proofs.ValueFronts.{closing}

-- A node after a comma.

abbrev node_lexemes : ShownNode → List Lexeme
node_lexemes n =
    ((((((first_key (codes "depth") ++ numbers n.depth) ++ (next_key (codes "start") ++ numbers n.start))
    ++ (next_key (codes "end") ++ numbers n.end)) ++ (next_key (codes "bytes") ++ numbers n.bytes))
    ++ (next_key (codes "kind") ++ strings (kind_name n.kind)))
    ++ (next_key (codes "words") ++ strings (string_bytes n.words)))
    ++ (next_key (codes "example") ++ strings (string_bytes n.example)) ++ token end_object ∷ []

node_next : (n : ShownNode) → IsProperNode n → IsNext (node n) (node_value n)
unfolding punctuate
node_next n (d, a, b, r, k, w, e) = record {
  ls = node_lexemes n;
  lexed =
      then (then (then (then (then (then (then (number_lexed _ n.depth _ front.depth_front d)
      (number_lexed _ n.start _ common.start_front a)) (number_lexed _ n.end _ common.end_front b))
      (number_lexed _ n.bytes _ front.bytes_front r)) (text_lexed _ (kind_name n.kind) _ front.kind_front k))
      (text_lexed _ (string_bytes n.words) _ front.words_front w))
      (text_lexed _ (string_bytes n.example) _ front.example_front e)) closing;
  open_end = λ rest. refl;
  first = λ more. refl;
  next = λ more. refl;
  shallow = omega arith;
  distinct = unique_keys (node_value n) refl;
}

-- Texts that may be null.

abbrev optional_lexemes : Text → Option (String Global) → List Lexeme
optional_lexemes key None = next_key key ++ token Token.null ∷ []
optional_lexemes key (Some text) = next_key key ++ strings (string_bytes text)

written_lexed : (o : Option (String Global)) → IsProperOption o
    → Lexes (codes ",\"written\":" ++ optional o) (optional_lexemes (codes "written") o)
written_lexed None is = front.written_null
written_lexed (Some text) is = text_lexed _ (string_bytes text) _ front.written_front is

two_lexed : (o : Option (String Global)) → IsProperOption o
    → Lexes (codes ",\"version_2\":" ++ optional o) (optional_lexemes (codes "version_2") o)
two_lexed None is = front.two_null
two_lexed (Some text) is = text_lexed _ (string_bytes text) _ front.two_front is

optional_flat : (o : Option (String Global)) → depth (optional_value o) ≤ 0
optional_flat None = omega arith
optional_flat (Some text) = omega arith

optional_distinct : (o : Option (String Global)) → HasUniqueKeys (optional_value o)
optional_distinct None = tt
optional_distinct (Some text) = tt

-- What comes after the nodes.

abbrev last_text : Text → List Lexeme
last_text three = next_key (codes "version_3") ++ strings three

abbrev ends : List Lexeme
ends = token end_object ∷ []

abbrev after_nodes : Option (String Global) → Option (String Global) → Text → List Lexeme
after_nodes w v three =
    optional_lexemes (codes "written") w
    ++ (optional_lexemes (codes "version_2") v ++ (last_text three ++ (ends ++ [])))

after_tokens : (w v : Option (String Global)) (three : Text)
    → punctuate after_value (after_nodes w v three)
    ≡ members_tokens (member (codes "written") (optional_value w)
    (member (codes "version_2") (optional_value v) (text_member (codes "version_3") three no_members)))
unfolding punctuate
after_tokens None None three = refl
after_tokens None (Some b) three = refl
after_tokens (Some a) None three = refl
after_tokens (Some a) (Some b) three = refl

module _ (text : Text) (js : List Json) (x : IsArray text js) (bytes : ℕ)
    (w v : Option (String Global)) (three : Text) where
  abbrev accepted_lexemes : List Lexeme
  accepted_lexemes =
      [] ++ (two_keys (codes "accepted") true (codes "bytes") ++ numbers bytes)
      ++ (next_key (codes "nodes") ++ token begin_array ∷ x.ls)
      ++ optional_lexemes (codes "written") w ++ optional_lexemes (codes "version_2") v
      ++ last_text three ++ ends

  abbrev accepted_front : List Token
  accepted_front =
      begin_object ∷ Token.key (codes "accepted") ∷ boolean true ∷ Token.key (codes "bytes")
      ∷ number (decimal bytes) ∷ Token.key (codes "nodes") ∷ begin_array ∷ []

  abbrev w_ls : List Lexeme
  w_ls = optional_lexemes (codes "written") w

  abbrev v_ls : List Lexeme
  v_ls = optional_lexemes (codes "version_2") v

  apart : ((((x.ls ++ w_ls) ++ v_ls) ++ last_text three) ++ ends) ++ [] ≡ x.ls ++ after_nodes w v three
  apart =
      append_assoc (((x.ls ++ w_ls) ++ v_ls) ++ last_text three) ends []
      ∙ append_assoc ((x.ls ++ w_ls) ++ v_ls) (last_text three) (ends ++ [])
      ∙ append_assoc (x.ls ++ w_ls) v_ls (last_text three ++ (ends ++ []))
      ∙ append_assoc x.ls w_ls (v_ls ++ (last_text three ++ (ends ++ [])))

  accepted_tokens : punctuate fresh (accepted_lexemes ++ []) ≡ json_tokens (accepted_value bytes js w v three)
  unfolding punctuate
  accepted_tokens =
      ap (λ t. accepted_front ++ t) (ap (punctuate fresh) apart ∙ x.tokens (after_nodes w v three)
      ∙ ap (λ t. items_tokens (items_of js) ++ t) (after_tokens w v three))

accepted_json : (e : Explanation) (w : Option (String Global)) (l : Later) → IsNumber64 e.bytes
    → All IsProperNode e.nodes.items → IsProperOption w → IsProperOption l.version_2
    → IsUtf8 (string_bytes l.version_3)
    → IsJson (accepted_object e w l)
    (accepted_value e.bytes (map node_value e.nodes.items) w l.version_2 (string_bytes l.version_3))
accepted_json e w l small are on_w on_v on_three =
    let three = string_bytes l.version_3 in
    let x = array_of node node_value IsProperNode node_next e.nodes.items are in
    let lexed : Lexes (accepted_object e w l) (accepted_lexemes (listed node e.nodes.items) (map node_value e.nodes.items) x e.bytes w l.version_2 three) =
    then (then (then (then (then (then no_piece (number_lexed _ e.bytes _ front.reserved_front small))
    (then (closed _ _ front.nodes_front) x.lexed)) (written_lexed w on_w)) (two_lexed l.version_2 on_v))
    (text_lexed _ three _ front.version_front on_three)) closing in
    record {
      utf8 = lexed.utf8;
      means = means_of _ _
          (tokens_of _ _ lexed ∙ accepted_tokens _ _ x e.bytes w l.version_2 three)
          (omega (arith, x.shallow, optional_flat w, optional_flat l.version_2));
      distinct = (
        distinct_keys (codes "accepted" ∷ codes "bytes" ∷ codes "nodes" ∷ codes "written" ∷ codes "version_2" ∷ codes "version_3" ∷ []) refl,
        (tt, (tt, (x.distinct, (optional_distinct w, (optional_distinct l.version_2, (tt, tt)))))),
      );
    }

refused_json : (code message help nearest : Text) (start end : ℕ) → IsUtf8 code → IsUtf8 message
    → IsUtf8 help → IsUtf8 nearest → IsNumber64 start → IsNumber64 end
    → IsJson (refusal code message help nearest start end) (refusal_value code message help nearest start end)
unfolding punctuate
refused_json code message help nearest start end c m h n s e =
    let lexed = then (then (then (then (then (then (then no_piece (text_lexed _ code _ front.code_front c))
    (text_lexed _ message _ common.message_front m)) (text_lexed _ help _ common.help_front h))
    (text_lexed _ nearest _ front.nearest_front n)) (number_lexed _ start _ common.start_front s))
    (number_lexed _ end _ common.end_front e)) closing in
    record {
      utf8 = lexed.utf8;
      means = means_of _ (refusal_value code message help nearest start end) (tokens_of _ _ lexed ∙ refl) (omega arith);
      distinct = unique_keys (refusal_value code message help nearest start end) refl;
    }

moment_json : (m : Moment) → IsUtf8 (moment_text m) → IsJson (moment_object m) (moment_value m)
unfolding punctuate
moment_json m utf8 =
    let lexed = then (then no_piece (text_lexed _ (moment_text m) _ front.moment_front utf8)) closing in
    record {
      utf8 = lexed.utf8;
      means = means_of _ (moment_value m) (tokens_of _ _ lexed ∙ refl) (omega arith);
      distinct = unique_keys (moment_value m) refl;
    }

unread_json : (u : ReadError) → IsUtf8 (sentence_here u.reason) → IsUtf8 (component_in u.reason)
    → IsNumber64 u.index → IsJson (unread_object u) (unread_value u)
unfolding punctuate
unread_json u s c i =
    let lexed = then (then (then (then no_piece (text_lexed _ (sentence_here u.reason) _ front.unread_front s))
    (text_lexed _ (component_in u.reason) _ front.component_front c))
    (number_lexed _ u.index _ common.start_front i)) closing in
    record {
      utf8 = lexed.utf8;
      means = means_of _ (unread_value u) (tokens_of _ _ lexed ∙ refl) (omega arith);
      distinct = unique_keys (unread_value u) refl;
    }

value_json : (v : ValueError) → IsUtf8 (sentence v) → IsJson (value_object v) (value_value v)
unfolding punctuate
value_json v s =
    let lexed = then (then no_piece (text_lexed _ (sentence v) _ front.unread_front s)) closing in
    record {
      utf8 = lexed.utf8;
      means = means_of _ (value_value v) (tokens_of _ _ lexed ∙ refl) (omega arith);
      distinct = unique_keys (value_value v) refl;
    }

nothing_json : IsJson no_description nothing_value
unfolding punctuate
nothing_json =
    let lexed = then no_piece front.nothing_piece in
    record {
      utf8 = lexed.utf8;
      means = means_of _ nothing_value (tokens_of _ _ lexed ∙ refl) (omega arith);
      distinct = unique_keys nothing_value refl;
    }

pub reports_are_json : ReportsAreJson
reports_are_json = record {
  accepted = accepted_json;
  refused = refused_json;
  moment = moment_json;
  unread = unread_json;
  value = value_json;
  no_description = nothing_json;
}
