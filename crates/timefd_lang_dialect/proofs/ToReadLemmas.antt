-- What reads the texts of a format, so far and as a whole; and that there is at most one answer.
use Rattle.std.proofs.Common.{ℕ, ◌≡◌, ◌≤◌, ◌+◌, List, [], ◌∷◌, ◌++◌, append-nil, append_assoc, length, Result, Ok, Err, refl, sym, ap, ◌∙◌, subst, arith, string_bytes}
use Rattle.std.specs.Prelude.{IfOk, MatchResult}
use Rattle.std.specs.Result.{IfErr}
use Rattle.timefd_lang_component.specs.Tree.{Text}
use Rattle.timefd_lang_dialect.specs.declared.dialect.Dialect.{Dialect}
use Rattle.timefd_lang_dialect.specs.declared.error.DialectError.{DialectError}
use Rattle.timefd_lang_dialect.specs.declared.error.DialectError.TheVariants.{Refused, Memory}
use Rattle.timefd_lang_dialect.specs.declared.front.FrontStep.{FrontStep}
use Rattle.timefd_lang_dialect.specs.declared.limits.Limits.{Limits}
use Rattle.timefd_lang_dialect.specs.declared.reading.Converted.{Converted}
use Rattle.timefd_lang_dialect.specs.declared.reason.Reason.{Reason}
use Rattle.timefd_lang_dialect.specs.Answers.{IsMemory, IsRefusal}
use Rattle.timefd_lang_dialect.specs.Limits.{all_limits, narrowed, limits_from}
use Rattle.timefd_lang_dialect.specs.Reading.{Piece, ended, piece, refused_for, text_of}
use Rattle.timefd_lang_dialect.specs.Steps.{Takes}
use Rattle.timefd_lang_dialect.specs.ToRead.{front_to_read, LeadsToRead, ReadsBy, UnreadAt, IsToRead, IsUnreadFor}

-- for reading, pieces lead from the format to the rest, with their text and their limits
pub record HasToRead (dialect : Dialect) (format rest text : Text) (limits : Limits) : Type 0 where
  pub pieces : List Piece
  pub leads : LeadsToRead dialect format pieces rest
  pub written : text ≡ text_of pieces
  pub within : limits ≡ limits_from all_limits pieces
  pub left : length rest ≤ length format

-- One more piece.

leads_more : (dialect : Dialect) (text : Text) (ps : List Piece) (p : Piece) (rest after : Text)
    → LeadsToRead dialect text ps rest → front_to_read dialect rest ≡ piece p after
    → LeadsToRead dialect text (ps ++ p ∷ []) after
leads_more dialect text [] p rest after leads is =
    (after, ap (front_to_read dialect) leads ∙ is, refl)
leads_more dialect text (q ∷ ps) p rest after leads is =
    (leads.0, leads.1, leads_more dialect leads.0 ps p rest after leads.2 is)

text_of_more : (ps : List Piece) (p : Piece) → text_of (ps ++ p ∷ []) ≡ text_of ps ++ p.text
text_of_more [] p = append-nil p.text
text_of_more (q ∷ ps) p =
    ap (λ x. q.text ++ x) (text_of_more ps p) ∙ sym (append_assoc q.text (text_of ps) p.text)

limits_more : (limits : Limits) (ps : List Piece) (p : Piece)
    → limits_from limits (ps ++ p ∷ []) ≡ narrowed p.range (limits_from limits ps)
limits_more limits [] p = refl
limits_more limits (q ∷ ps) p = limits_more (narrowed q.range limits) ps p

pub nothing_to_read : (dialect : Dialect) (format : Text)
    → HasToRead dialect format format [] all_limits
nothing_to_read dialect format =
    record { pieces = []; leads = refl; written = refl; within = refl; left = omega arith }

pub to_read_more : (dialect : Dialect) (format rest text next : Text) (limits : Limits)
    (step : FrontStep) → HasToRead dialect format rest text limits
    → Takes (front_to_read dialect rest) rest text next step
    → HasToRead dialect format step.rest.now next (narrowed step.range limits)
to_read_more dialect format rest text next limits step so_far one = record {
  pieces = so_far.pieces ++ one.taken ∷ [];
  leads =
      leads_more dialect format so_far.pieces one.taken rest step.rest.now so_far.leads one.is;
  written =
      one.appended ∙ ap (λ x. x ++ one.taken.text) so_far.written
      ∙ sym (text_of_more so_far.pieces one.taken);
  within =
      ap (λ r. narrowed r limits) (sym one.range)
      ∙ ap (narrowed one.taken.range) so_far.within
      ∙ sym (limits_more all_limits so_far.pieces one.taken);
  left = omega (arith, so_far.left, one.left.shorter);
}

-- There is at most one answer.

-- the front is no piece
abbrev IsStopped : Dialect → Text → Type 0
IsStopped dialect text = (p : Piece) (rest : Text) → ¬ (front_to_read dialect text ≡ piece p rest)

end_stops : (dialect : Dialect) → IsStopped dialect []
end_stops dialect p rest e = cc

refusal_stops : (dialect : Dialect) (text : Text) (reason : Reason)
    → front_to_read dialect text ≡ refused_for reason → IsStopped dialect text
refusal_stops dialect text reason is p rest e = cc

one_piece : (p q : Piece) (r s : Text) → piece p r ≡ piece q s → (p ≡ q) × (r ≡ s)
one_piece p q r s e = (cc, cc)

one_way : (dialect : Dialect) (text : Text) (ps qs : List Piece) (r s : Text)
    → LeadsToRead dialect text ps r → LeadsToRead dialect text qs s → IsStopped dialect r
    → IsStopped dialect s → (ps ≡ qs) × (r ≡ s)
one_way dialect text [] [] r s a b stop_r stop_s = (refl, sym a ∙ b)
one_way dialect text [] (q ∷ qs) r s a b stop_r stop_s =
    absurd (stop_r q b.0 (ap (front_to_read dialect) (sym a) ∙ b.1))
one_way dialect text (p ∷ ps) [] r s a b stop_r stop_s =
    absurd (stop_s p a.0 (ap (front_to_read dialect) (sym b) ∙ a.1))
one_way dialect text (p ∷ ps) (q ∷ qs) r s a b stop_r stop_s =
    let first = one_piece p q a.0 b.0 (sym a.1 ∙ b.1) in
    let more = one_way dialect a.0 ps qs r s a.2
    (subst (λ t. LeadsToRead dialect t qs s) (sym first.1) b.2) stop_r stop_s in
    (ap (λ x. x ∷ ps) first.0 ∙ ap (λ x. q ∷ x) more.0, more.1)

one_reason : (r s : Reason) → refused_for r ≡ refused_for s → r ≡ s
one_reason r s e = cc

one_index : (i j n : ℕ) (a b : Text) → a ≡ b → i + length a ≡ n → j + length b ≡ n → i ≡ j
one_index i j n a b e x y = omega (arith, ap length e, x, y)

one_reading : (dialect : Dialect) (text : Text) (ps qs : List Piece) → ReadsBy dialect text ps
    → ReadsBy dialect text qs → ps ≡ qs
one_reading dialect text ps qs a b =
    (one_way dialect text ps qs [] [] a b (end_stops dialect) (end_stops dialect)).0

one_refusal : (dialect : Dialect) (text : Text) (r s : Reason) (i j : ℕ)
    → UnreadAt dialect text r i → UnreadAt dialect text s j → (r ≡ s) × (i ≡ j)
one_refusal dialect text r s i j a b =
    let way = one_way dialect text a.0 b.0 a.1 b.1 a.2 b.2
    (refusal_stops dialect a.1 r a.3) (refusal_stops dialect b.1 s b.3) in (
      one_reason r s (sym a.3 ∙ ap (front_to_read dialect) way.1 ∙ b.3),
      one_index i j (length text) a.1 b.1 way.1 a.4 b.4,
    )

not_both : (dialect : Dialect) (text : Text) (ps : List Piece) (r : Reason) (i : ℕ)
    → ReadsBy dialect text ps → ¬ (UnreadAt dialect text r i)
not_both dialect text ps r i a b =
    let way = one_way dialect text ps b.0 [] b.1 a b.2 (end_stops dialect)
    (refusal_stops dialect b.1 r b.3) in
    no_end (ap (front_to_read dialect) way.1 ∙ b.3)
  where
    no_end : ¬ (ended ≡ refused_for r)
    no_end e = cc

-- The answer is everything that there may be.

abbrev Answer : Type 0
Answer = Result Converted DialectError

pub reading_converted : (dialect : Dialect) (format : Text) (r : Answer)
    → IfOk r (IsToRead dialect format) → IfErr r (IsUnreadFor dialect format)
    → (ps : List Piece) → ReadsBy dialect format ps
    → MatchResult r (λ answer. string_bytes answer.text ≡ text_of ps) IsMemory
reading_converted dialect format (Ok answer) is reported ps reads =
    is.2 ∙ ap text_of (one_reading dialect format is.0 ps is.1 reads)
reading_converted dialect format (Err (Refused refusal)) is reported ps reads =
    not_both dialect format ps refusal.reason refusal.index reads reported
reading_converted dialect format (Err (Memory e)) is reported ps reads = tt

pub unread_reported : (dialect : Dialect) (format : Text) (r : Answer)
    → IfOk r (IsToRead dialect format) → IfErr r (IsUnreadFor dialect format)
    → (reason : Reason) (index : ℕ) → UnreadAt dialect format reason index
    → MatchResult r (λ _. ⊥) (IsRefusal reason index)
unread_reported dialect format (Ok answer) is reported reason index refused =
    not_both dialect format is.0 reason index is.1 refused
unread_reported dialect format (Err (Refused refusal)) is reported reason index refused =
    one_refusal dialect format refusal.reason reason refusal.index index reported refused
unread_reported dialect format (Err (Memory e)) is reported reason index refused = tt
