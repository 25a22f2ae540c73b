-- Several descriptions of a source, one after another.
use Rattle.std.proofs.Common.{ℕ, ◌≡◌, ◌<◌, ◌≤◌, ◌+◌, ◌-◌, List, [], ◌∷◌, ◌++◌, length, take, drop, get_or, refl, sym, ap, subst, ◌∙◌, arith, take_all}
use Rattle.std.specs.Prelude.{false, true, Option, None, Some}
use Rattle.std.proofs.lemmas.List.{append_assoc, append-nil, drop-drop, drop_all, drop_more, take-append-drop, length-drop}
use Rattle.std.specs.declared.alloc.Global.{Global}
use Rattle.std.specs.declared.vec.Vec.{Vec}
use denote.Ref.{Bor}
use Rattle.timefd_parse.specs.Tree.{Text}
use Rattle.timefd_lint_scan.specs.declared.description.SourceDescription.{SourceDescription}
use Rattle.timefd_lint_scan.specs.declared.dialect.FormatLanguage.{FormatLanguage}
use Rattle.timefd_lint_scan.specs.declared.piece.PlacedToken.{PlacedToken}
use Rattle.timefd_lint_scan.specs.declared.token.LiteralKind.{LiteralKind}
use Rattle.timefd_lint_scan.specs.Bytes.{seen}
use Rattle.timefd_lint_scan.specs.Escapes.{Placed, placed}
use Rattle.timefd_lint_scan.specs.declared.version.VersionPosition.{VersionPosition}
use Rattle.timefd_lint_scan.specs.declared.version.VersionPosition.TheVariants.{Digit, Unsaid, Call, Elsewhere}
use Rattle.timefd_lint_scan.specs.Found.{AllStandIn, AreInOrder, StandsIn, begin_of}
use Rattle.timefd_lint_scan.specs.Versions.{IsSaid, first_position}
use Rattle.timefd_lint_scan.specs.Literals.{EndsAt, body, body_end, body_text, cut, inside, inside_of, text_of}
use Rattle.timefd_lint_sources.specs.declared.rewriting.answer.NewParts.{NewParts}
use Rattle.timefd_lint_sources.specs.declared.rewriting.answer.Answer.{Answer}
use Rattle.timefd_lint_sources.specs.declared.rewriting.answer.Answer.TheVariants.{Stays, Becomes}
use Rattle.timefd_lint_sources.specs.declared.rewriting.outcome.Outcome.{Outcome}
use Rattle.timefd_lint_sources.specs.declared.rewriting.outcome.Outcome.TheVariants.{PassedOver, Same, Rewritten, Refused, WithItems, NotText, NotALiteral, ByHand}
use Rattle.timefd_lint_sources.specs.declared.rewriting.change.Change.{Change}
use Rattle.timefd_lint_sources.specs.Rewriting.Written.{AddsRewritten, AreRewritten, IsRewritten, IsAnswer, IsPlaced, IsRenumbered, IsReplaced, IsRespelled, IsNewVersion, IsSpliced, Puts, Renumbers, Replaces, argument, can_say, is_rewriting, is_sayable, items_of}

-- A description's literal has a body.
no_text : (kind : LiteralKind) (end : ℕ) (p : Placed) (r : Option Text)
    → Some p ≡ text_of kind end r → inside_of kind r ≡ None → ⊥
no_text kind end p None stands none = cc
no_text kind end p (Some literal) stands none =
    let nothing : Some p ≡ None = stands ∙ ap (body_text kind end) none in cc

pub has_inside : (source : Text) (d : SourceDescription) (r : Option (Bor Text)) → StandsIn source d
    → seen r ≡ inside source d.piece d.kind → r ≡ None → ⊥
has_inside source d r stands is none =
    no_text d.kind (body_end d.piece d.kind) (placed d.unescaped) (cut source d.piece) stands.text
    (sym is ∙ ap seen none)

-- The source from a position on is what is kept, a body, and what follows it.
parts : (source old : Text) (from start next : ℕ) → from ≤ start → start + length old ≡ next
    → old ≡ take (length old) (drop start source)
    → drop from source ≡ take (start - from) (drop from source) ++ (old ++ drop next source)
parts source old from start next order long is =
    let after : drop (start - from) (drop from source) ≡ drop start source =
    drop-drop (start - from) from source ∙ ap (λ (n : ℕ). drop n source) (omega arith) in
    let rest : drop (length old) (drop start source) ≡ drop next source =
    drop-drop (length old) start source ∙ ap (λ (n : ℕ). drop n source) long in
    let whole : drop start source ≡ old ++ drop next source =
    sym (take-append-drop (length old) (drop start source))
    ∙ ap (λ (t : Text). t ++ drop (length old) (drop start source)) (sym is)
    ∙ ap (λ (t : Text). old ++ t) rest in
    sym (take-append-drop (start - from) (drop from source))
    ∙ ap (λ (t : Text). take (start - from) (drop from source) ++ t) (after ∙ whole)

pub replaced : (source : Text) (d : SourceDescription) (from next : ℕ) (body old kept bytes between after : Text)
    (r : Option (Bor Text)) (b : Bor Text)
    → seen r ≡ inside source d.piece d.kind → r ≡ Some b → b.now ≡ old
    → next ≡ body_end d.piece d.kind → EndsAt source (body_end d.piece d.kind) old
    → from + length old ≤ next → kept ≡ take (next - length old - from) (drop from source)
    → between ≡ bytes ++ kept → after ≡ between ++ body
    → Replaces source d from body bytes after next
replaced source d from next body old kept bytes between after r b is which borrowed at_quote ends order front first second = (
  kept ++ body,
  record {
    kept = kept;
    old = old;
    is_inside = sym is ∙ ap seen which ∙ ap (λ (t : Text). Some t) borrowed;
    at_quote = at_quote;
    cut = parts source old from (next - length old) next (omega arith) (omega arith)
        (ends.are ∙ ap (λ (n : ℕ). take (length old) (drop (n - length old) source)) (sym at_quote))
        ∙ ap (λ (t : Text). t ++ (old ++ drop next source)) (sym front);
    written = refl;
  },
  second ∙ ap (λ (t : Text). t ++ body) first ∙ append_assoc bytes kept body,
)

-- What is written so far of a source, followed by new bytes instead of those at a position.
spliced : (source old new bytes between after kept : Text) (from start next : ℕ) → from ≤ start
    → drop start source ≡ old ++ drop next source → kept ≡ take (start - from) (drop from source)
    → between ≡ bytes ++ kept → after ≡ between ++ new
    → IsSpliced source from old new (kept ++ new) next × (after ≡ bytes ++ (kept ++ new))
spliced source old new bytes between after kept from start next order stands is first second =
    let rest : drop (start - from) (drop from source) ≡ old ++ drop next source =
    drop-drop (start - from) from source ∙ ap (λ (n : ℕ). drop n source) (omega (arith, order)) ∙ stands in (
      record {
        kept = kept;
        cut = sym (take-append-drop (start - from) (drop from source))
            ∙ ap (λ (t : Text). take (start - from) (drop from source) ++ t) rest
            ∙ ap (λ (t : Text). t ++ (old ++ drop next source)) (sym is);
        written = refl;
      },
      second ∙ ap (λ (t : Text). t ++ new) first ∙ append_assoc bytes kept new,
    )

-- The first position that belongs to a description isn't after the start of its literal.
first_in_front : (source : Text) (p : PlacedToken) (dialect : FormatLanguage) (position : VersionPosition)
    → IsSaid source p dialect position → first_position position p.start ≤ p.start
first_in_front source p dialect (Digit at) said = omega (arith, said.before)
first_in_front source p dialect Unsaid said = omega arith
first_in_front source p dialect Call said = omega arith
first_in_front source p dialect Elsewhere said = omega arith

pub begins : (source : Text) (d : SourceDescription) (from : ℕ) → StandsIn source d → from ≤ begin_of d
    → from ≤ d.piece.start
begins source d from stands order =
    omega (arith, order, first_in_front source d.piece d.dialect d.version stands.version)

pub digit_stands : (source : Text) (d : SourceDescription) (from at : ℕ) → StandsIn source d → from ≤ begin_of d
    → d.version ≡ Digit at → (from ≤ at) × (at + 1 ≤ d.piece.start) × (at ≤ length source)
digit_stands source d from at stands order which =
    let said : IsSaid source d.piece d.dialect (Digit at) =
    subst (IsSaid source d.piece d.dialect) which stands.version in (
      subst (λ (p : VersionPosition). from ≤ first_position p d.piece.start) which order,
      omega (arith, said.before),
      omega (arith, said.before, stands.between.start.0),
    )

pub start_within : (source : Text) (d : SourceDescription) → StandsIn source d → d.piece.start ≤ length source
start_within source d stands = stands.between.start.0

pub same_version : (source : Text) (d : SourceDescription) (from : ℕ) (digit : Option ℕ) (bytes : Text) → digit ≡ None
    → Renumbers source d from digit bytes bytes from
same_version source d from digit bytes none = (
  [],
  subst (λ (x : Option ℕ). IsRenumbered source from d x [] from) (sym none) (refl, refl),
  sym (append-nil bytes),
)

new_version : (source : Text) (d : SourceDescription) (from next new : ℕ) (digit : Option ℕ) (front bytes after : Text)
    → digit ≡ Some new → IsNewVersion source from d d.version new front next → after ≡ bytes ++ front
    → Renumbers source d from digit bytes after next
new_version source d from next new digit front bytes after some rewritten more =
    (front, subst (λ (x : Option ℕ). IsRenumbered source from d x front next) (sym some) rewritten, more)

pub digit_said : (source : Text) (d : SourceDescription) (from at new : ℕ) (digit : Option ℕ)
    (bytes between after : Text) → StandsIn source d → from ≤ begin_of d → digit ≡ Some new
    → d.version ≡ Digit at → between ≡ bytes ++ take (at - from) (drop from source)
    → after ≡ between ++ (new ∷ []) → Renumbers source d from digit bytes after (at + 1)
digit_said source d from at new digit bytes between after stands order some which first second =
    let said : IsSaid source d.piece d.dialect (Digit at) =
    subst (IsSaid source d.piece d.dialect) which stands.version in
    let before : from ≤ at = (digit_stands source d from at stands order which).0 in
    let kept : Text = take (at - from) (drop from source) in
    let cut = spliced source (said.digit ∷ []) (new ∷ []) bytes between after kept from at (at + 1) before
    said.stands refl first second in
    new_version source d from (at + 1) new digit (kept ++ (new ∷ [])) bytes after some
    (subst (λ (p : VersionPosition). IsNewVersion source from d p new (kept ++ (new ∷ [])) (at + 1)) (sym which)
    (refl, (said.digit, said.is, cut.0))) cut.1

pub argument_said : (source : Text) (d : SourceDescription) (from new : ℕ) (digit : Option ℕ)
    (bytes between after : Text) → StandsIn source d → from ≤ begin_of d → digit ≡ Some new
    → d.version ≡ Unsaid → between ≡ bytes ++ take (d.piece.start - from) (drop from source)
    → after ≡ between ++ argument new → Renumbers source d from digit bytes after d.piece.start
argument_said source d from new digit bytes between after stands order some which first second =
    let kept : Text = take (d.piece.start - from) (drop from source) in
    let cut = spliced source [] (argument new) bytes between after kept from d.piece.start d.piece.start
    (begins source d from stands order) refl refl first second in
    new_version source d from d.piece.start new digit (kept ++ argument new) bytes after some
    (subst (λ (p : VersionPosition). IsNewVersion source from d p new (kept ++ argument new) d.piece.start) (sym which)
    (refl, cut.0)) cut.1

-- A version that no number says can't get a new number.
pub unsayable : (position other : VersionPosition) (digit : Option ℕ) (new : ℕ) → is_sayable position digit ≡ true
    → digit ≡ Some new → position ≡ other → can_say other ≡ false → ⊥
unsayable position other digit new says some which none =
    let other_says : can_say other ≡ true =
    subst (λ (p : VersionPosition). can_say p ≡ true) which
    (subst (λ (x : Option ℕ). is_sayable position x ≡ true) some says) in cc

-- Only the version changes.
pub renumbered_alone : (source : Text) (d : SourceDescription) (from next : ℕ) (digit : Option ℕ)
    (body : Option (Vec ℕ Global)) (bytes after : Text) → Renumbers source d from digit bytes after next
    → body ≡ None → Puts source d from digit (items_of body) bytes after next
renumbered_alone source d from next digit body bytes after (front, renumbered, more) none = (
  front,
  record {
    first = front;
    middle = next;
    second = [];
    renumbered = renumbered;
    respelled = subst (λ (x : Option (Vec ℕ Global)). IsRespelled source next d (items_of x) [] next)
        (sym none) (refl, refl);
    whole = sym (append-nil front);
  },
  more,
)

pub both_put : (source : Text) (d : SourceDescription) (from middle next : ℕ) (digit : Option ℕ)
    (body : Option (Vec ℕ Global)) (v : Vec ℕ Global) (inner bytes between after : Text)
    → Renumbers source d from digit bytes between middle → body ≡ Some v → inner ≡ v.items
    → Replaces source d middle inner between after next
    → Puts source d from digit (items_of body) bytes after next
both_put source d from middle next digit body v inner bytes between after (first, renumbered, before) some same
    (second, replaced, more) = (
      first ++ second,
      record {
        first = first;
        middle = middle;
        second = second;
        renumbered = renumbered;
        respelled = subst (λ (x : Option (Vec ℕ Global)). IsRespelled source middle d (items_of x) second next)
            (sym some)
            (subst (λ (t : Text). IsReplaced source middle d t second next) same replaced);
        whole = refl;
      },
      more ∙ ap (λ (t : Text). t ++ second) before ∙ append_assoc bytes first second,
    )

-- A literal that stays.
stays_placed : (source : Text) (from : ℕ) (d : SourceDescription) (o : Outcome) → is_rewriting o ≡ false
    → IsPlaced source from d o None None [] from
stays_placed source from d PassedOver e = (refl, refl)
stays_placed source from d Same e = (refl, refl)
stays_placed source from d Rewritten e = absurd cc
stays_placed source from d Refused e = (refl, refl)
stays_placed source from d WithItems e = (refl, refl)
stays_placed source from d NotText e = (refl, refl)
stays_placed source from d NotALiteral e = (refl, refl)
stays_placed source from d ByHand e = (refl, refl)

pub stays : (change : Change) (source : Text) (d : SourceDescription) (from : ℕ) (outcomes outcomes' : List Outcome)
    (bytes : Text) (a : Answer) (o : Outcome) → IsAnswer change source d a → a ≡ Stays o
    → outcomes' ≡ outcomes ++ (o ∷ [])
    → AddsRewritten change source d from outcomes bytes outcomes' bytes from
stays change source d from outcomes outcomes' bytes a o answer which pushed =
    let is : IsAnswer change source d (Stays o) = subst (IsAnswer change source d) which answer in record {
      outcome = o;
      digit = None;
      body = None;
      front = [];
      is = is.1;
      placed = stays_placed source from d o is.0;
      more_outcomes = pushed;
      more_bytes = sym (append-nil bytes);
    }

pub rewritten_of : (change : Change) (source : Text) (d : SourceDescription) (a : Answer) (rewritten : NewParts)
    → IsAnswer change source d a → a ≡ Becomes rewritten → IsRewritten change source d rewritten.digit (items_of rewritten.body)
rewritten_of change source d a rewritten answer which = subst (IsAnswer change source d) which answer

pub becomes : (change : Change) (source : Text) (d : SourceDescription) (from next : ℕ)
    (outcomes outcomes' : List Outcome) (bytes bytes' : Text) (a : Answer) (rewritten : NewParts)
    → IsAnswer change source d a → a ≡ Becomes rewritten → outcomes' ≡ outcomes ++ (Rewritten ∷ [])
    → Puts source d from rewritten.digit (items_of rewritten.body) bytes bytes' next
    → AddsRewritten change source d from outcomes bytes outcomes' bytes' next
becomes change source d from next outcomes outcomes' bytes bytes' a rewritten answer which pushed (front, put, more) = record {
  outcome = Rewritten;
  digit = rewritten.digit;
  body = items_of rewritten.body;
  front = front;
  is = rewritten_of change source d a rewritten answer which;
  placed = put;
  more_outcomes = pushed;
  more_bytes = more;
}

-- What is written so far, followed by what is written for the rest, is the whole new source.
pub record AreRewrittenTo (change : Change) (source : Text) (all left : List SourceDescription) (outcomes : List Outcome)
    (bytes : Text) (from : ℕ) : Type 0 where
  pub others : (os : List Outcome) (new : Text) → AreRewritten change source from left os new
      → AreRewritten change source 0 all (outcomes ++ os) (bytes ++ new)
  pub in_order : AreInOrder from left
  pub within : from ≤ length source

pub at_first : (change : Change) (source : Text) (all : List SourceDescription) → AreInOrder 0 all
    → AreRewrittenTo change source all all [] [] 0
at_first change source all ordered = record {
  others = λ os new are. are;
  in_order = ordered;
  within = omega arith;
}

pub stands_at : (source : Text) (all : List SourceDescription) (i : ℕ) (d other : SourceDescription) → i < length all
    → d ≡ get_or all i other → AllStandIn source all → StandsIn source d
stands_at source all i d other below is stand = subst (StandsIn source) (sym is) (stand i other below)

-- The next description begins after the position.
pub next_after : (change : Change) (source : Text) (all : List SourceDescription) (i : ℕ) (d other : SourceDescription)
    (outcomes : List Outcome) (bytes : Text) (from : ℕ) → i < length all → d ≡ get_or all i other
    → AreRewrittenTo change source all (drop i all) outcomes bytes from → from ≤ begin_of d
next_after change source all i d other outcomes bytes from below is so_far =
    let left : drop i all ≡ d ∷ drop (i + 1) all =
    drop_more all i other below ∙ ap (λ x. x ∷ drop (i + 1) all) (sym is) in
    let order : AreInOrder from (d ∷ drop (i + 1) all) = subst (AreInOrder from) left so_far.in_order in
    order.0

-- Where a new version ends.
said_within : (source : Text) (d : SourceDescription) (position : VersionPosition) (from next digit : ℕ) (front : Text)
    → IsSaid source d.piece d.dialect position → IsNewVersion source from d position digit front next
    → next ≤ d.piece.start
said_within source d (Digit at) from next digit front said rewritten = omega (arith, rewritten.0, said.before)
said_within source d Unsaid from next digit front said rewritten = omega (arith, rewritten.0)
said_within source d Call from next digit front said rewritten = absurd rewritten
said_within source d Elsewhere from next digit front said rewritten = absurd rewritten

renumbered_within : (source : Text) (d : SourceDescription) (from next : ℕ) (digit : Option ℕ) (front : Text)
    → StandsIn source d → from ≤ d.piece.start → IsRenumbered source from d digit front next
    → next ≤ d.piece.start
renumbered_within source d from next None front stands after rewritten = omega (arith, rewritten.1, after)
renumbered_within source d from next (Some digit) front stands after rewritten =
    said_within source d d.version from next digit front stands.version rewritten

respelled_within : (source : Text) (d : SourceDescription) (from next : ℕ) (body : Option Text) (front : Text)
    → StandsIn source d → from ≤ d.piece.start → IsRespelled source from d body front next → next ≤ d.piece.end
respelled_within source d from next None front stands after rewritten =
    omega (arith, after, rewritten.1, stands.between.end_inside.after, stands.between.end_inside.before)
respelled_within source d from next (Some body) front stands after rewritten =
    omega (arith, rewritten.at_quote, stands.between.end_inside.before)

-- What is written ends inside of the source, and not after the literal.
ends_within : (source : Text) (d : SourceDescription) (from next : ℕ) (o : Outcome) (digit : Option ℕ)
    (body : Option Text) (front : Text)
    → StandsIn source d → from ≤ d.piece.start → IsPlaced source from d o digit body front next
    → next ≤ d.piece.end
ends_within source d from next PassedOver digit body front stands after placed =
    omega (arith, placed.1, stands.between.end_inside.after, stands.between.end_inside.before)
ends_within source d from next Same digit body front stands after placed =
    omega (arith, placed.1, stands.between.end_inside.after, stands.between.end_inside.before)
ends_within source d from next Rewritten digit body front stands after placed =
    respelled_within source d placed.middle next body placed.second stands
    (renumbered_within source d from placed.middle digit placed.first stands after placed.renumbered)
    placed.respelled
ends_within source d from next Refused digit body front stands after placed =
    omega (arith, placed.1, stands.between.end_inside.after, stands.between.end_inside.before)
ends_within source d from next WithItems digit body front stands after placed =
    omega (arith, placed.1, stands.between.end_inside.after, stands.between.end_inside.before)
ends_within source d from next NotText digit body front stands after placed =
    omega (arith, placed.1, stands.between.end_inside.after, stands.between.end_inside.before)
ends_within source d from next NotALiteral digit body front stands after placed =
    omega (arith, placed.1, stands.between.end_inside.after, stands.between.end_inside.before)
ends_within source d from next ByHand digit body front stands after placed =
    omega (arith, placed.1, stands.between.end_inside.after, stands.between.end_inside.before)

earlier : (from to : ℕ) (ds : List SourceDescription) → from ≤ to → AreInOrder to ds → AreInOrder from ds
earlier from to [] le order = tt
earlier from to (d ∷ ds) le order = (omega (arith, le, order.0), order.1)

-- A character boundary is inside of the text.
in_source : (source : Text) (d : SourceDescription) → StandsIn source d → d.piece.end ≤ length source
in_source source d stands = stands.between.end.0

pub one_more : (change : Change) (source : Text) (all : List SourceDescription) (i : ℕ) (d other : SourceDescription)
    (outcomes outcomes' : List Outcome) (bytes bytes' : Text) (from next : ℕ)
    → i < length all → d ≡ get_or all i other → StandsIn source d
    → AreRewrittenTo change source all (drop i all) outcomes bytes from
    → AddsRewritten change source d from outcomes bytes outcomes' bytes' next
    → AreRewrittenTo change source all (drop (i + 1) all) outcomes' bytes' next
one_more change source all i d other outcomes outcomes' bytes bytes' from next below is stands so_far adds =
    let left : drop i all ≡ d ∷ drop (i + 1) all =
    drop_more all i other below ∙ ap (λ x. x ∷ drop (i + 1) all) (sym is) in
    let before : AreRewrittenTo change source all (d ∷ drop (i + 1) all) outcomes bytes from =
    subst (λ l. AreRewrittenTo change source all l outcomes bytes from) left so_far in
    let end : next ≤ d.piece.end =
    ends_within source d from next adds.outcome adds.digit adds.body adds.front stands
    (begins source d from stands before.in_order.0) adds.placed in
    record {
      others = λ os new are.
          subst (λ x. AreRewritten change source 0 all x (bytes' ++ new))
          (sym (append_assoc outcomes (adds.outcome ∷ []) os) ∙ ap (λ x. x ++ os) (sym adds.more_outcomes))
          (subst (λ x. AreRewritten change source 0 all (outcomes ++ adds.outcome ∷ os) x)
          (sym (append_assoc bytes adds.front new) ∙ ap (λ x. x ++ new) (sym adds.more_bytes))
          (before.others (adds.outcome ∷ os) (adds.front ++ new)
          (adds.digit, adds.body, adds.front, next, new, adds.is, adds.placed, are, refl)));
      in_order = earlier next d.piece.end (drop (i + 1) all) end before.in_order.1;
      within = omega (arith, end, in_source source d stands);
    }

pub at_last : (change : Change) (source : Text) (all : List SourceDescription) (i : ℕ) (outcomes : List Outcome)
    (bytes bytes' rest : Text) (from : ℕ) → length all ≤ i
    → AreRewrittenTo change source all (drop i all) outcomes bytes from
    → rest ≡ take (length source - from) (drop from source) → bytes' ≡ bytes ++ rest
    → AreRewritten change source 0 all outcomes bytes'
at_last change source all i outcomes bytes bytes' rest from none so_far is written =
    let end : rest ≡ drop from source =
    is ∙ take_all (length source - from) (drop from source) (omega (arith, length-drop from source)) in
    let last : AreRewritten change source 0 all (outcomes ++ []) (bytes ++ rest) =
    (subst (λ l. AreRewrittenTo change source all l outcomes bytes from) (drop_all i all none) so_far).others [] rest end in
    subst (λ x. AreRewritten change source 0 all x bytes') (append-nil outcomes)
    (subst (λ x. AreRewritten change source 0 all (outcomes ++ []) x) (sym written) last)
