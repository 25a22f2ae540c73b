-- Descriptions of a source and of its examples, in order.
use Rattle.std.proofs.Common.{ℕ, ◌≡◌, ◌∙◌, ◌++◌, List, [], ◌∷◌, ap, append-nil, append_assoc, arith, inl, inr, map, nat_le, refl, subst, sym}
use Rattle.std.proofs.lemmas.Bool.{cases_Bool}
use Rattle.std.proofs.lemmas.Bool.Decides.{nat_tests}
use Rattle.std.proofs.lemmas.List.Elements.{All-cons, All-head, All-nil, All-tail}
use Rattle.std.specs.Option.{option_to_list}
use Rattle.std.specs.Prelude.{Option, Some, ⊤}
use Rattle.timefd_lint_scan.specs.declared.candidate.CandidateLiteral.{CandidateLiteral}
use Rattle.timefd_lint_scan.specs.declared.description.SourceDescription.{SourceDescription}
use Rattle.timefd_lint_scan.specs.declared.doc_look.joining.LookPart.{LookPart}
use Rattle.timefd_lint_scan.specs.declared.doc_look.joining.LookPart.TheVariants.{OfExample, OfSource}
use Rattle.timefd_lint_scan.specs.Bytes.{Text}
use Rattle.timefd_lint_scan.specs.DocLooks.{AreJoined, IsEither, after_front, begins_before, by_position, front}
use Rattle.timefd_lint_scan.specs.Found.{AllStandIn, AreInOrder, StandsIn, begin_of, begun_after, end_after}
use Rattle.timefd_lint_scan.proofs.CandidateLemmas.{begun, in_order_more, stands_more}

-- A description of the source stands in it.
abbrev pub PartStands : Text → LookPart → Type 0
PartStands source (OfExample c) = ⊤
PartStands source (OfSource d) = StandsIn source d

abbrev pub PartsStand : Text → List LookPart → Type 0
PartsStand source [] = ⊤
PartsStand source (x ∷ xs) = PartStands source x × PartsStand source xs

literals_stand : (source : Text) (cs : List CandidateLiteral) → PartsStand source (map OfExample cs)
literals_stand source [] = tt
literals_stand source (c ∷ cs) = (tt, literals_stand source cs)

own_stand : (source : Text) (ds : List SourceDescription) → AllStandIn source ds → PartsStand source (map OfSource ds)
own_stand source [] all = tt
own_stand source (d ∷ ds) all =
    (All-head (StandsIn source) d ds all, own_stand source ds (All-tail (StandsIn source) d ds all))

-- The parts of a source whose own descriptions stand in it.
pub parts_stand : (source : Text) (cs : List CandidateLiteral) (ds : List SourceDescription) → AllStandIn source ds
    → PartsStand source (by_position cs ds)
parts_stand source [] ds all = own_stand source ds all
parts_stand source (c ∷ cs) [] all = (tt, literals_stand source cs)
parts_stand source (c ∷ cs) (d ∷ ds) all = elim (cases_Bool (begins_before d.piece.start c)) [
  | inl pass ↦ rw pass (tt, parts_stand source cs (d ∷ ds) all)
  | inr fail ↦ rw fail (All-head (StandsIn source) d ds all, parts_stand source (c ∷ cs) ds (All-tail (StandsIn source) d ds all))
]

own_stands_more : (source : Text) (from : ℕ) (d : SourceDescription) (rest : List SourceDescription)
    → StandsIn source d → AllStandIn source rest → AllStandIn source (option_to_list (begun_after from (Some d)) ++ rest)
own_stands_more source from d rest stands all = elim (cases_Bool (nat_le from (begin_of d))) [
  | inl pass ↦ rw pass (All-cons (StandsIn source) d rest stands all)
  | inr fail ↦ rw fail all
]

part_stands_more : (source : Text) (from : ℕ) (x : LookPart) (answer : Option SourceDescription) (rest : List SourceDescription)
    → PartStands source x → IsEither source x answer → AllStandIn source rest
    → AllStandIn source (option_to_list (begun_after from answer) ++ rest)
part_stands_more source from (OfExample c) answer rest stands is all = stands_more source from c answer rest is all
part_stands_more source from (OfSource d) answer rest stands is all =
    subst (λ a. AllStandIn source (option_to_list (begun_after from a) ++ rest)) (sym is)
    (own_stands_more source from d rest stands all)

pub joined_stand : (source : Text) (from : ℕ) (xs : List LookPart) (found : List SourceDescription) → PartsStand source xs
    → AreJoined source from xs found → AllStandIn source found
joined_stand source from [] found stand none = subst (AllStandIn source) (sym none) (All-nil (StandsIn source))
joined_stand source from (x ∷ xs) found stand (answer, rest, is, more, split) =
    subst (AllStandIn source) (sym split)
    (part_stands_more source from x answer rest stand.0 is
    (joined_stand source (end_after from (begun_after from answer)) xs rest stand.1 more))

pub joined_in_order : (source : Text) (from : ℕ) (xs : List LookPart) (found : List SourceDescription)
    → AreJoined source from xs found → AreInOrder from found
joined_in_order source from [] found none = subst (AreInOrder from) (sym none) tt
joined_in_order source from (x ∷ xs) found (answer, rest, is, more, split) =
    subst (AreInOrder from) (sym split)
    (in_order_more from answer rest
    (joined_in_order source (end_after from (begun_after from answer)) xs rest more))

-- Before a description come the literals that begin before it.
pub one_more : (cs : List CandidateLiteral) (d : SourceDescription) (ds : List SourceDescription)
    → by_position cs (d ∷ ds) ≡ map OfExample (front (begins_before d.piece.start) cs)
    ++ OfSource d ∷ by_position (after_front (begins_before d.piece.start) cs) ds
one_more [] d ds = refl
one_more (c ∷ cs) d ds = elim (cases_Bool (begins_before d.piece.start c)) [
  | inl pass ↦ rw pass (ap (λ xs. OfExample c ∷ xs) (one_more cs d ds))
  | inr fail ↦ rw fail refl
]

none_more : (cs : List CandidateLiteral) → by_position cs [] ≡ map OfExample cs
none_more [] = refl
none_more (c ∷ cs) = refl

-- Of the descriptions these are placed, and of the literals these are left.
pub record ArePlaced (cs : List CandidateLiteral) (placed : List SourceDescription) (left : List CandidateLiteral) (parts : List LookPart)
    : Type 0 where
  pub others : (ds : List SourceDescription) → parts ++ by_position left ds ≡ by_position cs (placed ++ ds)

pub none_placed : (cs : List CandidateLiteral) → ArePlaced cs [] cs []
none_placed cs = record { others = λ ds. refl }

pub one_placed : (cs before left : List CandidateLiteral) (placed : List SourceDescription) (d : SourceDescription)
    (parts pushed now : List LookPart) → pushed ≡ parts ++ map OfExample (front (begins_before d.piece.start) before)
    → left ≡ after_front (begins_before d.piece.start) before → now ≡ pushed ++ OfSource d ∷ []
    → ArePlaced cs placed before parts → ArePlaced cs (placed ++ d ∷ []) left now
one_placed cs before left placed d parts pushed now more after last so_far = record {
  others = λ ds.
      let from : List CandidateLiteral → List LookPart = λ l. OfSource d ∷ by_position l ds in
      let literals : List LookPart = map OfExample (front (begins_before d.piece.start) before) in
      ap (λ xs. xs ++ by_position left ds) last
      ∙ (append_assoc pushed (OfSource d ∷ []) (by_position left ds)
      ∙ (ap (λ xs. xs ++ from left) more
      ∙ (append_assoc parts literals (from left)
      ∙ (ap (λ l. parts ++ (literals ++ from l)) after
      ∙ (ap (λ xs. parts ++ xs) (sym (one_more before d ds))
      ∙ (so_far.others (d ∷ ds) ∙ ap (by_position cs) (sym (append_assoc placed (d ∷ []) ds))))))));
}

-- The literals that are left come last.
pub all_placed : (cs left : List CandidateLiteral) (ds : List SourceDescription) (parts now : List LookPart)
    → now ≡ parts ++ map OfExample left → ArePlaced cs ds left parts → now ≡ by_position cs ds
all_placed cs left ds parts now pushed so_far =
    pushed ∙ (ap (λ xs. parts ++ xs) (sym (none_more left)) ∙ (so_far.others [] ∙ ap (by_position cs) (append-nil ds)))

-- What is found among these parts, followed by what is found after them, is all that there is.
pub record AreSoFar (source : Text) (parts : List LookPart) (end : ℕ) (so_far : List SourceDescription) : Type 0 where
  pub others : (more : List LookPart) (rest : List SourceDescription) → AreJoined source end more rest
      → AreJoined source 0 (parts ++ more) (so_far ++ rest)

pub at_first : (source : Text) → AreSoFar source [] 0 []
at_first source = record { others = λ more rest joined. joined }

pub one_described : (source : Text) (parts : List LookPart) (x : LookPart) (answer : Option SourceDescription) (end next : ℕ)
    (so_far now : List SourceDescription) → IsEither source x answer
    → now ≡ so_far ++ option_to_list (begun_after end answer) → next ≡ end_after end (begun_after end answer)
    → AreSoFar source parts end so_far → AreSoFar source (parts ++ x ∷ []) next now
one_described source parts x answer end next so_far now is pushed ends are = record {
  others = λ more rest joined.
      let found : List SourceDescription = option_to_list (begun_after end answer) in
      subst (λ xs. AreJoined source 0 xs (now ++ rest)) (sym (append_assoc parts (x ∷ []) more))
      (subst (AreJoined source 0 (parts ++ x ∷ more)) (sym (append_assoc so_far found rest) ∙ ap (λ ds. ds ++ rest) (sym pushed))
      (are.others (x ∷ more) (found ++ rest)
      (answer, rest, is, subst (λ (n : ℕ). AreJoined source n more rest) ends joined, refl)));
}

pub at_last : (source : Text) (parts : List LookPart) (end : ℕ) (so_far : List SourceDescription) → AreSoFar source parts end so_far
    → AreJoined source 0 parts so_far
at_last source parts end so_far are =
    subst (λ xs. AreJoined source 0 xs so_far) (append-nil parts)
    (subst (AreJoined source 0 (parts ++ [])) (append-nil so_far) (are.others [] [] refl))

-- Descriptions in order are joined with no others.
pub own_joined : (source : Text) (from : ℕ) (ds : List SourceDescription) → AreInOrder from ds
    → AreJoined source from (map OfSource ds) ds
own_joined source from [] in_order = refl
own_joined source from (d ∷ ds) in_order = elim (cases_Bool (nat_le from (begin_of d))) [
  | inl pass ↦
      let is : begun_after from (Some d) ≡ Some d = begun from d pass in (
        Some d,
        ds,
        refl,
        subst (λ o. AreJoined source (end_after from o) (map OfSource ds) ds) (sym is) (own_joined source d.piece.end ds in_order.1),
        ap (λ o. option_to_list o ++ ds) (sym is),
      )
  | inr fail ↦ absurd (grind (arith, nat_tests, in_order.0))
]
