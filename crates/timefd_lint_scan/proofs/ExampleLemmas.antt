-- Examples of a source, and what is seen in each.
use Rattle.std.proofs.Common.{◌≡◌, ◌∙◌, ◌++◌, Bool, List, [], ◌∷◌, ap, false, map, refl, subst, sym, true}
use Rattle.std.proofs.lemmas.List.Elements.{All-nil, All-push}
use Rattle.std.proofs.lemmas.Str.{IsUtf8-from_is_utf8, is_utf8-from_IsUtf8}
use Rattle.std.specs.List.{All}
use Rattle.std.specs.Prelude.{IsUtf8}
use Rattle.std.specs.Str.{is_utf8}
use Rattle.timefd_lint_scan.specs.declared.doc_look.example.SeenExample.{SeenExample}
use Rattle.timefd_lint_scan.specs.declared.doc_tests.DocTest.{DocTest}
use Rattle.timefd_lint_scan.specs.declared.look.Look.{Look}
use Rattle.timefd_lint_scan.specs.declared.own_call.OwnCall.{OwnCall}
use Rattle.timefd_lint_scan.specs.declared.piece.PlacedToken.{PlacedToken}
use Rattle.timefd_lint_scan.specs.Bytes.{Text}
use Rattle.timefd_lint_scan.specs.DocLooks.{AreSeenExamples, AreSeenIn, IsLookIf, IsLookOfCode, IsSeenExample}
use Rattle.timefd_lint_scan.specs.DocTests.{test_of, tests_in}
use Rattle.timefd_lint_scan.specs.Gathered.{AreComments}
use Rattle.timefd_lint_scan.specs.Looks.{IsBlank, IsLookAlone}

-- Code that is UTF-8.
pub as_source : (code text : Text) (own : List OwnCall) (look : Look) → text ≡ code → IsUtf8 code → IsLookAlone text own look
    → IsLookOfCode code own look
as_source code text own look same utf8 is =
    subst (λ b. IsLookIf b code own look) (sym (is_utf8-from_IsUtf8 code utf8)) (subst (λ t. IsLookAlone t own look) same is)

nothing : (code : Text) (own : List OwnCall) (look : Look) (valid : Bool) → is_utf8 code ≡ valid → (IsUtf8 code → ⊥) → IsBlank look
    → IsLookIf valid code own look
nothing code own look true is not blank = absurd (not (IsUtf8-from_is_utf8 code is))
nothing code own look false is not blank = blank

pub no_source : (code : Text) (own : List OwnCall) (look : Look) → (IsUtf8 code → ⊥) → IsBlank look → IsLookOfCode code own look
no_source code own look not blank = nothing code own look (is_utf8 code) refl not blank

pub none_seen : (own : List OwnCall) → AreSeenIn own [] []
none_seen own = record { same = refl; each = All-nil (IsSeenExample own) }

map_more : {X Y : Type 0} (f : X → Y) (xs : List X) (x : X) → map f (xs ++ x ∷ []) ≡ map f xs ++ f x ∷ []
map_more f [] x = refl
map_more f (y ∷ xs) x = ap (λ ys. f y ∷ ys) (map_more f xs x)

pub one_seen : (own : List OwnCall) (tests : List DocTest) (test : DocTest) (code : Text) (look : Look) (s : SeenExample)
    (seen now : List SeenExample) → code ≡ test.code.items → IsLookOfCode code own look → s ≡ record { test = test; look = look }
    → now ≡ seen ++ s ∷ [] → AreSeenIn own tests seen → AreSeenIn own (tests ++ test ∷ []) now
one_seen own tests test code look s seen now same is one pushed so_far =
    let here : IsSeenExample own s =
    subst (IsSeenExample own) (sym one) (subst (λ c. IsLookOfCode c own look) same is) in record {
      same = ap (map (λ (x : SeenExample). x.test)) pushed
          ∙ (map_more (λ (x : SeenExample). x.test) seen s
          ∙ (ap (λ ts. ts ++ s.test ∷ []) so_far.same ∙ ap (λ (x : SeenExample). tests ++ x.test ∷ []) one));
      each = subst (All (IsSeenExample own)) (sym pushed) (All-push (IsSeenExample own) seen s so_far.each here);
    }

-- The examples in the comments of a source.
pub all_seen : (source bytes : Text) (notes comments : List PlacedToken) (own : List OwnCall) (tests : List DocTest)
    (seen : List SeenExample) → AreComments source notes → bytes ≡ source → comments ≡ notes
    → map test_of tests ≡ tests_in bytes comments → AreSeenIn own tests seen → AreSeenExamples source own seen
all_seen source bytes notes comments own tests seen noted here same examples are = record {
  notes = notes;
  noted = noted;
  tests = tests;
  examples = examples ∙ (ap (λ b. tests_in b comments) here ∙ ap (tests_in source) same);
  seen_in = are;
}
