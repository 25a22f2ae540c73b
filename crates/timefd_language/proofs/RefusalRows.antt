-- Examples of each combination that version 3 refuses.
use Rattle.std.proofs.Common.{ℕ, ◌≡◌, refl, codes, List, [], ◌∷◌, ◌++◌, map, Result, Err}
use Rattle.timefd_lang_component.specs.Tree.{Text, Tree}
use Rattle.timefd_lang_fault.specs.Faults.{Fault, fault, invalid_combination}
use Rattle.timefd_language.specs.declared.description_version.DescriptionVersion.TheVariants.{Three}
use Rattle.timefd_language.proofs.Reader.{answer_of}

-- a text between brackets, and its fault
record RefusedText : Type 0 where
  text : Text
  fault : Fault

answers_given : List RefusedText → List (Result (List Tree) Fault)
answers_given = map (λ c. answer_of Three 127 (91 ∷ (c.text ++ 93 ∷ [])))

faults_wanted : List RefusedText → List (Result (List Tree) Fault)
faults_wanted = map (λ c. Err c.fault)

abbrev refuses : Text → Text → Text → ℕ → RefusedText
refuses text key context index = record {
  text = text;
  fault =
      fault (invalid_combination key context) index;
}

refused_texts : List RefusedText
refused_texts =
    refuses (codes "month case_sensitive:true") (codes "case_sensitive")
    (codes "for numerical month") 7
    ∷ refuses (codes "month padding:none repr:long") (codes "padding") (codes "for long month") 7
    ∷ refuses (codes "month repr:short padding:none") (codes "padding") (codes "for short month") 18
    ∷ refuses (codes "weekday repr:short one_indexed:true") (codes "one_indexed")
    (codes "for short weekday") 20
    ∷ refuses (codes "weekday one_indexed:true") (codes "one_indexed") (codes "for long weekday") 9
    ∷ refuses (codes "weekday repr:sunday case_sensitive:true") (codes "case_sensitive")
    (codes "for numerical weekday") 21
    ∷ refuses (codes "weekday case_sensitive:true repr:monday") (codes "case_sensitive")
    (codes "for numerical weekday") 9
    ∷ refuses (codes "year repr:last_two sign:mandatory range:standard") (codes "range")
    (codes "when `repr:last_two` is used") 35
    ∷ refuses (codes "year sign:mandatory repr:last_two") (codes "sign")
    (codes "when `repr:last_two` is used") 6
    ∷ refuses (codes "year base:iso_week range:extended repr:last_two") (codes "range")
    (codes "when `repr:last_two` is used") 20 ∷ []

all_refused : answers_given refused_texts ≡ faults_wanted refused_texts
unfolding answers_given faults_wanted refused_texts answer_of
all_refused = refl
