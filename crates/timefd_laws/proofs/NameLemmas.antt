-- Rules about names.
use Rattle.std.proofs.Common.{◌≡◌, Bool, true, false, codes, List, [], ◌∷◌, ◌++◌, length, map, Option, Some, None, refl, sym, ap, ◌∙◌}
use Rattle.std.proofs.lemmas.Bool.{false≢true}
use Rattle.timefd_lang_component.specs.Tree.{Text}
use Rattle.timefd_lang_fault.specs.declared.name.ComponentName.{ComponentName}
use Rattle.timefd_lang_fault.specs.declared.name.Name.{Name}
use Rattle.timefd_language.specs.Bytes.{lowered, equal, same, named, is_version_three}
use Rattle.timefd_language.specs.Head.{head_text}
use Rattle.timefd_language.specs.Grammar.{no_nested, nested_text}
use Rattle.timefd_language.specs.Lookup.{IsNameOf}
use Rattle.timefd_language.specs.Names.{Row, row_for, rows, row_of, component_names}
use Rattle.timefd_language.specs.Recased.{SameButCase}
use Rattle.timefd_language.specs.Verdict.{component_verdict}
use Rattle.timefd_language.proofs.Lookup.{equal-true, named-recased, named-found, Each}
use Rattle.timefd_language.proofs.Words.{equal-refl}
use Rattle.timefd_laws.specs.Names.{OneName, UnknownName, NamesWithoutCase, NamesWithCase}
use Rattle.timefd_laws.proofs.HeadLemmas.{is_ordinary}

pub unknown_name : UnknownName
unknown_name v h white named =
    is_ordinary (is_version_three v) h [] (length (head_text h ++ nested_text no_nested ++ white))
    refl named.0 named.1
    ∙ ap (component_verdict (is_version_three v) h) named.2

-- Case.

same_recased : (word a b : Text) → SameButCase a b → same false word a ≡ same false word b
same_recased word a b e = ap (equal (map lowered word)) e

row_recased : (a b : Text) → SameButCase a b → row_of false a ≡ row_of false b
row_recased a b e = named-recased (λ r. r.name) a b rows e

pub names_without_case : NamesWithoutCase
names_without_case a b (Some Name.Optional) e is =
    sym (same_recased (codes "optional") a b e) ∙ is
names_without_case a b (Some Name.First) e is =
    (sym (same_recased (codes "optional") a b e) ∙ is.0, sym (same_recased (codes "first") a b e) ∙ is.1)
names_without_case a b (Some (Name.Component n)) e is = (
  sym (same_recased (codes "optional") a b e) ∙ is.0,
  sym (same_recased (codes "first") a b e) ∙ is.1,
  sym (row_recased a b e) ∙ is.2,
)
names_without_case a b None e is = (
  sym (same_recased (codes "optional") a b e) ∙ is.0,
  sym (same_recased (codes "first") a b e) ∙ is.1,
  sym (row_recased a b e) ∙ is.2,
)

any_rows : (rs : List Row) → Each (λ r. Unit {0}) rs
any_rows [] = tt
any_rows (r ∷ rs) = (tt, any_rows rs)

pub names_with_case : NamesWithCase
names_with_case word Name.Optional is = sym (equal-true (codes "optional") word is)
names_with_case word Name.First is = sym (equal-true (codes "first") word is.1)
names_with_case word (Name.Component n) is =
    sym (named-found (λ r. r.name) (λ r. Unit {0}) word rows (row_for n) (any_rows rows) is.2).1

-- One name.

-- the name of the row that is found
abbrev component_of : Bool → Text → Option ComponentName
component_of strict word = named (λ n. (row_for n).name) strict word component_names

abbrev row_in : Option ComponentName → Option Row
row_in None = None
row_in (Some n) = Some (row_for n)

found_by_name : (strict : Bool) (word : Text) (ns : List ComponentName)
    → named (λ r. r.name) strict word (map row_for ns)
    ≡ row_in (named (λ n. (row_for n).name) strict word ns)
found_by_name strict word [] = refl
found_by_name strict word (n ∷ ns) =
    by (found_by_name strict word ns) (same strict (row_for n).name word)
  where
    by : named (λ r. r.name) strict word (map row_for ns)
        ≡ row_in (named (λ n. (row_for n).name) strict word ns) → (t : Bool)
        → elim t [
          | true ↦ Some (row_for n)
          | false ↦ named (λ r. r.name) strict word
              (map row_for ns)
        ]
        ≡ row_in (elim t [ true ↦ Some n | false ↦ named (λ n. (row_for n).name) strict word ns ])
    by more true = refl
    by more false = more

distinct_rows : (a b : ComponentName) → equal (row_for a).name (row_for b).name ≡ true → a ≡ b
distinct_rows ComponentName.Day ComponentName.Day e = refl
distinct_rows ComponentName.Day _ e = absurd (false≢true e)
distinct_rows ComponentName.End ComponentName.End e = refl
distinct_rows ComponentName.End _ e = absurd (false≢true e)
distinct_rows ComponentName.Hour ComponentName.Hour e = refl
distinct_rows ComponentName.Hour _ e = absurd (false≢true e)
distinct_rows ComponentName.Ignore ComponentName.Ignore e = refl
distinct_rows ComponentName.Ignore _ e = absurd (false≢true e)
distinct_rows ComponentName.Minute ComponentName.Minute e = refl
distinct_rows ComponentName.Minute _ e = absurd (false≢true e)
distinct_rows ComponentName.Month ComponentName.Month e = refl
distinct_rows ComponentName.Month _ e = absurd (false≢true e)
distinct_rows ComponentName.OffsetHour ComponentName.OffsetHour e = refl
distinct_rows ComponentName.OffsetHour _ e = absurd (false≢true e)
distinct_rows ComponentName.OffsetMinute ComponentName.OffsetMinute e = refl
distinct_rows ComponentName.OffsetMinute _ e = absurd (false≢true e)
distinct_rows ComponentName.OffsetSecond ComponentName.OffsetSecond e = refl
distinct_rows ComponentName.OffsetSecond _ e = absurd (false≢true e)
distinct_rows ComponentName.Ordinal ComponentName.Ordinal e = refl
distinct_rows ComponentName.Ordinal _ e = absurd (false≢true e)
distinct_rows ComponentName.Period ComponentName.Period e = refl
distinct_rows ComponentName.Period _ e = absurd (false≢true e)
distinct_rows ComponentName.Second ComponentName.Second e = refl
distinct_rows ComponentName.Second _ e = absurd (false≢true e)
distinct_rows ComponentName.Subsecond ComponentName.Subsecond e = refl
distinct_rows ComponentName.Subsecond _ e = absurd (false≢true e)
distinct_rows ComponentName.UnixTimestamp ComponentName.UnixTimestamp e = refl
distinct_rows ComponentName.UnixTimestamp _ e = absurd (false≢true e)
distinct_rows ComponentName.Weekday ComponentName.Weekday e = refl
distinct_rows ComponentName.Weekday _ e = absurd (false≢true e)
distinct_rows ComponentName.WeekNumber ComponentName.WeekNumber e = refl
distinct_rows ComponentName.WeekNumber _ e = absurd (false≢true e)
distinct_rows ComponentName.Year ComponentName.Year e = refl
distinct_rows ComponentName.Year _ e = absurd (false≢true e)

one_row : (a b : ComponentName) → row_for a ≡ row_for b → a ≡ b
one_row a b e =
    distinct_rows a b (ap (λ r. equal (row_for a).name r.name) (sym e) ∙ equal-refl (row_for a).name)

-- what the word names, given what the look-ups found
abbrev found_name : Bool → Bool → Option ComponentName → Option Name
found_name true f o = Some Name.Optional
found_name false true o = Some Name.First
found_name false false None = None
found_name false false (Some n) = Some (Name.Component n)

is_found : (strict : Bool) (word : Text) (o f : Bool) (n : Option ComponentName)
    → same strict (codes "optional") word ≡ o → same strict (codes "first") word ≡ f
    → row_of strict word ≡ row_in n → IsNameOf strict word (found_name o f n)
is_found strict word true f n is_o is_f is_n = is_o
is_found strict word false true n is_o is_f is_n = (is_o, is_f)
is_found strict word false false None is_o is_f is_n = (is_o, is_f, is_n)
is_found strict word false false (Some n) is_o is_f is_n = (is_o, is_f, is_n)

some_inj : {a b : Row} → Some a ≡ Some b → a ≡ b
some_inj e = cc

some_none : {a : Row} → Some a ≡ None → ⊥
some_none e = absurd cc

abbrev pub Both : Bool → Text → Option Name → Option Name → Type 0
Both strict word a b = IsNameOf strict word a → IsNameOf strict word b → a ≡ b

apart : (b : Bool) → b ≡ false → b ≡ true → ⊥
apart b f t = false≢true (sym f ∙ t)

one_name_of : (strict : Bool) (word : Text) (a b : Option Name) → Both strict word a b
one_name_of strict word (Some Name.Optional) (Some Name.Optional) p q = refl
one_name_of strict word (Some Name.Optional) (Some Name.First) p q = absurd (apart _ q.0 p)
one_name_of strict word (Some Name.Optional) (Some (Name.Component n)) p q =
    absurd (apart _ q.0 p)
one_name_of strict word (Some Name.Optional) None p q = absurd (apart _ q.0 p)
one_name_of strict word (Some Name.First) (Some Name.Optional) p q = absurd (apart _ p.0 q)
one_name_of strict word (Some Name.First) (Some Name.First) p q = refl
one_name_of strict word (Some Name.First) (Some (Name.Component n)) p q =
    absurd (apart _ q.1 p.1)
one_name_of strict word (Some Name.First) None p q = absurd (apart _ q.1 p.1)
one_name_of strict word (Some (Name.Component n)) (Some Name.Optional) p q =
    absurd (apart _ p.0 q)
one_name_of strict word (Some (Name.Component n)) (Some Name.First) p q =
    absurd (apart _ p.1 q.1)
one_name_of strict word (Some (Name.Component n)) (Some (Name.Component m)) p q =
    let e : row_for n ≡ row_for m = some_inj (sym p.2 ∙ q.2) in
    ap (λ x. Some (Name.Component x)) (one_row n m e)
one_name_of strict word (Some (Name.Component n)) None p q = absurd (some_none (sym p.2 ∙ q.2))
one_name_of strict word None (Some Name.Optional) p q = absurd (apart _ p.0 q)
one_name_of strict word None (Some Name.First) p q = absurd (apart _ p.1 q.1)
one_name_of strict word None (Some (Name.Component n)) p q = absurd (some_none (sym q.2 ∙ p.2))
one_name_of strict word None None p q = refl

pub one_name : OneName
one_name strict word =
    let name : Option Name = found_name (same strict (codes "optional") word)
    (same strict (codes "first") word) (component_of strict word) in
    let is : IsNameOf strict word name = is_found strict word _ _ (component_of strict word) refl refl
    (found_by_name strict word component_names) in
    (name, is, λ other h. one_name_of strict word name other is h)
