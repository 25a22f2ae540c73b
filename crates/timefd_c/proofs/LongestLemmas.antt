-- How many bytes the longest rendering has.
use Rattle.std.proofs.Common.{ℕ, ◌≡◌, ◌∙◌, List, Option, Some, sym, arith}
use Rattle.timefd_lang_component.proofs.Greatest.{reserves_greatest_law}
use Rattle.timefd_lang_component.specs.Reserved.{reserve_all}
use Rattle.timefd_lang_component.specs.Tree.{Tree, compound, trees}
use Rattle.timefd_language.specs.declared.description_version.DescriptionVersion.TheVariants.{One, Two, Three}
use Rattle.timefd_lang_node_list.specs.Nodes.{kept_bytes}
use Rattle.timefd_parse.proofs.CountingLemmas.{pack_sum}
use Rattle.timefd_parse.specs.Language.{amount}
use Rattle.timefd_language.specs.declared.description_version.Language.{Language}
use Rattle.timefd_language.specs.declared.description_version.Language.TheVariants.{Version, Strftime}
use Rattle.timefd_c.specs.Reading.{IsLongest}
use Rattle.timefd_c_nodes.specs.Reading.Reports.{longest}

whole_longest : (list : List Tree) (bytes : ℕ) → bytes ≡ reserve_all (trees list)
    → IsLongest list bytes
whole_longest list bytes e =
    let greatest = reserves_greatest_law (compound (trees list)) in
    let longest_text = greatest.reached in
    record {
      reached = (longest_text.0, longest_text.1, omega (arith, e, longest_text.2));
      most = λ short text renders. omega (arith, e, greatest.most text renders);
    }

kept_longest : (list : List Tree) (bytes : ℕ) → bytes ≡ kept_bytes (reserve_all (trees list))
    → IsLongest list bytes
kept_longest list bytes e =
    let greatest = reserves_greatest_law (compound (trees list)) in
    let longest_text = greatest.reached in
    record {
      reached = (longest_text.0, longest_text.1, omega (arith, e, longest_text.2));
      most = λ short text renders. omega (arith, e, short, greatest.most text renders);
    }

pub is_longest : (language : Language) (list : List Tree) (bytes : ℕ)
    → bytes ≡ longest language list → IsLongest list bytes
is_longest (Version One) list bytes e = kept_longest list bytes e
is_longest (Version Two) list bytes e = kept_longest list bytes e
is_longest (Version Three) list bytes e = whole_longest list bytes (e ∙ pack_sum list)
is_longest Strftime list bytes e = kept_longest list bytes e

pub three_reserved : (language : Language) (list : List Tree) (bytes value : ℕ)
    → ◌≡◌ {A = Option Language} (Some language) (Some (Version Three))
    → bytes ≡ longest language list → value ≡ amount language list → bytes ≡ value
three_reserved (Version One) list bytes value three e f = absurd cc
three_reserved (Version Two) list bytes value three e f = absurd cc
three_reserved (Version Three) list bytes value three e f = e ∙ sym f
three_reserved Strftime list bytes value three e f = absurd cc
