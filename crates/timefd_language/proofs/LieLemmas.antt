-- The bytes at fault lie in the text, between two of its characters.
use Rattle.std.proofs.Common.{ℕ, ◌≡◌, ◌+◌, ◌<◌, ◌≤◌, Bool, true, false, List, [], ◌∷◌, ◌++◌, length, length-append, drop, min, get_or, refl, sym, ap, ◌∙◌, subst, arith, append-nil, IsUtf8}
use Rattle.std.specs.Prelude.{chars, ⊤}
use Rattle.std.specs.List.{prefix_len}
use Rattle.std.specs.Str.{IsCharBoundary}
use Rattle.std.proofs.Math.Seq.{get_or-append_seam}
use Rattle.std.proofs.Math.Utf8.{encodes}
use Rattle.std.proofs.lemmas.Bool.Decides.{nat_tests}
use Rattle.std.proofs.lemmas.List.Sums.{prefix_len-le-length, prefix_len_stops}
use Rattle.std.proofs.lemmas.Str.{IsCharBoundary-start, IsCharBoundary-end, IsCharBoundary-before_ascii, IsCharBoundary-from_rest, IsCharBoundary-past_char, IsUtf8-drop, encodes-chars}
use Rattle.timefd_lang_component.specs.Tree.{Text}
use Rattle.timefd_lang_fault.specs.Faults.{Fault}
use Rattle.timefd_language.specs.Bytes.{is_word_byte, is_key_byte}
use Rattle.timefd_language.specs.declared.description_version.Language.{Language}
use Rattle.timefd_language.specs.FaultSpans.{LiesBetween}
use Rattle.timefd_language.specs.Spans.{Extent, one_character, whole_word, whole_key, this_many, extent_of, first_len, measured, end_of}

-- one character
character_between : (rest : Text) → IsUtf8 rest → IsCharBoundary rest (first_len (chars rest))
character_between rest utf8 = by (chars rest) refl
  where
    by : (cs : List ℕ) → chars rest ≡ cs → IsCharBoundary rest (first_len cs)
    by [] e = IsCharBoundary-start rest utf8
    by (c ∷ cs) e =
        subst (IsCharBoundary rest) (omega arith)
        (IsCharBoundary-past_char rest (encodes cs) 0 c (omega arith) utf8
        (sym (encodes-chars rest utf8) ∙ ap encodes e))

-- bytes up to one that fails a test, which only bytes of ASCII fail
prefix_between : (test : ℕ → Bool) → ((b : ℕ) → test b ≡ false → b < 128) → (rest : Text)
    → IsCharBoundary rest (prefix_len test rest)
prefix_between test ascii rest = (
  prefix_len-le-length test rest,
  λ less high. (IsCharBoundary-before_ascii rest (prefix_len test rest) less
      (ascii _ (prefix_len_stops test rest 0 less))).1 less high,
)

pub no_word : (b : ℕ) → is_word_byte b ≡ false → b < 128
no_word b e = grind (arith, nat_tests)

pub no_key : (b : ℕ) → is_key_byte b ≡ false → b < 128
no_key b e = grind (arith, nat_tests)

-- Nothing follows, or a byte of ASCII.
abbrev pub Follows : Text → Type 0
Follows [] = ⊤
Follows (b ∷ text) = b < 128

pub word_between : (rest word more : Text) → rest ≡ word ++ more → Follows more
    → IsCharBoundary rest (length word)
word_between rest word [] e ascii =
    subst (λ t. IsCharBoundary t (length word)) (sym (e ∙ append-nil word)) (IsCharBoundary-end word)
word_between rest word (b ∷ more) e ascii =
    IsCharBoundary-before_ascii rest (length word)
    (omega (arith, ap length e, length-append word (b ∷ more)))
    (subst (λ x. x < 128) (sym (ap (λ t. get_or t (length word) 0) e ∙ get_or-append_seam word b more 0))
    ascii)

measured_between : (x : Extent) (rest : Text) → IsUtf8 rest
    → ((n : ℕ) → x ≡ this_many n → IsCharBoundary rest (min n (length rest)))
    → IsCharBoundary rest (measured x rest)
measured_between one_character rest utf8 many = character_between rest utf8
measured_between whole_word rest utf8 many = prefix_between is_word_byte no_word rest
measured_between whole_key rest utf8 many = prefix_between is_key_byte no_key rest
measured_between (this_many n) rest utf8 many = many n refl

pub lies_between : (language : Language) (text : Text) (f : Fault) → IsUtf8 text
    → IsCharBoundary text f.index
    → ((n : ℕ) → extent_of language f.kind ≡ this_many n
    → IsCharBoundary (drop f.index text) (min n (length (drop f.index text))))
    → LiesBetween language text f
lies_between language text f utf8 at many =
    let end : IsCharBoundary text (end_of language text f) =
    IsCharBoundary-from_rest text f.index (measured (extent_of language f.kind) (drop f.index text)) at.0
    (measured_between (extent_of language f.kind) (drop f.index text)
    (IsUtf8-drop text f.index utf8 at) many) in
    record { within = (omega arith, end.0); start = at; end = end }
