-- A word that is a modifier, or isn't, by its key and what follows the key.
use Rattle.std.proofs.Common.{◌≡◌, ℕ, ◌+◌, ◌<◌, ◌==◌, Bool, false, [], ◌∷◌, ◌++◌, length, refl, sym, ap, ◌∙◌, subst, arith, append_assoc, length-append}
use Rattle.std.specs.List.{list_all}
use Rattle.std.proofs.lemmas.Bool.{and_from}
use Rattle.timefd_lang_component.specs.Tree.{Text}
use Rattle.timefd_lang_fault.specs.declared.read_error.Fault as code_fault
use Rattle.timefd_language.specs.Bytes.{colon, is_word_byte, is_key_byte, ZeroOrMore, OneOrMore, StopsBefore}
use Rattle.timefd_language.specs.Broken.{no_colon, no_key, no_value, misfit_fault}
use Rattle.timefd_language.specs.Cut.{IsCut}
use Rattle.timefd_lang_fault.specs.ReadErrors.{IsFault}
use Rattle.timefd_language.proofs.Spans.{all-append, all-implied, key-word}
use Rattle.timefd_parse.specs.ReadModifiers.{BeginsWithWord, IsNoWord}

-- Stretches.

pub empty : (text : Text) → length text ≡ 0 → text ≡ []
empty [] e = refl
empty (b ∷ text) e = absurd (omega arith)

pub one_or_more : (test : ℕ → Bool) (text : Text) → 0 < length text → ZeroOrMore test text
    → OneOrMore test text
one_or_more test [] some passes = absurd (omega arith)
one_or_more test (b ∷ text) some passes = passes

-- Bytes of keys.

keys_are_words : (text : Text) → ZeroOrMore is_key_byte text → ZeroOrMore is_word_byte text
keys_are_words text h = all-implied is_key_byte is_word_byte key-word text h

word_stop : (b : ℕ) → is_key_byte b ≡ false → (b == colon) ≡ false → is_word_byte b ≡ false
word_stop b key other = sym (rw other refl) ∙ key

stops_word : (text : Text) → StopsBefore is_key_byte text → StopsBefore (λ b. b == 58) text
    → StopsBefore is_word_byte text
stops_word [] stops other = tt
stops_word (b ∷ text) stops other = word_stop b stops other

-- Words.

pub word_of_key : (text key after : Text) → IsCut is_key_byte text key after
    → StopsBefore (λ b. b == 58) after → IsCut is_word_byte text key after
word_of_key text key after is other =
    record {
      whole = is.whole;
      passes = keys_are_words key is.passes;
      stops =
          stops_word after is.stops other;
    }

pub no_word : (text key after : Text) → IsCut is_key_byte text key after
    → StopsBefore (λ b. b == 58) after → length key ≡ 0 → StopsBefore is_word_byte text
no_word text key after is other none =
    subst (StopsBefore is_word_byte) (sym (is.whole ∙ ap (λ t. t ++ after) (empty key none)))
    (stops_word after is.stops other)

pub word_of_parts : (text key after assigned value rest : Text) → IsCut is_key_byte text key after
    → after ≡ colon ∷ assigned → IsCut is_word_byte assigned value rest
    → BeginsWithWord text (key ++ colon ∷ value) rest
word_of_parts text key after assigned value rest is e v = record {
  cut = record {
    whole = is.whole ∙ ap (λ t. key ++ t) (e ∙ ap (λ t. colon ∷ t) v.whole) ∙
        sym (append_assoc key (colon ∷ value) rest);
    passes = all-append is_word_byte key (colon ∷ value) (keys_are_words key is.passes)
        (and_from (is_word_byte colon) (list_all is_word_byte value) refl v.passes);
    stops = v.stops;
  };
  some = simp length-append (omega arith);
}

pub after_length : (text key after assigned : Text) → IsCut is_key_byte text key after
    → after ≡ colon ∷ assigned → length text ≡ length key + 1 + length assigned
after_length text key after assigned is e =
    omega (arith, ap length is.whole, length-append key after, ap length e)

pub misfit_no_colon : (text key after : Text) (f : code_fault.Fault)
    → IsCut is_key_byte text key after → StopsBefore (λ b. b == 58) after → 0 < length key
    → IsFault (length text) f (misfit_fault (no_colon key) 0)
    → (word : Text) × (rest : Text) × BeginsWithWord text word rest × IsNoWord word (length text) f
misfit_no_colon text key after f is other some fault = (
  key,
  after,
  record { cut = word_of_key text key after is other; some = some },
  (no_colon key, one_or_more is_key_byte key some is.passes, refl, fault),
)

pub misfit_no_key : (text key after assigned value rest : Text) (f : code_fault.Fault)
    → IsCut is_key_byte text key after → after ≡ colon ∷ assigned
    → IsCut is_word_byte assigned value rest
    → length key ≡ 0 → IsFault (length text) f (misfit_fault (no_key value) 0)
    → (word : Text) × (rest : Text) × BeginsWithWord text word rest × IsNoWord word (length text) f
misfit_no_key text key after assigned value rest f is e v none fault = (
  key ++ colon ∷ value,
  rest,
  word_of_parts text key after assigned value rest is e v,
  (no_key value, v.passes, ap (λ t. t ++ colon ∷ value) (empty key none), fault),
)

pub misfit_no_value : (text key after assigned value rest : Text) (f : code_fault.Fault)
    → IsCut is_key_byte text key after → after ≡ colon ∷ assigned
    → IsCut is_word_byte assigned value rest
    → 0 < length key → length value ≡ 0 → IsFault (length text) f (misfit_fault (no_value key) 0)
    → (word : Text) × (rest : Text) × BeginsWithWord text word rest × IsNoWord word (length text) f
misfit_no_value text key after assigned value rest f is e v some none fault = (
  key ++ colon ∷ value,
  rest,
  word_of_parts text key after assigned value rest is e v,
  (
    no_value key,
    one_or_more is_key_byte key some is.passes,
    ap (λ t. key ++ colon ∷ t) (empty value none),
    fault,
  ),
)
