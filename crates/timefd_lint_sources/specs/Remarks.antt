-- What the linter reports about a source besides its descriptions.
use Rattle.std.specs.Prelude.{ℕ, ◌≡◌, ◌⊎◌, ◌-◌, true, false, List, [], ◌∷◌, ◌++◌, codes, Option, None, Some, drop, length, option_map}
use Rattle.timefd_parse.specs.Tree.{Text}
use Rattle.timefd_lint_drawing.specs.declared.draw.Style.{Style}
use Rattle.timefd_lint_diagnosis.specs.declared.diagnostic.Span.{Span}
use Rattle.timefd_lint_diagnosis.specs.Nearest.{IsNearest}
use Rattle.timefd_lint_drawing.specs.Positions.{after, front}
use Rattle.timefd_lint_drawing.specs.Shown.{cut_end, most_of_a_word, safe}
use Rattle.timefd_lint_scan.specs.declared.keys.format.FileFormat.{FileFormat}
use Rattle.timefd_lint_scan.specs.declared.keys.key.DescriptionKey.{DescriptionKey}
use Rattle.timefd_lint_scan.specs.Keys.Found.{AreValues}
use Rattle.timefd_lint_scan.specs.declared.description.SourceDescription.{SourceDescription}
use Rattle.timefd_lint_scan.specs.declared.look.Look.{Look}
use Rattle.timefd_lint_scan.specs.declared.own_call.OwnCall.{OwnCall}
use Rattle.timefd_lint_scan.specs.After.{after_run}
use Rattle.timefd_lint_scan.specs.Bytes.{is_word}
use Rattle.timefd_lint_scan.specs.DocLooks.{IsLook}
use Rattle.timefd_lint_sources.specs.declared.remark.Remark.{Remark}
use Rattle.timefd_lint_sources.specs.declared.remark.Remark.TheVariants.{Call, Code, Language, Value}
use Rattle.timefd_lint_sources.specs.declared.no_code.NoCode.{NoCode}
use Rattle.timefd_lint_sources.specs.declared.allowances.comment.Allowance.{Allowance}
use Rattle.timefd_lint_sources.specs.AtWord.{message}
use Rattle.timefd_lint_sources.specs.CodeNames.{description_codes, is_among}
use Rattle.timefd_lint_sources.specs.declared.reported.ItemEnd.{ItemEnd}
use Rattle.timefd_lint_sources.specs.declared.reported.ItemEnd.TheVariants.{UnreadCall, UnreadValue, WrongComment}
use Rattle.timefd_lint_sources.specs.declared.reported.Finder.{Finder}
use Rattle.timefd_lint_sources.specs.declared.reported.Finder.TheVariants.{Rust, Keys}
use Rattle.timefd_lint_sources.specs.declared.reported.SourceText.{SourceText}

-- the outcome of a remark
abbrev pub end_of : Remark → ItemEnd
end_of (Call at) = UnreadCall
end_of (Value at) = UnreadValue
end_of (Language at) = WrongComment
end_of (Code word) = WrongComment

abbrev pub one_end : Remark → List ItemEnd
one_end remark = end_of remark ∷ []

abbrev pub ends_of : List Remark → List ItemEnd
ends_of [] = []
ends_of (remark ∷ remarks) = one_end remark ++ ends_of remarks

-- where a remark is
abbrev pub index_of_remark : Remark → ℕ
index_of_remark (Call at) = at
index_of_remark (Value at) = at
index_of_remark (Language at) = at
index_of_remark (Code word) = word.start

-- The word that begins at an index. It has no bytes if there is none.
abbrev pub word_at : Text → ℕ → Span
word_at text at = record { start = at; end = length text - length (after_run is_word (drop at text)) }

abbrev pub language_code : Text
language_code = codes "unknown-language"

abbrev pub language_sentence : Text
language_sentence =
    codes "this comment names no language: there are 1, 2, 3, strftime, python, c, gnu, chrono, jiff, ruby, java, go and moment"

-- The message is on the word that should name a language.
abbrev pub language_note : Style → SourceText → ℕ → Text
language_note style s at = message style s (word_at s.text.now at) language_code language_sentence

-- the bytes of a text from one index to another
abbrev pub word_in : Text → ℕ → ℕ → Text
word_in text start end = front (end - start) (after start text)

-- Only so much of a word is shown, and no hidden character.
abbrev pub word_shown : Text → Text
word_shown word = safe (cut_end most_of_a_word word)

abbrev pub code_sentence : Text → Option Text → Text
code_sentence word (Some code) =
    codes "there is no error or warning `" ++ (word_shown word
    ++ (codes "` to allow; the nearest is `" ++ (code ++ codes "`")))
code_sentence word None =
    codes "there is no error or warning `" ++ (word_shown word ++ codes "` to allow")

abbrev pub no_code : Text
no_code = codes "unknown-code"

-- what is said of a word that should be a code
abbrev pub sentence_on : Text → NoCode → Text
sentence_on text word = code_sentence (word_in text word.start word.end) (option_map (λ w. w.now) word.nearest)

-- The message is on the word.
abbrev pub code_note : Style → SourceText → NoCode → Text
code_note style s word =
    message style s (record { start = word.start; end = word.end }) no_code (sentence_on s.text.now word)

-- A call or a value is counted, and nothing more is reported about it.
abbrev pub message_of : Style → SourceText → Remark → Text
message_of style s (Call at) = []
message_of style s (Value at) = []
message_of style s (Language at) = language_note style s at
message_of style s (Code word) = code_note style s word

abbrev pub messages_of : Style → SourceText → List Remark → Text
messages_of style s [] = []
messages_of style s (remark ∷ remarks) = message_of style s remark ++ messages_of style s remarks

abbrev pub on_calls : List ℕ → List Remark
on_calls [] = []
on_calls (at ∷ positions) = Call at ∷ on_calls positions

abbrev pub on_comments : List ℕ → List Remark
on_comments [] = []
on_comments (at ∷ positions) = Language at ∷ on_comments positions

abbrev pub on_values : List ℕ → List Remark
on_values [] = []
on_values (at ∷ positions) = Value at ∷ on_values positions

abbrev pub remarks_on : List ℕ → List ℕ → List Remark
remarks_on calls comments = on_calls calls ++ on_comments comments

-- The remarks on a Rust source are about the calls that are left unread, and about comments.
pub record AreSeenIn (source : Text) (own : List OwnCall) (ds : List SourceDescription) (remarks : List Remark) : Type 0 where
  pub look : Look
  pub is : IsLook source own look
  pub same : look.descriptions.items ≡ ds
  pub remarked : remarks ≡ remarks_on look.calls.items look.comments.items

-- Those on a file with keys are about all values of its keys that aren't looked at, one each, in order.
pub record AreValuesSeen (format : FileFormat) (source : Text) (names : List DescriptionKey) (ds : List SourceDescription)
    (remarks : List Remark) : Type 0 where
  pub unread : List ℕ
  pub values : AreValues format source names ds unread
  pub remarked : remarks ≡ on_values unread

abbrev pub AreRemarksBy : Finder → Text → List SourceDescription → List Remark → Type 0
AreRemarksBy (Rust calls) source ds remarks = AreSeenIn source calls.now ds remarks
AreRemarksBy (Keys format names) source ds remarks = AreValuesSeen format source names.now ds remarks

abbrev pub AreRemarks : SourceText → List SourceDescription → List Remark → Type 0
AreRemarks s ds remarks = AreRemarksBy s.finder s.text.now ds remarks

-- The word that a comment allows is no code, and this is the nearest one.
pub record IsNoCode (source : Text) (words : List Text) (a : Allowance) (word : NoCode) : Type 0 where
  pub none : is_among words (word_in source a.start a.end) ≡ false
  pub start : word.start ≡ a.start
  pub end : word.end ≡ a.end
  pub nearest : IsNearest words (word_in source a.start a.end) (option_map (λ w. w.now) word.nearest)

-- The remark on what a comment allows, if that isn't one of these codes.
abbrev pub AreOnCode : Text → List Text → Allowance → List Remark → Type 0
AreOnCode source words a remarks =
    ((is_among words (word_in source a.start a.end) ≡ true) × (remarks ≡ []))
    ⊎ ((word : NoCode) × IsNoCode source words a word × (remarks ≡ Code word ∷ []))

-- The remarks on all that comments allow, in order.
abbrev pub AreOnCodes : Text → List Text → List Allowance → List Remark → Type 0
AreOnCodes source words [] remarks = remarks ≡ []
AreOnCodes source words (a ∷ all) remarks = (one : List Remark) × (rest : List Remark)
    × AreOnCode source words a one × AreOnCodes source words all rest × (remarks ≡ one ++ rest)

abbrev pub AddsCode : Text → List Text → Allowance → List Remark → List Remark → Type 0
AddsCode source words a old new =
    (one : List Remark) × AreOnCode source words a one × (new ≡ old ++ one)

abbrev pub AddsAll : Text → List Text → List Allowance → List Remark → List Remark → Type 0
AddsAll source words all old new =
    (more : List Remark) × AreOnCodes source words all more × (new ≡ old ++ more)

-- The remarks on the words that comments allow follow.
abbrev pub AddsCodes : SourceText → List Remark → List Remark → Type 0
AddsCodes s old new = AddsAll s.text.now description_codes s.allowances.now old new

-- All remarks: on what else is seen, and on the words that comments allow.
abbrev pub AreAllRemarks : SourceText → List SourceDescription → List Remark → Type 0
AreAllRemarks s ds remarks = (seen : List Remark) × AreRemarks s ds seen × AddsCodes s seen remarks
