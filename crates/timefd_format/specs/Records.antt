-- The records of comma-separated values. Within quotes, a record goes on after the end of a line.
use Rattle.std.specs.Prelude.{ℕ, suc, ◌==◌, ◌≡◌, ◌≢◌, Bool, true, false, ◌&&◌, nat_eq, List, [], ◌∷◌, ◌++◌, not, Option, Some, None, Result, Ok, Err, drop, if◌then◌else◌, ⊤}
use Rattle.std.specs.Cmp.Lexicographic.{pointwise}
use Rattle.std.specs.Io.KnownBytes.{IsAtEnd}
use Rattle.std.specs.List.{starts_with}
use Rattle.timefd_lang_component.specs.Tree.{Text}
use Rattle.timefd_lint_rewrite.specs.Lines.{without_newline}
use Rattle.timefd_format.specs.declared.header.HeaderError.{HeaderError}
use Rattle.timefd_format.specs.declared.header.HeaderError.TheVariants.{Missing, Twice}
use Rattle.timefd_format.specs.declared.quoting.FieldQuoting.{FieldQuoting}
use Rattle.timefd_format.specs.declared.quoting.FieldQuoting.TheVariants.{Start}
use Rattle.timefd_format.specs.declared.records.RecordRead.{RecordRead}
use Rattle.timefd_format.specs.declared.records.RecordRead.TheVariants as reads
use Rattle.timefd_format.specs.Fields.{after, after_all, fields, is_inside, text_of}

-- a newline outside of quotes
abbrev pub ends_record : FieldQuoting → ℕ → Bool
ends_record q b = b == 10 && not (is_inside q)

-- the rest of a record, up to its newline or to the end of the bytes
abbrev pub record_from : FieldQuoting → Text → Text
record_from q [] = []
record_from q (b ∷ bs) = if ends_record q b then b ∷ [] else b ∷ record_from (after q b) bs

-- what follows the record
abbrev pub left_from : FieldQuoting → Text → Text
left_from q [] = []
left_from q (b ∷ bs) = if ends_record q b then bs else left_from (after q b) bs

-- whether quotes are open at the end of a record
abbrev pub is_open : Text → Bool
is_open row = is_inside (after_all Start row)

-- The first records of some bytes, and the rest after them.
abbrev pub AreRecords : Text → List Text → Text → Type 0
AreRecords bytes [] rest = bytes ≡ rest
AreRecords bytes (row ∷ records) rest = (row ≢ []) × (row ≡ record_from Start bytes)
    × AreRecords (left_from Start bytes) records rest

-- All records of a reader's bytes, if those are known. If a read fails, only those before the rest.
abbrev pub AreRecordsOf : Option Text → List Text → Bool → Type 0
AreRecordsOf None records failed = ⊤
AreRecordsOf (Some bytes) records true = (rest : Text) × AreRecords bytes records rest
AreRecordsOf (Some bytes) records false = AreRecords bytes records []

-- a record that is taken from the front of the bytes
abbrev pub IsNextRecord : Option Text → Text → Option Text → Type 0
IsNextRecord None row rest = ⊤
IsNextRecord (Some bytes) row rest = (row ≢ []) × (row ≡ record_from Start bytes)
    × (rest ≡ Some (left_from Start bytes))

-- What reading a record does. Nothing is known about a reader that has failed.
abbrev pub IsRecordRead : Option Text → Option Text → Text → RecordRead → Type 0
IsRecordRead old new row (reads.Record lines) =
    IsNextRecord old row new × (is_open row ≡ false)
IsRecordRead old new row reads.Open = IsNextRecord old row new × (is_open row ≡ true)
IsRecordRead old new row reads.End = IsAtEnd old
IsRecordRead old new row reads.Failed = ⊤

-- what the end of the input means after some bytes of a record
abbrev pub at_end : Text → FieldQuoting → RecordRead
at_end [] q = reads.End
at_end (b ∷ bs) q = if is_inside q then reads.Open else reads.Record 1

-- the first record without the byte order mark of UTF-8, which some programs write before it
abbrev pub without_mark : Text → Text
without_mark text =
    if starts_with nat_eq text (239 ∷ 187 ∷ 191 ∷ []) then drop 3 text else text

-- What one more field adds: whether it has the name. Two fields may not have it.
abbrev pub named_step : Option ℕ → ℕ → Bool → Result (Option ℕ) HeaderError
named_step found at false = Ok found
named_step None at true = Ok (Some at)
named_step (Some n) at true = Err Twice

abbrev pub named_end : Option ℕ → Result ℕ HeaderError
named_end None = Err Missing
named_end (Some n) = Ok n

abbrev pub named_go : (Option ℕ → Result ℕ HeaderError) → Result (Option ℕ) HeaderError
    → Result ℕ HeaderError
named_go more (Ok found) = more found
named_go more (Err e) = Err e

-- The index of the one field that has the name.
abbrev pub named_from : Text → Option ℕ → ℕ → List Text → Result ℕ HeaderError
named_from name found at [] = named_end found
named_from name found at (field ∷ others) =
    named_go (λ f. named_from name f (suc at) others)
    (named_step found at (pointwise nat_eq (text_of field) name))

abbrev pub named_in : Text → Text → Result ℕ HeaderError
named_in name header = named_from name None 0 (fields (without_mark (without_newline header)))
