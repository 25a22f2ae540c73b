-- Bytes that are taken from a buffer.
use Rattle.std.proofs.Common.{ℕ, ◌≡◌, ◌==◌, ◌≤◌, ◌++◌, List, [], Option, Some, None, IfSome, Result, Ok, IfOk, Bool, true, false, length, take, drop, cond, sym, ap, subst, ◌∙◌, append_assoc, arith}
use denote.Ref.{Bor}
use Rattle.std.proofs.lemmas.List.{take-append-drop}
use Rattle.std.specs.Io.Buffered.{reader_buffer, reader_capacity, reader_inner, reader_remaining}
use Rattle.std.specs.Io.KnownBytes.{Consumes, IsAtEnd, Keeps, prepend_known}
use Rattle.std.specs.declared.io.buffered.BufReader.{BufReader}

front_taken : (n : ℕ) (is_unknown : Bool) (buffer : List ℕ) (inner : Option (List ℕ))
    → Consumes (cond is_unknown None (prepend_known buffer inner))
    (cond is_unknown None (prepend_known (drop n buffer) inner)) (take n buffer)
front_taken n true buffer inner = tt
front_taken n false buffer None = tt
front_taken n false buffer (Some bytes) =
    sym (ap (λ xs. xs ++ bytes) (take-append-drop n buffer)) ∙ append_assoc (take n buffer) (drop n buffer) bytes

-- What a reader has left begins with its buffer, which loses these bytes.
pub taken : {R A : Type 0} (remaining : R → Option (List ℕ)) (old new : BufReader R A) (n : ℕ)
    → reader_buffer new ≡ drop n (reader_buffer old) → reader_inner new ≡ reader_inner old
    → reader_capacity new ≡ reader_capacity old
    → Consumes (reader_remaining remaining old) (reader_remaining remaining new) (take n (reader_buffer old))
taken remaining old new n buffer inner capacity =
    let left : ℕ → List ℕ → Option (List ℕ) → Type 0 =
    λ size bytes rest. Consumes (reader_remaining remaining old) (cond (size == 0) None (prepend_known bytes rest))
    (take n (reader_buffer old)) in
    subst (λ size. left size (reader_buffer new) (remaining (reader_inner new))) (sym capacity)
    (subst (λ bytes. left (reader_capacity old) bytes (remaining (reader_inner new))) (sym buffer)
    (subst (λ rest. left (reader_capacity old) (drop n (reader_buffer old)) (remaining rest)) (sym inner)
    (front_taken n (reader_capacity old == 0) (reader_buffer old) (remaining (reader_inner old)))))

-- Nothing is left if a reader shows nothing after its buffer was filled.
pub nothing_shown : {E : Type 0} (first old : Option (List ℕ)) (shown : Bor (List ℕ)) (buffer : List ℕ)
    (filled : Result (Bor (List ℕ)) E) → filled ≡ Ok shown → Keeps first old
    → IfSome old (λ xs. IfOk filled (λ s. length s.now ≡ 0 → xs ≡ []))
    → IfSome old (λ _. IfOk filled (λ s. length s.now ≤ length buffer)) → buffer ≡ [] → IsAtEnd first
nothing_shown None old shown buffer filled is kept end fits none = tt
nothing_shown (Some xs) None shown buffer filled is kept end fits none = absurd kept
nothing_shown (Some xs) (Some ys) shown buffer filled is kept end fits none =
    let few : length shown.now ≤ length buffer =
    subst (λ r. IfOk r (λ s. length s.now ≤ length buffer)) is fits in
    sym kept ∙ subst (λ r. IfOk r (λ s. length s.now ≡ 0 → ys ≡ [])) is end (omega (arith, few, ap length none))
