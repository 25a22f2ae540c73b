-- What is read as a string literal is one by the grammar.
use Rattle.std.proofs.Common.{ℕ, zero, suc, ◌≡◌, ◌≤◌, ◌-◌, ◌==◌, ◌&&◌, ◌⊎◌, inl, inr, not, Bool, true, false, cond, nat_le, [], ◌∷◌, ◌++◌, length, drop}
use Rattle.std.proofs.Common.{replicate, Option, Some, None, IsTrue, refl, sym, ap, subst, ◌∙◌, append_assoc, arith, eqb-true}
use Rattle.std.proofs.lemmas.Bool.{cases_Bool, and_from}
use Rattle.timefd_lint_scan.specs.declared.class.ByteSet.TheVariants.{Line, Hash}
use Rattle.timefd_lint_scan.specs.declared.token.Encoding.{Encoding}
use Rattle.timefd_lint_scan.specs.declared.token.Encoding.TheVariants.{Str, Bytes, C}
use Rattle.timefd_lint_scan.specs.declared.token.LiteralKind.{LiteralKind}
use Rattle.timefd_lint_scan.specs.declared.token.LiteralKind.TheVariants.{Escaped, Raw}
use Rattle.timefd_lint_scan.specs.declared.token.Token.{Token}
use Rattle.timefd_lint_scan.specs.declared.token.Token.TheVariants.{White, Comment, Word, Lifetime, Literal, Sign, Unclosed}
use Rattle.timefd_lint_scan.specs.Bytes.{Text, quote, hash, apostrophe, star, slash, backslash, is_white, is_word, class_test}
use Rattle.timefd_lint_scan.specs.After.{after_run, hashes, after_string, after_escape, after_raw, after_comment}
use Rattle.timefd_lint_scan.specs.Tokens as read
use Rattle.timefd_lint_scan.specs.Tokens.{Begin, closed, opened_comment, begins_word, after_quoted, plain}
use Rattle.timefd_lint_scan.specs.Tokens.{quoted_or_plain, literal_or_less, comment_or_less, first}
use Rattle.timefd_lint_scan.specs.Grammar.{is_body, is_raw_body, letters, IsLiteral}

chosen : {A : Type 0} (b : Bool) (x y z : A) → cond b x y ≡ z
    → ((b ≡ true) × (x ≡ z)) ⊎ ((b ≡ false) × (y ≡ z))
chosen true x y z e = inl (refl, e)
chosen false x y z e = inr (refl, e)

both_true : (a b : Bool) → (a && b) ≡ true → (a ≡ true) × (b ≡ true)
both_true true b e = (refl, e)
both_true false b e = absurd cc

abbrev StringEnds : Text → Text → Type 0
StringEnds text rest = (body : Text) × (text ≡ body ++ (quote ∷ rest)) × IsTrue (is_body body)

plain_byte : (b : ℕ) (body : Text) → (b == backslash) ≡ false → (b == quote) ≡ false
    → IsTrue (is_body body) → IsTrue (is_body (b ∷ body))
plain_byte b [] e q is = rw (e, q) refl
plain_byte b (c ∷ bytes) e q is = rw (e, q) is

closes : (b : ℕ) (bytes rest : Text) → (b == quote) ≡ true → Some bytes ≡ Some rest
    → b ∷ bytes ≡ quote ∷ rest
closes b bytes rest q e = let is : b ≡ quote = eqb-true b quote q in cc

string_ends : (text rest : Text) → after_string text ≡ Some rest → StringEnds text rest
string_ends [] rest e = absurd cc
string_ends (b ∷ []) rest e = elim (chosen (b == backslash) (after_escape [])
    (cond (b == quote) (Some []) (after_string [])) (Some rest) e) [
      | inl h ↦ let empty : None ≡ Some rest = h.1 in absurd cc
      | inr h ↦ elim (chosen (b == quote) (Some []) (after_string []) (Some rest) h.1) [
        | inl q ↦ ([], closes b [] rest q.0 q.1, refl)
        | inr q ↦ let empty : None ≡ Some rest = q.1 in absurd cc
      ]
    ]
string_ends (b ∷ c ∷ bytes) rest e = elim (chosen (b == backslash) (after_escape (c ∷ bytes))
    (cond (b == quote) (Some (c ∷ bytes)) (after_string (c ∷ bytes))) (Some rest) e) [
      | inl h ↦ let r : StringEnds bytes rest = string_ends bytes rest h.1 in
          let is : IsTrue (is_body (b ∷ c ∷ r.0)) = rw h.0 r.2 in
          (b ∷ c ∷ r.0, ap (λ (t : Text). b ∷ c ∷ t) r.1, is)
      | inr h ↦ elim (chosen (b == quote) (Some (c ∷ bytes)) (after_string (c ∷ bytes)) (Some rest) h.1) [
        | inl q ↦ ([], closes b (c ∷ bytes) rest q.0 q.1, refl)
        | inr q ↦ let r : StringEnds (c ∷ bytes) rest = string_ends (c ∷ bytes) rest q.1 in
            (b ∷ r.0, ap (λ (t : Text). b ∷ t) r.1, plain_byte b r.0 h.0 q.0 r.2)
      ]
    ]

-- the text begins with as many `#` as are counted
hash_front : (n : ℕ) (bytes : Text) → n ≤ hashes bytes → bytes ≡ replicate n hash ++ drop n bytes
hash_front zero bytes le = refl
hash_front (suc n) [] le = absurd (omega arith)
hash_front (suc n) (b ∷ bytes) le = elim (cases_Bool (b == hash)) [
  | inl pass ↦
      let shorter : suc n ≤ length (b ∷ bytes) - length (after_run (class_test Hash) bytes) =
      subst (λ (t : Bool). suc n ≤ length (b ∷ bytes) - length (cond t (after_run (class_test Hash) bytes) (b ∷ bytes))) pass le in
      let is : b ≡ hash = eqb-true b hash pass in
      let more : bytes ≡ replicate n hash ++ drop n bytes = hash_front n bytes (omega (arith, shorter)) in
      ap (λ (t : Text). b ∷ t) more ∙ ap (λ (x : ℕ). x ∷ (replicate n hash ++ drop n bytes)) is
  | inr fail ↦
      let none : suc n ≤ length (b ∷ bytes) - length (b ∷ bytes) =
      subst (λ (t : Bool). suc n ≤ length (b ∷ bytes) - length (cond t (after_run (class_test Hash) bytes) (b ∷ bytes))) fail le in
      absurd (omega (arith, none))
]

nat_le_true : (n m : ℕ) → nat_le n m ≡ true → n ≤ m
nat_le_true n m e = grind arith

abbrev RawEnds : ℕ → Text → Text → Type 0
RawEnds n text rest = (body : Text) × (text ≡ body ++ (quote ∷ (replicate n hash ++ rest)))
    × IsTrue (is_raw_body n body (quote ∷ (replicate n hash ++ rest)))

raw_ends : (n : ℕ) (text rest : Text) → after_raw n text ≡ Some rest → RawEnds n text rest
raw_ends n [] rest e = absurd cc
raw_ends n (b ∷ bytes) rest e = elim (chosen ((b == quote) && nat_le n (hashes bytes))
    (Some (drop n bytes)) (after_raw n bytes) (Some rest) e) [
      | inl h ↦
          let tests : ((b == quote) ≡ true) × (nat_le n (hashes bytes) ≡ true) =
          both_true (b == quote) (nat_le n (hashes bytes)) h.0 in
          let front : bytes ≡ replicate n hash ++ drop n bytes =
          hash_front n bytes (nat_le_true n (hashes bytes) tests.1) in
          let is : b ≡ quote = eqb-true b quote tests.0 in
          let after : drop n bytes ≡ rest = cc in (
            [],
            ap (λ (t : Text). b ∷ t) (front ∙ ap (λ (t : Text). replicate n hash ++ t) after)
                ∙ ap (λ (x : ℕ). x ∷ (replicate n hash ++ rest)) is,
            refl,
          )
      | inr h ↦ let r : RawEnds n bytes rest = raw_ends n bytes rest h.1 in
          let open_still : IsTrue (not ((b == quote)
          && nat_le n (hashes (r.0 ++ (quote ∷ (replicate n hash ++ rest)))))) =
          subst (λ (t : Text). not ((b == quote) && nat_le n (hashes t)) ≡ true) r.1 (rw h.0 refl) in
          (b ∷ r.0, ap (λ (t : Text). b ∷ t) r.1, and_from _ _ open_still r.2)
    ]

-- The text before another is a literal of this kind.
abbrev Reads : LiteralKind → Text → Text → Type 0
Reads kind text rest = (front : Text) × (text ≡ front ++ rest) × IsLiteral kind front rest

unclosed_is_none : (kind : LiteralKind) → Unclosed ≡ Literal kind → ⊥
unclosed_is_none kind e = cc

closed_is : (token : Token) (r : Option Text) (kind : LiteralKind) (rest : Text)
    → closed token r ≡ record { token = Literal kind; rest = rest }
    → (token ≡ Literal kind) × (r ≡ Some rest)
closed_is token None kind rest e = absurd (unclosed_is_none kind (ap (λ (x : Begin). x.token) e))
closed_is token (Some t) kind rest e =
    (ap (λ (x : Begin). x.token) e, ap (λ (x : Begin). Some x.rest) e)

kind_of : (k kind : LiteralKind) → Literal k ≡ Literal kind → k ≡ kind
kind_of k kind e = cc

string_is : (e : Encoding) (bytes rest : Text) (kind : LiteralKind)
    → read.string e bytes ≡ record { token = Literal kind; rest = rest }
    → Reads kind (letters e ++ (quote ∷ bytes)) rest
string_is e bytes rest kind begin =
    let is : (Literal (Escaped e) ≡ Literal kind) × (after_string bytes ≡ Some rest) =
    closed_is (Literal (Escaped e)) (after_string bytes) kind rest begin in
    let r : StringEnds bytes rest = string_ends bytes rest is.1 in
    subst (λ (k : LiteralKind). Reads k (letters e ++ (quote ∷ bytes)) rest) (kind_of (Escaped e) kind is.0) (
      letters e ++ (quote ∷ []) ++ r.0 ++ (quote ∷ []),
      ap (λ (t : Text). letters e ++ (quote ∷ t)) r.1 ∙ simp (append_assoc {A = ℕ}),
      record { body = r.0; whole = refl; is = r.2 },
    )

opened_raw_is : (e : Encoding) (n : ℕ) (bytes text rest : Text) (kind : LiteralKind)
    → text ≡ replicate n hash ++ bytes
    → read.opened_raw e n bytes ≡ Some (record { token = Literal kind; rest = rest })
    → Reads kind (letters e ++ (114 ∷ text)) rest
opened_raw_is e n [] text rest kind front begin = absurd cc
opened_raw_is e n (b ∷ bytes) text rest kind front begin = elim (chosen (b == quote)
    (Some (closed (Literal (Raw e n)) (after_raw n bytes))) None
    (Some (record { token = Literal kind; rest = rest })) begin) [
      | inl h ↦
          let one : closed (Literal (Raw e n)) (after_raw n bytes) ≡ record { token = Literal kind; rest = rest } = cc in
          let is : (Literal (Raw e n) ≡ Literal kind) × (after_raw n bytes ≡ Some rest) =
          closed_is (Literal (Raw e n)) (after_raw n bytes) kind rest one in
          let r : RawEnds n bytes rest = raw_ends n bytes rest is.1 in
          let q : b ≡ quote = eqb-true b quote h.0 in
          let whole : text ≡ replicate n hash ++ (quote ∷ (r.0 ++ (quote ∷ (replicate n hash ++ rest)))) =
          front ∙ ap (λ (x : ℕ). replicate n hash ++ (x ∷ bytes)) q
          ∙ ap (λ (t : Text). replicate n hash ++ (quote ∷ t)) r.1 in
          subst (λ (k : LiteralKind). Reads k (letters e ++ (114 ∷ text)) rest) (kind_of (Raw e n) kind is.0) (
            letters e ++ (114 ∷ (replicate n hash ++ (quote ∷ []))) ++ r.0 ++ (quote ∷ replicate n hash),
            ap (λ (t : Text). letters e ++ (114 ∷ t)) whole ∙ simp (append_assoc {A = ℕ}),
            record { body = r.0; whole = refl; is = r.2 },
          )
      | inr h ↦ absurd cc
    ]

raw_is : (e : Encoding) (text rest : Text) (kind : LiteralKind)
    → read.raw e text ≡ Some (record { token = Literal kind; rest = rest })
    → Reads kind (letters e ++ (114 ∷ text)) rest
raw_is e text rest kind begin =
    opened_raw_is e (hashes text) (drop (hashes text) text) text rest kind
    (hash_front (hashes text) text (omega arith)) begin

some_begin : (b c : Begin) → Some b ≡ Some c → b ≡ c
some_begin b c e = cc

prefixed_is : (e : Encoding) (p : ℕ) (bytes rest : Text) (kind : LiteralKind) → letters e ≡ p ∷ []
    → read.prefixed e bytes ≡ Some (record { token = Literal kind; rest = rest })
    → Reads kind (p ∷ bytes) rest
prefixed_is e p [] rest kind is begin = absurd cc
prefixed_is e p (b ∷ bytes) rest kind is begin = elim (chosen (b == quote)
    (Some (read.string e bytes)) (cond (b == 114) (read.raw e bytes) None)
    (Some (record { token = Literal kind; rest = rest })) begin) [
      | inl h ↦ let q : b ≡ quote = eqb-true b quote h.0 in
          let r : Reads kind (letters e ++ (quote ∷ bytes)) rest =
          string_is e bytes rest kind (some_begin _ (record { token = Literal kind; rest = rest }) h.1) in
          subst (λ (x : ℕ). Reads kind (p ∷ x ∷ bytes) rest) (sym q)
          (subst (λ (t : Text). Reads kind (t ++ (quote ∷ bytes)) rest) is r)
      | inr h ↦ elim (chosen (b == 114) (read.raw e bytes) None
          (Some (record { token = Literal kind; rest = rest })) h.1) [
            | inl x ↦ let q : b ≡ 114 = eqb-true b 114 x.0 in
                subst (λ (y : ℕ). Reads kind (p ∷ y ∷ bytes) rest) (sym q)
                (subst (λ (t : Text). Reads kind (t ++ (114 ∷ bytes)) rest) is (raw_is e bytes rest kind x.1))
            | inr x ↦ absurd cc
          ]
    ]

literal_is : (text rest : Text) (kind : LiteralKind)
    → read.literal text ≡ Some (record { token = Literal kind; rest = rest }) → Reads kind text rest
literal_is [] rest kind begin = absurd cc
literal_is (b ∷ bytes) rest kind begin = elim (chosen (b == quote) (Some (read.string Str bytes))
    (cond (b == 114) (read.raw Str bytes) (cond (b == 98) (read.prefixed Bytes bytes)
    (cond (b == 99) (read.prefixed C bytes) None)))
    (Some (record { token = Literal kind; rest = rest })) begin) [
      | inl h ↦ subst (λ (x : ℕ). Reads kind (x ∷ bytes) rest) (sym (eqb-true b quote h.0))
          (string_is Str bytes rest kind (some_begin _ (record { token = Literal kind; rest = rest }) h.1))
      | inr h ↦ elim (chosen (b == 114) (read.raw Str bytes) (cond (b == 98) (read.prefixed Bytes bytes)
          (cond (b == 99) (read.prefixed C bytes) None))
          (Some (record { token = Literal kind; rest = rest })) h.1) [
            | inl x ↦ subst (λ (y : ℕ). Reads kind (y ∷ bytes) rest) (sym (eqb-true b 114 x.0))
                (raw_is Str bytes rest kind x.1)
            | inr x ↦ elim (chosen (b == 98) (read.prefixed Bytes bytes) (cond (b == 99) (read.prefixed C bytes) None)
                (Some (record { token = Literal kind; rest = rest })) x.1) [
                  | inl y ↦ subst (λ (z : ℕ). Reads kind (z ∷ bytes) rest) (sym (eqb-true b 98 y.0))
                      (prefixed_is Bytes 98 bytes rest kind refl y.1)
                  | inr y ↦ elim (chosen (b == 99) (read.prefixed C bytes) None
                      (Some (record { token = Literal kind; rest = rest })) y.1) [
                        | inl z ↦ subst (λ (w : ℕ). Reads kind (w ∷ bytes) rest) (sym (eqb-true b 99 z.0))
                            (prefixed_is C 99 bytes rest kind refl z.1)
                        | inr z ↦ absurd cc
                      ]
                ]
          ]
    ]

-- Nothing else is read as a literal.
abbrev IsOther : Begin → Type 0
IsOther begin = (kind : LiteralKind) → begin.token ≡ Literal kind → ⊥

closed_comment : (r : Option Text) → IsOther (closed Comment r)
closed_comment None kind e = cc
closed_comment (Some rest) kind e = cc

opened_is_other : (text : Text) (begin : Begin) → opened_comment text ≡ Some begin → IsOther begin
opened_is_other [] begin e kind is = cc
opened_is_other (b ∷ bytes) begin e kind is = elim (chosen (b == slash)
    (Some (record { token = Comment; rest = after_run (class_test Line) bytes }))
    (cond (b == star) (Some (closed Comment (after_comment 0 0 bytes))) None) (Some begin) e) [
      | inl h ↦ let one : record { token = Comment; rest = after_run (class_test Line) bytes } ≡ begin =
          some_begin (record { token = Comment; rest = after_run (class_test Line) bytes }) begin h.1 in
          let empty : Comment ≡ Literal kind = ap (λ (x : Begin). x.token) one ∙ is in absurd cc
      | inr h ↦ elim (chosen (b == star) (Some (closed Comment (after_comment 0 0 bytes))) None (Some begin) h.1) [
        | inl x ↦ subst (λ (y : Begin). IsOther y) (some_begin (closed Comment (after_comment 0 0 bytes)) begin x.1)
            (closed_comment (after_comment 0 0 bytes)) kind is
        | inr x ↦ absurd cc
      ]
    ]

comment_is_other : (text : Text) (begin : Begin) → read.comment text ≡ Some begin → IsOther begin
comment_is_other [] begin e = λ kind is. absurd cc
comment_is_other (b ∷ bytes) begin e = elim (chosen (b == slash) (opened_comment bytes) None (Some begin) e) [
  | inl h ↦ opened_is_other bytes begin h.1
  | inr h ↦ λ kind is. absurd cc
]

token_of_cond : (t : Bool) (x y : Begin) → IsOther x → IsOther y → IsOther (cond t x y)
token_of_cond true x y a b = a
token_of_cond false x y a b = b

plain_is_other : (b : ℕ) (bytes : Text) → IsOther (plain b bytes)
plain_is_other b bytes =
    token_of_cond (is_white b) (record { token = White; rest = after_run is_white bytes }) _ (λ kind e. cc)
    (token_of_cond (is_word b) (record { token = Word; rest = after_run is_word bytes }) _ (λ kind e. cc)
    (token_of_cond ((b == apostrophe) && begins_word bytes) (record { token = Lifetime; rest = after_run is_word bytes })
    (record { token = Sign; rest = bytes }) (λ kind e. cc) (λ kind e. cc)))

quoted_is_other : (b : ℕ) (bytes : Text) (r : Option Text) → IsOther (quoted_or_plain b bytes r)
quoted_is_other b bytes None = plain_is_other b bytes
quoted_is_other b bytes (Some rest) = λ kind e. cc

literal_found : (text : Text) (b : ℕ) (bytes : Text) (r : Option Begin) (rest : Text) (kind : LiteralKind)
    → r ≡ read.literal text → literal_or_less text b bytes r ≡ record { token = Literal kind; rest = rest }
    → Reads kind text rest
literal_found text b bytes None rest kind e begin =
    absurd (quoted_is_other b bytes (after_quoted text) kind (ap (λ (x : Begin). x.token) begin))
literal_found text b bytes (Some found) rest kind e begin =
    literal_is text rest kind (sym e ∙ ap (λ (x : Begin). Some x) begin)

comment_found : (text : Text) (b : ℕ) (bytes : Text) (r : Option Begin) (rest : Text) (kind : LiteralKind)
    → r ≡ read.comment text → comment_or_less text b bytes r ≡ record { token = Literal kind; rest = rest }
    → Reads kind text rest
comment_found text b bytes None rest kind e begin =
    literal_found text b bytes (read.literal text) rest kind refl begin
comment_found text b bytes (Some found) rest kind e begin =
    absurd (comment_is_other text found (sym e) kind (ap (λ (x : Begin). x.token) begin))

pub read_as_literals : (text rest : Text) (kind : LiteralKind)
    → first text ≡ Some (record { token = Literal kind; rest = rest })
    → Reads kind text rest
read_as_literals [] rest kind e = absurd cc
read_as_literals (b ∷ bytes) rest kind e =
    comment_found (b ∷ bytes) b bytes (read.comment (b ∷ bytes)) rest kind refl
    (some_begin (comment_or_less (b ∷ bytes) b bytes (read.comment (b ∷ bytes))) (record { token = Literal kind; rest = rest }) e)
