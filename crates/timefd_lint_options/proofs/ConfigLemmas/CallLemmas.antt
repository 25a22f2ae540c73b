-- One more call.
use Rattle.std.proofs.Common.{ℕ, ◌≡◌, ◌≢◌, ◌⊎◌, ◌+◌, true, false, nat_eq, if◌then◌else◌, List, [], ◌∷◌, ◌++◌, Option, Some, None, MatchOption, length, drop, inl, inr, refl, sym, ap, ◌∙◌, append_assoc, string_bytes, arith}
use Rattle.std.specs.Prelude.{Result, Ok, Err, option_map}
use Rattle.std.specs.Str.Pattern.{FindsCharPrefix}
use Rattle.std.proofs.lemmas.Bool.Decides.{eqb_tells}
use Rattle.std.proofs.lemmas.Str.Pattern.{strip_prefix_char}
use denote.Ref.{Bor}
use Rattle.std.proofs.lemmas.List.{map-append}
use Rattle.timefd_lint_scan.specs.declared.own_call.OwnCall.{OwnCall}
use Rattle.timefd_lint_scan.specs.Bytes.{Text}
use Rattle.toml.specs.View.{members_view, view}
use Rattle.toml.proofs.Views.{Entry}
use Rattle.timefd_lint_options.specs.Config.Calls.{Called, after_colon, call_of, called, called_all, calls_in, in_front, with_call}
use Rattle.timefd_lint_options.specs.Config.Faults.{Fault}

-- calls, followed by further ones, unless something is wrong with those
abbrev pub after : List Called → Result (List Called) Fault → Result (List Called) Fault
after done (Ok calls) = Ok (done ++ calls)
after done (Err fault) = Err fault

pub after_none : (rest : Result (List Called) Fault) → after [] rest ≡ rest
after_none (Ok calls) = refl
after_none (Err fault) = refl

pub one_more : (done : List Called) (call : Called) (rest : Result (List Called) Fault)
    → after (done ++ call ∷ []) rest ≡ after done (in_front call rest)
one_more done call (Ok calls) = ap Ok (append_assoc done (call ∷ []) calls)
one_more done call (Err fault) = refl

-- a call that is pushed, and the remaining entries
pub pushed : (old new : List OwnCall) (call : OwnCall) (e : Entry) (more rest : List Entry)
    (all : Result (List Called) Fault) → new ≡ old ++ call ∷ [] → rest ≡ e ∷ more
    → call_of (string_bytes e.0) (view e.1) ≡ Ok (called call)
    → after (called_all old) (calls_in (members_view rest)) ≡ all
    → after (called_all new) (calls_in (members_view more)) ≡ all
pushed old new call e more rest all is split read so_far =
    ap (λ calls. after (called_all calls) (calls_in (members_view more))) is
    ∙ (ap (λ calls. after calls (calls_in (members_view more))) (map-append called old (call ∷ []))
    ∙ (one_more (called_all old) (called call) (calls_in (members_view more))
    ∙ (ap (λ first. after (called_all old) (with_call first (calls_in (members_view more)))) (sym read)
    ∙ (ap (λ es. after (called_all old) (calls_in (members_view es))) (sym split) ∙ so_far))))

other_byte : (byte : ℕ) (rest : Text) → byte ≢ 58
    → ((nat_eq byte 58 ≡ true) × (byte ≡ 58)) ⊎ ((nat_eq byte 58 ≡ false) × (byte ≢ 58))
    → None ≡ after_colon (byte ∷ rest)
other_byte byte rest no_colon (inl is) = absurd (no_colon is.1)
other_byte byte rest no_colon (inr is) = sym (ap (λ t. if t then Some rest else None) is.0)

is_after_colon : (text : Text) (r : Option (Bor Text))
    → MatchOption r ((rest : Text) → text ≢ 58 ∷ rest) (λ x. text ≡ 58 ∷ x.now)
    → option_map (λ after. after.now) r ≡ after_colon text
is_after_colon [] None none = refl
is_after_colon (byte ∷ rest) None none =
    other_byte byte rest (λ is. none rest (ap (λ b. b ∷ rest) is)) (eqb_tells byte 58)
is_after_colon text (Some x) is = sym (ap after_colon is)

-- what follows a colon at the front
pub colon_stripped : (text : Text) (r : Option (Bor Text))
    → MatchOption r (FindsCharPrefix 58 text None) (λ x. (n : ℕ) × FindsCharPrefix 58 text (Some n)
    × (x.now ≡ drop n text) × (length x.now + n ≡ length text)) → option_map (λ after. after.now) r ≡ after_colon text
colon_stripped text r found = is_after_colon text r (strip_prefix_char 58 text r found (omega arith))
