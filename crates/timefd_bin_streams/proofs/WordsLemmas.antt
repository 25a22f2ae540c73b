-- One more word after others.
use Rattle.std.proofs.Common.{ℕ, ◌≡◌, List, [], ◌∷◌, ◌++◌, sym, ap, ◌∙◌, append_assoc, append-nil}
use Rattle.std.proofs.lemmas.List.{map-append}
use denote.Ref.{Bor}
use Rattle.std.specs.declared.alloc.Global.{Global}
use Rattle.std.specs.Prelude.{String, string_bytes}
use Rattle.timefd_bin_streams.specs.Words.{bytes_of, borrowed_bytes}

pub one_more : (old new : List (Bor (List ℕ))) (word : Bor (List ℕ)) (first : String Global) (more rest : List (String Global))
    (all : List (List ℕ)) → new ≡ old ++ word ∷ [] → word.now ≡ string_bytes first → rest ≡ first ∷ more
    → borrowed_bytes old ++ bytes_of rest ≡ all → borrowed_bytes new ++ bytes_of more ≡ all
one_more old new word first more rest all is same split so_far =
    ap (λ words. borrowed_bytes words ++ bytes_of more) is
    ∙ (ap (λ words. words ++ bytes_of more) (map-append (λ (w : Bor (List ℕ)). w.now) old (word ∷ []))
    ∙ (append_assoc (borrowed_bytes old) (word.now ∷ []) (bytes_of more)
    ∙ (ap (λ it. borrowed_bytes old ++ it ∷ bytes_of more) same
    ∙ (ap (λ words. borrowed_bytes old ++ bytes_of words) (sym split) ∙ so_far))))

pub at_last : (words : List (Bor (List ℕ))) (rest : List (String Global)) (all : List (List ℕ)) → rest ≡ []
    → borrowed_bytes words ++ bytes_of rest ≡ all → borrowed_bytes words ≡ all
at_last words rest all none so_far =
    sym (append-nil (borrowed_bytes words))
    ∙ (ap (λ more. borrowed_bytes words ++ bytes_of more) (sym none) ∙ so_far)
