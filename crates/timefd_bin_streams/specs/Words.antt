-- Words of a command line, as the bytes of each.
use Rattle.std.specs.Prelude.{ℕ, List, String, map, string_bytes}
use denote.Ref.{Bor}
use Rattle.std.specs.declared.alloc.Global.{Global}

abbrev pub bytes_of : List (String Global) → List (List ℕ)
bytes_of words = map string_bytes words

abbrev pub borrowed_bytes : List (Bor (List ℕ)) → List (List ℕ)
borrowed_bytes words = map (λ (word : Bor (List ℕ)). word.now) words
