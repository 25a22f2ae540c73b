-- What a step over a description appends, and what it leaves.
use Rattle.std.specs.Prelude.{ℕ, ◌≡◌, ◌<◌, List, [], ◌∷◌, ◌++◌, length}
use Rattle.std.specs.Borrow.{Bor}
use Rattle.std.specs.Str.{IsUtf8}
use Rattle.timefd_lang_component.specs.Tree.{Text}
use Rattle.timefd_lang_dialect.specs.declared.dialect.Dialect.{Dialect}
use Rattle.timefd_lang_dialect.specs.Asked.{Run, and_byte, run_of, quoted}
use Rattle.timefd_lang_dialect.specs.BackSteps.{IsAfter}

-- what a literal means, with these bytes in front of it
abbrev pub and_bytes : Text → Run → Run
and_bytes [] r = r
and_bytes (b ∷ bytes) r = and_byte b (and_bytes bytes r)

-- bytes of a literal are appended, and the rest of the literal follows them
pub record TakesBytes (from : Run) (text old new : Text) (rest : Bor (List ℕ)) : Type 0 where
  pub bytes : Text
  pub run : from ≡ and_bytes bytes (run_of rest.now)
  pub appended : new ≡ old ++ bytes
  pub taken : Text
  pub whole : text ≡ taken ++ rest.now
  pub utf8 : IsUtf8 rest.now

pub record TakesCharacter (text old new : Text) (rest : Bor (List ℕ)) : Type 0 where
  pub bytes : TakesBytes (run_of text) text old new rest
  pub shorter : length rest.now < length text

-- a literal is appended as it is
pub record TakesRun (text old new : Text) (rest : Bor (List ℕ)) : Type 0 where
  pub appended : new ≡ old ++ (run_of text).literal
  pub rest_is : rest.now ≡ (run_of text).rest
  pub after : IsAfter text rest

-- a literal is appended, quoted
pub record TakesLiteral (dialect : Dialect) (text old new : Text) (rest : Bor (List ℕ)) : Type 0 where
  pub appended : new ≡ old ++ quoted dialect (run_of text).literal
  pub rest_is : rest.now ≡ (run_of text).rest
  pub after : IsAfter text rest
