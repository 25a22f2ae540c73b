-- Texts of version 3 as formats.
use Rattle.std.specs.Prelude.{ℕ, ◌≡◌, ◌<◌, ◌+◌, true, List, ◌++◌, length, ⊤, string_bytes}
use Rattle.timefd_lang_component.specs.Tree.{Text}
use Rattle.timefd_lang_dialect.specs.declared.back.NoFormatError.{NoFormatError}
use Rattle.timefd_lang_dialect.specs.declared.back.NoFormatError.TheVariants.{Lacking, Merged, Memory}
use Rattle.timefd_lang_dialect.specs.declared.dialect.Dialect.{Dialect}
use Rattle.timefd_lang_dialect.specs.declared.reading.Converted.{Converted}
use Rattle.timefd_lang_dialect.specs.Asked.{AsksTo, AsksFor, ends_literal}
use Rattle.timefd_lang_dialect.specs.Best.{Lacks}
use Rattle.timefd_lang_dialect.specs.Limits.{all_limits, limits_from}
use Rattle.timefd_lang_dialect.specs.Reading.{Piece, Means, text_of}

-- the format means pieces with this description as their text and with these limits
abbrev pub IsFormatOf : Dialect → Text → Converted → Type 0
IsFormatOf dialect description answer =
    (ps : List Piece) × Means dialect (string_bytes answer.text) ps × (description ≡ text_of ps)
    × (answer.limits ≡ limits_from all_limits ps)

-- the bracket at the index is the first, from the left, that the dialect has no directive for
pub record LacksAt (dialect : Dialect) (description : Text) (index : ℕ) : Type 0 where
  pub front : Text
  pub rest : Text
  pub whole : description ≡ front ++ rest
  pub at_index : index + length rest ≡ length description
  pub lacks : Lacks dialect rest
  pub there : 0 < length rest
  pub bracket : ends_literal rest ≡ true
  pub parts : List Text
  pub asked : AsksTo dialect description parts rest

-- the format means pieces with this description as their text
abbrev pub MeansText : Dialect → Text → Text → Type 0
MeansText dialect format description =
    (ps : List Piece) × Means dialect format ps × (description ≡ text_of ps)

-- The dialect reads the format that the description asks for otherwise, or not at all.
abbrev pub IsMerged : Dialect → Text → Type 0
IsMerged dialect description =
    (format : Text) × AsksFor dialect description format × ¬ (MeansText dialect format description)

abbrev pub IsLackIn : Dialect → Text → NoFormatError → Type 0
IsLackIn dialect description (Lacking index) = LacksAt dialect description index
IsLackIn dialect description Merged = IsMerged dialect description
IsLackIn dialect description (Memory e) = ⊤
