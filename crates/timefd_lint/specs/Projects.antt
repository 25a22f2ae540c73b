-- What the files of settings say that are found for names.
use Rattle.std.specs.Prelude.{◌≡◌, nat_eq, if◌then◌else◌, List, [], ◌∷◌, Option, Some, None, Ok, codes, string_bytes, Bool, ⊤}
use denote.Ref.{Bor}
use Rattle.timefd_parse.specs.Tree.{Text}
use Rattle.std.specs.declared.io.ErrorKind.{ErrorKind}
use Rattle.timefd_lint_files.specs.declared.groups.NameGroup.{NameGroup}
use Rattle.timefd_lint_files.specs.declared.upwards.Nearest.{Nearest}
use Rattle.timefd_lint_files.specs.Groups.{AreGroups, IsFoundFor, Site, site_any}
use Rattle.timefd_lint_files.specs.Upwards.{front_below}
use Rattle.timefd_lint_options.specs.Config.Config.{config_of, said}
use Rattle.timefd_lint.specs.declared.config.Project.{Project}
use Rattle.timefd_lint.specs.declared.projects.Named.{Named}

-- what follows the slash at the start of a path
abbrev pub below_root : Text → Option Text
below_root [] = None
below_root (byte ∷ rest) = if nat_eq byte 47 then Some rest else None

-- The file of settings has this text, in this folder.
pub record IsProjectOf (here : Text) (found : Nearest) (project : Project) : Type 0 where
  pub says : config_of found.text.items ≡ Ok (said project.config)
  pub folder : string_bytes project.folder ≡ string_bytes found.folder
  pub front : project.front.items ≡ front_below here found.above

-- Nothing is set.
pub record SaysNothing (project : Project) : Type 0 where
  pub says : said project.config ≡ record { keys = []; exclude = []; levels = None; calls = [] }
  pub folder : string_bytes project.folder ≡ []
  pub front : project.front.items ≡ []

-- what the file says that was found, if there is one
abbrev pub IsProject : Text → Option Nearest → Project → Type 0
IsProject here (Some found) project = IsProjectOf here found project
IsProject here None project = SaysNothing project

-- what the files say that were found for groups of names
abbrev pub AreNamedBy : Text → List NameGroup → List Named → Type 0
AreNamedBy here [] [] = ⊤
AreNamedBy here [] (named ∷ all) = ⊥
AreNamedBy here (group ∷ groups) [] = ⊥
AreNamedBy here (group ∷ groups) (named ∷ all) = (named.names.now ≡ group.names.now)
    × IsProject here group.found named.project × AreNamedBy here groups all

-- The nearest file of settings of a name, from its folder upwards.
abbrev pub IsSettingsFor : (Text → Text → Type 0) → (Text → ErrorKind → Type 0) → (Text → Bool → Type 0) → Text → Text
    → Option Site → Type 0
IsSettingsFor holds fails folders here name answer =
    IsFoundFor holds fails folders (codes ".timefd.toml") (front_below here 0) name answer

-- What the files of settings say that are the nearest of names. Names one after another are together if they have the
-- same file.
abbrev pub AreProjects : (Text → Text → Type 0) → (Text → ErrorKind → Type 0) → (Text → Bool → Type 0) → Text
    → List (Bor Text) → List Named → Type 0
AreProjects holds fails folders here names all = (groups : List NameGroup)
    × AreGroups (IsSettingsFor holds fails folders here) names groups × AreNamedBy here groups all

-- what the nearest file of settings of a name says
abbrev pub IsProjectFor : (Text → Text → Type 0) → (Text → ErrorKind → Type 0) → (Text → Bool → Type 0) → Text → Text
    → Project → Type 0
IsProjectFor holds fails folders here name project = (found : Option Nearest)
    × IsSettingsFor holds fails folders here name (site_any found) × IsProject here found project
