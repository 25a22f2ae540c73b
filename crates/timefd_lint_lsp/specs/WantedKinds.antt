-- Which kinds of actions a request asks for.
use Rattle.std.specs.Prelude.{ℕ, List, Bool, true, false, ◌||◌, Option, Some, None, codes, bytes_eq, option_and_then}
use Rattle.serde_json.specs.Data.{Data, Items, no_items, item}
use Rattle.serde_json.specs.Find.{as_array, as_str, pointer}
use Rattle.timefd_lint_lsp.specs.declared.editor.action.WantedActions.{WantedActions}

-- A kind asks for itself, and for each kind below it. All kinds are below the empty one.
abbrev pub asks_for_fixes : List ℕ → Bool
asks_for_fixes kind = bytes_eq kind (codes "") || bytes_eq kind (codes "quickfix")

abbrev pub asks_for_rewrites : List ℕ → Bool
asks_for_rewrites kind = bytes_eq kind (codes "") || (bytes_eq kind (codes "refactor")
    || bytes_eq kind (codes "refactor.rewrite"))

abbrev pub asks_for_fix_all : List ℕ → Bool
asks_for_fix_all kind = bytes_eq kind (codes "") || (bytes_eq kind (codes "source")
    || (bytes_eq kind (codes "source.fixAll") || bytes_eq kind (codes "source.fixAll.timefd")))

abbrev pub of_kind : List ℕ → WantedActions
of_kind kind = record {
  fixes = asks_for_fixes kind;
  rewrites = asks_for_rewrites kind;
  fix_all = asks_for_fix_all kind;
}

abbrev pub nothing : WantedActions
nothing = record { fixes = false; rewrites = false; fix_all = false }

abbrev pub of_text : Option (List ℕ) → WantedActions
of_text (Some kind) = of_kind kind
of_text None = nothing

-- What isn't a text asks for nothing.
abbrev pub wanted_by : Data → WantedActions
wanted_by d = of_text (as_str d)

abbrev pub either : WantedActions → WantedActions → WantedActions
either one other = record {
  fixes = one.fixes || other.fixes;
  rewrites = one.rewrites || other.rewrites;
  fix_all = one.fix_all || other.fix_all;
}

abbrev pub wanted_from : WantedActions → Items → WantedActions
wanted_from so_far no_items = so_far
wanted_from so_far (item kind kinds) = wanted_from (either so_far (wanted_by kind)) kinds

-- what is wanted by some kinds together
abbrev pub all_wanted : Items → WantedActions
all_wanted kinds = wanted_from nothing kinds

abbrev pub only_in : Data → Option Items
only_in d = option_and_then as_array (pointer (codes "/params/context/only") d)

-- Without a list of kinds, fixes and rewrites are wanted.
abbrev pub by_list : Option Items → WantedActions
by_list (Some kinds) = all_wanted kinds
by_list None = record { fixes = true; rewrites = true; fix_all = false }

abbrev pub wanted_in : Data → WantedActions
wanted_in d = by_list (only_in d)
