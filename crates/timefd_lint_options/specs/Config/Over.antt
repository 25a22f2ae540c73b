-- The settings of a run with the levels of a file of settings.
use Rattle.std.specs.Prelude.{true, Option, Some, None}
use Rattle.timefd_lint_options.specs.declared.settings.RunSettings.{RunSettings}
use Rattle.timefd_lint_options.specs.Config.Levels.{Levels, over}

-- If the file has levels, warnings are reported, as by an option.
abbrev pub with_levels : RunSettings → Option Levels → RunSettings
with_levels settings None = settings
with_levels settings (Some levels) = record settings { warns = true; levels = over settings.levels levels }
