-- Files of the system, whatever their names are.
use Rattle.std.specs.Prelude.{Bool, false, ◌&&◌, ◌==◌, List, Option, Some, None}
use Rattle.std.specs.List.{list_any}
use Rattle.timefd_lint.specs.declared.identity.Identity.{Identity}

-- whether it is the same file: of one device, by one number there
abbrev pub is_same : Identity → Identity → Bool
is_same a b = (a.device == b.device) && (a.inode == b.inode)

-- whether the file that a name leads to is one of these
abbrev pub is_met : List Identity → Option Identity → Bool
is_met met None = false
is_met met (Some identity) = list_any (is_same identity) met
