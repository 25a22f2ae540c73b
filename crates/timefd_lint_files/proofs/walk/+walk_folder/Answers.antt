use Rattle.std.proofs.Common.{rules, arith, ◌≡◌, ◌<◌, ◌-◌, suc, length, get_or, refl, ap, ◌∙◌, string_bytes}
use Rattle.std.proofs.lemmas.Grind.{common_steps}
use Rattle.timefd_lint_files.specs.Walks.{Gives, IsWalk, text_any, texts}
use Rattle.std.proofs.lemmas.Result.{err_from_is_err_and}
use Rattle.timefd_lint_files.proofs.ErrorLemmas.{deeper}
use Rattle.timefd_lint_files.proofs.WalkLemmas.{at_first, at_last, one_looked_at, one_walked, walked}
use Rattle.timefd_lint_files.proofs.walk.+walk_folder.Goals as goal

pub entries-init : goal.entries-init
entries-init g t c = record { kept = refl; so_far = at_first _ _ _ }

pub entries-preserved-in_default : goal.entries-preserved-in_default
entries-preserved-in_default g t c =
    let lt : c.entries.at < length c.in_ok-entries.entries.items =
    first_of (search rules, omega arith, grind (arith, common_steps)) in
    let read : c.index.result.now ≡ get_or c.in_ok-entries.entries.items c.entries.at c.index.result.now =
    first_of (search rules, grind (arith, common_steps)) in record {
      kept = c.look_at.ensures.ignores ∙ c.entries.invariant.kept;
      so_far = one_looked_at c.args.choice.endings.now c.args.choice.excluded.now
          (IsWalk c.args.choice.endings.now c.args.choice.excluded.now (g.S.FileSystem.lists c.args.system.now)
          (g.S.FileSystem.holds c.args.system.now) (c.args.depth - 1))
          c.add_own.new.ignores.items c.entries.walk.ignores.items c.args.folder.now
          c.in_ok-entries.entries.items c.index.result.now c.entries.at (texts c.args.walk.now.names.items)
          (texts c.entries.walk.names.items) (texts c.look_at.new.walk.names.items)
          (text_any c.in_ok-below.field-0) lt read c.entries.invariant.so_far c.entries.invariant.kept
          c.in_ok-below.ensures.looked (ap text_any c.in_default.is);
    }

pub entries-preserved : goal.entries-preserved
entries-preserved g t c =
    let lt : c.entries.at < length c.in_ok-entries.entries.items =
    first_of (search rules, omega arith, grind (arith, common_steps)) in
    let read : c.index.result.now ≡ get_or c.in_ok-entries.entries.items c.entries.at c.index.result.now =
    first_of (search rules, grind (arith, common_steps)) in
    let named : c.deref-in-entries.result.now ≡ string_bytes c.in-Some.below =
    first_of (search rules, cc, grind (arith, common_steps)) in
    let below = c.in_ok-walk_folder.ensures.found in record {
      kept = c.in_ok-walk_folder.ensures.ignores ∙ (c.look_at.ensures.ignores ∙ c.entries.invariant.kept);
      so_far = one_walked c.args.choice.endings.now c.args.choice.excluded.now
          (IsWalk c.args.choice.endings.now c.args.choice.excluded.now (g.S.FileSystem.lists c.args.system.now)
          (g.S.FileSystem.holds c.args.system.now) (c.args.depth - 1))
          c.add_own.new.ignores.items c.entries.walk.ignores.items c.look_at.new.walk.ignores.items
          c.args.folder.now c.in_ok-entries.entries.items c.index.result.now c.entries.at
          (string_bytes c.in-Some.below) c.deref-in-entries.result.now
          (texts c.args.walk.now.names.items) (texts c.entries.walk.names.items)
          (texts c.look_at.new.walk.names.items) (texts c.walk_folder.new.walk.names.items) below.0
          (text_any c.in_ok-below.field-0) lt read c.entries.invariant.so_far c.entries.invariant.kept
          c.look_at.ensures.ignores c.in_ok-below.ensures.looked (ap text_any c.in-Some.is) named
          below.2 below.1;
    }

pub returns-clause-found : goal.returns-clause-found
returns-clause-found g t c =
    let end : c.entries.at ≡ length c.in_ok-entries.entries.items =
    first_of (omega arith, search rules, grind (arith, common_steps)) in
    let deep : c.args.depth ≡ suc (c.args.depth - 1) =
    first_of (omega arith, search rules, grind (arith, common_steps)) in
    let borrowed : c.deref.result.now ≡ c.in_ok-entries.entries.items =
    first_of (search rules, cc, grind (arith, common_steps)) in
    let last = at_last
    (Gives c.args.choice.endings.now c.args.choice.excluded.now
    (IsWalk c.args.choice.endings.now c.args.choice.excluded.now (g.S.FileSystem.lists c.args.system.now)
    (g.S.FileSystem.holds c.args.system.now) (c.args.depth - 1))
    c.add_own.new.ignores.items c.args.folder.now)
    c.in_ok-entries.entries.items c.entries.at (texts c.args.walk.now.names.items)
    (texts c.entries.walk.names.items) end c.entries.invariant.so_far in (
      last.0,
      last.1,
      walked c.args.choice.endings.now c.args.choice.excluded.now (g.S.FileSystem.lists c.args.system.now) (g.S.FileSystem.holds c.args.system.now) c.args.depth
          (c.args.depth - 1) c.args.walk.now.ignores.items c.add_own.new.ignores.items c.args.folder.now
          c.in_ok-entries.entries.items c.deref.result.now last.0 deep c.in_ok-entries.ensures.listed borrowed
          c.in_ok-add_own.ensures.added last.2,
    )

pub returns-in_err-walk_folder-clause-error : goal.returns-in_err-walk_folder-clause-error
returns-in_err-walk_folder-clause-error g t c =
    let named : c.deref-in-entries.result.now ≡ string_bytes c.in-Some.below =
    first_of (search rules, cc, grind (arith, common_steps)) in
    let p = err_from_is_err_and c.from_residual-in_err-walk_folder.result
    c.from_residual-in_err-walk_folder.ensures.1 in
    rw (p.1, p.2) (deeper (g.S.FileSystem.fails c.args.system.now) c.args.choice.endings.now
    c.args.choice.excluded.now c.entries.walk.ignores.items c.args.folder.now
    c.index.result.now (texts c.entries.walk.names.items) (texts c.look_at.new.walk.names.items)
    (string_bytes c.in-Some.below) c.deref-in-entries.result.now (text_any c.in_ok-below.field-0) c.args.depth
    c.in_err-walk_folder.field-0.0 (omega (arith, c.if-depth-eq0.false)) c.in_ok-below.ensures.looked
    (ap text_any c.in-Some.is) named c.in_err-walk_folder.ensures.error)
