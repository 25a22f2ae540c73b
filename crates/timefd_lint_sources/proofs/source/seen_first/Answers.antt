use Rattle.std.proofs.Common.{refl}
use Rattle.timefd_lint_sources.proofs.SeenLemmas.{of_keys, of_rust}
use Rattle.timefd_lint_sources.proofs.source.seen_first.Goals as goal

pub returns-in_ok-seen_in_rust-in-Rust : goal.returns-in_ok-seen_in_rust-in-Rust
returns-in_ok-seen_in_rust-in-Rust c =
    of_rust c.args.source c.args.source.text.now c.in-Rust.calls _ _ c.in-Rust.is refl c.in_ok-seen_in_rust-in-Rust.ensures

pub returns-in_ok-seen_by_keys-in-Keys : goal.returns-in_ok-seen_by_keys-in-Keys
returns-in_ok-seen_by_keys-in-Keys c =
    of_keys c.args.source c.in-Keys.format c.in-Keys.keys _ _ c.in-Keys.is
    c.in_ok-seen_by_keys-in-Keys.ensures.seen c.in_ok-seen_by_keys-in-Keys.ensures.stand
    c.in_ok-seen_by_keys-in-Keys.ensures.in_order
