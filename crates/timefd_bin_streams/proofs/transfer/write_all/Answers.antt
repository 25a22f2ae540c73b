use Rattle.std.proofs.Common.{◌≡◌, ◌-◌, ◌++◌, ℕ, List, length, take, drop, ap, ◌∙◌, append_assoc}
use Rattle.std.proofs.KnownBytes.{Appends-trans}
use Rattle.std.proofs.lemmas.List.{take-append-drop, take_rest}
use Rattle.timefd_bin_streams.proofs.transfer.write_all.Goals as goal

-- A front and the rest of a text are the text, also after the front takes some of the rest.
front-grown : (front rest text : List ℕ) (n : ℕ) → front ++ rest ≡ text
    → (front ++ take n rest) ++ take (length rest - n) (drop n rest) ≡ text
front-grown front rest text n whole =
    rw (take_rest rest n) (append_assoc front (take n rest) (drop n rest) ∙
    ap (λ xs. front ++ xs) (take-append-drop n rest) ∙ whole)

pub writes-preserved : goal.writes-preserved
writes-preserved g c =
    let inv = c.writes.invariant in
    let more = take c.in_ok-n.n c.writes.rest.now in (
      inv.0 ++ more,
      front-grown inv.0 c.writes.rest.now c.args.text.now c.in_ok-n.n inv.1,
      Appends-trans _ _ _ _ _ inv.2 c.in_ok-n.ensures.moves,
    )
