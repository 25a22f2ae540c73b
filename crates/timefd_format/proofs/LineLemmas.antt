-- Lines that are written at the end of a room.
use Rattle.std.proofs.Common.{ℕ, ◌≡◌, ◌∙◌, ◌≤◌, ◌++◌, List, [], ◌∷◌, Option, Some, None, Result, Ok, Err, length, take, drop, map, IfSome, IsSomeAnd, MatchOption, refl, sym, ap, subst, arith, length-append, length-take}
use Rattle.std.proofs.lemmas.List.{drop-append-le}
use denote.Ref.{Bor}
use Rattle.std.specs.Io.KnownBytes.{Appends}
use Rattle.std.specs.declared.alloc.Global.{Global}
use Rattle.std.specs.declared.vec.Vec.{Vec}
use Rattle.timefd_lang_component.specs.Tree.{Text, trees}
use Rattle.timefd_date_format.specs.declared.field.Unshown.{Unshown}
use Rattle.timefd_date_format.specs.declared.write.FormatError.{FormatError}
use Rattle.timefd_date_format.specs.declared.write.FormatError.TheVariants as lacks
use Rattle.timefd_date_format.specs.Outcomes.{IsOutcome}
use Rattle.timefd_date_format.specs.Written.{written, written_all}
use Rattle.timefd_date_format.proofs.OutcomeLemmas.{ends_with}
use Rattle.timefd_date_moment.specs.declared.moment.Moment.{Moment}
use Rattle.timefd_lang_node_list.specs.declared.leaves.Leaf.{Leaf}
use Rattle.timefd_lang_node_list.specs.LeafMeaning.{leaf_tree}
use Rattle.timefd_parse.specs.declared.parsing.BorrowedOutput.{BorrowedOutput}
use Rattle.timefd_parse.specs.declared.parsing.BorrowedOutput.TheVariants.{Items, Description}
use Rattle.timefd_format.specs.declared.frame.Cell.{Cell}
use Rattle.timefd_format.specs.declared.frame.LineFrame.TheVariants as frames
use Rattle.timefd_format.specs.declared.source.MomentSource.{MomentSource}
use Rattle.timefd_format.specs.Frames.{framed}
use Rattle.timefd_format.specs.ReadBack.{AreLeavesOf, IsMadeOf, tree_of}
use Rattle.timefd_format.specs.Sources.{AreLeavesIn, IsTextOf}
use Rattle.timefd_format.specs.Written.{AppendsIn, EndsWith, EndsWithLine, IsLineOf, written_of}

-- a whole line that is written
pub line_sent : (x : Result Text Unshown) (before after : Option Text) (line : Text) → IsLineOf x line
    → Appends before after line → AppendsIn frames.Line x before after
line_sent (Ok text) before after line is sent = subst (Appends before after) is sent
line_sent (Err u) before after line is sent = absurd is

-- a record that is written with the text at the end of the room as its field
pub field_sent : (x : Result Text Unshown) (cell : Cell) (before after : Option Text) (text : Text)
    → x ≡ Ok text → Appends before after (framed (frames.Field cell) text)
    → AppendsIn (frames.Field cell) x before after
field_sent x cell before after text is sent =
    subst (λ w. AppendsIn (frames.Field cell) w before after) (sym is) sent

inside : (text old new : Text) (at : ℕ) → IsOutcome (Ok text) old new (Ok at) → at ≤ length new
inside text old new at h =
    omega (arith, h.0, ap length h.1, length-append (take at old) text, length-take at old)

-- what a call returns, in terms of the room alone
pub ends : (x : Result Text Unshown) (old new : Text) (r : Result ℕ FormatError)
    → IsOutcome x old new r → EndsWith x new r
ends (Ok text) old new (Ok at) h =
    (inside text old new at h, sym (ap Ok (ends_with text old new at h)))
ends (Ok text) old new (Err lacks.Room) h = tt
ends (Ok text) old new (Err (lacks.Unshown u)) h = absurd h
ends (Err v) old new (Ok at) h = absurd h
ends (Err v) old new (Err lacks.Room) h = absurd h
ends (Err v) old new (Err (lacks.Unshown u)) h = ap Err (sym h)

pub of_tree : (m : Moment) (o : BorrowedOutput) → written_of m o ≡ written m (tree_of o)
of_tree m (Items items) = refl
of_tree m (Description d) = refl

pub ends_by_leaves : (m : Moment) (o : BorrowedOutput) (leaves : List Leaf) (old new : Text)
    (r : Result ℕ FormatError) → IsMadeOf o leaves
    → IsOutcome (written_all m (trees (map leaf_tree leaves))) old new r
    → EndsWith (written_of m o) new r
ends_by_leaves m o leaves old new r made h =
    subst (λ x. EndsWith x new r) (sym (of_tree m o ∙ ap (written m) made)) (ends _ old new r h)

-- a newline after the text
pub line_ends : (x : Result Text Unshown) (front room : Text) (r : Result ℕ FormatError)
    → room ≡ front ++ 10 ∷ [] → EndsWith x front r → EndsWithLine x room r
line_ends x front room (Ok at) is h = (
  omega (arith, h.0, ap length is, length-append front (10 ∷ [])),
  subst (λ w. IsLineOf w (drop at room)) (sym h.1) (ap (drop at) is ∙ drop-append-le at front (10 ∷ []) h.0),
)
line_ends x front room (Err lacks.Room) is h = tt
line_ends x front room (Err (lacks.Unshown u)) is h = h

-- Leaves that were found, and are borrowed.

pub borrowed_in : (source : MomentSource) (found : Option (Vec Leaf Global)) (borrowed : Option (Bor (List Leaf)))
    → IfSome found (λ leaves. IsTextOf source leaves.items)
    → MatchOption found (borrowed ≡ None) (λ x. IsSomeAnd borrowed (λ y. y.now ≡ x.items)) → AreLeavesIn source borrowed
borrowed_in source found None are cases = tt
borrowed_in source None (Some leaves) are cases = absurd cc
borrowed_in source (Some leaves) (Some borrowed) are cases = subst (IsTextOf source) (sym cases) are

pub borrowed_of : (o : BorrowedOutput) (found : Option (Vec Leaf Global)) (borrowed : Option (Bor (List Leaf)))
    → IfSome found (λ leaves. IsMadeOf o leaves.items)
    → MatchOption found (borrowed ≡ None) (λ x. IsSomeAnd borrowed (λ y. y.now ≡ x.items)) → AreLeavesOf o borrowed
borrowed_of o found None are cases = tt
borrowed_of o None (Some leaves) are cases = absurd cc
borrowed_of o (Some leaves) (Some borrowed) are cases = subst (IsMadeOf o) (sym cases) are
