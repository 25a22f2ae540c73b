-- The components of a view are modern.
use Rattle.std.proofs.Common.{ℕ, zero, suc, ◌-◌, List, [], ◌∷◌, ◌++◌, length, take, drop, map}
use Rattle.timefd_lang_component.specs.Modern.{IsModern, AreModern}
use Rattle.timefd_lang_component.specs.Tree.{Tree, trees, pack}
use Rattle.timefd_lang_component.proofs.ModernLemmas.{modern_twice_law}
use Rattle.timefd_lang_node_list.specs.declared.view.View.{View}
use Rattle.timefd_lang_node_list.specs.Nodes.{Part, Role, text, shown, together, perhaps, either, part, arity, made, before, ending, grown, grown_by}
use Rattle.timefd_lang_node_list.specs.Views.{view_tree}

append : (ts us : List Tree) → AreModern (trees ts) → AreModern (trees us) → AreModern (trees (ts ++ us))
append [] us a b = b
append (t ∷ ts) us a b = (a.0, append ts us a.1 b)

front : (n : ℕ) (ts : List Tree) → AreModern (trees ts) → AreModern (trees (take n ts))
front zero ts a = tt
front (suc n) [] a = tt
front (suc n) (t ∷ ts) a = (a.0, front n ts a.1)

after : (n : ℕ) (ts : List Tree) → AreModern (trees ts) → AreModern (trees (drop n ts))
after zero ts a = a
after (suc n) [] a = tt
after (suc n) (t ∷ ts) a = after n ts a.1

packed : (ts : List Tree) → AreModern (trees ts) → IsModern (pack ts)
packed [] a = tt
packed (t ∷ []) a = a.0
packed (t ∷ u ∷ ts) a = a

one : (r : Role) (ts : List Tree) → AreModern (trees ts) → IsModern (made r ts)
one (text bytes) ts a = tt
one (shown c) ts a = modern_twice_law c
one (together count) ts a = a
one (perhaps format) ts a = packed ts a
one (either count) ts a = a

more : (ts : List Tree) (p : Part) → AreModern (trees ts) → AreModern (trees (grown ts p))
more ts p a =
    append (before (arity p.role) ts) (made p.role (ending (arity p.role) ts) ∷ [])
    (front (length ts - arity p.role) ts a)
    (one p.role (ending (arity p.role) ts) (after (length ts - arity p.role) ts a), tt)

all : (ts : List Tree) (ps : List Part) → AreModern (trees ts) → AreModern (trees (grown_by ts ps))
all ts [] a = a
all ts (p ∷ ps) a = all (grown ts p) ps (more ts p a)

pub view_modern : (v : View) → IsModern (view_tree v)
view_modern v = packed (grown_by [] (map part v.nodes.now)) (all [] (map part v.nodes.now) tt)
