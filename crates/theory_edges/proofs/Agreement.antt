-- Graphs that agree: what is said of nodes and edges alone holds of both or of neither.
use Prim.Native.Nat.{ℕ}
use mathlib.Core.Path.{◌≡◌, sym, ◌∙◌}
use Rattle.graph.specs.Graph.{Graph, root, leaf, TreeEdge, Path, one, more, Agree}
use Rattle.theory_edges.proofs.Edges.{entered_ext, left_ext}

pub agree_sym : (g h : Graph) → Agree g h → Agree h g
agree_sym g h k =
    record {
      same_nodes = sym k.same_nodes;
      same_tree = λ p c. sym (k.same_tree p c);
      same_dominance = λ l r. sym (k.same_dominance l r);
    }

pub agree_trans : (f g h : Graph) → Agree f g → Agree g h → Agree f h
agree_trans f g h j k =
    record {
      same_nodes = j.same_nodes ∙ k.same_nodes;
      same_tree = λ p c. j.same_tree p c ∙ k.same_tree p c;
      same_dominance = λ l r. j.same_dominance l r ∙ k.same_dominance l r;
    }

pub leaf_agree : (g h : Graph) → Agree g h → (v : ℕ) → leaf g v ≡ leaf h v
unfolding leaf
leaf_agree g h k v = rw (k.same_nodes, left_ext g.tree h.tree k.same_tree v)

pub root_agree : (g h : Graph) → Agree g h → (v : ℕ) → root g v ≡ root h v
unfolding root
root_agree g h k v = rw (k.same_nodes, entered_ext g.tree h.tree k.same_tree v)

pub tree_path_agree : (g h : Graph) → Agree g h → {u v : ℕ} → Path (TreeEdge g) u v → Path (TreeEdge h) u v
tree_path_agree g h k (one {u = u} {v = v} e) = one (sym (k.same_tree u v) ∙ e)
tree_path_agree g h k (more {v = u} {w = v} p e) = more (tree_path_agree g h k p) (sym (k.same_tree u v) ∙ e)
