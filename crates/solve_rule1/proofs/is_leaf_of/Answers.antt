-- A leaf is a node that is not inner; its fragment is that of the root that it climbs to.
use mathlib.Core.Path.{◌≡◌, sym, ◌∙◌}
use mathlib.Core.Bool.{true, false}
use Rattle.base_nodeset.specs.Set.{mem}
use Rattle.graph.specs.Graph.{leaf_of}
use Rattle.base_tables.proofs.TreeLaws.{tree_of, tables_parents, leaf_is, own_is}
use Rattle.solve_rule1.proofs.SolvedTables.{shaped}
use Rattle.solve_rule1.proofs.is_leaf_of.Goals as goal

pub returns-else-not-has : goal.returns-else-not-has
unfolding leaf_of
returns-else-not-has c = λ s.
    let a = c.args in
    let inner : mem a.inner a.v ≡ true = sym c.has.ensures ∙ c.if-not-has.false in
    rw (leaf_is (shaped a.graph.now.n a.graph.now.parent s) (tree_of s.tables) a.inner c.requires.1 a.v c.requires.2, inner, c.if-not-has.false)

pub own-requires : goal.own-requires
own-requires c = (tables_parents c.requires.0.tables, c.requires.2)

pub returns-then-not-has : goal.returns-then-not-has
unfolding leaf_of
returns-then-not-has c = λ s.
    let a = c.args in
    let inner : mem a.inner a.v ≡ false = sym c.has.ensures ∙ c.if-not-has.true in
    let shape = shaped a.graph.now.n a.graph.now.parent s in
    let tree = tree_of s.tables in
    rw (
      leaf_is shape tree a.inner c.requires.1 a.v c.requires.2,
      inner,
      c.own.ensures.0 ∙ own_is shape tree a.v c.requires.2,
    )
