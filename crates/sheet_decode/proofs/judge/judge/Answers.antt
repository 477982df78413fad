use mathlib.Core.Path.{sym, ◌∙◌}
use native.Mathlib.Omega.{arith}
use Rattle.base_finite.proofs.Laws.{count_le}
use Rattle.base_nodeset.specs.Set.{mem}
use Rattle.sheet_decode.proofs.Judges.{Sets, whole_tree, whole_overgrown, whole_ends, whole_fitted}
use Rattle.sheet_decode.proofs.judge.judge.Goals as goal
use Rattle.sheet_decode.proofs.judge.judge.Goals.{After-difference-bare}

abbrev sets_of : (c : After-difference-bare) → Sets c.args.graph.now.n c.args.graph.now.parent
sets_of c =
    record {
      few = c.requires.few;
      no_cycle = sym c.cyclic.ensures ∙ c.if-cyclic.false;
      inner = c.inner_nodes-inner.result;
      roots = c.root_nodes-roots.result;
      alone = c.difference-bare.result;
      is_inner = c.inner_nodes-inner.ensures;
      is_roots = c.root_nodes-roots.ensures;
      is_alone = c.difference-bare.ensures;
    }

pub returns-then-cyclic : goal.returns-then-cyclic
returns-then-cyclic c t d edges h = whole_tree h c.requires.few (sym c.cyclic.ensures ∙ c.if-cyclic.true)

pub overflow_add-n : goal.overflow_add-n
overflow_add-n c =
    let few = c.requires.few in
    omega (arith, few, c.count.ensures, count_le 128 (mem c.difference-bare.result))

pub returns-then-n-count-gt-MOST_NODES : goal.returns-then-n-count-gt-MOST_NODES
returns-then-n-count-gt-MOST_NODES c t d edges h =
    let sets = sets_of (goal.at.returns-then-n-count-gt-MOST_NODES c).After-difference-bare in
    whole_overgrown h sets c.count.result c.count.ensures (omega (arith, c.if-n-count-gt-MOST_NODES.true))

pub returns-then-astray : goal.returns-then-astray
returns-then-astray c t d edges h =
    let sets = sets_of (goal.at.returns-then-astray c).After-difference-bare in
    whole_ends h sets c.count.result c.count.ensures (omega (arith, c.if-n-count-gt-MOST_NODES.false)) _ c.union.ensures (sym c.astray.ensures ∙ c.if-astray.true)

pub returns : goal.returns
returns c t d edges h =
    let sets = sets_of (goal.at.returns c).After-difference-bare in
    whole_fitted h sets c.count.result c.count.ensures (omega (arith, c.if-n-count-gt-MOST_NODES.false)) _ c.union.ensures (sym c.astray.ensures ∙ c.if-astray.false)
