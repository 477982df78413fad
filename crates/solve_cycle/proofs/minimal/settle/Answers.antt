-- The answer is that of the graph without the edge.
use mathlib.Core.Path.{refl}
use native.Mathlib.Omega.{arith}
use Rattle.base_tables.proofs.Stored.{row_put}
use Rattle.solve_cycle.proofs.Thins.{known_still, settle_stays, settle_goes}
use Rattle.solve_cycle.proofs.minimal.settle.Goals as goal

pub has_form-requires : goal.has_form-requires
has_form-requires c = known_still c.take_out.ensures.same c.requires.0

pub returns-then-has_form : goal.returns-then-has_form
returns-then-has_form c =
    let a = c.args in
    let out = c.take_out in
    record {
      same = record { nodes = out.ensures.same.nodes; parents = out.ensures.same.parents };
      thinned = λ g settled t.
          settle_stays g a.graph.now settled t a.edge.leaf a.edge.root out.new.graph out.ensures c.has_form.result c.has_form.ensures _ (record { nodes = refl; parents = refl }) (λ v. refl) (row_put a.edge.leaf _ out.new.graph.heads (omega arith)) c.if-has_form.true;
    }

pub returns-else-has_form : goal.returns-else-has_form
returns-else-has_form c =
    let a = c.args in
    let out = c.take_out in
    record {
      same = out.ensures.same;
      thinned = λ g settled t. settle_goes g a.graph.now settled t a.edge.leaf a.edge.root out.new.graph out.ensures c.has_form.result c.has_form.ensures c.if-has_form.false;
    }
