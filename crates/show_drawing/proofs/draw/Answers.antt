-- The table of homes, and then the text of the top fragments, which is the drawing and has room. They are all fragments.
use mathlib.Core.Path.{refl}
use native.Mathlib.Omega.{arith}
use Rattle.show_drawing.proofs.GraphDrawn.{given_parents, placing_long, some_nodes, text_fits, size_is, drawn}
use Rattle.show_drawing.proofs.draw.Goals as goal

pub inner_nodes-inner-requires : goal.inner_nodes-inner-requires
inner_nodes-inner-requires c = given_parents c.args.graph.now.n c.args.graph.now.parent c.args.placing.now c.requires.0

pub fill_homes-requires : goal.fill_homes-requires
fill_homes-requires c = (given_parents c.args.graph.now.n c.args.graph.now.parent c.args.placing.now c.requires.0, c.inner_nodes-inner.ensures, refl)

pub tops-requires : goal.tops-requires
tops-requires c =
    let a = c.args in
    let h = c.fill_homes in
    let parents = given_parents a.graph.now.n a.graph.now.parent a.placing.now c.requires.0 in
    let fits = text_fits a.graph.now.n a.graph.now.parent a.placing.now c.requires.0 h.new.homes h.ensures in
    record {
      lent = record { few = parents.few; homes = h.ensures.long; placed = placing_long a.graph.now.n a.graph.now.parent a.placing.now c.requires.0 };
      n_nonzero = (some_nodes a.graph.now.n a.graph.now.parent a.placing.now c.requires.0, parents);
      counted = size_is a.graph.now.n a.graph.now.parent a.placing.now c.requires.0 h.new.homes h.ensures;
      placing_in_bounds = omega (arith, fits, c.requires.1);
    }

pub returns : goal.returns
returns c = λ d.
    drawn c.args.graph.now.n c.args.graph.now.parent c.args.placing.now d c.fill_homes.new.homes c.fill_homes.ensures _ _ _ c.requires.1 c.tops.ensures.written
