use mathlib.Core.Path.{◌≡◌}
use native.Mathlib.Omega.{arith}
use Rattle.solve_closure.proofs.Edges.{adds_ext, adds_none, adds_more, link_none, link_more}
use borrow.Author.Rules.{rules}
use Rattle.solve_closure.proofs.add_links.Goals as goal

pub loop-v-init : goal.loop-v-init
loop-v-init c = (omega arith, adds_none _ _ (link_none c.args.links.now))

pub bounds-links-v : goal.bounds-links-v
bounds-links-v c = omega (arith, c.requires.0.long)

pub add_link-requires : goal.add_link-requires
add_link-requires c =
    (search rules, search rules, λ some. omega (arith, c.requires.2, c.requires.0.node_or_none c.loop-v.v (omega arith) some))

pub loop-v-preserved : goal.loop-v-preserved
loop-v-preserved c =
    let l = c.loop-v in
    (omega arith, adds_ext (link_more l.v c.args.links.now) (adds_more l.invariant.1 c.add_link.ensures))

pub returns : goal.returns
returns c =
    let l = c.loop-v in
    let all : l.v ≡ c.args.n = omega arith in
    rw all at l.invariant.1
