use native.Mathlib.Omega.{arith}
use lib.ListN.{length-set}
use borrow.Author.Count.{below_none}
use Rattle.base_finite.proofs.Stores.{entry_more}
use Rattle.show_drawing.specs.Drawn.{home_in}
use Rattle.show_drawing.proofs.fill_homes.Goals as goal

pub loop-v-init : goal.loop-v-init
loop-v-init c = (omega arith, c.requires.2, below_none _)

pub home-requires : goal.home-requires
home-requires c = (c.requires.0, c.loop-v-test.true, c.requires.1)

pub bounds-homes-v : goal.bounds-homes-v
bounds-homes-v c = omega (arith, c.requires.0.few)

pub loop-v-preserved : goal.loop-v-preserved
loop-v-preserved c =
    let l = c.loop-v in
    let a = c.args in (
      omega arith,
      simp length-set l.invariant.1,
      entry_more (home_in a.n a.parent.now) l.homes l.v c.home.result (omega (arith, c.requires.0.few)) c.home.ensures l.invariant.2,
    )

pub shape_of-homes : goal.shape_of-homes
shape_of-homes c = omega (arith, c.requires.2, c.loop-v.invariant.1)

pub returns : goal.returns
returns c =
    let l = c.loop-v in
    record { long = l.invariant.1; home_is = λ v h. l.invariant.2 v (omega arith) }
