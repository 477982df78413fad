-- The placings at hand stay, or those that come next take their place.
use mathlib.Core.Path.{refl}
use native.Mathlib.Nat.{mul-le-mul}
use native.Mathlib.Omega.{arith}
use Rattle.show_list.proofs.Underway.{goes_on, refilled, kept, begun_anew}
use Rattle.show_list.proofs.refill.Goals as goal

pub returns-then-rest-stop : goal.returns-then-rest-stop
returns-then-rest-stop c = record { done_lt_last = c.if-rest-stop.true; kept = (kept c.args.rest c.if-rest-stop.true, refl); underway_2 = λ g u. (u, refl) }

pub fill-further-requires : goal.fill-further-requires
fill-further-requires c =
    let u = c.requires.underway.1 in
    let on = goes_on u c.if-rest-stop.false in
    let few = u.at_hand.table.bounded.few in
    record {
      standing = (record { walked = record { graph = c.requires.underway.0; table = u.at_hand.table; fits = u.at_hand.fits }; stands = u.at_hand.goes.on _ c.unwrap-at.ensures }, omega (arith, mul-le-mul few few, c.requires.in_bounds.0));
      last_lt_limit = (u.at_hand.numbered on, omega (arith, few, c.requires.in_bounds.1));
    }

pub returns : goal.returns
returns c = record {
  done_lt_last = omega (arith, c.fill-further.ensures.last_lt_last.0, c.requires.underway.1.at_hand.to, c.if-rest-stop.false);
  kept = (begun_anew c.args.rest c.if-rest-stop.false, refl);
  underway_2 = λ g u.
      let f = c.fill-further.ensures.filled g u.at_hand.fits (u.at_hand.goes.on _ c.unwrap-at.ensures) in
      (refilled u.at_hand c.if-rest-stop.false _ f.0 f.1 c.fill-further.ensures.last_lt_last.1, refl);
}
