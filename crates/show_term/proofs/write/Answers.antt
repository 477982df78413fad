-- What stands above each node, and then the text of the top roots, which is the term's and has room.
use mathlib.Core.Path.{sym, refl}
use native.Mathlib.Omega.{arith}
use Rattle.show_drawing.proofs.Texts.{drawn_whole}
use Rattle.show_term.proofs.Texts.{same_written}
use Rattle.show_term.proofs.SheetTerm.{few_nodes, parents_long, placing_long, part_long, lent, text_is, text_fits, text_room}
use Rattle.show_term.proofs.write.Goals as goal

pub fill_above-requires : goal.fill_above-requires
fill_above-requires c = (few_nodes c.requires.0, omega (arith, few_nodes c.requires.0, parents_long c.requires.0), placing_long c.requires.0, refl)

pub slice_bounds-above-end : goal.slice_bounds-above-end
slice_bounds-above-end c = omega (arith, few_nodes c.requires.0)

pub slice_bounds-topmost-end : goal.slice_bounds-topmost-end
slice_bounds-topmost-end c = sym (part_long c.requires.0 _ c.fill_above.ensures)

pub topmost-requires : goal.topmost-requires
topmost-requires c = (lent c.requires.0 _ c.fill_above.ensures, omega arith, text_room c.requires.0 _ c.fill_above.ensures (λ i. (c.type_inv.table i).fits) c.requires.1)

pub returns : goal.returns
returns c = λ w. drawn_whole (omega (arith, text_fits w _ c.fill_above.ensures (λ i. (c.type_inv.table i).fits), c.requires.1)) (same_written (sym (text_is w _ c.fill_above.ensures)) c.topmost.ensures)
