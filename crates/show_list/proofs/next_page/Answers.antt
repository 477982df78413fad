-- The lines after those that are printed.
use mathlib.Core.Path.{refl, sym, ◌∙◌}
use native.Mathlib.Omega.{arith}
use Rattle.show_list.proofs.Underway.{held_of, paged, paged_last, left_at_hand, lines_from_there}
use Rattle.std.proofs.lemmas.Option.{none-some}
use Rattle.show_list.proofs.next_page.Goals as goal

pub refill-held-requires : goal.refill-held-requires
refill-held-requires c = record { underway = c.requires.underway; in_bounds = (c.requires.in_bounds.0, c.requires.in_bounds.1) }

pub fill_page-lines-requires : goal.fill_page-lines-requires
fill_page-lines-requires c = let a = (c.refill-held.ensures.underway_2 c.requires.underway.0 c.requires.underway.1).0.at_hand in record { n_bound = (a.table.bounded.few, a.from, a.to, omega (arith, a.within)); held = (held_of a, c.requires.in_bounds.2) }

pub returns-then-follows : goal.returns-then-follows
returns-then-follows c =
    λ g u.
    let w = c.refill-held.ensures.underway_2 g u in
    let l = c.fill_page-lines.ensures in
    record {
      page = record {
        to = c.fill_page-lines.result.last;
        shown = record {
          written = lines_from_there g w.1 c.fill_page-lines.result.last (l.written (held_of w.0.at_hand));
          fits = omega (arith, l.bytes_in_bounds.0, c.fill_page-lines.auto.out);
        };
        further = omega (arith, l.bytes_in_bounds.3 c.refill-held.ensures.done_lt_last, w.1);
        within = omega (arith, l.bytes_in_bounds.1, w.0.at_hand.within);
        printed = paged w.0.at_hand _ l.bytes_in_bounds.2 l.bytes_in_bounds.1 _ _ (sym c.follows.ensures ∙ c.if-follows.true);
      };
      told = refl;
      at_hand = λ e. absurd (none-some _ (sym e));
    }

pub returns-else-follows : goal.returns-else-follows
returns-else-follows c =
    λ g u.
    let w = c.refill-held.ensures.underway_2 g u in
    let l = c.fill_page-lines.ensures in
    record {
      page = record {
        to = c.fill_page-lines.result.last;
        shown = record {
          written = lines_from_there g w.1 c.fill_page-lines.result.last (l.written (held_of w.0.at_hand));
          fits = omega (arith, l.bytes_in_bounds.0, c.fill_page-lines.auto.out);
        };
        further = omega (arith, l.bytes_in_bounds.3 c.refill-held.ensures.done_lt_last, w.1);
        within = omega (arith, l.bytes_in_bounds.1, w.0.at_hand.within);
        printed = paged_last w.0.at_hand _ l.bytes_in_bounds.2 l.bytes_in_bounds.1 (sym c.follows.ensures ∙ c.if-follows.false) _ _;
      };
      told = refl;
      at_hand = λ e.
          left_at_hand w.0.at_hand _ l.bytes_in_bounds.2 l.bytes_in_bounds.1 (sym c.follows.ensures ∙ c.if-follows.false) c.refill-held.ensures.kept.0 c.refill-held.ensures.kept.1;
    }
