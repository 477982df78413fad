use Prim.Native.Nat.{ℕ, ◌-◌, ◌*◌}
use mathlib.Core.Path.{refl, sym, subst}
use mathlib.Core.List.{List}
use native.Mathlib.Omega.{arith}
use Rattle.base_finite.specs.Stores.{Written}
use Rattle.base_finite.proofs.Stores.{written_none}
use Rattle.show_page.proofs.Texts.{lines_none, row_within, rest_length, held_room, line_written}
use borrow.Author.Rules.{rules}
use Rattle.show_page.proofs.fill_page.Goals as goal

pub loop-k-init : goal.loop-k-init
loop-k-init c =
    let old : List ℕ = c.args.out.now in (
      c.requires.held.1,
      refl,
      λ s. subst (λ (bs : List ℕ). Written old 0 bs old 0) (sym (lines_none s.graph c.args.done)) (written_none old 0),
    )

pub slice_bounds-placing-count : goal.slice_bounds-placing-count
slice_bounds-placing-count c =
    omega (arith, row_within c.args.trees.now.n c.args.passed c.loop-k.k (omega (arith, c.loop-k.auto.k, c.requires.n_bound)) c.args.last _ c.loop-k-test.true (held_room c.requires.held.0 (omega (arith, c.requires.n_bound))))

pub slice_bounds-placing-start : goal.slice_bounds-placing-start
slice_bounds-placing-start c =
    omega (arith, row_within c.args.trees.now.n c.args.passed c.loop-k.k (omega (arith, c.loop-k.auto.k, c.requires.n_bound)) c.args.last _ c.loop-k-test.true (held_room c.requires.held.0 (omega (arith, c.requires.n_bound))))

pub reading_line-end-requires : goal.reading_line-end-requires
reading_line-end-requires c =
    let within = row_within c.args.trees.now.n c.args.passed c.loop-k.k (omega (arith, c.loop-k.auto.k, c.requires.n_bound)) c.args.last _ c.loop-k-test.true (held_room c.requires.held.0 (omega (arith, c.requires.n_bound))) in
    (c.requires.n_bound.0, omega (arith, within, rest_length ((c.loop-k.k - c.args.passed) * c.args.trees.now.n) c.args.placings.now), c.loop-k.invariant.0)

pub returns-then-out-end-lt-LINE-clause-written : goal.returns-then-out-end-lt-LINE-clause-written
returns-then-out-end-lt-LINE-clause-written c =
    let l = c.loop-k in
    λ s.
    line_written s (omega (arith, c.requires.n_bound)) c.args.done _ _ c.requires.n_bound.1 l.auto.k c.loop-k-test.true refl _ _ _ _ _ c.reading_line-end.ensures.written
    (l.invariant.2 s)

pub loop-k-preserved : goal.loop-k-preserved
loop-k-preserved c =
    let l = c.loop-k in (
      search rules,
      search rules,
      λ s.
          line_written s (omega (arith, c.requires.n_bound)) c.args.done _ _ c.requires.n_bound.1 l.auto.k c.loop-k-test.true refl _ _ _ _ _ c.reading_line-end.ensures.written
          (l.invariant.2 s),
    )
