use Rattle.std.proofs.Common.{sym, ◌∙◌, arith}
use Rattle.base_finite.proofs.Laws.{any_at, any_none}
use Rattle.sheet_labels.proofs.Fits.{holed_held}
use Rattle.sheet_labels.proofs.fit.holed.Goals as goal

pub returns-then-hole : goal.returns-then-hole
returns-then-hole c =
    λ m t d edges keeps holds.
    let bare = c.bare_nodes-bare in
    sym (any_at c.args.graph.now.n _ c.loop-v.v (omega arith) (sym c.hole.ensures ∙ c.if-hole.true)) ∙ holed_held (omega arith) holds keeps bare.result bare.ensures

pub returns : goal.returns
returns c =
    λ m t d edges keeps holds.
    let bare = c.bare_nodes-bare in
    sym (any_none c.args.graph.now.n _ (λ k h. c.loop-v.invariant k (omega arith))) ∙ holed_held (omega arith) holds keeps bare.result bare.ensures
