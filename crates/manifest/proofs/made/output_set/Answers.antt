use Rattle.std.proofs.Common.{arith, ap, length, ◌∙◌}
use Rattle.std.proofs.lemmas.List.{take_more}
use Rattle.manifest.proofs.EdgeKeys.{keys_push, keys_push_behind}
use Rattle.manifest.proofs.made.output_set.Goals as goal

pub loop-path-preserved : goal.loop-path-preserved
loop-path-preserved c =
    rw (take_more c.args.line.now.explicit_outputs c.loop-path.path-index c.path-item.result (omega (arith, ap length c.as_slice-path-items.ensures)))
    (keys_push _ _ _ _ _ c.in_ok-insert.ensures.keys (c.index.ensures.place ∙ (rw c.as_slice-path-items.ensures at c.path-item.is)) c.loop-path.invariant)

pub loop-path-2-preserved : goal.loop-path-2-preserved
loop-path-2-preserved c =
    rw (take_more c.args.line.now.implicit_outputs c.loop-path-2.path-index c.path-item-in-loop-path-2.result (omega (arith, ap length c.as_slice-path-items-2.ensures)))
    (keys_push_behind _ _ c.args.line.now.explicit_outputs _ _ _ c.in_ok-insert-2.ensures.keys (c.index-in-loop-path-2.ensures.place ∙ (rw c.as_slice-path-items-2.ensures at c.path-item-in-loop-path-2.is)) c.loop-path-2.invariant)
