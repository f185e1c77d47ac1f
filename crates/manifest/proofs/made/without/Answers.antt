use Rattle.std.proofs.Common.{arith, take, sym, ◌∙◌, true, false}
use Rattle.std.proofs.lemmas.List.{take_more}
use Rattle.manifest.proofs.EdgeKeys.{found, keeps_next, drops_number}
use Rattle.manifest.proofs.made.without.Goals as goal
use Rattle.manifest.proofs.made.without.Goals.{then-not-contains+in_ok-push, else-not-contains}

pub loop-path-preserved : goal.loop-path-preserved
loop-path-preserved c = λ numbers have.
    rw (take_more c.args.paths.now c.loop-path.path-index c.path-item.result (omega arith))
    (elim c.if-not-contains.branch [
      | then-not-contains+in_ok-push w ↦
          keeps_next numbers (take c.loop-path.path-index c.args.paths.now) _ c.loop-path.kept _ _ (c.loop-path.invariant numbers have)
          (w.kept-is ∙ w.in_ok-push.ensures.ok) c.path-item.is (found c.args.outputs.now.keys numbers c.index.result _ false w.if-not-contains.ensures (c.index.ensures.place ∙ c.path-item.is) have)
      | else-not-contains w ↦
          (w.kept-is ∙ c.loop-path.invariant numbers have) ∙ sym (drops_number numbers (take c.loop-path.path-index c.args.paths.now) _
          (found c.args.outputs.now.keys numbers c.index.result _ true w.if-not-contains.ensures (c.index.ensures.place ∙ c.path-item.is) have))
    ])
