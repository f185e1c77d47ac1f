use Rattle.model.specs.declared.event.Writer.TheVariants.{Program}
use Rattle.witness.proofs.Rounds.{one_more}
use Rattle.witness.proofs.clean.write_all.Goals as goal

pub loop-path-preserved : goal.loop-path-preserved
loop-path-preserved c =
    one_more c.args.files.now c.loop-path.files c.write.new.self c.loop-path.yielded Program c.in-Some.path c.in-Some.content _ c.loop-path.invariant c.in_ok-write.ensures.ok
