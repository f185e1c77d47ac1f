use Rattle.std.proofs.Common.{◌+◌, arith}
use Rattle.model.specs.World.{view_of}
use Rattle.model.specs.Clean.{sources_of}
use Rattle.witness.specs.Made.{behaviour}
use Rattle.witness.proofs.Rounds.{removed, one_round}
use Rattle.witness.proofs.clean.build_anew.Goals as goal

pub loop-init : goal.loop-init
loop-init g c =
    removed (λ path. path.now) c.args.edges.now c.args.files.now c.write_all.new.files c.in_ok-made.made.items c.deref.result.now c.in_ok-removals.field-0.items
    c.in_ok-made.ensures c.deref.ensures.value c.in_ok-removals.ensures c.in_ok-write_all.ensures

pub loop-preserved : goal.loop-preserved
loop-preserved g c =
    one_round (λ path. path.now) (behaviour g.C.Commands.outcome g.D.Depfiles.inputs) c.args.edges.now (sources_of c.args.edges.now (view_of c.args.files.now))
    c.loop.index (c.loop.index + 1) c.loop.files c.write_all-in-loop.new.files c.in_ok-made.made.items c.deref-in-loop.result.now c.in_ok-round.field-0.items
    (omega arith) c.in_ok-made.ensures c.deref-in-loop.ensures.value c.in_ok-round.ensures c.loop.invariant c.in_ok-write_all-2.ensures
