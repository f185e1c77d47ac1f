use Rattle.std.proofs.Common.{refl}
use Rattle.model.specs.SingleBuild.{task_of}
use Rattle.graph.specs.Told.{declared_by}
use Rattle.builder.specs.Build.{asked_of}
use Rattle.builder.proofs.Values.{if_ok_and}
use Rattle.builder.proofs.one_build.plan_of.Goals as goal

pub returns : goal.returns
returns c =
    let graph = c.args.graph.now in
    if_ok_and c.new.result c.new.ensures.flags c.new.ensures.planned
    (λ plan flags planned. record {
      flags = flags;
      planned = λ folder targets store in_use cone.
          let task = task_of (asked_of (declared_by graph) folder c.args.limits targets) store in
          planned task
          (c.task_of.ensures task record {
            declared = refl;
            recorded = in_use;
            bare = c.phonies_record_none.ensures graph store in_use;
          })
          refl refl cone.listed;
    })
