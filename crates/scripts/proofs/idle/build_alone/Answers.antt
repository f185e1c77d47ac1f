use Rattle.std.proofs.Common.{sym, ap, subst}
use Rattle.model.specs.World.{World}
use Rattle.sim.specs.declared.sim.Sim.{Sim}
use Rattle.sim.specs.declared.toy.Toy.{Toy}
use Rattle.sim.specs.Toy.{toy_outcome}
use Rattle.sim.specs.World.{world_of}
use Rattle.scripts.specs.Script.{GoesOn}
use Rattle.builder.specs.Build.{limits_of}
use Rattle.scripts.proofs.Idles.{goes_idle}
use Rattle.scripts.proofs.idle.build_alone.Goals as goal

pub returns-clause-build : goal.returns-clause-build
returns-clause-build c =
    let exit = world_of c.build-report.new.site in
    let forgets = c.forget_faults.ensures in
    record {
      exit = exit;
      build = c.build-report.ensures;
      goes_on = subst (λ (world : World). GoesOn c.build-report.result exit world) (sym {A = World} (ap (λ (site : Sim Toy). world_of site) forgets)) c.go_on.ensures;
      no_faults = ap (λ (site : Sim Toy). site.faults) forgets;
      no_gate = ap (λ (site : Sim Toy). site.gate) forgets;
    }

pub returns-clause-idle : goal.returns-clause-idle
returns-clause-idle c =
    let exit = world_of c.build-report.new.site in
    let forgets = c.forget_faults.ensures in
    goes_idle toy_outcome c.args.options.now.file (limits_of c.args.options.now) c.args.targets.now (world_of c.args.site.now) exit c.requires c.has_format.ensures c.has_reading.ensures c.has_reading-2.ensures c.build-report.result (world_of c.forget_faults.new.self) c.build-report.ensures
    (subst (λ (world : World). GoesOn c.build-report.result exit world) (sym {A = World} (ap (λ (site : Sim Toy). world_of site) forgets)) c.go_on.ensures)
