use Rattle.tools.proofs.Burying.{left_either, left_named}
use Rattle.tools.proofs.Putting.{on_ok}
use Rattle.tools.proofs.dead.add.Goals as goal

pub returns-in-Some : goal.returns-in-Some
returns-in-Some c = left_named c.args.declared.now.graph.manifest c.args.listed.now c.args.output.now c.in-Some.field-0 c.args.found.now c.in-Some.ensures

pub returns-in-None : goal.returns-in-None
returns-in-None c =
    on_ok c.bury.result (λ adds. left_either c.args.declared.now.graph.manifest c.args.listed.now c.args.output.now c.args.found.now c.bury.new.found c.in-None.ensures adds) c.bury.ensures
