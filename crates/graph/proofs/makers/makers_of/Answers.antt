use Rattle.std.proofs.Common.{ℕ, subst, IfErr}
use Rattle.paths.specs.Told.{graph_of}
use Rattle.graph.specs.Making.{IsMakingFault}
use Rattle.graph.proofs.Flaws.{dyndeps_whole}
use Rattle.graph.proofs.Makes.{makers_whole}
use Rattle.graph.proofs.Parts.{if_ok_both, on_ok_then}
use Rattle.graph.proofs.makers.makers_of.Goals as goal

pub returns-clause-makers : goal.returns-clause-makers
returns-clause-makers c =
    if_ok_both c.makers_below.result c.makers_below.ensures.fits c.makers_below.ensures.makers (λ makers fits below. makers_whole c.args.manifest.now makers.items c.len.result c.len.ensures fits below)

pub returns-clause-dyndeps : goal.returns-clause-dyndeps
returns-clause-dyndeps c = on_ok_then c.makers_below.result c.makers_below.ensures.dyndeps (dyndeps_whole c.args.manifest.now c.len.result c.len.ensures)

pub returns-clause-fault : goal.returns-clause-fault
returns-clause-fault c = subst (λ (n : ℕ). IfErr c.makers_below.result (IsMakingFault (graph_of c.args.manifest.now).edges n)) c.len.ensures c.makers_below.ensures.fault
