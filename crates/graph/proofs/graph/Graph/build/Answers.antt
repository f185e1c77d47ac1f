use Rattle.std.proofs.Common.{rules, IfErr, ◌≡◌, ◌∙◌, ◌≤◌, ℕ, suc, length, sym, subst, ap}
use Rattle.paths.specs.Told.{graph_of}
use Rattle.graph.specs.Held.{StandOnce}
use Rattle.graph.specs.Making.{made_below, HaveDyndepsBelow, IsMakingFault}
use Rattle.graph.specs.Namings.{stop_at}
use Rattle.graph.specs.Occupying.{own_start}
use Rattle.graph.proofs.Beside.{found_within, stop_within, making_told, found_some, found_none, occupied_fault, apart_of}
use Rattle.graph.proofs.Ends.{none_twice, none_other}
use Rattle.graph.proofs.Flaws.{dyndeps_whole, in_order_below}
use Rattle.graph.proofs.Makes.{makers_whole}
use Rattle.graph.proofs.Parts.{if_err_then}
use Rattle.graph.proofs.graph.Graph.build.Goals as goal

pub stop_at-requires : goal.stop_at-requires
stop_at-requires c = found_within (own_start c.args.folder.now) c.args.manifest c.in_ok-occupied.occupied c.in_ok-occupied.ensures

pub makers_below-requires : goal.makers_below-requires
makers_below-requires c =
    subst (λ (n : ℕ). n ≤ length c.args.manifest.lines) (sym {A = ℕ} c.stop_at.ensures) (stop_within (own_start c.args.folder.now) c.args.manifest c.in_ok-occupied.occupied c.in_ok-occupied.ensures)

pub fault_at-requires : goal.fault_at-requires
fault_at-requires c = (found_some (own_start c.args.folder.now) c.args.manifest c.in_ok-occupied.occupied c.in-Some.at c.in-Some.is c.in_ok-occupied.ensures).within

pub returns-in_err-makers-clause-fault : goal.returns-in_err-makers-clause-fault
returns-in_err-makers-clause-fault c =
    let made : IfErr c.from_residual-in_err-makers.result (IsMakingFault (graph_of c.args.manifest).edges c.stop_at.result) = search rules in
    if_err_then c.from_residual-in_err-makers.result made
    (making_told c.args.manifest c.args.folder.now c.in_ok-occupied.occupied c.in_ok-occupied.ensures c.stop_at.result c.stop_at.ensures)

pub returns-in_ok-fault_at-in-Some-clause-fault : goal.returns-in_ok-fault_at-in-Some-clause-fault
returns-in_ok-fault_at-in-Some-clause-fault c =
    let manifest = c.args.manifest in
    let stop : c.stop_at.result ≡ suc c.in-Some.at.edge = c.stop_at.ensures ∙ ap (stop_at manifest) c.in-Some.is in
    occupied_fault manifest c.args.folder.now c.in-Some.at _ (found_some (own_start c.args.folder.now) manifest c.in_ok-occupied.occupied c.in-Some.at c.in-Some.is c.in_ok-occupied.ensures)
    (in_order_below manifest c.in_ok-makers.ensures.once (suc c.in-Some.at.edge)
    (subst (λ (n : ℕ). StandOnce (made_below manifest.lines n)) stop c.in_ok-makers.ensures.makers.once) (subst (HaveDyndepsBelow manifest) stop c.in_ok-makers.ensures.dyndeps))
    c.in_ok-fault_at-in-Some.ensures

pub graph_with-requires-clause-makers : goal.graph_with-requires-clause-makers
graph_with-requires-clause-makers c =
    makers_whole c.args.manifest c.in_ok-makers.makers.items c.stop_at.result (c.stop_at.ensures ∙ ap (stop_at c.args.manifest) c.in-None.is) c.in_ok-makers.ensures.fits c.in_ok-makers.ensures.makers

pub graph_with-requires-clause-dyndeps : goal.graph_with-requires-clause-dyndeps
graph_with-requires-clause-dyndeps c = dyndeps_whole c.args.manifest c.stop_at.result (c.stop_at.ensures ∙ ap (stop_at c.args.manifest) c.in-None.is) c.in_ok-makers.ensures.dyndeps

pub returns-in_ok-graph_with-in-None-clause-once : goal.returns-in_ok-graph_with-in-None-clause-once
returns-in_ok-graph_with-in-None-clause-once c =
    none_twice c.args.manifest c.in_ok-makers.makers.items
    (makers_whole c.args.manifest c.in_ok-makers.makers.items c.stop_at.result (c.stop_at.ensures ∙ ap (stop_at c.args.manifest) c.in-None.is) c.in_ok-makers.ensures.fits c.in_ok-makers.ensures.makers) c.in_ok-makers.ensures.once

pub returns-in_ok-graph_with-in-None-clause-dyndep : goal.returns-in_ok-graph_with-in-None-clause-dyndep
returns-in_ok-graph_with-in-None-clause-dyndep c =
    none_other c.args.manifest (dyndeps_whole c.args.manifest c.stop_at.result (c.stop_at.ensures ∙ ap (stop_at c.args.manifest) c.in-None.is) c.in_ok-makers.ensures.dyndeps)

pub returns-in_ok-graph_with-in-None-clause-apart : goal.returns-in_ok-graph_with-in-None-clause-apart
returns-in_ok-graph_with-in-None-clause-apart c =
    apart_of c.args.manifest c.args.folder.now (found_none (own_start c.args.folder.now) c.args.manifest c.in_ok-occupied.occupied c.in-None.is c.in_ok-occupied.ensures)
