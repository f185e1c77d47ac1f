use Rattle.std.proofs.Common.{List, ℕ, false, subst, sym, ap, ◌∙◌}
use Rattle.std.specs.List.{flat_map}
use Rattle.graph.specs.Links.{links_of}
use Rattle.graph.specs.ReadingOf.{edges_in}
use Rattle.judge.specs.Facts.{HasTaken}
use Rattle.judge.specs.Lasting.{read_made}
use Rattle.judge.proofs.Summing.{sum_taken, lasting_taken, turned}
use Rattle.judge.proofs.looks.Looks.read_by.Goals as goal

pub returns-clause-sum : goal.returns-clause-sum
returns-clause-sum g c =
    let graph = c.args.graph.now in
    let flags = c.args.changed.now in
    let seen = c.add_edges.new.self.seen.items in
    sum_taken graph flags seen c.args.edge (edges_in c.in_ok-reading.reading) c.new-inputs.result c.add_edges.new.inputs c.in_ok-reading.ensures c.new-inputs.ensures
    (subst (λ (l : List ℕ). HasTaken graph flags false seen (flat_map (links_of graph).regular l) c.new-inputs.result c.add_edges.new.inputs) c.edges_of-edges.ensures c.in_ok-add_edges.ensures.taken)

pub returns-clause-lasts : goal.returns-clause-lasts
returns-clause-lasts g c lasts =
    let graph = c.args.graph.now in
    let flags = c.args.changed.now in
    let seen = c.add_edges.new.self.seen.items in
    lasting_taken graph flags seen c.args.edge (edges_in c.in_ok-reading.reading) c.new-inputs.result c.add_edges.new.inputs c.in_ok-reading.ensures c.new-inputs.ensures
    (subst (λ (l : List ℕ). HasTaken graph flags false seen (flat_map (links_of graph).regular l) c.new-inputs.result c.add_edges.new.inputs) c.edges_of-edges.ensures c.in_ok-add_edges.ensures.taken)
    (ap (read_made (links_of graph)) (sym c.edges_of-edges.ensures) ∙ (sym c.reads_made.ensures ∙ turned c.reads_made.result lasts))
