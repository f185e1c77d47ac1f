use Rattle.std.proofs.Common.{◌∙◌, sym, ap}
use Rattle.std.proofs.lemmas.List.{length-set}
use Rattle.graph.specs.Links.{links_of}
use Rattle.plan.specs.declared.step.Standing.TheVariants.{OutOfDate, Running}
use Rattle.plan.specs.Standing.{is_alias, is_settled}
use Rattle.plan_plain.proofs.Stood.{none_same}
use Rattle.plan_plain.proofs.Telling.{at_same, out_of_date_within, stood_started}
use Rattle.plan_plain.proofs.plain.Plan.started.Goals as goal

pub returns-clause-over : goal.returns-clause-over
returns-clause-over c = λ graph at.
    let standings = c.args.self.now.standings.items in
    let e = c.index.result in
    let is = at_same standings e c.args.edge c.index.ensures.place OutOfDate c.requires in
    record {
      plain = at.plain;
      edges = length-set standings e Running ∙ at.edges;
      flags = at.flags;
      settled = none_same standings e Running (out_of_date_within standings e is) (sym (ap is_alias is)) (sym (ap is_settled is)) (links_of graph) at.settled;
    }

pub returns-clause-planned : goal.returns-clause-planned
returns-clause-planned c = λ task graph steps at lawful next.
    let standings = c.args.self.now.standings.items in
    let e = c.index.result in
    let is = at_same standings e c.args.edge c.index.ensures.place OutOfDate c.requires in
    record {
      stated = at.stated;
      limits = at.limits;
      over = record {
        plain = at.over.plain;
        edges = length-set standings e Running ∙ at.over.edges;
        flags = at.over.flags;
        settled = none_same standings e Running (out_of_date_within standings e is) (sym (ap is_alias is)) (sym (ap is_settled is)) (links_of graph) at.over.settled;
      };
      stood = stood_started c.steps_move.ensures task standings steps lawful at.stood e c.args.edge c.index.ensures.place is next;
    }
