use Rattle.stand_in.proofs.build.build_holding.Goals as goal

pub returns : goal.returns
returns g c = c.build_graph_holding-report.ensures
