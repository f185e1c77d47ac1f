use Rattle.std.proofs.Common.{[]}
use Rattle.graph.specs.Told.{declared_by}
use Rattle.builder.proofs.Opened.{opened_reported, some_course, some_begins}
use Rattle.builder.proofs.one_build.build_graph_holding.Goals as goal

pub reported-told-requires-clause-begins : goal.reported-told-requires-clause-begins
reported-told-requires-clause-begins g c = (
  some_course g.S.Texts.tells c.args.graph c.args.asked.now (g.S.Texts.world c.args.site.now) (g.S.Texts.world c.opened.new.site) c.in-Ok.state c.in-Ok.ensures.opened c.requires.formed c.requires.linked
      g.S.Site.outcome c.has_format.ensures c.has_reading.ensures c.has_reading-2.ensures c.requires.idle c.requires.running,
  (declared_by c.in-Ok.state.graph).edges,
  [],
  some_begins g.S.Texts.tells c.args.graph c.args.asked.now (g.S.Texts.world c.args.site.now) (g.S.Texts.world c.opened.new.site) c.in-Ok.state c.in-Ok.ensures.opened c.requires.formed c.requires.linked
      g.S.Site.outcome c.has_format.ensures c.has_reading.ensures c.has_reading-2.ensures c.requires.idle c.requires.running,
)

pub returns-in-Ok : goal.returns-in-Ok
returns-in-Ok g c =
    opened_reported g.S.Texts.tells c.args.graph c.args.asked.now (g.S.Texts.world c.args.site.now) (g.S.Texts.world c.opened.new.site) c.in-Ok.state c.in-Ok.ensures.opened c.requires.formed c.requires.linked
    c.reported-told.new.state.graph c.reported-told.new.state (g.S.Texts.world c.reported-told.new.site) c.reported-told.result c.reported-told.ensures

pub reported-told-requires-clause-known : goal.reported-told-requires-clause-known
reported-told-requires-clause-known g c = c.in-Ok.ensures.known
