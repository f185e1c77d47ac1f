use Rattle.std.proofs.Common.{[], refl, subst}
use Rattle.model.specs.declared.graph.BuildGraph.{BuildGraph}
use Rattle.theory.proofs.Looks.{looks_then, looks_nothing}
use Rattle.graph.specs.Told.{declared_by}
use Rattle.builder.specs.Explained.{ExplainsBuild}
use Rattle.builder.proofs.Dueing.{explains_before}
use Rattle.builder.proofs.Values.{if_ok_then}
use Rattle.builder.proofs.Opened.{some_course, some_begins}
use Rattle.builder.proofs.explaining.explain_linked.Goals as goal

pub returns-in_err-state-clause-looks : goal.returns-in_err-state-clause-looks
returns-in_err-state-clause-looks g c = c.opened.ensures.looks

pub explain_state-requires-clause-begins : goal.explain_state-requires-clause-begins
explain_state-requires-clause-begins g c = (
  some_course g.S.Texts.tells c.args.graph c.args.asked.now (g.S.Texts.world c.args.site.now) (g.S.Texts.world c.opened.new.site) c.in_ok-state.state c.in_ok-state.ensures.opened c.requires.formed c.requires.linked
      g.S.Site.outcome c.has_format.ensures c.has_reading.ensures c.has_reading-2.ensures c.requires.idle c.requires.running,
  (declared_by c.in_ok-state.state.graph).edges,
  [],
  some_begins g.S.Texts.tells c.args.graph c.args.asked.now (g.S.Texts.world c.args.site.now) (g.S.Texts.world c.opened.new.site) c.in_ok-state.state c.in_ok-state.ensures.opened c.requires.formed c.requires.linked
      g.S.Site.outcome c.has_format.ensures c.has_reading.ensures c.has_reading-2.ensures c.requires.idle c.requires.running,
)

pub returns-clause-looks : goal.returns-clause-looks
returns-clause-looks g c =
    looks_then g.S.Texts.tells (g.S.Texts.world c.args.site.now) (g.S.Texts.world c.opened.new.site) (g.S.Texts.world c.explain_state.new.site) c.opened.ensures.looks c.explain_state.ensures.looks

pub returns-clause-explains : goal.returns-clause-explains
returns-clause-explains g c =
    let tells = g.S.Texts.tells in
    let asked = c.args.asked.now in
    let graph = c.args.graph in
    let grown = c.in_ok-state.state.graph in
    let old = g.S.Texts.world c.args.site.now in
    let mid = g.S.Texts.world c.opened.new.site in
    let new = g.S.Texts.world c.explain_state.new.site in
    let state = c.in_ok-state.state in
    let opens = c.in_ok-state.ensures.opened in
    let course = some_course tells graph asked old mid state opens c.requires.formed c.requires.linked g.S.Site.outcome c.has_format.ensures c.has_reading.ensures c.has_reading-2.ensures c.requires.idle c.requires.running in
    let begins = some_begins tells graph asked old mid state opens c.requires.formed c.requires.linked g.S.Site.outcome c.has_format.ensures c.has_reading.ensures c.has_reading-2.ensures c.requires.idle c.requires.running in
    if_ok_then c.explain_state.result c.explain_state.ensures.explains (λ explained so.
    subst (λ (b : BuildGraph). ExplainsBuild tells b asked old new explained.commands.items) opens.same
    (explains_before tells (declared_by grown) asked old mid new explained.commands.items c.opened.ensures.looks
    (record { course = course; asked = refl; entry = mid; looks = looks_nothing tells mid; explains = so course (declared_by grown).edges [] begins })))

pub explain_state-requires-clause-known : goal.explain_state-requires-clause-known
explain_state-requires-clause-known g c = c.in_ok-state.ensures.known
