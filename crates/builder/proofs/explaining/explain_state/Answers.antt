use Rattle.theory.proofs.Looks.{looks_then}
use Rattle.builder.proofs.explaining.explain_state.Goals as goal

pub explain_run-requires-clause-begins : goal.explain_run-requires-clause-begins
explain_run-requires-clause-begins g c =
    let begins = c.requires.begins in
    let at = c.in_ok-load_sources.ensures.begun begins.0 begins.1 begins.2 begins.3 in
    (begins.0, at.0, at.1, at.2)

pub returns-in_err-explain_run-clause-looks : goal.returns-in_err-explain_run-clause-looks
returns-in_err-explain_run-clause-looks g c =
    looks_then g.S.Texts.tells (g.S.Texts.world c.args.site.now) (g.S.Texts.world c.load_sources.new.site) (g.S.Texts.world c.explain_run.new.site) c.load_sources.ensures.looks c.explain_run.ensures.looks

pub returns-clause-looks : goal.returns-clause-looks
returns-clause-looks g c =
    looks_then g.S.Texts.tells (g.S.Texts.world c.args.site.now) (g.S.Texts.world c.load_sources.new.site) (g.S.Texts.world c.explain_run.new.site) c.load_sources.ensures.looks c.explain_run.ensures.looks

pub returns-clause-explains : goal.returns-clause-explains
returns-clause-explains g c course edges phases begins =
    let at = c.in_ok-load_sources.ensures.begun course edges phases begins in
    record {
      edges = at.0;
      phases = at.1;
      graph = c.load_sources.new.state.graph;
      state = c.load_sources.new.state;
      begun = g.S.Texts.world c.load_sources.new.site;
      looks = c.load_sources.ensures.looks;
      begins = at.2;
      after = c.explain_run.new.state.looks;
      dues = c.in_ok-explain_run.ensures.tells;
    }

pub explain_run-requires-clause-known : goal.explain_run-requires-clause-known
explain_run-requires-clause-known g c = c.in_ok-load_sources.ensures.known
