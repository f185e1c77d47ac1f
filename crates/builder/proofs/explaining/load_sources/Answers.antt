use Rattle.std.proofs.Common.{[], ◌∷◌, ◌++◌}
use Rattle.theory.proofs.Looks.{looks_nothing, looks_then}
use Rattle.builder.proofs.explaining.load_sources.Goals as goal

pub sources-init : goal.sources-init
sources-init g c = record {
  known = c.requires.known;
  looks = looks_nothing g.S.Texts.tells (g.S.Texts.world c.args.site.now);
  running = c.requires.running;
  begins = λ course edges phases begins. (edges, phases, begins);
}

pub load-requires-clause-at : goal.load-requires-clause-at
load-requires-clause-at g c =
    let begins = c.requires.begins in
    let at = c.sources.invariant.begins begins.0 begins.1 begins.2 begins.3 in
    let next =
    c.sources_load.ensures g.S.Texts.tells begins.0 at.0 at.1 c.sources.state.graph c.sources.state (g.S.Texts.world c.sources.site) at.2 c.in-Some.file c.in-Some.ensures.0 c.in-Some.ensures.1 in
    (begins.0, at.0, at.1, next.stands, next.next)

pub returns-in_err-load-in-Some-clause-looks : goal.returns-in_err-load-in-Some-clause-looks
returns-in_err-load-in-Some-clause-looks g c =
    looks_then g.S.Texts.tells (g.S.Texts.world c.args.site.now) (g.S.Texts.world c.sources.site) (g.S.Texts.world c.load.new.site) c.sources.invariant.looks c.load.ensures.looks

pub sources-preserved : goal.sources-preserved
sources-preserved g c = record {
  known = c.in_ok-load-in-Some.ensures.known;
  looks = looks_then g.S.Texts.tells (g.S.Texts.world c.args.site.now) (g.S.Texts.world c.sources.site) (g.S.Texts.world c.load.new.site) c.sources.invariant.looks c.load.ensures.looks;
  running = c.in_ok-load-in-Some.ensures.well.goes_on;
  begins = λ course edges phases begins.
      let at = c.sources.invariant.begins course edges phases begins in
      let next =
      c.sources_load.ensures g.S.Texts.tells course at.0 at.1 c.sources.state.graph c.sources.state (g.S.Texts.world c.sources.site) at.2 c.in-Some.file c.in-Some.ensures.0 c.in-Some.ensures.1 in
      let begun = c.in_ok-load-in-Some.ensures.begun course at.0 at.1 next in
      (begun.0, at.1 ++ begun.1 ∷ [], begun.2);
}

pub load-requires-clause-known : goal.load-requires-clause-known
load-requires-clause-known g c = c.sources.invariant.known

pub returns-in-None-clause-known : goal.returns-in-None-clause-known
returns-in-None-clause-known g c = c.sources.invariant.known
