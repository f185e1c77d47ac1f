use Rattle.std.proofs.Common.{◌≡◌, true, inl, refl, sym, ◌∙◌, subst}
use Rattle.graph.specs.declared.graph.Graph.{Graph}
use Rattle.judge.specs.declared.answers.Answers.{Answers}
use Rattle.judge.specs.Answers.{AreAnswers}
use Rattle.judge.specs.KeptDues.{AreKeptRight}
use Rattle.judge.specs.Lasting.{AreMarked}
use Rattle.judge.specs.Summed.{AreSums}
use Rattle.work.specs.After.{LooksUnlessMore}
use Rattle.work.specs.Going.{IsGoing, GoesOn, CutsOff, Halts, TurnsTo}
use Rattle.work.proofs.Results.{some_of, on_err}
use Rattle.work.proofs.Nothing.{none_of}
use Rattle.work.proofs.After.{after_then, after_same, looks_then_looks}
use Rattle.work.proofs.Noticed.{on_summed}
use Rattle.work.proofs.Seeing.{saw_sums}
use Rattle.theory.proofs.SiteCalls.{unrefused_none, unrefused_call, unrefused_then}
use Rattle.work.proofs.Cutting.{starts_then}
use Rattle.work.proofs.state.Work.run.Goals as goal

pub run-init : goal.run-init
run-init g c =
    let now = g.S.Texts.world c.args.site.now in
    let graph = c.args.self.now.graph in
    let state = c.args.self.now in
    record {
      unrefused = unrefused_none now c.requires.running;
      starts = inl refl;
      graph = refl;
      known = record {
        known = subst (λ (answers : Answers). AreAnswers graph state.records state.looks.seen.items answers) (sym {A = Answers} c.clear.ensures.answers) c.requires.known.known;
        kept = subst (λ (answers : Answers). answers.dues.known ≡ true → AreKeptRight graph state.records state.cone state.plan state.looks.seen.items answers.dues) (sym {A = Answers} c.clear.ensures.answers) c.requires.known.kept;
      };
      summed = c.clear.ensures.summed graph state.plan.changed.items state.looks.seen.items;
      marked = c.clear.ensures.marked graph state.plan.changed.items state.looks.seen.items;
      grows = after_same g.S.Texts.tells now;
      looked = λ same. saw_sums g.S.Texts.tells graph now state.looks c.clear.new.self;
      on = λ course suits goes on. on_summed g.S.Texts.tells course graph c.log_stays.ensures suits state now c.clear.new.self on;
    }

pub go_on-requires-clause-going : goal.go_on-requires-clause-going
go_on-requires-clause-going g c =
    let going = c.requires.going in
    subst (λ (graph : Graph). IsGoing g.S.Texts.tells true graph c.run.self (g.S.Texts.world c.run.site)) (sym {A = Graph} c.run.invariant.graph)
    (record { course = going.course; suits = going.suits; is = going.is; on = c.run.invariant.on going.course going.suits going.is going.on })

pub returns-in_err-halt-clause-cut : goal.returns-in_err-halt-clause-cut
returns-in_err-halt-clause-cut g c = on_err c.from_residual.result (λ course suits goes on.
    subst (λ (graph : Graph). CutsOff g.S.Texts.tells g.S.Texts.world c.run.site c.go_on.new.site graph c.run.self c.go_on.new.self) c.run.invariant.graph
    c.in_err-halt.ensures.cut course suits goes (c.run.invariant.on course suits goes on))

pub returns-in_err-halt-clause-graph : goal.returns-in_err-halt-clause-graph
returns-in_err-halt-clause-graph g c = c.go_on.ensures.graph ∙ c.run.invariant.graph

pub returns-in-Some-clause-graph : goal.returns-in-Some-clause-graph
returns-in-Some-clause-graph g c = c.go_on.ensures.graph ∙ c.run.invariant.graph

pub returns-in-Some-clause-halts : goal.returns-in-Some-clause-halts
returns-in-Some-clause-halts g c course suits goes on =
    some_of c.in_ok-halt.field-0 c.in-Some.halt (GoesOn g.S.Texts.tells g.S.Texts.world c.run.site c.go_on.new.site c.args.self.now.graph c.run.self c.go_on.new.self)
    (Halts g.S.Texts.tells g.S.Texts.world c.run.site c.go_on.new.site c.args.self.now.graph c.run.self c.go_on.new.self) c.in-Some.is
    (subst (λ (graph : Graph). TurnsTo g.S.Texts.tells g.S.Texts.world c.run.site c.go_on.new.site graph c.run.self c.go_on.new.self c.in_ok-halt.field-0) c.run.invariant.graph c.in_ok-halt.ensures.on) course suits goes (c.run.invariant.on course suits goes on)

pub returns-in_err-halt-clause-grows : goal.returns-in_err-halt-clause-grows
returns-in_err-halt-clause-grows g c = after_then g.S.Texts.tells (g.S.Texts.world c.args.site.now) (g.S.Texts.world c.run.site) (g.S.Texts.world c.go_on.new.site) c.run.invariant.grows c.go_on.ensures.grows

pub returns-in-Some-clause-grows : goal.returns-in-Some-clause-grows
returns-in-Some-clause-grows g c = after_then g.S.Texts.tells (g.S.Texts.world c.args.site.now) (g.S.Texts.world c.run.site) (g.S.Texts.world c.go_on.new.site) c.run.invariant.grows c.go_on.ensures.grows

pub returns-in-Some-clause-looked : goal.returns-in-Some-clause-looked
returns-in-Some-clause-looked g c = looks_then_looks g.S.Texts.tells c.args.self.now.graph (g.S.Texts.world c.args.site.now) (g.S.Texts.world c.run.site) (g.S.Texts.world c.go_on.new.site)
    (c.looks_follow.ensures.follow g.S.Texts.tells (g.S.Texts.world c.args.site.now) (g.S.Texts.world c.run.site) (g.S.Texts.world c.go_on.new.site))
    c.args.self.now.looks c.run.self.looks c.go_on.new.self.looks c.run.invariant.grows c.go_on.ensures.grows c.run.invariant.looked
    (subst (λ (graph : Graph). LooksUnlessMore g.S.Texts.tells graph (g.S.Texts.world c.run.site) (g.S.Texts.world c.go_on.new.site) c.run.self.looks c.go_on.new.self.looks) c.run.invariant.graph c.in_ok-halt.ensures.looked)

pub run-preserved : goal.run-preserved
run-preserved g c = record {
  unrefused = unrefused_then (g.S.Texts.world c.args.site.now) (g.S.Texts.world c.run.site) (g.S.Texts.world c.go_on.new.site) c.run.invariant.unrefused (unrefused_call (g.S.Texts.world c.run.site) (g.S.Texts.world c.go_on.new.site) _ c.in_ok-halt.ensures.cuts.cause);
  starts = starts_then (g.S.Texts.world c.args.site.now) (g.S.Texts.world c.run.site) (g.S.Texts.world c.go_on.new.site) c.run.invariant.unrefused c.run.invariant.starts c.in_ok-halt.ensures.cuts.starts;
  graph = c.go_on.ensures.graph ∙ c.run.invariant.graph;
  known = c.in_ok-halt.ensures.known;
  summed = subst (λ (graph : Graph). AreSums graph c.go_on.new.self.plan.changed.items c.go_on.new.self.looks.seen.items c.go_on.new.self.looks.sums) (sym {A = Graph} c.go_on.ensures.graph) c.in_ok-halt.ensures.summed;
  marked = subst (λ (graph : Graph). AreMarked graph c.go_on.new.self.plan.changed.items c.go_on.new.self.looks.seen.items c.go_on.new.self.looks.sums) (sym {A = Graph} c.go_on.ensures.graph) c.in_ok-halt.ensures.marked;
  grows = after_then g.S.Texts.tells (g.S.Texts.world c.args.site.now) (g.S.Texts.world c.run.site) (g.S.Texts.world c.go_on.new.site) c.run.invariant.grows c.go_on.ensures.grows;
  looked = looks_then_looks g.S.Texts.tells c.args.self.now.graph (g.S.Texts.world c.args.site.now) (g.S.Texts.world c.run.site) (g.S.Texts.world c.go_on.new.site)
      (c.looks_follow.ensures.follow g.S.Texts.tells (g.S.Texts.world c.args.site.now) (g.S.Texts.world c.run.site) (g.S.Texts.world c.go_on.new.site))
      c.args.self.now.looks c.run.self.looks c.go_on.new.self.looks c.run.invariant.grows c.go_on.ensures.grows c.run.invariant.looked
      (subst (λ (graph : Graph). LooksUnlessMore g.S.Texts.tells graph (g.S.Texts.world c.run.site) (g.S.Texts.world c.go_on.new.site) c.run.self.looks c.go_on.new.self.looks) c.run.invariant.graph c.in_ok-halt.ensures.looked);
  on = λ course suits goes was.
      none_of c.in_ok-halt.field-0 (GoesOn g.S.Texts.tells g.S.Texts.world c.run.site c.go_on.new.site c.args.self.now.graph c.run.self c.go_on.new.self)
      (Halts g.S.Texts.tells g.S.Texts.world c.run.site c.go_on.new.site c.args.self.now.graph c.run.self c.go_on.new.self) c.in_default.is
      (subst (λ (graph : Graph). TurnsTo g.S.Texts.tells g.S.Texts.world c.run.site c.go_on.new.site graph c.run.self c.go_on.new.self c.in_ok-halt.field-0) c.run.invariant.graph c.in_ok-halt.ensures.on) course suits goes (c.run.invariant.on course suits goes was);
}

pub go_on-requires-clause-known : goal.go_on-requires-clause-known
go_on-requires-clause-known g c = c.run.invariant.known

pub returns-in-Some-clause-known : goal.returns-in-Some-clause-known
returns-in-Some-clause-known g c = c.in_ok-halt.ensures.known
