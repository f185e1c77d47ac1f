use Rattle.std.proofs.Common.{◌∷◌, [], List, refl, ◌∙◌, subst, arith}
use Rattle.std.proofs.lemmas.Bool.{false≢true}
use Rattle.std.proofs.lemmas.List.{take_all}
use Rattle.graph.specs.declared.back.LoadedEdge.{LoadedEdge}
use Rattle.graph.specs.LoadedEdges.{numbers_in}
use Rattle.judge.specs.Answers.{KnowsOthers}
use Rattle.judge.proofs.KeptAnswers.{forgets_more}
use Rattle.judge.proofs.answers.Answers.forget.Goals as goal

pub loop-loaded-init : goal.loop-loaded-init
loop-loaded-init c = record { known = record { gone = λ e listed. absurd (false≢true listed); others = λ e other. refl }; dues = refl }

pub loop-loaded-preserved : goal.loop-loaded-preserved
loop-loaded-preserved c = record {
  known =
      forgets_more c.args.edges.now c.loop-loaded.loaded-index c.loaded-item.result c.loop-loaded-test.true c.args.self.now c.loop-loaded.self c.forget_one.new.self c.loop-loaded.invariant.known
      (subst (λ (loaded : LoadedEdge). KnowsOthers (loaded.edge ∷ []) c.loop-loaded.self c.forget_one.new.self) c.loaded-item.is c.forget_one.ensures.others);
  dues = c.forget_one.ensures.dues ∙ c.loop-loaded.invariant.dues;
}

pub returns-clause-others : goal.returns-clause-others
returns-clause-others c =
    subst (λ (l : List LoadedEdge). KnowsOthers (numbers_in l) c.args.self.now c.loop-loaded.self) (take_all c.loop-loaded.loaded-index c.args.edges.now (omega arith)) c.loop-loaded.invariant.known

pub returns-clause-dues : goal.returns-clause-dues
returns-clause-dues c = c.loop-loaded.invariant.dues
