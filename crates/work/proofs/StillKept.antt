-- What a run knows of commands and of due edges stays right.
use Rattle.std.proofs.Common.{◌≡◌, ◌≢◌, inl, inr, ℕ, Bool, true, false, List, Some, None, if◌then◌else◌, refl, sym, ◌∙◌, ap, subst}
use Rattle.std.proofs.lemmas.Bool.{false≢true}
use Rattle.graph.specs.declared.cone.Cone.{Cone}
use Rattle.graph.specs.declared.graph.Graph.{Graph}
use Rattle.graph.specs.Links.{links_of}
use Rattle.plan.specs.declared.plan.Plan.{Plan}
use Rattle.plan.specs.declared.step.Standing.{Standing}
use Rattle.plan.specs.Plan.{IsSettling}
use Rattle.plan.specs.Standing.{standing_at}
use Rattle.records.specs.declared.records.Records.{Records}
use Rattle.judge.specs.declared.looks.Looks.{Looks}
use Rattle.judge.specs.Answers.{KnowsRight}
use Rattle.judge.specs.UnderWay.{was_due}
use Rattle.judge.specs.Dues.{due_at}
use Rattle.judge.specs.KeptDues.{KeepsDues, TellsSameBut, DuesFollow}
use Rattle.work.specs.declared.state.Work.{Work}
use Rattle.work.specs.Answered.{AreAnswersOf, HasKeptFlags}

-- a state with the same parts knows the same
pub same_answers : (old new : Work) → new.graph ≡ old.graph → new.records ≡ old.records → new.cone ≡ old.cone → new.plan ≡ old.plan → new.looks ≡ old.looks → AreAnswersOf old → AreAnswersOf new
same_answers old new graph records cone plan looks was = record {
  known =
      subst (λ (g : Graph). KnowsRight g new.records new.looks) (sym {A = Graph} graph)
      (subst (λ (r : Records). KnowsRight old.graph r new.looks) (sym {A = Records} records)
      (subst (λ (l : Looks). KnowsRight old.graph old.records l) (sym {A = Looks} looks) was.known));
  kept =
      subst (λ (g : Graph). KeepsDues g new.records new.cone new.plan new.looks) (sym {A = Graph} graph)
      (subst (λ (r : Records). KeepsDues old.graph r new.cone new.plan new.looks) (sym {A = Records} records)
      (subst (λ (c : Cone). KeepsDues old.graph old.records c new.plan new.looks) (sym {A = Cone} cone)
      (subst (λ (p : Plan). KeepsDues old.graph old.records old.cone p new.looks) (sym {A = Plan} plan)
      (subst (λ (l : Looks). KeepsDues old.graph old.records old.cone old.plan l) (sym {A = Looks} looks) was.kept))));
}

-- where no flags are kept
pub none_kept : (state : Work) → KnowsRight state.graph state.records state.looks → state.looks.sums.answers.dues.known ≡ false → AreAnswersOf state
none_kept state known off = record { known = known; kept = λ on. absurd (false≢true (sym off ∙ on)) }

-- ---- an edge is judged

by_kind : (phony : Bool) (old new : Standing) → was_due new ≡ was_due old → (if phony then None else was_due new) ≡ (if phony then None else was_due old)
by_kind true old new same = refl
by_kind false old new same = same

pub told_settled : (graph : Graph) (plan next : Plan) (e : ℕ) (standing : Standing) → IsSettling plan.standings.items next.standings.items e standing → TellsSameBut graph plan next e
told_settled graph plan next e standing settles q other =
    by_kind ((links_of graph).phony q) (standing_at plan.standings.items q) (standing_at next.standings.items q)
    (elim (settles.others q other) [
      | inl same ↦ ap was_due same
      | inr both ↦ ap was_due both.1 ∙ sym (ap was_due both.0)
    ])

-- it was not due, and is clean: nothing has to be noted
pub judged_kept : DuesFollow → (state : Work) (next : Plan) (e : ℕ) (standing : Standing) → IsSettling state.plan.standings.items next.standings.items e standing → was_due standing ≡ Some false → due_at state.due.items e ≡ false → HasKeptFlags state → AreAnswersOf state
    → KeepsDues state.graph state.records state.cone next state.looks
judged_kept follow state next e standing settles clean flag counts was on =
    follow.clean state.graph state.records state.cone state.plan next e (told_settled state.graph state.plan next e standing settles) (ap was_due settles.here ∙ clean) state.looks.seen.items state.looks.sums.answers.dues
    (ap (λ (l : List Bool). due_at l e) (counts on) ∙ flag) (was.kept on)
