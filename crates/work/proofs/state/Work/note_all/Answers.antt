use Rattle.std.proofs.Common.{ℕ, List, refl, ap, ◌∙◌}
use Rattle.model.specs.Graph.{has_number}
use Rattle.work.proofs.WorkLeft.{finished_less}
use Rattle.work.proofs.state.Work.note_all.Goals as goal

pub returns-in_err-push-clause-nearer : goal.returns-in_err-push-clause-nearer
returns-in_err-push-clause-nearer c = finished_less c.args.self.now.plan.standings.items c.finished.new.self.standings.items c.args.edge c.args.ok c.requires.running c.finished.ensures.stands

pub returns-in_err-push-clause-flags : goal.returns-in_err-push-clause-flags
returns-in_err-push-clause-flags c = c.finished.ensures.flags

pub returns-in_err-push-clause-forgets : goal.returns-in_err-push-clause-forgets
returns-in_err-push-clause-forgets c = record {
  forgotten = λ p made. c.forget.ensures.forgotten p (ap (λ (l : List ℕ). has_number l p) c.outputs-outputs.ensures ∙ made);
  others = λ p other. c.forget.ensures.others p (ap (λ (l : List ℕ). has_number l p) c.outputs-outputs.ensures ∙ other);
  fits = c.forget.ensures.fits;
}

pub returns-in_err-push-clause-beside : goal.returns-in_err-push-clause-beside
returns-in_err-push-clause-beside c = record { records = refl; cone = refl; tick = refl; starts = refl }

pub returns-in_ok-push-clause-nearer : goal.returns-in_ok-push-clause-nearer
returns-in_ok-push-clause-nearer c = finished_less c.args.self.now.plan.standings.items c.finished.new.self.standings.items c.args.edge c.args.ok c.requires.running c.finished.ensures.stands

pub returns-in_ok-push-clause-flags : goal.returns-in_ok-push-clause-flags
returns-in_ok-push-clause-flags c = c.finished.ensures.flags

pub returns-in_ok-push-clause-forgets : goal.returns-in_ok-push-clause-forgets
returns-in_ok-push-clause-forgets c = record {
  forgotten = λ p made. c.forget.ensures.forgotten p (ap (λ (l : List ℕ). has_number l p) c.outputs-outputs.ensures ∙ made);
  others = λ p other. c.forget.ensures.others p (ap (λ (l : List ℕ). has_number l p) c.outputs-outputs.ensures ∙ other);
  fits = c.forget.ensures.fits;
}

pub returns-in_ok-push-clause-beside : goal.returns-in_ok-push-clause-beside
returns-in_ok-push-clause-beside c = record { records = refl; cone = refl; tick = refl; starts = refl }

pub returns-else-not-ok-clause-nearer : goal.returns-else-not-ok-clause-nearer
returns-else-not-ok-clause-nearer c = finished_less c.args.self.now.plan.standings.items c.finished.new.self.standings.items c.args.edge c.args.ok c.requires.running c.finished.ensures.stands

pub returns-else-not-ok-clause-flags : goal.returns-else-not-ok-clause-flags
returns-else-not-ok-clause-flags c = c.finished.ensures.flags

pub returns-else-not-ok-clause-forgets : goal.returns-else-not-ok-clause-forgets
returns-else-not-ok-clause-forgets c = record {
  forgotten = λ p made. c.forget.ensures.forgotten p (ap (λ (l : List ℕ). has_number l p) c.outputs-outputs.ensures ∙ made);
  others = λ p other. c.forget.ensures.others p (ap (λ (l : List ℕ). has_number l p) c.outputs-outputs.ensures ∙ other);
  fits = c.forget.ensures.fits;
}

pub returns-else-not-ok-clause-beside : goal.returns-else-not-ok-clause-beside
returns-else-not-ok-clause-beside c = record { records = refl; cone = refl; tick = refl; starts = refl }
