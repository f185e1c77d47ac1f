use Rattle.std.proofs.Common.{refl, subst}
use Rattle.work.specs.declared.turn.Halt.{Halt}
use Rattle.work.specs.Going.{IsHalted}
use Rattle.work.proofs.state.Work.paused.Goals as goal

pub returns-in-Ended-clause-pauses : goal.returns-in-Ended-clause-pauses
returns-in-Ended-clause-pauses c tells course graph now halted =
    let over = subst (λ (h : Halt). IsHalted tells course graph c.args.self.now now h) c.in-Ended.is halted in
    let told = c.summary.ensures tells course graph c.args.self.now now refl c.replace-failed.ensures.value over in
    ((told.0, over.on.cone), told.1)
