use Rattle.work.proofs.Asking.{under}
use Rattle.work.specs.Standing.{task_over}
use Rattle.work.proofs.laws.makers_stand_first.Goals as goal

pub returns : goal.returns
returns c tells course edges phases state now stands =
    c.dues_follow.ensures.placed c.args.graph.now c.lists_stand.ensures state.records state.cone state.plan course.store (task_over course edges).targets stands.on.steps (under tells course edges phases c.args.graph.now state now stands)
