use Rattle.std.proofs.Common.{◌≡◌, drop, length, map}
use Rattle.graph.specs.Extended.{addition_of}
use Rattle.graph.specs.InTurn.{actions_given}
use Rattle.graph.proofs.loaded.load_actions.Given as goal

abbrev pub invariant-loop-choice : goal.invariant-loop-choice
invariant-loop-choice l = record {
  fits : length l.actions ≡ length l.initial.actions;
  rest : actions_given (map addition_of l.additions) l.actions (drop l.choice-index l.chosen) ≡ actions_given (map addition_of l.additions) l.initial.actions l.chosen;
}
