use Rattle.std.proofs.Common.{◌∙◌, inl, inr, length, refl, sym, ap}
use Rattle.reasons.proofs.told.tell_one.Goals as goal

pub due_command-requires-clause-command : goal.due_command-requires-clause-command
due_command-requires-clause-command g c = c.requires.commands c.args.edge (sym c.has_flag.ensures ∙ c.if-not-has_flag.false)

pub due_command-requires-clause-firm : goal.due_command-requires-clause-firm
due_command-requires-clause-firm g c = ap length c.as_slice.ensures.value ∙ c.requires.firm

pub returns-then-not-has_flag-clause-told : goal.returns-then-not-has_flag-clause-told
returns-then-not-has_flag-clause-told g c = inl (sym c.has_flag.ensures ∙ c.if-not-has_flag.true, refl)

pub returns-clause-told : goal.returns-clause-told
returns-clause-told g c = inr record {
  flag = sym c.has_flag.ensures ∙ c.if-not-has_flag.false;
  command = c.in_ok-command.command;
  is = c.in_ok-push.ensures.items;
  edge = c.in_ok-command.ensures.edge;
  why = c.in_ok-command.ensures.why;
}
