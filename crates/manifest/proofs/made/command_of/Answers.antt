use Rattle.std.proofs.Common.{refl, sym, ap, not}
use Rattle.manifest.proofs.EdgeChecks.{told_empty}
use Rattle.manifest.proofs.made.command_of.Goals as goal

pub returns-clause-command : goal.returns-clause-command
returns-clause-command c = λ line. record {
  explicit_outputs = refl;
  implicit_outputs = refl;
  explicit_inputs = refl;
  implicit_inputs = refl;
  order_only_inputs = refl;
  validations = refl;
  command = c.in_ok-act.ensures.command;
  depfile = c.in_ok-act.ensures.depfile;
  response_path = c.in_ok-act.ensures.response_path;
  response_content = c.in_ok-act.ensures.content;
  description = refl;
  deps = c.deps_of-deps.ensures;
  restat = ap not (sym (told_empty c.args.values.restat c.is_empty-restat.result c.is_empty-restat.ensures.0 c.is_empty-restat.ensures.1));
  pool = c.some_text.ensures;
  dyndep = c.in_ok-dyndep.ensures.file;
  phony = refl;
}
