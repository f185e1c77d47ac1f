use Rattle.std.proofs.Common.{ap, is_some, sym, ◌∙◌}
use Rattle.seen.specs.declared.judging.Judged.{Judged}
use Rattle.ninja_asked.proofs.Parting.{absent_is}
use Rattle.ninja_asked.proofs.written.is_others_file.Goals as goal

pub returns : goal.returns
returns c = absent_is c.args.noted c.args.found c.is_none.result (ap (λ (how : Judged). is_some how.counts) (sym c.judge-how.ensures) ∙ c.is_none.ensures)
