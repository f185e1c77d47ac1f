use Rattle.std.proofs.Common.{rules, refl}
use Rattle.nj_run.specs.Ends.{Help, BadWords, NoMemory}
use Rattle.nj_run.proofs.Telling.{untouched, if_ok_of_err}
use Rattle.nj_run.proofs.told.words.Goals as goal

pub returns-in_err-memory-clause-comes : goal.returns-in_err-memory-clause-comes
returns-in_err-memory-clause-comes g c = record { ending = NoMemory; may = search rules; tells = search (rules, if_ok_of_err) }

pub returns-then-eq-clause-comes : goal.returns-then-eq-clause-comes
returns-then-eq-clause-comes g c = record {
  ending = NoMemory;
  may = search rules;
  tells = (refl, record { shown = c.args.out.now; before = refl; out = untouched (g.W.Write.contents c.args.out.now); err = search rules });
}

pub returns-in_err-show-clause-comes : goal.returns-in_err-show-clause-comes
returns-in_err-show-clause-comes g c = record { ending = Help; may = search rules; tells = search (rules, if_ok_of_err) }

pub returns-then-not-use_stderr-clause-comes : goal.returns-then-not-use_stderr-clause-comes
returns-then-not-use_stderr-clause-comes g c = record {
  ending = Help;
  may = search rules;
  tells = (refl, record { shown = c.args.out.now; before = refl; out = tt; err = untouched (g.E.Write.contents c.args.err.now) });
}

pub returns-in_err-show-2-clause-comes : goal.returns-in_err-show-2-clause-comes
returns-in_err-show-2-clause-comes g c = record { ending = BadWords; may = search rules; tells = search (rules, if_ok_of_err) }

pub returns-clause-comes : goal.returns-clause-comes
returns-clause-comes g c = record {
  ending = BadWords;
  may = search rules;
  tells = (refl, record { shown = c.args.out.now; before = refl; out = untouched (g.W.Write.contents c.args.out.now); err = tt });
}
