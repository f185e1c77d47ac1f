use Rattle.std.proofs.Common.{sym, rules}
use Rattle.graph.specs.Links.{links_of}
use Rattle.judge.proofs.AskedAny.{due_source, due_made}
use Rattle.judge.proofs.NumbersAsTexts.{if_ok_then}
use Rattle.judge.proofs.looks.Looks.is_due_path.Goals as goal

pub returns-in-None-clause-due : goal.returns-in-None-clause-due
returns-in-None-clause-due g c =
    if_ok_then c.is_absent.result c.is_absent.ensures.seen (λ is absent. due_source (links_of c.args.graph.now) c.is_absent.new.self.seen.items c.args.due.now c.args.path is (sym c.in-None.ensures.value) absent)

pub returns-in-Some-clause-due : goal.returns-in-Some-clause-due
returns-in-Some-clause-due g c = due_made (links_of c.args.graph.now) c.args.self.now.seen.items c.args.due.now c.args.path c.in-Some.edge _ (sym c.in-Some.ensures.value) (search rules)
