use Rattle.std.proofs.Common.{◌≡◌, [], true, false, sym, ap, ◌∙◌, rules}
use Rattle.std.proofs.lemmas.Bool.{false≢true}
use Rattle.graph.specs.Links.{links_of}
use Rattle.judge.specs.declared.sums.Sums.{Sums}
use Rattle.judge.proofs.Answered.{known_kept}
use Rattle.judge.proofs.Summing.{sums_kept}
use Rattle.judge.proofs.NumbersAsTexts.{if_ok_then}
use Rattle.judge.proofs.looks.Looks.is_due.Goals as goal

pub returns-then-is_phony-clause-ruled : goal.returns-then-is_phony-clause-ruled
returns-then-is_phony-clause-ruled g c =
    let linked : (links_of c.args.graph.now).phony c.args.edge ≡ true = search rules in
    if_ok_then c.is_alias_due.result c.is_alias_due.ensures.ruled (λ is ruled. record { alias = λ so. ruled; command = λ plain. absurd (false≢true (sym plain ∙ linked)) })

pub returns-then-is_phony-clause-summed : goal.returns-then-is_phony-clause-summed
returns-then-is_phony-clause-summed g c = sums_kept c.args.graph.now [] c.args.self.now.seen.items c.is_alias_due.new.self.seen.items c.is_alias_due.ensures.looked.stays c.args.self.now.sums c.is_alias_due.new.self.sums c.is_alias_due.ensures.sums c.requires.summed

pub returns-clause-ruled : goal.returns-clause-ruled
returns-clause-ruled g c =
    let linked : (links_of c.args.graph.now).phony c.args.edge ≡ false = search rules in
    if_ok_then c.is_command_due.result c.is_command_due.ensures.ruled (λ is found. record { alias = λ phony. absurd (false≢true (sym linked ∙ phony)); command = λ plain. found })

pub returns-then-is_phony-clause-clean : goal.returns-then-is_phony-clause-clean
returns-then-is_phony-clause-clean g c =
    let linked : (links_of c.args.graph.now).phony c.args.edge ≡ true = search rules in
    if_ok_then c.is_alias_due.result c.is_alias_due.ensures.ruled (λ is ruled not_due command. absurd (false≢true (sym command ∙ linked)))

pub returns-clause-clean : goal.returns-clause-clean
returns-clause-clean g c = if_ok_then c.is_command_due.result c.is_command_due.ensures.clean (λ is said not_due command. said not_due)

pub returns-then-is_phony-clause-known : goal.returns-then-is_phony-clause-known
returns-then-is_phony-clause-known g c =
    known_kept c.args.graph.now c.args.records.now c.args.self.now c.is_alias_due.new.self c.is_alias_due.ensures.looked.stays (ap (λ (s : Sums). s.answers) c.is_alias_due.ensures.sums) c.requires.known

pub returns-then-is_phony-clause-dues : goal.returns-then-is_phony-clause-dues
returns-then-is_phony-clause-dues g c = ap (λ (s : Sums). s.answers.dues) c.is_alias_due.ensures.sums
