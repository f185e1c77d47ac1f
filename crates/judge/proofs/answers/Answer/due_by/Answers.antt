use Rattle.std.proofs.Common.{◌≡◌, Bool, ap, rules}
use Rattle.judge.proofs.answers.Answer.due_by.Goals as goal

pub returns-then-self-depfile : goal.returns-then-self-depfile
returns-then-self-depfile c =
    let same : c.args.self.depfile ≡ c.args.depfile = search rules in
    ap (λ (depfile : Bool). record { depfile = depfile; due = c.args.self.due }) same
