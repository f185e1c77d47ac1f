use Rattle.std.proofs.Common.{◌≡◌, ◌∙◌, ◌++◌, ◌-◌, List, Bool, false, ap}
use Rattle.std.specs.Prelude.{replicate}
use Rattle.std.proofs.lemmas.List.{take_all}
use Rattle.plan.specs.Flags.{has}
use Rattle.plan.proofs.Begun.{longer_flags}
use Rattle.plan.proofs.stay.lengthen_flags.Goals as goal

pub returns-clause-same : goal.returns-clause-same
returns-clause-same c = λ p.
    let flags = c.args.flags.now in
    let count = c.args.count in
    let all : c.resize.new.self.items ≡ flags.items ++ replicate (count - flags.len) false = c.in-Ok.ensures.items ∙ ap (λ (l : List Bool). l ++ replicate (count - flags.len) false) (take_all count flags.items c.requires.longer) in
    ap (λ (l : List Bool). has l p) all ∙ longer_flags flags.items (count - flags.len) p
