use Rattle.std.proofs.Common.{◌≡◌, ◌∙◌, ◌++◌, ◌-◌, List, Bool, false, ap, length, arith}
use Rattle.std.specs.Prelude.{replicate}
use Rattle.std.proofs.lemmas.List.{take_all}
use Rattle.plan.specs.Flags.{has}
use Rattle.plan.proofs.Begun.{longer_flags}
use Rattle.plan.proofs.extend.grown_flags.Goals as goal

pub returns-clause-same : goal.returns-clause-same
returns-clause-same c = λ p.
    let flags = c.args.flags.now in
    let count = c.args.count in
    let wide = c.extend_from_slice.new.self in
    let first : wide.items ≡ flags = c.in_ok-extend_from_slice.ensures.items ∙ ap (λ (l : List Bool). l ++ flags) c.in_ok-grown.ensures.items in
    let size = ap (λ (l : List Bool). length l) first in
    let all = c.in_ok-resize.ensures.items ∙ ap (λ (l : List Bool). l ++ replicate (count - wide.len) false) (take_all count wide.items (omega (arith, size, c.requires)) ∙ first) in
    ap (λ (l : List Bool). has l p) all ∙ longer_flags flags (count - wide.len) p
