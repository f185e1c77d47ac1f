use Rattle.std.proofs.Common.{◌∙◌}
use Rattle.paths.proofs.Growing.{lists_appended}
use Rattle.paths.proofs.lines.append_lists.Goals as goal

pub returns-clause-ok : goal.returns-clause-ok
returns-clause-ok c =
    let n0 = c.args.numbers.now in
    let n1 = c.append.new.numbers in
    let n2 = c.append-2.new.numbers in
    let n3 = c.append-3.new.numbers in
    let n4 = c.append-4.new.numbers in
    let n5 = c.append-5.new.numbers in
    let n6 = c.append-6.new.numbers in
    lists_appended n0.items n1.items n2.items n3.items n4.items n5.items n6.items _ _ _ _ _ _ _
    c.in_ok-append.ensures.ok.0 c.in_ok-append-2.ensures.ok.0 c.in_ok-append-3.ensures.ok.0 c.in_ok-append-4.ensures.ok.0 c.in_ok-append-5.ensures.ok.0 c.in_ok-append-6.ensures.ok.0
    (c.len.ensures ∙ n0.ok.0) (c.in_ok-append.ensures.ok.1 ∙ n1.ok.0) (c.in_ok-append-2.ensures.ok.1 ∙ n2.ok.0) (c.in_ok-append-3.ensures.ok.1 ∙ n3.ok.0)
    (c.in_ok-append-4.ensures.ok.1 ∙ n4.ok.0) (c.in_ok-append-5.ensures.ok.1 ∙ n5.ok.0) (c.in_ok-append-6.ensures.ok.1 ∙ n6.ok.0)
