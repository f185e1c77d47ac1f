use Rattle.std.proofs.Common.{◌∙◌}
use Rattle.paths.proofs.Growing.{grown_appended}
use Rattle.paths.proofs.lines.append_row.Goals as goal

pub returns-clause-ok : goal.returns-clause-ok
returns-clause-ok c =
    let n0 = c.args.numbers.now in
    let n1 = c.append_part.new.numbers in
    let n2 = c.append_longer.new.numbers in
    let n3 = c.append_part-2.new.numbers in
    let n4 = c.append_longer-2.new.numbers in
    let n5 = c.append_part-3.new.numbers in
    let n6 = c.append_part-4.new.numbers in
    grown_appended n0.items n1.items n2.items n3.items n4.items n5.items n6.items c.args.row _ c.requires c.args.outputs.now c.args.inputs.now
    c.in_ok-append_part.ensures.ok.0 c.in_ok-append_longer.ensures.ok.0 c.in_ok-append_part-2.ensures.ok.0 c.in_ok-append_longer-2.ensures.ok.0 c.in_ok-append_part-3.ensures.ok.0 c.in_ok-append_part-4.ensures.ok.0
    (c.len.ensures ∙ n0.ok.0) (c.in_ok-append_part.ensures.ok.1 ∙ n1.ok.0) (c.in_ok-append_longer.ensures.ok.1 ∙ n2.ok.0) (c.in_ok-append_part-2.ensures.ok.1 ∙ n3.ok.0)
    (c.in_ok-append_longer-2.ensures.ok.1 ∙ n4.ok.0) (c.in_ok-append_part-3.ensures.ok.1 ∙ n5.ok.0) (c.in_ok-append_part-4.ensures.ok.1 ∙ n6.ok.0)
