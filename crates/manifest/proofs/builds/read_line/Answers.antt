use Rattle.manifest.proofs.BuildBlocks.{line_bound, line_large}
use Rattle.manifest.proofs.builds.read_line.Goals as goal

pub returns-in-Ok : goal.returns-in-Ok
returns-in-Ok c past scopes =
    line_bound past _ _ c.in-Some.line c.new.result c.args.block.now c.bind.new.self c.in-Ok.text c.in-Some.ensures c.new.ensures
    (c.in-Ok.ensures.value past scopes) c.in-Ok.ensures.size c.in_ok-bind-in-Ok.ensures.ok

pub returns-in-Err-TooLarge : goal.returns-in-Err-TooLarge
returns-in-Err-TooLarge c past scopes =
    let is = c.in-Err-TooLarge.field-0-is in
    line_large past _ _ c.in-Some.line c.new.result c.args.block.now c.in-Some.ensures c.new.ensures (c.in-Err-TooLarge.ensures.large (cc) past scopes)
