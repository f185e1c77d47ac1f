use Rattle.paths.specs.Lists.{line_of}
use Rattle.paths.proofs.Flat.{pushed_lines}
use Rattle.paths.proofs.Apart.{pushed_rows}
use Rattle.paths.proofs.lines.Lines.push_lists.Goals as goal

pub invariant_of-self-2 : goal.invariant_of-self-2
invariant_of-self-2 c =
    pushed_rows c.self.inside.numbers.items c.append_lists.new.numbers.items c.self.inside.rows.items c.push.new.self.items c.in_ok-row.row (line_of c.args.from.now c.args.row) c.self.invariant c.in_ok-row.ensures.ok c.in_ok-push.ensures.items

pub returns : goal.returns
returns c =
    pushed_lines c.self.inside.numbers.items c.append_lists.new.numbers.items c.self.inside.rows.items c.push.new.self.items c.in_ok-row.row c.args.self.now (line_of c.args.from.now c.args.row) c.self.view_is c.self.invariant.lie
    c.in_ok-row.ensures.ok c.in_ok-push.ensures.items
