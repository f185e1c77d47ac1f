use Rattle.std.proofs.Common.{sym, ◌∙◌}
use Rattle.tools.proofs.Cleans.{other_adds, other_past, other_same}
use Rattle.tools.proofs.cleaning.add_other.Goals as goal

pub returns-in_default : goal.returns-in_default
returns-in_default c = other_past c.args.paths.now c.args.file.now c.args.place c.args.others.now (c.in_default.ensures c.requires)

pub returns-then-eq : goal.returns-then-eq
returns-then-eq c = other_same c.args.paths.now c.args.file.now c.in-Some.path.now c.args.place c.args.others.now (c.in-Some.ensures c.requires) (sym c.eq.ensures ∙ c.if-eq.true)

pub returns : goal.returns
returns c =
    other_adds c.args.paths.now c.args.file.now c.in-Some.path.now c.args.place c.in_ok-add.field-0 c.args.others.now c.add.new.self (c.in-Some.ensures c.requires) (sym c.eq.ensures ∙ c.if-eq.false)
    c.in_ok-add.ensures.added
