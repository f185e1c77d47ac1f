use Rattle.std.proofs.Common.{false, true, sym, ◌∙◌}
use Rattle.std.proofs.lemmas.Bool.{false≢true}
use Rattle.ninja_asked.proofs.Parting.{adds_here, adds_not}
use Rattle.ninja_asked.proofs.written.put.Goals as goal

pub returns-then-written-clause-left : goal.returns-then-written-clause-left
returns-then-written-clause-left c = adds_not c.args.parted.now.left c.args.path.now c.args.written false (λ is. false≢true (sym is ∙ c.if-written.true))

pub returns-then-written-clause-others : goal.returns-then-written-clause-others
returns-then-written-clause-others c = adds_here c.args.parted.now.others c.add.new.self c.args.path.now c.in_ok-add.field-0 c.args.written true c.if-written.true c.in_ok-add.ensures.added

pub returns-clause-left : goal.returns-clause-left
returns-clause-left c = adds_here c.args.parted.now.left c.add-2.new.self c.args.path.now c.in_ok-add-2.field-0 c.args.written false c.if-written.false c.in_ok-add-2.ensures.added

pub returns-clause-others : goal.returns-clause-others
returns-clause-others c = adds_not c.args.parted.now.others c.args.path.now c.args.written true (λ is. false≢true (sym c.if-written.false ∙ is))
