use Rattle.std.proofs.Common.{refl, sym, ◌∙◌}
use Rattle.ninja_asked.proofs.Gathering.{adds_alias, adds_generator, adds_nothing, adds_output}
use Rattle.ninja_asked.proofs.above.add_edge.Goals as goal

pub returns-then-is_generator : goal.returns-then-is_generator
returns-then-is_generator c = adds_generator c.args.declared.now c.args.edge c.args.above.now _ refl (sym c.is_generator.ensures ∙ c.if-is_generator.true) c.in_ok-push.ensures.items refl

pub returns-then-is_phony_at : goal.returns-then-is_phony_at
returns-then-is_phony_at c = adds_alias c.args.declared.now c.args.edge c.args.above.now c.args.above.now refl (sym c.is_generator.ensures ∙ c.if-is_generator.false) refl (sym c.is_phony_at.ensures ∙ c.if-is_phony_at.true) refl
