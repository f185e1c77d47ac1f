use Rattle.std.proofs.Common.{ℕ, Option, refl, ap, ◌∙◌}
use Rattle.manifest.specs.Described.{name_at}
use Rattle.manifest.proofs.RuleNames.{text_or}
use Rattle.manifest.proofs.described.Described.rule.Goals as goal

pub returns-in-Some : goal.returns-in-Some
returns-in-Some c = text_or c.get.result _ c.unwrap_or.result c.args.self.now.names c.in-Some.number c.get.ensures refl c.unwrap_or.ensures ∙ ap (λ (o : Option ℕ). name_at c.args.self.now.names o) c.in-Some.ensures

pub returns-in-None : goal.returns-in-None
returns-in-None c = ap (λ (o : Option ℕ). name_at c.args.self.now.names o) c.in-None.ensures
