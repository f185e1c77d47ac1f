use Rattle.std.proofs.Common.{rules, ◌≡◌, ◌++◌, List, IfOk, IsTrue, string_bytes, sym, subst}
use Rattle.scopes.specs.declared.template.Part.{Part}
use Rattle.scopes.specs.declared.template.Part.TheVariants.{Name}
use Rattle.scopes.specs.Texts.{part_text}
use Rattle.scopes.specs.Moves.{Move}
use Rattle.scopes.specs.Scopes.{IsScopesOf}
use Rattle.scopes.specs.Known.{known_value}
use Rattle.scopes.proofs.at_use.Known.append_part_alone.Goals as goal

pub returns-in-Name-clause-value : goal.returns-in-Name-clause-value
returns-in-Name-clause-value c =
    let is : c.args.part.now ≡ Name c.as_str-in-Name.result.now = search rules in
    subst (λ (p : Part). IfOk c.append_name_alone.result (λ alone. IsTrue alone → (past : List Move) → IsScopesOf c.args.self.now.scopes.now past → string_bytes c.append_name_alone.new.text ≡ string_bytes c.args.text.now ++ part_text (known_value c.args.self.now past) p)) (sym is) c.append_name_alone.ensures.value
