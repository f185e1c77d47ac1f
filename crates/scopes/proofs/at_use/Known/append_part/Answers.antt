use Rattle.std.proofs.Common.{rules, ◌≡◌, ◌++◌, ◌<◌, List, sym, subst, length, string_bytes, OnOk}
use Rattle.scopes.specs.declared.template.Part.{Part}
use Rattle.scopes.specs.declared.template.Part.TheVariants.{Name}
use Rattle.scopes.specs.Texts.{part_text, largest_value}
use Rattle.scopes.specs.Moves.{Move}
use Rattle.scopes.specs.Scopes.{IsScopesOf}
use Rattle.scopes.specs.Known.{known_value}
use Rattle.scopes.proofs.at_use.Known.append_part.Goals as goal

pub returns-in-Name-clause-value : goal.returns-in-Name-clause-value
returns-in-Name-clause-value c =
    let is : c.args.part.now ≡ Name c.as_str-in-Name.result.now = search rules in
    subst (λ (p : Part). OnOk c.append_name.result ((past : List Move) → IsScopesOf c.args.self.now.scopes.now past → string_bytes c.append_name.new.text ≡ string_bytes c.args.text.now ++ part_text (known_value c.args.self.now past) p)) (sym is) c.append_name.ensures.value

pub returns-in-Name-clause-large : goal.returns-in-Name-clause-large
returns-in-Name-clause-large c = λ same past at.
    let is : c.args.part.now ≡ Name c.as_str-in-Name.result.now = search rules in
    subst (λ (p : Part). largest_value < length (string_bytes c.args.text.now ++ part_text (known_value c.args.self.now past) p)) (sym is) (c.append_name.ensures.large same past at)
