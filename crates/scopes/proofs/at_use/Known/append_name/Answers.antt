use Rattle.std.proofs.Common.{◌++◌, ◌<◌, List, ℕ, ap, sym, subst, length, string_bytes, ◌∙◌}
use Rattle.std.proofs.lemmas.Result.{on_ok_weaker}
use Rattle.scopes.specs.Texts.{largest_value}
use Rattle.scopes.proofs.Special.{other_is}
use Rattle.scopes.proofs.at_use.Known.append_name.Goals as goal

pub returns-then-not-begins_as_special-clause-value : goal.returns-then-not-begins_as_special-clause-value
returns-then-not-begins_as_special-clause-value c = on_ok_weaker c.append.result (λ is past at.
    is ∙ ap (λ (more : List ℕ). string_bytes c.args.text.now ++ more)
    (c.value.ensures past at ∙ sym (other_is c.args.self.now past c.args.name.now (c.begins_as_special.ensures c.if-not-begins_as_special.true)))) c.append.ensures.value

pub returns-then-not-begins_as_special-clause-large : goal.returns-then-not-begins_as_special-clause-large
returns-then-not-begins_as_special-clause-large c = λ same past at.
    subst (λ (more : List ℕ). largest_value < length (string_bytes c.args.text.now ++ more))
    (c.value.ensures past at ∙ sym (other_is c.args.self.now past c.args.name.now (c.begins_as_special.ensures c.if-not-begins_as_special.true))) (c.append.ensures.large same)
