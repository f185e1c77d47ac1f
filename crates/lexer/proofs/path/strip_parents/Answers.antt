use Rattle.std.proofs.Common.{◌≡◌, ◌∙◌, sym, ap, option_map, Some, None, rules}
use Rattle.lexer.specs.Parents.{behind_parent}
use Rattle.lexer.proofs.Parents.{one_less, none_left}
use Rattle.lexer.proofs.path.strip_parents.Goals as goal

pub loop-next-smaller : goal.loop-next-smaller
loop-next-smaller c =
    let found : Some c.in-Some.next.now ≡ behind_parent c.loop-next.rest.now = sym (ap (option_map (λ rest. rest.now)) c.in-Some.is) ∙ c.strip_parent.ensures in
    (one_less c.loop-next.rest.now c.in-Some.next.now found).1

pub loop-next-preserved : goal.loop-next-preserved
loop-next-preserved c =
    let found : Some c.in-Some.next.now ≡ behind_parent c.loop-next.rest.now = sym (ap (option_map (λ rest. rest.now)) c.in-Some.is) ∙ c.strip_parent.ensures in
    (search rules, c.loop-next.invariant.1 ∙ (one_less c.loop-next.rest.now c.in-Some.next.now found).0)

pub returns : goal.returns
returns c =
    let none : None ≡ behind_parent c.loop-next.rest.now = sym (ap (option_map (λ rest. rest.now)) c.in_default.is) ∙ c.strip_parent.ensures in
    sym (c.loop-next.invariant.1 ∙ none_left _ none)
