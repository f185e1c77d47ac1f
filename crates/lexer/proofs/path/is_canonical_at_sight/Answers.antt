use Rattle.std.proofs.Common.{◌≡◌, ◌∙◌, sym, ap, option_map, Some, List, ℕ}
use Rattle.std.specs.List.{list_all, slice_split}
use Rattle.lexer.specs.Path.{is_plain}
use Rattle.lexer.specs.Tokens.{behind}
use Rattle.lexer.proofs.Plain.{slash, rooted_behind}
use Rattle.lexer.proofs.Parents.{parents_canonical}
use Rattle.lexer.proofs.path.is_canonical_at_sight.Goals as goal

pub returns-in-Some : goal.returns-in-Some
returns-in-Some c = λ so.
    let found : Some c.in-Some.parts.now ≡ behind 47 c.args.path.now = sym (ap (option_map (λ rest. rest.now)) c.in-Some.is) ∙ c.strip_one.ensures in
    rooted_behind c.args.path.now c.in-Some.parts.now found (sym c.are_plain.ensures ∙ so)

pub returns-in-None : goal.returns-in-None
returns-in-None c = λ so.
    parents_canonical c.args.path.now (ap (λ (text : List ℕ). list_all is_plain (slice_split slash text)) (sym c.strip_parents.ensures) ∙ (sym c.are_plain-in-None.ensures ∙ so))
