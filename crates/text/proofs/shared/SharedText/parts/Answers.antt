use Rattle.std.proofs.Common.{sym, subst, ◌∙◌, rules}
use Rattle.std.specs.Str.{IsUtf8}
use Rattle.std.proofs.lemmas.Str.{IsUtf8-append}
use Rattle.text.specs.Shared.{held}
use Rattle.text.proofs.Parts.{in_parts}
use Rattle.text.proofs.shared.SharedText.parts.Goals as goal

pub returns-clause-text : goal.returns-clause-text
returns-clause-text c = sym c.self.view_is ∙ in_parts (held c.self.inside.front) (held c.self.inside.rest) c.characters.result.now c.characters-2.result.now c.characters.ensures c.characters-2.ensures

pub returns-clause-utf8 : goal.returns-clause-utf8
returns-clause-utf8 c =
    let front : IsUtf8 c.characters.result.now = search rules in
    let rest : IsUtf8 c.characters-2.result.now = search rules in
    let whole = sym c.self.view_is ∙ in_parts (held c.self.inside.front) (held c.self.inside.rest) c.characters.result.now c.characters-2.result.now c.characters.ensures c.characters-2.ensures in
    subst IsUtf8 (sym whole) (IsUtf8-append c.characters.result.now c.characters-2.result.now front rest)
