use Rattle.std.proofs.Common.{◌∙◌, ap, sym, subst, map, take, List, ℕ, string_bytes}
use Rattle.std.proofs.lemmas.List.{take-map}
use Rattle.paths.specs.Numbers.{HaveOnePlace, IsSmall}
use Rattle.paths.proofs.Places.{fewer_once, fewer_small}
use Rattle.paths.proofs.table.Paths.truncate.Goals as goal

pub invariant_of-self : goal.invariant_of-self
invariant_of-self c =
    let whole = map string_bytes c.self.inside.texts.keys in
    let is = ap (map string_bytes) c.truncate.ensures.keys ∙ sym (take-map string_bytes c.args.count c.self.inside.texts.keys) in
    subst (λ (l : List (List ℕ)). HaveOnePlace l × IsSmall l) (sym {A = List (List ℕ)} is) (fewer_once c.args.count whole c.self.invariant.0, fewer_small c.args.count whole c.self.invariant.1)

pub returns : goal.returns
returns c =
    ap (map string_bytes) c.truncate.ensures.keys
    ∙ (sym (take-map string_bytes c.args.count c.self.inside.texts.keys) ∙ ap (take c.args.count) c.self.view_is)
