use Rattle.std.proofs.Common.{[], ◌∷◌, ◌++◌, List, ap, subst, append-nil, append_assoc, ◌∙◌, sym}
use Rattle.status.specs.declared.part.Part.{Part}
use Rattle.status.specs.Pattern.{IsPatternOf}
use Rattle.status.proofs.Reading.{nothing, in_front}
use Rattle.status.proofs.pattern.Pattern.parse.Goals as goal

pub parts-preserved : goal.parts-preserved
parts-preserved c = λ more rest.
    let whole = c.parts.invariant (c.in-Some.part ∷ more) (in_front c.in-Some.part c.parts.rest.now c.in-Some.after.now more c.in-Some.ensures.found c.in-Some.ensures.plain rest) in
    rw (c.in_ok-push.ensures.items, append_assoc c.parts.parts.items (c.in-Some.part ∷ []) more) whole

pub returns : goal.returns
returns c =
    let left : IsPatternOf c.parts.rest.now [] = rw c.in_default.ensures.none nothing in
    rw (append-nil c.parts.parts.items, c.as_bytes-rest.ensures.value) at (c.parts.invariant [] left)
