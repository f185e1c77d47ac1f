use Rattle.std.proofs.Common.{List, subst}
use Rattle.scopes.specs.declared.block.Bound.{Bound}
use Rattle.scopes.specs.Block.{last_value, first_value, other_value}
use Rattle.scopes.specs.Moves.{or_else}
use Rattle.scopes.specs.Marks.{AreMarked}
use Rattle.scopes.proofs.Marking.{either_marked}
use Rattle.scopes.proofs.block.Block.marks.Goals as goal

pub returns : goal.returns
returns c =
    let block = c.args.self.now in
    let few = subst (λ (l : List Bound). AreMarked (last_value l) c.few_marks.result) c.as_slice.ensures.value c.few_marks.ensures in
    let front =
    either_marked (last_value block.few.items) (first_value block.first) c.few_marks.result c.first_marks.result c.and-few.result few c.first_marks.ensures c.and-few.ensures.these c.and-few.ensures.others in
    either_marked (other_value block) (λ name. or_else (last_value block.few.items name) (first_value block.first name)) c.others_marks.result c.and-few.result c.and.result c.others_marks.ensures front c.and.ensures.these c.and.ensures.others
