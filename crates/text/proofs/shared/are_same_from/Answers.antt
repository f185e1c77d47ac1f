use Rattle.std.proofs.Common.{◌∙◌}
use Rattle.text.proofs.Parts.{same_parts, other_front, other_rest}
use Rattle.text.proofs.shared.are_same_from.Goals as goal

pub returns-in_default : goal.returns-in_default
returns-in_default c = other_front c.args.a.now c.args.b.now c.args.c.now c.args.d.now c.requires c.in_default.ensures.none

pub returns-in_default-behind : goal.returns-in_default-behind
returns-in_default-behind c = other_rest c.args.a.now c.args.b.now c.args.c.now c.args.d.now c.in-Some.more.now c.in-Some.ensures.found c.in_default-behind.ensures.none

pub returns : goal.returns
returns c = c.eq.ensures ∙ same_parts c.args.a.now c.args.b.now c.args.c.now c.args.d.now c.in-Some.more.now c.in-Some-behind.last.now c.in-Some.ensures.found c.in-Some-behind.ensures.found
