use Rattle.std.proofs.Common.{sym, ◌∙◌}
use Rattle.ninja_words.proofs.Headings.{more_parts}
use Rattle.ninja_words.proofs.heading.Heading.parse.Goals as goal

pub parts-preserved : goal.parts-preserved
parts-preserved c = more_parts c.args.text.now c.parts.parts.items _ c.parts.rest.now c.in_ok-part.part c.in_ok-part.behind.now c.parts.invariant c.in_ok-part.ensures.is c.in_ok-push.ensures.items
