use Rattle.std.proofs.Common.{sym, ◌∙◌, refl}
use Rattle.lexer.proofs.Plain.{ends_early, ends_late}
use Rattle.lexer.proofs.path.are_few_plain.Goals as goal

pub returns-then-is_slash_or_dot : goal.returns-then-is_slash_or_dot
returns-then-is_slash_or_dot c =
    ends_early c.args.parts.now c.args.parts.now c.loop-byte.begins c.loop-byte.byte-index _ refl c.if-begins.true c.loop-byte-test.true
    (sym c.is_slash_or_dot.ensures ∙ c.if-is_slash_or_dot.true) c.loop-byte.invariant

pub returns : goal.returns
returns c =
    ends_late c.args.parts.now c.args.parts.now c.loop-byte.begins c.loop-byte.byte-index refl c.loop-byte-test.false c.loop-byte.invariant
