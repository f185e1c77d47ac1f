use Rattle.std.proofs.Common.{arith, sym, ap, ◌∙◌}
use Rattle.lexer.specs.Quote.{is_bare}
use Rattle.lexer.proofs.Bare.{passes_through, fails_within}
use Rattle.lexer.proofs.shell.are_bare.Goals as goal

pub returns-then-quoted_bits-ne0 : goal.returns-then-quoted_bits-ne0
returns-then-quoted_bits-ne0 c = sym (c.loop-i.invariant.0 ∙ fails_within is_bare c.args.bytes.now c.loop-i.i 16 (omega (arith, c.quoted_bits.ensures)))

pub loop-i-preserved : goal.loop-i-preserved
loop-i-preserved c = (c.loop-i.invariant.0 ∙ passes_through is_bare c.args.bytes.now c.loop-i.i 16 (omega (arith, c.quoted_bits.ensures)), omega arith)
