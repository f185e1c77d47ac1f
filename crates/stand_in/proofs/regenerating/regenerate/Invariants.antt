use Rattle.std.proofs.Common.{◌≡◌, Bool, false, Ok}
use Rattle.stand_in.specs.Moves.{OnlyAsks}
use Rattle.stand_in.proofs.regenerating.regenerate.Given as goal

abbrev pub invariant-loop-generator : goal.invariant-loop-generator
invariant-loop-generator g l = OnlyAsks {T = Bool} g.S.Texts.tells (λ b. b ≡ false) (g.S.Texts.world l.fn.site) (g.S.Texts.world l.site) (Ok l.some)
