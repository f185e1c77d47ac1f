use Rattle.std.proofs.Common.{ℕ, Bool, true, false, Option, None, Some, Result, Ok, Err, IsSome, ◌≡◌, refl, sym, ap, ◌∙◌}
use Rattle.stand_in.proofs.Calls.{still_nothing, still_says}
use Rattle.stand_in.proofs.judged.has_later_told.Goals as goal

pub returns-in_default : goal.returns-in_default
returns-in_default g c = still_says g.S.Texts.tells (λ (b : Bool). b ≡ false) (g.S.Texts.world c.args.site.now) (g.S.Texts.world c.args.site.now) false (still_nothing g.S.Texts.tells (g.S.Texts.world c.args.site.now))

pub returns-in-empty : goal.returns-in-empty
returns-in-empty g c = still_says g.S.Texts.tells (λ (b : Bool). b ≡ false) (g.S.Texts.world c.args.site.now) (g.S.Texts.world c.args.site.now) false (still_nothing g.S.Texts.tells (g.S.Texts.world c.args.site.now))
