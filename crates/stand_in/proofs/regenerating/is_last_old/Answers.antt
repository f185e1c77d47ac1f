use Rattle.std.proofs.Common.{ℕ, Bool, true, false, Option, None, Some, Result, Ok, Err, IsSome, ◌≡◌, refl, sym, ap, ◌∙◌}
use Rattle.stand_in.proofs.Calls.{still_nothing, still_says}
use Rattle.stand_in.proofs.Edges.{last_of}
use Rattle.stand_in.proofs.regenerating.is_last_old.Goals as goal

pub is_out_of_date-requires : goal.is_out_of_date-requires
is_out_of_date-requires g c = last_of c.args.declared.now c.args.above.now.generators.items c.deref.result.now c.last.result c.in-Some.last c.deref.ensures.value c.requires c.last.ensures.value c.in-Some.is

pub returns-in-None : goal.returns-in-None
returns-in-None g c = still_says g.S.Texts.tells (λ (b : Bool). b ≡ false) (g.S.Texts.world c.args.site.now) (g.S.Texts.world c.args.site.now) false (still_nothing g.S.Texts.tells (g.S.Texts.world c.args.site.now))
