use Rattle.std.proofs.Common.{ℕ, Bool, true, false, Option, None, Some, Result, Ok, Err, IsSome, ◌≡◌, refl, sym, ap, ◌∙◌}
use Rattle.std.proofs.lemmas.Bool.{true≢false}
use Rattle.stand_in.proofs.Calls.{still_ask, still_call, still_fails, still_says}
use Rattle.stand_in.proofs.judged.is_told_later.Goals as goal

pub returns-in-Err-Memory : goal.returns-in-Err-Memory
returns-in-Err-Memory g c = still_fails g.S.Texts.tells (λ (b : Bool). b ≡ false) (g.S.Texts.world c.args.site.now) (g.S.Texts.world c.read.new.self) (still_call g.S.Texts.tells (g.S.Texts.world c.args.site.now) (g.S.Texts.world c.read.new.self) c.in-Ok-Some.field-0 c.in-Ok-Some.ensures.looks c.in-Ok-Some.ensures.cause)

pub returns-in-Err-Fault : goal.returns-in-Err-Fault
returns-in-Err-Fault g c = still_says g.S.Texts.tells (λ (b : Bool). b ≡ false) (g.S.Texts.world c.args.site.now) (g.S.Texts.world c.read.new.self) true (still_call g.S.Texts.tells (g.S.Texts.world c.args.site.now) (g.S.Texts.world c.read.new.self) c.in-Ok-Some.field-0 c.in-Ok-Some.ensures.looks c.in-Ok-Some.ensures.cause)

pub returns : goal.returns
returns g c = still_ask g.S.Texts.tells (λ (b : Bool). b ≡ false) (g.S.Texts.world c.args.site.now) (g.S.Texts.world c.read.new.self) (g.S.Texts.world c.is_some_later.new.site) c.is_some_later.result (still_call g.S.Texts.tells (g.S.Texts.world c.args.site.now) (g.S.Texts.world c.read.new.self) c.in-Ok-Some.field-0 c.in-Ok-Some.ensures.looks c.in-Ok-Some.ensures.cause) c.is_some_later.ensures
