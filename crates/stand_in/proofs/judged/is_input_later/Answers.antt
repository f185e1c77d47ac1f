use Rattle.std.proofs.Common.{ℕ, Bool, true, false, Option, None, Some, Result, Ok, Err, IsSome, ◌≡◌, refl, sym, ap, ◌∙◌}
use Rattle.std.proofs.lemmas.Bool.{true≢false}
use Rattle.stand_in.proofs.Calls.{asks_call, asks_passed, asks_refused, asks_so}
use Rattle.stand_in.proofs.judged.is_input_later.Goals as goal

pub returns-in-Ok-Some : goal.returns-in-Ok-Some
returns-in-Ok-Some g c = asks_so g.S.Texts.tells (λ (o : Option ℕ). Unit {0}) (λ (b : Bool). b ≡ false) (g.S.Texts.world c.args.site.now) (g.S.Texts.world c.stat.new.self) c.in-Ok-Some.field-0 _ (asks_call g.S.Texts.tells (λ (o : Option ℕ). Unit {0}) (g.S.Texts.world c.args.site.now) (g.S.Texts.world c.stat.new.self) (Ok c.in-Ok-Some.field-0) c.in-Ok-Some.ensures.looks c.in-Ok-Some.ensures.cause) (λ is. tt)

pub returns-in-Ok-None : goal.returns-in-Ok-None
returns-in-Ok-None g c = asks_so g.S.Texts.tells (λ (o : Option ℕ). Unit {0}) (λ (b : Bool). b ≡ false) (g.S.Texts.world c.args.site.now) (g.S.Texts.world c.stat.new.self) c.in-Ok-None.field-0 _ (asks_call g.S.Texts.tells (λ (o : Option ℕ). Unit {0}) (g.S.Texts.world c.args.site.now) (g.S.Texts.world c.stat.new.self) (Ok c.in-Ok-None.field-0) c.in-Ok-None.ensures.looks c.in-Ok-None.ensures.cause) (λ is. tt)

pub returns-in-Err-Device : goal.returns-in-Err-Device
returns-in-Err-Device g c = asks_refused g.S.Texts.tells (λ (b : Bool). b ≡ false) (g.S.Texts.world c.args.site.now) (g.S.Texts.world c.stat.new.self) true c.in-Err-Device.ensures.looks (rw c.in-Err-Device.field-0-is at c.in-Err-Device.ensures.cause) (λ is. true≢false is)

pub returns-in-Err : goal.returns-in-Err
returns-in-Err g c = asks_passed g.S.Texts.tells (λ (b : Bool). b ≡ false) (g.S.Texts.world c.args.site.now) (g.S.Texts.world c.stat.new.self) c.in-Err.fault c.in-Err.ensures.looks c.in-Err.ensures.cause
