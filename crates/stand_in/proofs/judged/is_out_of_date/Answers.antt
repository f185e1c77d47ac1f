use Rattle.std.proofs.Common.{ℕ, Bool, true, false, Option, None, Some, Result, Ok, Err, IsSome, ◌≡◌, refl, sym, ap, ◌∙◌}
use Rattle.std.proofs.Common.{subst}
use Rattle.std.proofs.lemmas.Bool.{true≢false}
use Rattle.stand_in.proofs.Calls.{asks_err, asks_so, still_ask, still_err, still_then, still_unsaid}
use Rattle.stand_in.proofs.judged.is_out_of_date.Goals as goal

pub returns-in_err-made : goal.returns-in_err-made
returns-in_err-made g c = asks_err g.S.Texts.tells (λ (o : Option ℕ). IsSome o) (λ (b : Bool). b ≡ false) (g.S.Texts.world c.args.site.now) (g.S.Texts.world c.made_stamp.new.site) c.in_err-made.field-0.0 c.from_residual.result c.in_err-made.ensures c.from_residual.ensures.1

pub returns-in_default : goal.returns-in_default
returns-in_default g c = asks_so g.S.Texts.tells (λ (o : Option ℕ). IsSome o) (λ (b : Bool). b ≡ false) (g.S.Texts.world c.args.site.now) (g.S.Texts.world c.made_stamp.new.site) c.in_ok-made.field-0 true c.in_ok-made.ensures (λ is. absurd (true≢false is))

pub returns-in_err-has_later_input : goal.returns-in_err-has_later_input
returns-in_err-has_later_input g c = still_err g.S.Texts.tells (λ (b : Bool). b ≡ false) (λ (b : Bool). b ≡ false) (g.S.Texts.world c.args.site.now) (g.S.Texts.world c.made_stamp.new.site) (g.S.Texts.world c.has_later_input.new.site) c.in_err-has_later_input.field-0.0 c.from_residual-in_err-has_later_input.result (asks_so g.S.Texts.tells (λ (o : Option ℕ). IsSome o) (λ (u : Unit {0}). Unit {0}) (g.S.Texts.world c.args.site.now) (g.S.Texts.world c.made_stamp.new.site) c.in_ok-made.field-0 tt c.in_ok-made.ensures (λ any. subst (λ (o : Option ℕ). IsSome o) (sym c.in-Some.is) refl)) c.in_err-has_later_input.ensures c.from_residual-in_err-has_later_input.ensures.1

pub returns-then-branch : goal.returns-then-branch
returns-then-branch g c = still_unsaid g.S.Texts.tells (λ (b : Bool). b ≡ false) (λ (b : Bool). b ≡ false) (g.S.Texts.world c.args.site.now) (g.S.Texts.world c.made_stamp.new.site) (g.S.Texts.world c.has_later_input.new.site) c.in_ok-has_later_input.field-0 true (asks_so g.S.Texts.tells (λ (o : Option ℕ). IsSome o) (λ (u : Unit {0}). Unit {0}) (g.S.Texts.world c.args.site.now) (g.S.Texts.world c.made_stamp.new.site) c.in_ok-made.field-0 tt c.in_ok-made.ensures (λ any. subst (λ (o : Option ℕ). IsSome o) (sym c.in-Some.is) refl)) c.in_ok-has_later_input.ensures (λ is. true≢false is)

pub returns : goal.returns
returns g c = still_ask g.S.Texts.tells (λ (b : Bool). b ≡ false) (g.S.Texts.world c.args.site.now) (g.S.Texts.world c.has_later_input.new.site) (g.S.Texts.world c.has_later_told.new.site) c.has_later_told.result (still_then g.S.Texts.tells (λ (b : Bool). b ≡ false) (g.S.Texts.world c.args.site.now) (g.S.Texts.world c.made_stamp.new.site) (g.S.Texts.world c.has_later_input.new.site) c.in_ok-has_later_input.field-0 (asks_so g.S.Texts.tells (λ (o : Option ℕ). IsSome o) (λ (u : Unit {0}). Unit {0}) (g.S.Texts.world c.args.site.now) (g.S.Texts.world c.made_stamp.new.site) c.in_ok-made.field-0 tt c.in_ok-made.ensures (λ any. subst (λ (o : Option ℕ). IsSome o) (sym c.in-Some.is) refl)) c.in_ok-has_later_input.ensures c.if-branch.false) c.has_later_told.ensures
