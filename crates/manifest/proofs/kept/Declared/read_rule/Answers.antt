use Rattle.std.proofs.Common.{refl}
use Rattle.std.proofs.lemmas.Result.{err_from_is_err_and}
use Rattle.scopes.specs.Moves.{DeclareRule}
use Rattle.manifest.specs.States.{with_move}
use Rattle.manifest.specs.Places.{place_of}
use Rattle.manifest.specs.declared.fault.FaultKind.TheVariants.{RepeatedRule}
use Rattle.manifest.specs.Readings.Then.{goes_on}
use Rattle.manifest.specs.Readings.Unless.{in_order}
use Rattle.manifest.proofs.Binds.{unless_at, unless_fault, then_fault}
use Rattle.manifest.proofs.Declaring.{moved, formed_moved, rule_repeated, not_repeated}
use Rattle.manifest.proofs.kept.Declared.read_rule.Goals as goal

pub returns-then-is_taken-clause-said : goal.returns-then-is_taken-clause-said
returns-then-is_taken-clause-said c = λ state is.
    unless_at _ _ (place_of c.args.place.now) (RepeatedRule c.args.name.now) c.repeated.result
    (rule_repeated c.args.self.now state c.args.name.now is (c.if-is_taken.ensures.taken refl)) c.repeated.ensures

pub returns-in_err-rule-clause-said : goal.returns-in_err-rule-clause-said
returns-in_err-rule-clause-said c = λ state is.
    let failed = err_from_is_err_and c.from_residual.result c.from_residual.ensures.1 in
    rw (failed.1, failed.2) (unless_fault _ _ _ c.in_err-rule.field-0.0
    (not_repeated c.args.self.now state c.args.name.now is (c.if-is_taken.ensures.no_phony refl) (c.if-is_taken.ensures.once refl))
    (then_fault _ _ c.in_err-rule.field-0.0 c.in_err-rule.ensures))

pub returns-in-Ok-clause-said : goal.returns-in-Ok-clause-said
returns-in-Ok-clause-said c = λ state is. (
  with_move (DeclareRule c.args.name.now c.in_ok-rule.rule) state,
  moved c.args.self.now c.declare_rule.new.self state (DeclareRule c.args.name.now c.in_ok-rule.rule) is (c.in-Ok.ensures.ok state.past is.scopes),
  in_order (not_repeated c.args.self.now state c.args.name.now is (c.if-is_taken.ensures.no_phony refl) (c.if-is_taken.ensures.once refl))
      (goes_on c.in_ok-rule.ensures refl),
)

pub returns-in-Ok-clause-formed : goal.returns-in-Ok-clause-formed
returns-in-Ok-clause-formed c = formed_moved c.args.self.now c.declare_rule.new.self (DeclareRule c.args.name.now c.in_ok-rule.rule) c.in-Ok.ensures.ok (λ past. refl)
