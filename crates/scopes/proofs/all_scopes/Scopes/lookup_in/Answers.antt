use Rattle.std.proofs.Common.{rules, arith, ◌≡◌, ◌≤◌, ◌+◌, ◌++◌, ◌∷◌, [], length, take, Some, None, ◌∙◌, sym, ap}
use Rattle.std.proofs.lemmas.List.{length-take-le, length_push}
use Rattle.scopes.specs.declared.scope.Scope.{Scope}
use Rattle.scopes.specs.Maps.{variable_of}
use Rattle.scopes.specs.Moves.{variable}
use Rattle.scopes.proofs.Keeping.{found_here, goes_on, front_taken}
use Rattle.scopes.proofs.all_scopes.Scopes.lookup_in.Goals as goal

pub returns-in-Some-value_of : goal.returns-in-Some-value_of
returns-in-Some-value_of c = λ past at.
    let parts : c.loop-inner.scopes.now ≡ c.in-Some.before.now ++ c.in-Some.inner.now ∷ [] = search rules in
    let value : variable_of c.in-Some.inner.now c.args.name.now ≡ Some c.as_str.result.now = search rules in
    let found = found_here c.args.self.now.scopes.items c.args.self.now.present c.args.self.now.outer.items past at (λ (x : Scope). variable_of x c.args.name.now) (variable c.args.name.now)
    (λ s. at.variables s c.args.name.now) c.in-Some.before.now c.in-Some.inner.now c.loop-inner.scopes.now c.loop-inner.invariant.front parts c.as_str.result.now value in
    sym (c.loop-inner.invariant.value past at ∙ found)

pub loop-inner-preserved : goal.loop-inner-preserved
loop-inner-preserved c =
    let parts : c.loop-inner.scopes.now ≡ c.in-Some.before.now ++ c.in-Some.inner.now ∷ [] = search rules in
    let none : variable_of c.in-Some.inner.now c.args.name.now ≡ None = search rules in
    let within : c.min.result ≤ length c.in-Some.before.now = search rules in
    let same = front_taken c.args.self.now.scopes.items c.in-Some.before.now c.in-Some.inner.now (length c.loop-inner.scopes.now) c.min.result (sym parts ∙ c.loop-inner.invariant.front) within in
    let long = length-take-le c.min.result c.in-Some.before.now within in
    let counted : length c.loop-inner.scopes.now ≡ length c.in-Some.before.now + 1 = ap length parts ∙ length_push c.in-Some.before.now c.in-Some.inner.now in
    record {
      front = same ∙ ap (λ n. take n c.args.self.now.scopes.items) (sym long);
      fits = omega (arith, long, within, counted, c.loop-inner.invariant.fits);
      value = λ past at.
          c.loop-inner.invariant.value past at
          ∙ goes_on c.args.self.now.scopes.items c.args.self.now.present c.args.self.now.outer.items past at (λ (x : Scope). variable_of x c.args.name.now) (variable c.args.name.now)
          (λ s. at.variables s c.args.name.now) c.in-Some.before.now c.in-Some.inner.now c.loop-inner.scopes.now c.loop-inner.invariant.front parts none c.min.result within (λ low. omega (arith, low, c.min.ensures));
    }
