use Rattle.std.proofs.Common.{◌≡◌, false, true, string_bytes, sym, ap, ◌∙◌}
use Rattle.std.specs.Str.{bytes_eq}
use Rattle.std.specs.Map.{lookup}
use Rattle.std.specs.Map.Iter.{deref_pair}
use Rattle.std.proofs.lemmas.Map.Iter.{rest_more, rest_all}
use Rattle.scopes.proofs.Few.{is_named, passed_over, found_first}
use Rattle.scopes.proofs.names.value_of.Goals as goal

pub loop-other-init : goal.loop-other-init
loop-other-init g c = ap (lookup (is_named c.args.name.now)) (c.into_iter-other-iterator.ensures.into_iter_gives ∙ c.iter-other-items.ensures.rest)

pub returns-then-is_same : goal.returns-then-is_same
returns-then-is_same g c =
    let step = rest_more deref_pair c.loop-other.other-iterator c.next.new.self c.next.result (c.in-Some.other, c.in-Some.value) c.in-Some.is c.next.ensures.steps in
    let is : bytes_eq c.args.name.now (string_bytes c.in-Some.other.now) ≡ true = ap (bytes_eq c.args.name.now) (sym c.as_str.ensures.value) ∙ sym c.is_same.ensures ∙ c.if-is_same.true in
    sym (found_first (is_named c.args.name.now) c.loop-other.other-iterator c.next.new.self c.in-Some.other.now c.in-Some.value.now step is) ∙ c.loop-other.invariant

pub loop-other-preserved : goal.loop-other-preserved
loop-other-preserved g c =
    let step = rest_more deref_pair c.loop-other.other-iterator c.next.new.self c.next.result (c.in-Some.other, c.in-Some.value) c.in-Some.is c.next.ensures.steps in
    let other : bytes_eq c.args.name.now (string_bytes c.in-Some.other.now) ≡ false = ap (bytes_eq c.args.name.now) (sym c.as_str.ensures.value) ∙ sym c.is_same.ensures ∙ c.if-is_same.false in
    sym (passed_over (is_named c.args.name.now) c.loop-other.other-iterator c.next.new.self c.in-Some.other.now c.in-Some.value.now step other) ∙ c.loop-other.invariant

pub returns : goal.returns
returns g c =
    let all = rest_all deref_pair c.loop-other.other-iterator c.next.new.self c.next.result c.in-None.is c.next.ensures.steps in
    sym (ap (lookup (is_named c.args.name.now)) all) ∙ c.loop-other.invariant
