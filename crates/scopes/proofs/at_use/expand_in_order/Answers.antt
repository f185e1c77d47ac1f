use Rattle.std.proofs.Common.{rules, ◌≡◌, ◌<◌, ◌≤◌, List, ℕ, length, get_or, sym, subst, Err}
use Rattle.scopes.specs.declared.fault.UseFault.TheVariants.{TooLarge}
use Rattle.scopes.specs.declared.fault.ExpandFault.TheVariants.{TooLarge as Larger}
use Rattle.scopes.specs.Use.{opened, fixed, IsOrderFrom, IsValueAtUse}
use Rattle.scopes.specs.Known.{known_value}
use Rattle.scopes.proofs.Knowing.{knows_none, knows_learnt, knows_here, knows_large, knows_asked, knows_all_scopes}
use Rattle.scopes.proofs.at_use.expand_in_order.Goals as goal

pub loop-name-init : goal.loop-name-init
loop-name-init c = knows_none c.args.scopes.now c.args.at.now c.args.asked.now _ c.new-known.ensures.scopes c.new-known.ensures.at c.new-known.ensures.paths c.new-known.ensures.none

pub learn-requires : goal.learn-requires
learn-requires c = rw (c.loop-name.invariant.at_is, c.loop-name.invariant.scopes_are) c.requires

pub loop-name-preserved : goal.loop-name-preserved
loop-name-preserved c =
    let order = subst (IsOrderFrom (opened c.args.at.now) c.args.asked.now) (sym c.as_slice-name-items.ensures.value) c.in_ok-order.ensures.order in
    let is_name : c.as_str-name.result.now ≡ get_or c.as_slice-name-items.result.now c.loop-name.name-index c.as_str-name.result.now =
    subst (λ (n : List ℕ). n ≡ get_or c.as_slice-name-items.result.now c.loop-name.name-index n) (sym c.as_str-name.ensures) c.name-item.is in
    let low : c.loop-name.name-index < length c.as_slice-name-items.result.now = search rules in
    knows_learnt c.args.scopes.now c.args.at.now c.args.asked.now c.loop-name.known c.as_slice-name-items.result.now c.loop-name.name-index c.as_str-name.result.now c.loop-name.invariant order low is_name
    c.learn.new.self c.learn.ensures.scopes c.learn.ensures.at c.learn.ensures.paths c.in_ok-learn.ensures.value

pub returns-in_err-learn-clause-large : goal.returns-in_err-learn-clause-large
returns-in_err-learn-clause-large c = λ same past is.
    let order = subst (IsOrderFrom (opened c.args.at.now) c.args.asked.now) (sym c.as_slice-name-items.ensures.value) c.in_ok-order.ensures.order in
    let is_name : c.as_str-name.result.now ≡ get_or c.as_slice-name-items.result.now c.loop-name.name-index c.as_str-name.result.now =
    subst (λ (n : List ℕ). n ≡ get_or c.as_slice-name-items.result.now c.loop-name.name-index n) (sym c.as_str-name.ensures) c.name-item.is in
    let low : c.loop-name.name-index < length c.as_slice-name-items.result.now = search rules in
    let failed : c.learn.result ≡ Err TooLarge = search rules in
    knows_large c.args.scopes.now c.args.at.now c.args.asked.now c.loop-name.known c.as_slice-name-items.result.now c.loop-name.name-index c.as_str-name.result.now c.loop-name.invariant order low is_name
    (c.learn.ensures.large failed) past is

pub returns-then-eq-clause-value : goal.returns-then-eq-clause-value
returns-then-eq-clause-value c = λ past is.
    let order = subst (IsOrderFrom (opened c.args.at.now) c.args.asked.now) (sym c.as_slice-name-items.ensures.value) c.in_ok-order.ensures.order in
    let is_name : c.as_str-name.result.now ≡ get_or c.as_slice-name-items.result.now c.loop-name.name-index c.as_str-name.result.now =
    subst (λ (n : List ℕ). n ≡ get_or c.as_slice-name-items.result.now c.loop-name.name-index n) (sym c.as_str-name.ensures) c.name-item.is in
    let same : c.as_str-name.result.now ≡ c.args.asked.now = search rules in
    let is_asked : c.args.asked.now ≡ get_or c.as_slice-name-items.result.now c.loop-name.name-index c.args.asked.now = subst (λ (n : List ℕ). n ≡ get_or c.as_slice-name-items.result.now c.loop-name.name-index n) same is_name in
    let low : c.loop-name.name-index < length c.as_slice-name-items.result.now = search rules in
    knows_here c.args.scopes.now c.args.at.now c.args.asked.now c.loop-name.known c.as_slice-name-items.result.now c.loop-name.name-index c.args.asked.now c.loop-name.invariant order low is_asked
    c.in_ok-expand.field-0 c.in_ok-expand.ensures.value past is

pub returns-in_err-expand-clause-large : goal.returns-in_err-expand-clause-large
returns-in_err-expand-clause-large c = λ same past is.
    let order = subst (IsOrderFrom (opened c.args.at.now) c.args.asked.now) (sym c.as_slice-name-items.ensures.value) c.in_ok-order.ensures.order in
    let is_name : c.as_str-name.result.now ≡ get_or c.as_slice-name-items.result.now c.loop-name.name-index c.as_str-name.result.now =
    subst (λ (n : List ℕ). n ≡ get_or c.as_slice-name-items.result.now c.loop-name.name-index n) (sym c.as_str-name.ensures) c.name-item.is in
    let equal : c.as_str-name.result.now ≡ c.args.asked.now = search rules in
    let is_asked : c.args.asked.now ≡ get_or c.as_slice-name-items.result.now c.loop-name.name-index c.args.asked.now = subst (λ (n : List ℕ). n ≡ get_or c.as_slice-name-items.result.now c.loop-name.name-index n) equal is_name in
    let low : c.loop-name.name-index < length c.as_slice-name-items.result.now = search rules in
    let failed : c.expand.result ≡ Err Larger = search rules in
    knows_large c.args.scopes.now c.args.at.now c.args.asked.now c.loop-name.known c.as_slice-name-items.result.now c.loop-name.name-index c.args.asked.now c.loop-name.invariant order low is_asked
    (c.expand.ensures.large failed) past is

pub of_name-requires : goal.of_name-requires
of_name-requires c = rw (c.loop-name.invariant.at_is, c.loop-name.invariant.scopes_are) c.requires

pub returns-in_err-of_name-clause-large : goal.returns-in_err-of_name-clause-large
returns-in_err-of_name-clause-large c = λ same past is.
    let order = subst (IsOrderFrom (opened c.args.at.now) c.args.asked.now) (sym c.as_slice-name-items.ensures.value) c.in_ok-order.ensures.order in
    let high : length c.as_slice-name-items.result.now ≤ c.loop-name.name-index = search rules in
    let failed : c.of_name.result ≡ Err Larger = search rules in
    let there = knows_all_scopes c.args.scopes.now c.args.at.now c.args.asked.now c.loop-name.known c.as_slice-name-items.result.now c.loop-name.name-index c.loop-name.invariant order high past is in
    record {
      value = known_value c.loop-name.known past c.args.asked.now;
      is_value = knows_asked c.args.scopes.now c.args.at.now c.args.asked.now c.loop-name.known c.as_slice-name-items.result.now c.loop-name.name-index c.loop-name.invariant order high past is;
      large = c.of_name.ensures.large failed past there;
    }

pub returns-clause-value : goal.returns-clause-value
returns-clause-value c = λ past is.
    let order = subst (IsOrderFrom (opened c.args.at.now) c.args.asked.now) (sym c.as_slice-name-items.ensures.value) c.in_ok-order.ensures.order in
    let high : length c.as_slice-name-items.result.now ≤ c.loop-name.name-index = search rules in
    let there = knows_all_scopes c.args.scopes.now c.args.at.now c.args.asked.now c.loop-name.known c.as_slice-name-items.result.now c.loop-name.name-index c.loop-name.invariant order high past is in
    subst (IsValueAtUse (opened c.args.at.now) (fixed c.args.at.now c.args.asked.now past) c.args.asked.now) (sym (c.in_ok-of_name.ensures.value past there))
    (knows_asked c.args.scopes.now c.args.at.now c.args.asked.now c.loop-name.known c.as_slice-name-items.result.now c.loop-name.name-index c.loop-name.invariant order high past is)
