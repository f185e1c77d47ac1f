use Rattle.std.proofs.Common.{◌≡◌, ◌∙◌, ◌-◌, List, ℕ, true, false, Some, ap, sym, arith}
use Rattle.audit.specs.declared.lead.Way.{Way}
use Rattle.audit.specs.Leading.{at_end, goes_on, lead_in, so_far, target_at, walked}
use Rattle.audit.proofs.Parts.{ends, goes, lead_ended, lead_lost, lead_next}
use Rattle.audit.proofs.lead.lead.Goals as goal

pub returns-then-is_lost : goal.returns-then-is_lost
returns-then-is_lost c =
    let own = c.args.links.now.own.now in
    let old = c.args.links.now.old.now in
    let asks = c.args.asks in
    sym (c.links.invariant ∙ lead_lost c.links.left own old asks c.links.met c.links.way c.links.text c.in_ok-walk.walk (omega (arith, c.links-test.true))
    (c.in_ok-walk.ensures ∙ ap (λ (t : List ℕ). walked (target_at own old asks.sees) t) c.as_str.ensures) (sym c.is_lost.ensures ∙ c.if-is_lost.true))

pub returns-then-ends : goal.returns-then-ends
returns-then-ends c =
    let own = c.args.links.now.own.now in
    let old = c.args.links.now.old.now in
    let asks = c.args.asks in
    sym (c.links.invariant ∙ (lead_ended c.links.left own old asks c.links.met c.links.way c.links.text c.in_ok-walk.walk (omega (arith, c.links-test.true))
    (c.in_ok-walk.ensures ∙ ap (λ (t : List ℕ). walked (target_at own old asks.sees) t) c.as_str.ensures) (sym c.is_lost.ensures ∙ c.if-is_lost.false)
    (ends (goes_on c.in_ok-walk.walk asks.follows) (sym c.ends.ensures ∙ c.if-ends.true))
    ∙ ap Some (sym (c.in_ok-found.ensures ∙ ap (λ (d : List ℕ). at_end own asks.writes (so_far c.links.met c.links.way) d) c.done.ensures))))

pub links-preserved : goal.links-preserved
links-preserved c =
    let own = c.args.links.now.own.now in
    let old = c.args.links.now.old.now in
    let asks = c.args.asks in
    c.links.invariant ∙ (lead_next c.links.left own old asks c.links.met c.links.way c.links.text c.in_ok-walk.walk (omega (arith, c.links-test.true))
    (c.in_ok-walk.ensures ∙ ap (λ (t : List ℕ). walked (target_at own old asks.sees) t) c.as_str.ensures) (sym c.is_lost.ensures ∙ c.if-is_lost.false)
    (goes (goes_on c.in_ok-walk.walk asks.follows) (sym c.ends.ensures ∙ c.if-ends.false))
    ∙ (ap (λ (w : Way). lead_in (c.links.left - 1) own old asks true w c.in_ok-walk.walk.next) (sym c.way_after-way.ensures)
    ∙ ap (λ (t : List ℕ). lead_in (c.links.left - 1) own old asks true c.way_after-way.result t) (sym c.into_next-text.ensures)))

pub returns : goal.returns
returns c =
    let zero : c.links.left ≡ 0 = omega (arith, c.links-test.false) in
    sym (c.links.invariant ∙ ap (λ (n : ℕ). lead_in n c.args.links.now.own.now c.args.links.now.old.now c.args.asks c.links.met c.links.way c.links.text) zero)
