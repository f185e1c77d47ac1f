use Rattle.std.proofs.Common.{inl, inr, ◌∙◌, ◌∷◌, ℕ, Bool, List, sym, ap, arith}
use Rattle.std.proofs.Math.ListN.{set}
use Rattle.plan.proofs.Noting.{noted, noted_flagged, not_noted, all_noted}
use Rattle.plan.proofs.plan.note_each.Goals as goal

pub loop-path-init : goal.loop-path-init
loop-path-init c = cc

pub loop-path-preserved-then-place-flags : goal.loop-path-preserved-then-place-flags
loop-path-preserved-then-place-flags c =
    ap (λ (n : ℕ). noted (set c.loop-path.flags n c.in-Some.flag.now) c.next.new.self.a.rest.now c.next.new.self.b.rest.now) c.index-place.ensures.place
    ∙ (sym (ap (λ (l : List ℕ). noted c.loop-path.flags l c.loop-path.path-iterator.b.rest.now) c.in-Some.ensures.steps.0
    ∙ ap (λ (l : List Bool). noted c.loop-path.flags (c.in-Some.path.now ∷ c.next.new.self.a.rest.now) l) c.in-Some.ensures.steps.1)
    ∙ c.loop-path.invariant)

pub loop-path-preserved : goal.loop-path-preserved
loop-path-preserved c =
    not_noted c.loop-path.flags c.in-Some.path.now c.in-Some.flag.now c.next.new.self.a.rest.now c.next.new.self.b.rest.now (omega (arith, c.if-place-flags.false, c.index-place.ensures.place))
    ∙ (sym (ap (λ (l : List ℕ). noted c.loop-path.flags l c.loop-path.path-iterator.b.rest.now) c.in-Some.ensures.steps.0
    ∙ ap (λ (l : List Bool). noted c.loop-path.flags (c.in-Some.path.now ∷ c.next.new.self.a.rest.now) l) c.in-Some.ensures.steps.1)
    ∙ c.loop-path.invariant)

pub returns-clause-flags : goal.returns-clause-flags
returns-clause-flags c = noted_flagged c.args.flags.now c.loop-path.flags c.args.paths.now c.args.changed.now
    (sym (all_noted c.loop-path.flags c.loop-path.path-iterator.a.rest.now c.loop-path.path-iterator.b.rest.now (elim c.in-None.ensures.steps [
      | inl ends ↦ inl ends.1.0
      | inr ends ↦ inr ends.1.0
    ])) ∙ c.loop-path.invariant)
    c.requires.fits c.requires.once c.requires.within
