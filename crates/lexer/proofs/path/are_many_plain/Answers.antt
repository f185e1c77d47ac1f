use Rattle.std.proofs.Common.{◌≡◌, ℕ, ◌+◌, ◌-◌, ◌<◌, false, length, sym, ◌∙◌, arith, inl, inr}
use Rattle.std.proofs.lemmas.Bool.{cases_lt, eq-eqb, ne_eqb}
use Rattle.lexer.specs.Beginnings.{fault_at}
use Rattle.lexer.proofs.Beginnings.{bad_begin, bad_end, bad_within, all_fine}
use Rattle.lexer.proofs.path.are_many_plain.Goals as goal
use Rattle.lexer.proofs.path.are_many_plain.Goals.{then-is_slash_or_dot-via-then-is_slash_or_dot, then-is_slash_or_dot-via-else-is_slash_or_dot+then-parts-last-eq47, then-is_slash_or_dot-via-else-is_slash_or_dot+else-parts-last-eq47+then-has_fault}

pub returns-then-is_slash_or_dot : goal.returns-then-is_slash_or_dot
returns-then-is_slash_or_dot c =
    elim c.then-is_slash_or_dot.branch [
      | then-is_slash_or_dot-via-then-is_slash_or_dot w ↦ bad_begin c.args.parts.now c.requires (sym c.is_slash_or_dot.ensures ∙ w.if-is_slash_or_dot.true)
      | then-is_slash_or_dot-via-else-is_slash_or_dot+then-parts-last-eq47 w ↦ bad_end c.args.parts.now (length c.args.parts.now - 17 + 16) (omega (arith, c.requires)) (eq-eqb _ _ w.if-parts-last-eq47.true)
      | then-is_slash_or_dot-via-else-is_slash_or_dot+else-parts-last-eq47+then-has_fault w ↦ bad_within c.args.parts.now (w.has_fault.ensures.some w.if-has_fault.true)
    ]

pub returns-then-has_fault-2 : goal.returns-then-has_fault-2
returns-then-has_fault-2 c = bad_within c.args.parts.now (c.has_fault-in-loop-i.ensures.some c.if-has_fault-2.true)

pub loop-i-init : goal.loop-i-init
loop-i-init c = (λ k from to. absurd (omega (arith, to)), omega arith)

pub loop-i-preserved : goal.loop-i-preserved
loop-i-preserved c = (
  λ k from to. elim (cases_lt k c.loop-i.i) [
    | inl early ↦ c.loop-i.invariant.0 k from early
    | inr late ↦ c.has_fault-in-loop-i.ensures.none c.if-has_fault-2.false k late to
  ],
  omega (arith, c.loop-i-test.true),
)

pub returns : goal.returns
returns c =
    let n = length c.args.parts.now - 17 + 16 in
    let fine : (k : ℕ) → k < n → fault_at c.args.parts.now k ≡ false = λ k lt. elim (cases_lt k c.loop-i.i) [
      | inl early ↦ c.loop-i.invariant.0 k (omega arith) early
      | inr late ↦ c.has_fault.ensures.none c.if-has_fault.false k (omega (arith, late, c.loop-i-test.false)) lt
    ] in
    all_fine c.args.parts.now n (omega (arith, c.requires)) (sym c.is_slash_or_dot.ensures ∙ c.if-is_slash_or_dot.false) fine (ne_eqb _ _ c.if-parts-last-eq47.false)
