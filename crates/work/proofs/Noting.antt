-- What noting the end of a command changes.
use Rattle.std.proofs.Common.{◌≡◌, inl, inr, ℕ, zero, suc, ◌<◌, ◌==◌, Bool, true, false, List, [], ◌∷◌, length, get_or, slice_index, refl, sym, ◌∙◌, ap, arith}
use Rattle.std.proofs.lemmas.Bool.{false≢true, or_cases, or_left, or_right, eqb-true, eq-eqb}
use Rattle.model.specs.Graph.{has_number}
use Rattle.plan.specs.Flags.{has}
use Rattle.plan.specs.Changed.{AreFlagged}

pub place_of : (xs : List ℕ) (p : ℕ) → has_number xs p ≡ true → (k : ℕ) × (k < length xs) × (slice_index xs k ≡ p)
place_of [] p there = absurd (false≢true there)
place_of (x ∷ xs) p there = elim (or_cases (x == p) (has_number xs p) there) [
  | inl here ↦ (0, omega arith, eqb-true x p here)
  | inr later ↦
      let rest = place_of xs p later in
      let lt = rest.1 in
      (suc rest.0, omega (arith, lt), rest.2)
]

pub item_has : (xs : List ℕ) (k d : ℕ) → k < length xs → has_number xs (get_or xs k d) ≡ true
item_has [] k d lt = absurd (omega (arith, lt))
item_has (x ∷ xs) zero d lt = or_left (x == x) (has_number xs x) (eq-eqb x x refl)
item_has (x ∷ xs) (suc k) d lt = or_right (x == get_or xs k d) (has_number xs (get_or xs k d)) (item_has xs k d (omega (arith, lt)))

-- where the flags of some paths are handed in, others stay
pub flags_kept : (old new : List Bool) (outs : List ℕ) (given : List Bool) → AreFlagged old new outs given → (p : ℕ) → has_number outs p ≡ false → has new p ≡ has old p
flags_kept old new outs given flagged p other = flagged.others p (λ k lt is. false≢true (sym other ∙ (ap (has_number outs) (sym is) ∙ item_has outs k 0 lt)))
