-- One edge stands otherwise, and then aliases are settled.
use Rattle.std.proofs.Common.{◌≡◌, ◌≢◌, ◌⊎◌, inl, inr, ℕ, zero, suc, ◌<◌, Bool, true, false, List, [], ◌∷◌, length, sym, ◌∙◌, ap, subst, arith}
use Rattle.std.proofs.Math.ListN.{set}
use Rattle.std.proofs.lemmas.List.{length-set, get_or-set_same, get_or-set_other}
use Rattle.std.proofs.lemmas.Bool.{false≢true, true≢false, cases_eq}
use Rattle.plan.specs.declared.step.Standing.{Standing}
use Rattle.plan.specs.declared.step.Standing.TheVariants.{Outside, Alias, Known}
use Rattle.plan.specs.Standing.{standing_at, is_alias}
use Rattle.plan.specs.Plan.{IsSettling}

-- an edge of the cone has a number below their count
pub stands_within : (test : Standing → Bool) (ss : List Standing) (e : ℕ) → test Outside ≡ false → test (standing_at ss e) ≡ true → e < length ss
stands_within test [] e none is = absurd (false≢true (sym none ∙ is))
stands_within test (s ∷ ss) zero none is = omega arith
stands_within test (s ∷ ss) (suc e) none is = let rest = stands_within test ss e none is in omega (arith, rest)

-- only aliases are settled
abbrev pub AliasesOnly : List Standing → List Standing → Type 0
AliasesOnly old new = (k : ℕ) → (standing_at new k ≡ standing_at old k) ⊎ ((standing_at old k ≡ Alias) × (standing_at new k ≡ Known))

module _ (standings : List Standing) (e : ℕ) (s : Standing) (lt : e < length standings) where
  pub here : standing_at (set standings e s) e ≡ s
  here = get_or-set_same standings e s Outside lt

  pub test_same : (test : Standing → Bool) → test s ≡ test (standing_at standings e) → (k : ℕ) → test (standing_at (set standings e s) k) ≡ test (standing_at standings k)
  test_same test same k = elim (cases_eq k e) [
    | inl here_too ↦ subst (λ (n : ℕ). test (standing_at (set standings e s) n) ≡ test (standing_at standings n)) (sym here_too) (ap test here ∙ same)
    | inr other ↦ ap test (get_or-set_other standings e k s Outside other)
  ]

  module _ (edge : ℕ) (same : e ≡ edge) where
    others_set : (k : ℕ) → k ≢ edge → standing_at (set standings e s) k ≡ standing_at standings k
    others_set k other = get_or-set_other standings e k s Outside (λ h. other (h ∙ same))

    pub settling : (now : List Standing) → is_alias s ≡ false → length now ≡ length (set standings e s) → AliasesOnly (set standings e s) now → IsSettling standings now edge s
    settling now plain fits each = record {
      fits = fits ∙ length-set standings e s;
      here = subst (λ (n : ℕ). standing_at now n ≡ s) same (elim (each e) [
        | inl old ↦ old ∙ here
        | inr alias ↦ absurd (true≢false (sym (ap is_alias alias.0) ∙ (ap is_alias here ∙ plain)))
      ]);
      others = λ k other. elim (each k) [
        | inl old ↦ inl (old ∙ others_set k other)
        | inr alias ↦ inr (sym (others_set k other) ∙ alias.0, alias.1)
      ];
    }
