-- One input less is waited for.
use Rattle.std.proofs.Common.{◌≡◌, inl, inr, ℕ, zero, suc, ◌-◌, ◌<◌, ◌==◌, ◌&&◌, cond, Bool, true, false, List, [], ◌∷◌, length, get_or, refl, sym, ◌∙◌, ap, subst, arith}
use Rattle.std.proofs.Math.ListN.{set}
use Rattle.std.proofs.lemmas.List.{get_or-set_same, get_or-set_other}
use Rattle.std.proofs.lemmas.Bool.{false≢true, eq-eqb, eqb-true, cases_eq, false_from_ne_true}
use Rattle.plan.specs.Flags.{has}
use Rattle.plan.specs.declared.step.Standing.{Standing}
use Rattle.plan.specs.declared.step.Standing.TheVariants.{Unjudged, Alias}
use Rattle.plan.specs.Standing.{standing_at, is_unjudged, is_alias}
use Rattle.plan.specs.Plan.{IsReady}
use Rattle.plan.specs.Settling.{lowered, raised}

module _ (standings : List Standing) (left : List ℕ) (user : ℕ) (within : user < length left) (some : 0 < get_or left user 0) where
  left_here : get_or (lowered left user) user 0 ≡ get_or left user 0 - 1
  left_here = get_or-set_same left user (get_or left user 0 - 1) 0 within

  left_other : (e : ℕ) → (e ≡ user → ⊥) → get_or (lowered left user) e 0 ≡ get_or left e 0
  left_other e other = get_or-set_other left user e (get_or left user 0 - 1) 0 other

  both_by : (a : Bool) (m n : ℕ) → m ≡ n → (a && (m == 0)) ≡ (a && (n == 0))
  both_by a m n same = ap (λ (k : ℕ). a && (k == 0)) same

  with_true : (a b : Bool) → a ≡ true → (a && b) ≡ b
  with_true a b is = ap (λ (x : Bool). x && b) is

  with_false : (a b : Bool) → a ≡ false → (a && b) ≡ false
  with_false a b is = ap (λ (x : Bool). x && b) is

  mine : (test : Standing → Bool) (flags : List Bool) → user < length flags → test (standing_at standings user) ≡ true
      → ((e : ℕ) → has flags e ≡ (test (standing_at standings e) && (get_or left e 0 == 0)))
      → (e : ℕ) → has (raised flags left user) e ≡ (test (standing_at standings e) && (get_or (lowered left user) e 0 == 0))
  mine test flags room is each e = elim (cases_eq e user) [
    | inl same ↦ subst (λ (n : ℕ). has (raised flags left user) n ≡ (test (standing_at standings n) && (get_or (lowered left user) n 0 == 0))) (sym same)
        (by (get_or left user 0 == 1) refl ∙ sym (with_true (test (standing_at standings user)) (get_or (lowered left user) user 0 == 0) is))
    | inr other ↦
        elsewhere (get_or left user 0 == 1) other
        ∙ (each e ∙ both_by (test (standing_at standings e)) (get_or left e 0) (get_or (lowered left user) e 0) (sym (left_other e other)))
  ]
    where
      elsewhere : (b : Bool) → (e ≡ user → ⊥) → has (cond b (set flags user true) flags) e ≡ has flags e
      elsewhere true other = get_or-set_other flags user e true false other
      elsewhere false other = refl

      by : (b : Bool) → (get_or left user 0 == 1) ≡ b → has (raised flags left user) user ≡ (get_or (lowered left user) user 0 == 0)
      by true one =
          ap (λ (b : Bool). has (cond b (set flags user true) flags) user) one
          ∙ (get_or-set_same flags user true false room ∙ sym (eq-eqb (get_or (lowered left user) user 0) 0 (omega (arith, left_here, eqb-true (get_or left user 0) 1 one))))
      by false more =
          ap (λ (b : Bool). has (cond b (set flags user true) flags) user) more
          ∙ (each user ∙ (with_true (test (standing_at standings user)) (get_or left user 0 == 0) is
          ∙ (false_from_ne_true (get_or left user 0 == 0) (λ none. absurd (omega (arith, some, eqb-true (get_or left user 0) 0 none)))
          ∙ sym (false_from_ne_true (get_or (lowered left user) user 0 == 0) (λ none. false≢true (sym more ∙ eq-eqb (get_or left user 0) 1 (omega (arith, some, left_here, eqb-true (get_or (lowered left user) user 0) 0 none))))))))

  others : (test : Standing → Bool) (flags : List Bool) → test (standing_at standings user) ≡ false
      → ((e : ℕ) → has flags e ≡ (test (standing_at standings e) && (get_or left e 0 == 0)))
      → (e : ℕ) → has flags e ≡ (test (standing_at standings e) && (get_or (lowered left user) e 0 == 0))
  others test flags is each e = elim (cases_eq e user) [
    | inl same ↦ subst (λ (n : ℕ). has flags n ≡ (test (standing_at standings n) && (get_or (lowered left user) n 0 == 0))) (sym same)
        (each user ∙ (with_false (test (standing_at standings user)) (get_or left user 0 == 0) is ∙ sym (with_false (test (standing_at standings user)) (get_or (lowered left user) user 0 == 0) is)))
    | inr other ↦ each e ∙ both_by (test (standing_at standings e)) (get_or left e 0) (get_or (lowered left user) e 0) (sym (left_other e other))
  ]

  pub command_lowered : (after : List ℕ) (ready pending new : List Bool) → standing_at standings user ≡ Unjudged → user < length ready → after ≡ lowered left user → new ≡ raised ready left user
      → IsReady standings left ready pending → IsReady standings after new pending
  command_lowered after ready pending new stands room lower raise sets =
      subst (λ (l : List ℕ). IsReady standings l new pending) (sym lower) (subst (λ (f : List Bool). IsReady standings (lowered left user) f pending) (sym raise) record {
        ready = mine is_unjudged ready room (ap is_unjudged stands) sets.ready;
        pending = others is_alias pending (ap is_alias stands) sets.pending;
      })

  pub alias_lowered : (after : List ℕ) (ready pending new : List Bool) → standing_at standings user ≡ Alias → user < length pending → after ≡ lowered left user → new ≡ raised pending left user
      → IsReady standings left ready pending → IsReady standings after ready new
  alias_lowered after ready pending new stands room lower raise sets =
      subst (λ (l : List ℕ). IsReady standings l ready new) (sym lower) (subst (λ (f : List Bool). IsReady standings (lowered left user) ready f) (sym raise) record {
        ready = others is_unjudged ready (ap is_unjudged stands) sets.ready;
        pending = mine is_alias pending room (ap is_alias stands) sets.pending;
      })

-- a standing that was read is that at its place
pub read_standing : (standings : List Standing) (e : ℕ) (v w : Standing) → v ≡ get_or standings e v → v ≡ w → e < length standings → standing_at standings e ≡ w
read_standing [] e v w read is lt = absurd (omega (arith, lt))
read_standing (s ∷ standings) zero v w read is lt = sym read ∙ is
read_standing (s ∷ standings) (suc e) v w read is lt = read_standing standings e v w read is (omega (arith, lt))
