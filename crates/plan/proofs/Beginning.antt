-- What a plan is made of, edge by edge.
use Rattle.std.proofs.Common.{◌≡◌, ◌≢◌, inl, inr, ℕ, zero, suc, ◌+◌, ◌<◌, ◌==◌, ◌&&◌, cond, Bool, true, false, List, [], ◌∷◌, ◌++◌, Option, None, Some, replicate, take, length, get_or, refl, sym, ◌∙◌, ap, subst, arith}
use Rattle.std.proofs.Math.ListN.{set}
use Rattle.std.proofs.Math.Seq.{get_or-append_seam}
use Rattle.std.proofs.lemmas.List.{get_or_append_left, get_or-set_same, get_or-set_other, length-set, length-append, length-replicate}
use Rattle.std.proofs.lemmas.Bool.{cases_eq, eqb-true, false_from_ne_true}
use Rattle.model.specs.declared.graph.Pool.{Pool}
use Rattle.plan.specs.Flags.{has}
use Rattle.plan.specs.Turns.{Turns, AreWithin}
use Rattle.graph.specs.declared.graph.Graph.{Graph}
use Rattle.plan.specs.declared.step.Standing.{Standing}
use Rattle.plan.specs.declared.step.Standing.TheVariants.{Outside}
use Rattle.plan.specs.Standing.{standing_at, is_unjudged, is_alias}
use Rattle.plan.specs.Plan.{IsReady}
use Rattle.plan.specs.Pools.{place_in, depths_of}
use Rattle.plan.specs.First.{AreGroups, IsIdle}
use Rattle.plan.proofs.Places.{place_depth}
use Rattle.plan.proofs.Runs.{at_least}

-- ---- one item more

module _ {X : Type 0} (xs ys : List X) (n : ℕ) (x d : X) (fits : length xs ≡ n) (is : ys ≡ xs ++ x ∷ []) where
  at_end : get_or ys n d ≡ x
  at_end = ap (λ (l : List X). get_or l n d) is ∙ subst (λ (m : ℕ). get_or (xs ++ x ∷ []) m d ≡ x) fits (get_or-append_seam xs x [] d)

  front : (e : ℕ) → e < n → get_or ys e d ≡ get_or xs e d
  front e low = ap (λ (l : List X). get_or l e d) is ∙ get_or_append_left xs (x ∷ []) d e (omega (arith, low, fits))

  pub longer : length ys ≡ n + 1
  longer = let e = length-append xs (x ∷ []) in omega (arith, ap (λ (l : List X). length l) is, e, fits)

  -- what holds of each item does so with one more
  pub built : (P : ℕ → X → Type 0) → P n x → ((e : ℕ) → e < n → P e (get_or xs e d)) → (e : ℕ) → e < n + 1 → P e (get_or ys e d)
  built P here before e lt = elim (cases_eq e n) [
    | inl same ↦ subst (λ (m : ℕ). P m (get_or ys m d)) (sym same) (subst (P n) (sym at_end) here)
    | inr other ↦ let low : e < n = omega (arith, lt, other) in subst (P e) (sym (front e low)) (before e low)
  ]

-- ---- pools of edges

pub within_built : (count : ℕ) (xs ys : List (Option ℕ)) (x : Option ℕ) → ys ≡ xs ++ x ∷ [] → ((g : ℕ) → x ≡ Some g → g < count) → AreWithin count xs → AreWithin count ys
within_built count xs ys x is here before = subst (AreWithin count) (sym is) (λ e g. more xs before e g)
  where
    more : (os : List (Option ℕ)) → AreWithin count os → (e g : ℕ) → get_or (os ++ x ∷ []) e None ≡ Some g → g < count
    more [] each zero g some = here g some
    more [] each (suc e) g some = cc
    more (o ∷ os) each zero g some = each 0 g some
    more (o ∷ os) each (suc e) g some = more os (λ k h. each (suc k) h) e g some

pub place_within : (pools : List Pool) (name : Option (List ℕ)) (g : ℕ) → place_in pools name ≡ Some g → g < length (depths_of pools)
place_within pools None g some = cc
place_within pools (Some name) g some = let limit = place_depth pools name g some in at_least (depths_of pools) g (positive (get_or (depths_of pools) g 0) (λ z. limit.1 (sym limit.0 ∙ z)))
  where
    positive : (n : ℕ) → (n ≡ 0 → ⊥) → 0 < n
    positive zero some = absurd (some refl)
    positive (suc n) some = omega arith

-- ---- edges that wait for nothing

take_other : (xs : List Standing) (n e : ℕ) → e ≢ n → standing_at (take (suc n) xs) e ≡ standing_at (take n xs) e
take_other [] zero e other = refl
take_other [] (suc n) e other = refl
take_other (x ∷ xs) zero zero other = absurd (other refl)
take_other (x ∷ xs) zero (suc e) other = refl
take_other (x ∷ xs) (suc n) zero other = refl
take_other (x ∷ xs) (suc n) (suc e) other = take_other xs n e (λ h. other (ap (λ (k : ℕ). suc k) h))

take_here : (xs : List Standing) (n : ℕ) → standing_at (take (suc n) xs) n ≡ standing_at xs n
take_here [] zero = refl
take_here [] (suc n) = refl
take_here (x ∷ xs) zero = refl
take_here (x ∷ xs) (suc n) = take_here xs n

take_none : (xs : List Standing) (n : ℕ) → standing_at (take n xs) n ≡ Outside
take_none [] zero = refl
take_none [] (suc n) = refl
take_none (x ∷ xs) zero = refl
take_none (x ∷ xs) (suc n) = take_none xs n

module _ (standings : List Standing) (left : List ℕ) (n : ℕ) where
  abbrev waits : (Standing → Bool) → ℕ → ℕ → Bool
  waits test m e = test (standing_at (take m standings) e) && (get_or left e 0 == 0)

  one_set : (test : Standing → Bool) → test Outside ≡ false → (flags new : List Bool) → n < length flags → new ≡ cond (test (standing_at standings n) && (get_or left n 0 == 0)) (set flags n true) flags
      → ((e : ℕ) → has flags e ≡ waits test n e) → (e : ℕ) → has new e ≡ waits test (suc n) e
  one_set test none flags new lt is before e = elim (cases_eq e n) [
    | inl same ↦ subst (λ (k : ℕ). has new k ≡ waits test (suc n) k) (sym same) (at_it (test (standing_at standings n) && (get_or left n 0 == 0)) refl ∙ sym (ap (λ (s : Standing). test s && (get_or left n 0 == 0)) (take_here standings n)))
    | inr other ↦ others (test (standing_at standings n) && (get_or left n 0 == 0)) refl other ∙ (before e ∙ sym (ap (λ (s : Standing). test s && (get_or left e 0 == 0)) (take_other standings n e other)))
  ]
    where
      at_it : (b : Bool) → (test (standing_at standings n) && (get_or left n 0 == 0)) ≡ b → has new n ≡ (test (standing_at standings n) && (get_or left n 0 == 0))
      at_it true passes = ap (λ (l : List Bool). has l n) (is ∙ ap (λ (b : Bool). cond b (set flags n true) flags) passes) ∙ (get_or-set_same flags n true false lt ∙ sym passes)
      at_it false fails =
          ap (λ (l : List Bool). has l n) (is ∙ ap (λ (b : Bool). cond b (set flags n true) flags) fails)
          ∙ (before n ∙ (ap (λ (s : Standing). test s && (get_or left n 0 == 0)) (take_none standings n) ∙ (ap (λ (b : Bool). b && (get_or left n 0 == 0)) none ∙ sym fails)))

      others : (b : Bool) → (test (standing_at standings n) && (get_or left n 0 == 0)) ≡ b → e ≢ n → has new e ≡ has flags e
      others true passes other = ap (λ (l : List Bool). has l e) (is ∙ ap (λ (b : Bool). cond b (set flags n true) flags) passes) ∙ get_or-set_other flags n e true false other
      others false fails other = ap (λ (l : List Bool). has l e) (is ∙ ap (λ (b : Bool). cond b (set flags n true) flags) fails)

  module _ (ready pending : List Bool) (room : n < length ready) (rest : n < length pending) (sets : IsReady (take n standings) left ready pending) where
    -- an edge that waits for nothing is put into its set
    pub put_in : (news adds : List Bool) → get_or left n 0 ≡ 0 → news ≡ cond (is_unjudged (standing_at standings n)) (set ready n true) ready → adds ≡ cond (is_alias (standing_at standings n)) (set pending n true) pending
        → IsReady (take (n + 1) standings) left news adds
    put_in news adds nothing is at = let step : suc n ≡ n + 1 = omega arith in subst (λ (m : ℕ). IsReady (take m standings) left news adds) step record {
      ready = one_set is_unjudged refl ready news room (is ∙ ap (λ (b : Bool). cond b (set ready n true) ready) (sym (passing (is_unjudged (standing_at standings n))))) sets.ready;
      pending = one_set is_alias refl pending adds rest (at ∙ ap (λ (b : Bool). cond b (set pending n true) pending) (sym (passing (is_alias (standing_at standings n))))) sets.pending;
    }
      where
        passing : (b : Bool) → (b && (get_or left n 0 == 0)) ≡ b
        passing true = ap (λ (k : ℕ). k == 0) nothing
        passing false = refl

    -- an edge that waits is put into none
    pub left_out : get_or left n 0 ≢ 0 → IsReady (take (n + 1) standings) left ready pending
    left_out some = let step : suc n ≡ n + 1 = omega arith in subst (λ (m : ℕ). IsReady (take m standings) left ready pending) step record {
      ready = one_set is_unjudged refl ready ready room (ap (λ (b : Bool). cond b (set ready n true) ready) (sym (failing (is_unjudged (standing_at standings n))))) sets.ready;
      pending = one_set is_alias refl pending pending rest (ap (λ (b : Bool). cond b (set pending n true) pending) (sym (failing (is_alias (standing_at standings n))))) sets.pending;
    }
      where
        failing : (b : Bool) → (b && (get_or left n 0 == 0)) ≡ false
        failing true = false_from_ne_true (get_or left n 0 == 0) (λ h. some (eqb-true (get_or left n 0) 0 h))
        failing false = refl

pub length-put : (n : ℕ) (b : Bool) (flags new : List Bool) → new ≡ cond b (set flags n true) flags → length new ≡ length flags
length-put n true flags new is = ap (λ (l : List Bool). length l) is ∙ length-set flags n true
length-put n false flags new is = ap (λ (l : List Bool). length l) is

-- ---- no edge waits

zeros : (count g : ℕ) → get_or (replicate {A = ℕ} count 0) g 0 ≡ 0
zeros zero g = refl
zeros (suc count) zero = refl
zeros (suc count) (suc g) = zeros count g

nothing_waits : (count e : ℕ) → has (replicate count false) e ≡ false
nothing_waits zero e = refl
nothing_waits (suc count) zero = refl
nothing_waits (suc count) (suc e) = nothing_waits count e

pub idle_queue : (graph : Graph) (standings : List Standing) (groups : List (Option ℕ)) (depths : List ℕ) (turns : Turns) → AreGroups graph standings groups → depths ≡ depths_of graph.manifest.pools
    → turns ≡ record { groups = groups; depths = depths; running = replicate (length depths) 0; waiting = replicate (length groups) false } → IsIdle graph standings turns
idle_queue graph standings groups depths turns each deep is = record {
  pooled = record {
    depths = ap (λ (t : Turns). t.depths) is ∙ deep;
    fits = ap (λ (t : Turns). length t.running) is ∙ (length-replicate {A = ℕ} (length depths) 0 ∙ sym (ap (λ (t : Turns). length t.depths) is));
    groups = λ e inside. ap (λ (t : Turns). get_or t.groups e None) is ∙ each.each e inside;
  };
  fits = ap (λ (t : Turns). length t.waiting) is ∙ (length-replicate (length groups) false ∙ each.fits);
  none = λ e. ap (λ (t : Turns). has t.waiting e) is ∙ nothing_waits (length groups) e;
  idle = λ g. ap (λ (t : Turns). get_or t.running g 0) is ∙ zeros (length depths) g;
}
