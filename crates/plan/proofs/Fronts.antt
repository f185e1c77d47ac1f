-- What stands in front.
use Rattle.std.proofs.Common.{◌≡◌, ◌⊎◌, inl, inr, ℕ, zero, suc, ◌<◌, Bool, true, false, List, [], ◌∷◌, Option, None, Some, map, length, get_or, refl, sym, ◌∙◌, ap, subst, arith}
use Rattle.std.specs.List.{slice_get}
use Rattle.std.proofs.Math.ListN.{set}
use Rattle.std.proofs.lemmas.List.{length-set, get_or-set_same, get_or-set_other, get_or-map}
use Rattle.std.proofs.lemmas.Option.{slice_get_within, get_or_from_slice_get}
use Rattle.std.proofs.lemmas.Bool.{false≢true, cases_Bool, cases_eq}
use Rattle.plan.specs.Flags.{has, AreNone}
use Rattle.plan.specs.declared.pool.Pool.{Pool}
use Rattle.plan.specs.PoolShown.{member_at, IsTurn, IsShown, without, with, with_shown}
use Rattle.plan.specs.Seats.{members_of, list_at}
use Rattle.plan.specs.Queues.{AreQueued}

-- ---- flags

pub has_within : (flags : List Bool) (k : ℕ) → has flags k ≡ true → k < length flags
has_within [] k is = absurd (false≢true is)
has_within (x ∷ flags) zero is = omega arith
has_within (x ∷ flags) (suc k) is = let rest = has_within flags k is in omega (arith, rest)

pub some_is : (x y : ℕ) → Some x ≡ Some y → x ≡ y
some_is x y e = cc

flag_off : (old : Option ℕ) (front : List Bool) (k : ℕ) → (old ≡ Some k → ⊥) → has (without old front) k ≡ has front k
flag_off None front k other = refl
flag_off (Some e) front k other = get_or-set_other front e k false false (λ same. other (ap (λ (n : ℕ). Some n) (sym same)))

flag_on : (new : Option ℕ) (front : List Bool) (k : ℕ) → (new ≡ Some k → ⊥) → has (with new front) k ≡ has front k
flag_on None front k other = refl
flag_on (Some e) front k other = get_or-set_other front e k true false (λ same. other (ap (λ (n : ℕ). Some n) (sym same)))

pub flag_other : (old new : Option ℕ) (front : List Bool) (k : ℕ) → (old ≡ Some k → ⊥) → (new ≡ Some k → ⊥) → has (with_shown old new front) k ≡ has front k
flag_other old new front k not_old not_new = flag_on new (without old front) k not_new ∙ flag_off old front k not_old

pub without_fits : (old : Option ℕ) (front : List Bool) → length (without old front) ≡ length front
without_fits None front = refl
without_fits (Some e) front = length-set front e false

pub shown_fits : (old new : Option ℕ) (front : List Bool) → length (with_shown old new front) ≡ length front
shown_fits old None front = without_fits old front
shown_fits old (Some e) front = length-set (without old front) e true ∙ without_fits old front

pub flag_new : (old new : Option ℕ) (front : List Bool) (k : ℕ) → new ≡ Some k → k < length front → has (with_shown old new front) k ≡ true
flag_new old new front k is lt =
    subst (λ (n : Option ℕ). has (with_shown old n front) k ≡ true) (sym is) (get_or-set_same (without old front) k true false (omega (arith, lt, without_fits old front)))

off_is : (old : Option ℕ) (front : List Bool) (k : ℕ) → old ≡ Some k → has (without old front) k ≡ false
off_is old front k is = subst (λ (o : Option ℕ). has (without o front) k ≡ false) (sym is) (elim (cases_Bool (has (set front k false) k)) [
  | inl set_ ↦ get_or-set_same front k false false (omega (arith, has_within (set front k false) k set_, length-set front k false))
  | inr not ↦ not
])

same_option : (o : Option ℕ) (k : ℕ) → (o ≡ Some k) ⊎ (o ≡ Some k → ⊥)
same_option None k = inr (λ e. cc)
same_option (Some e) k = elim (cases_eq e k) [
  | inl same ↦ inl (ap (λ (n : ℕ). Some n) same)
  | inr other ↦ inr (λ is. other (some_is e k is))
]

pub flag_was : (old new : Option ℕ) (front : List Bool) (k : ℕ) → has (with_shown old new front) k ≡ true → (new ≡ Some k) ⊎ ((old ≡ Some k → ⊥) × (has front k ≡ true))
flag_was old new front k is = elim (same_option new k) [
  | inl same ↦ inl same
  | inr other ↦
      let before : has (without old front) k ≡ true = sym (flag_on new (without old front) k other) ∙ is in
      elim (same_option old k) [
        | inl off ↦ absurd (false≢true (sym (off_is old front k off) ∙ before))
        | inr kept ↦ inr (kept, sym (flag_off old front k kept) ∙ before)
      ]
]

-- ---- what a pool shows

pub turn_of : (pool : Pool) (shown : Option ℕ) (x : ℕ) → IsShown pool shown → shown ≡ Some x → IsTurn pool x
turn_of pool None x is e = absurd (none_some x e)
  where
    none_some : (x : ℕ) → None ≡ Some x → ⊥
    none_some x e = cc
turn_of pool (Some y) x is e = subst (λ (n : ℕ). IsTurn pool n) (some_is y x e) is

pub none_of : (pool : Pool) (shown : Option ℕ) → IsShown pool shown → shown ≡ None → pool.running < pool.depth → AreNone pool.waiting
none_of pool None is e lt = is lt
none_of pool (Some y) is e lt = absurd (some_none y e)
  where
    some_none : (y : ℕ) → Some y ≡ None → ⊥
    some_none y e = cc

pub list_is : (pools : List Pool) (g : ℕ) (pool : Pool) → slice_get pools g ≡ Some pool → list_at (map members_of pools) g ≡ pool.members.items
list_is pools g pool is =
    get_or-map members_of pools g pool [] (slice_get_within pools g pool is) ∙ ap (λ (p : Pool). p.members.items) (get_or_from_slice_get pools g pool pool is)

module _ (groups : List (Option ℕ)) (ranks : List ℕ) (pools : List Pool) (waiting front : List Bool) (queued : AreQueued groups ranks pools waiting front) where
  -- what a pool shows is one of its edges
  pub turn_in : (g x : ℕ) (pool : Pool) → slice_get pools g ≡ Some pool → IsTurn pool x → get_or groups x None ≡ Some g
  turn_in g x pool is turn =
      let lt = (queued.kept g pool is).members.waiting turn.rank turn.first.is in
      let same = list_is pools g pool is in
      let listed : get_or groups (get_or (list_at (map members_of pools) g) turn.rank 0) None ≡ Some g = queued.seats.listed g turn.rank (omega (arith, lt, ap (λ (l : List ℕ). length l) same)) in
      subst (λ (n : ℕ). get_or groups n None ≡ Some g) (ap (λ (l : List ℕ). get_or l turn.rank 0) same ∙ turn.is) listed

  pub shown_in : (g x : ℕ) (pool : Pool) → slice_get pools g ≡ Some pool → pool.shown ≡ Some x → get_or groups x None ≡ Some g
  shown_in g x pool is shown = turn_in g x pool is (turn_of pool pool.shown x (queued.kept g pool is).shown shown)

  -- the rank of an edge in its pool
  pub rank_is : (g e : ℕ) (pool : Pool) → slice_get pools g ≡ Some pool → get_or groups e None ≡ Some g → (get_or ranks e 0 < length pool.members.items) × (member_at pool (get_or ranks e 0) ≡ e)
  rank_is g e pool is at =
      let same = list_is pools g pool is in (
        omega (arith, queued.seats.within e g at, ap (λ (l : List ℕ). length l) same),
        sym (ap (λ (l : List ℕ). get_or l (get_or ranks e 0) 0) same) ∙ queued.seats.seated e g at,
      )

  in_range : (e g : ℕ) → get_or groups e None ≡ Some g → e < length groups
  in_range e g at = inside groups e at
    where
      inside : (xs : List (Option ℕ)) (e : ℕ) → get_or xs e None ≡ Some g → e < length xs
      inside [] e is = absurd (none_some g is)
        where
          none_some : (x : ℕ) → None ≡ Some x → ⊥
          none_some x e = cc
      inside (x ∷ xs) zero is = omega arith
      inside (x ∷ xs) (suc e) is = let rest = inside xs e is in omega (arith, rest)

  pub member_fits : (g r : ℕ) (pool : Pool) → slice_get pools g ≡ Some pool → r < length pool.members.items → member_at pool r < length front
  member_fits g r pool is lt =
      let same = list_is pools g pool is in
      let listed : get_or groups (get_or (list_at (map members_of pools) g) r 0) None ≡ Some g = queued.seats.listed g r (omega (arith, lt, ap (λ (l : List ℕ). length l) same)) in
      let here = in_range (get_or (list_at (map members_of pools) g) r 0) g listed in
      let e = ap (λ (l : List ℕ). get_or l r 0) same in
      omega (arith, here, e, queued.room)

  pub shown_below : (g x : ℕ) (pool : Pool) → slice_get pools g ≡ Some pool → pool.shown ≡ Some x → x < length front
  shown_below g x pool is shown = omega (arith, in_range x g (shown_in g x pool is shown), queued.room)
