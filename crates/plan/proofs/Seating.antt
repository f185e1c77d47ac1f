-- How edges get their places in pools.
use Rattle.std.proofs.Common.{◌≡◌, ◌⊎◌, inl, inr, ℕ, zero, suc, ◌+◌, ◌<◌, ◌≤◌, Bool, false, List, [], ◌∷◌, ◌++◌, Option, None, Some, map, length, get_or, take, refl, sym, ◌∙◌, ap, subst, arith}
use Rattle.std.specs.List.{slice_get}
use Rattle.std.proofs.Math.ListN.{set, replicate}
use Rattle.std.proofs.lemmas.List.{length-append, get_or-set_same, get_or-set_other, get_or-map, take_more, length-replicate}
use Rattle.std.proofs.lemmas.Option.{slice_get_within, get_or_from_slice_get}
use Rattle.std.proofs.lemmas.Bool.{false≢true, cases_eq}
use Rattle.plan.specs.Flags.{has, AreNone}
use Rattle.plan.specs.declared.pool.Pool.{Pool}
use Rattle.plan.specs.Turns.{AreWithin}
use Rattle.plan.specs.PoolShown.{IsShown}
use Rattle.plan.specs.Seats.{members_of, shown_of, list_at, AreSeated, HasRoom, HaveSameLimits, with_member, rank_in}
use Rattle.plan.specs.Queues.{AreQueued}
use Rattle.plan.proofs.Fronts.{some_is, list_is}

-- ---- one more at the end

at_front : {X : Type 0} (xs : List X) (y : X) (i : ℕ) (d : X) → i < length xs → get_or (xs ++ y ∷ []) i d ≡ get_or xs i d
at_front [] y i d lt = absurd (omega (arith, lt))
at_front (x ∷ xs) y zero d lt = refl
at_front (x ∷ xs) y (suc i) d lt = at_front xs y i d (omega (arith, lt))

at_end : {X : Type 0} (xs : List X) (y d : X) → get_or (xs ++ y ∷ []) (length xs) d ≡ y
at_end [] y d = refl
at_end (x ∷ xs) y d = at_end xs y d

group_cases : (groups : List (Option ℕ)) (group : Option ℕ) (e g : ℕ) → get_or (groups ++ group ∷ []) e None ≡ Some g → ((get_or groups e None ≡ Some g) × (e < length groups)) ⊎ ((e ≡ length groups) × (group ≡ Some g))
group_cases [] group zero g is = inr (refl, is)
group_cases [] group (suc e) g is = absurd (none_some g is)
  where
    none_some : (x : ℕ) → None ≡ Some x → ⊥
    none_some x e = cc
group_cases (x ∷ groups) group zero g is = inl (is, omega arith)
group_cases (x ∷ groups) group (suc e) g is = elim (group_cases groups group e g is) [
  | inl old ↦ inl (old.0, omega (arith, old.1))
  | inr new ↦ inr (omega (arith, new.0), new.1)
]

group_inside : (groups : List (Option ℕ)) (e g : ℕ) → get_or groups e None ≡ Some g → e < length groups
group_inside [] e g is = absurd (none_some g is)
  where
    none_some : (x : ℕ) → None ≡ Some x → ⊥
    none_some x e = cc
group_inside (x ∷ groups) zero g is = omega arith
group_inside (x ∷ groups) (suc e) g is = let rest = group_inside groups e g is in omega (arith, rest)

module _ (groups : List (Option ℕ)) (ranks : List ℕ) (lists : List (List ℕ)) (seated : AreSeated groups ranks lists) where
  member_below : (g r : ℕ) → r < length (list_at lists g) → get_or (list_at lists g) r 0 < length groups
  member_below g r lt = group_inside groups (get_or (list_at lists g) r 0) g (seated.listed g r lt)

  free_seat : (rank : ℕ) → AreSeated (groups ++ None ∷ []) (ranks ++ rank ∷ []) lists
  free_seat rank = record {
    fits = omega (arith, length-append ranks (rank ∷ []), length-append groups (None ∷ []), seated.fits);
    within = λ e g is. elim (group_cases groups None e g is) [
      | inl old ↦ omega (arith, seated.within e g old.0, at_front ranks rank e 0 (omega (arith, old.1, seated.fits)))
      | inr new ↦ absurd (none_some g new.1)
    ];
    seated = λ e g is. elim (group_cases groups None e g is) [
      | inl old ↦ ap (λ (n : ℕ). get_or (list_at lists g) n 0) (at_front ranks rank e 0 (omega (arith, old.1, seated.fits))) ∙ seated.seated e g old.0
      | inr new ↦ absurd (none_some g new.1)
    ];
    listed = λ g r lt. at_front groups None (get_or (list_at lists g) r 0) None (member_below g r lt) ∙ seated.listed g r lt;
    ordered = seated.ordered;
  }
    where
      none_some : (x : ℕ) → None ≡ Some x → ⊥
      none_some x e = cc

  module _ (h : ℕ) (room : h < length lists) where
    abbrev new_list : List ℕ
    new_list = list_at lists h ++ length groups ∷ []

    abbrev new_lists : List (List ℕ)
    new_lists = set lists h new_list

    here : list_at new_lists h ≡ new_list
    here = get_or-set_same lists h new_list [] room

    there : (g : ℕ) → (g ≡ h → ⊥) → list_at new_lists g ≡ list_at lists g
    there g other = get_or-set_other lists h g new_list [] other

    longer : length new_list ≡ suc (length (list_at lists h))
    longer = omega (arith, length-append (list_at lists h) (length groups ∷ []))

    here_old : (r : ℕ) → r < length (list_at lists h) → get_or (list_at new_lists h) r 0 ≡ get_or (list_at lists h) r 0
    here_old r lt = ap (λ (l : List ℕ). get_or l r 0) here ∙ at_front (list_at lists h) (length groups) r 0 lt

    here_new : get_or (list_at new_lists h) (length (list_at lists h)) 0 ≡ length groups
    here_new = ap (λ (l : List ℕ). get_or l (length (list_at lists h)) 0) here ∙ at_end (list_at lists h) (length groups) 0

    here_long : length (list_at new_lists h) ≡ suc (length (list_at lists h))
    here_long = ap (λ (l : List ℕ). length l) here ∙ longer

    -- what was listed stays where it was
    stays : (g r : ℕ) → r < length (list_at lists g) → (r < length (list_at new_lists g)) × (get_or (list_at new_lists g) r 0 ≡ get_or (list_at lists g) r 0)
    stays g r lt = elim (cases_eq g h) [
      | inl same ↦ subst (λ (n : ℕ). (r < length (list_at new_lists n)) × (get_or (list_at new_lists n) r 0 ≡ get_or (list_at lists n) r 0)) (sym same) (
        omega (arith, here_long, subst (λ (n : ℕ). r < length (list_at lists n)) same lt),
        here_old r (subst (λ (n : ℕ). r < length (list_at lists n)) same lt),
      )
      | inr other ↦ (omega (arith, lt, ap (λ (l : List ℕ). length l) (there g other)), ap (λ (l : List ℕ). get_or l r 0) (there g other))
    ]

    -- a place is one that was there, or the new one
    place_cases : (g r : ℕ) → r < length (list_at new_lists g) → (r < length (list_at lists g)) ⊎ ((g ≡ h) × (r ≡ length (list_at lists h)))
    place_cases g r lt = elim (cases_eq g h) [
      | inl same ↦
          let lt_h : r < length (list_at new_lists h) = subst (λ (n : ℕ). r < length (list_at new_lists n)) same lt in
          elim (cases_eq r (length (list_at lists h))) [
            | inl end ↦ inr (same, end)
            | inr before ↦ inl (subst (λ (n : ℕ). r < length (list_at lists n)) (sym same) (omega (arith, lt_h, here_long, before)))
          ]
      | inr other ↦ inl (omega (arith, lt, ap (λ (l : List ℕ). length l) (there g other)))
    ]

    pool_seat : (rank : ℕ) → rank ≡ length (list_at lists h) → AreSeated (groups ++ Some h ∷ []) (ranks ++ rank ∷ []) new_lists
    pool_seat rank is = record {
      fits = omega (arith, length-append ranks (rank ∷ []), length-append groups (Some h ∷ []), seated.fits);
      within = λ e g at. elim (group_cases groups (Some h) e g at) [
        | inl old ↦ omega (arith, (stays g (get_or ranks e 0) (seated.within e g old.0)).0, at_front ranks rank e 0 (omega (arith, old.1, seated.fits)))
        | inr new ↦
            let k = some_is h g new.1 in
            subst (λ (n : ℕ). get_or (ranks ++ rank ∷ []) e 0 < length (list_at new_lists n)) k (omega (arith, last e new.0, is, here_long))
      ];
      seated = λ e g at. elim (group_cases groups (Some h) e g at) [
        | inl old ↦ ap (λ (n : ℕ). get_or (list_at new_lists g) n 0) (at_front ranks rank e 0 (omega (arith, old.1, seated.fits))) ∙ ((stays g (get_or ranks e 0) (seated.within e g old.0)).1 ∙ seated.seated e g old.0)
        | inr new ↦
            let k = some_is h g new.1 in
            subst (λ (n : ℕ). get_or (list_at new_lists n) (get_or (ranks ++ rank ∷ []) e 0) 0 ≡ e) k
            (ap (λ (n : ℕ). get_or (list_at new_lists h) n 0) (last e new.0 ∙ is) ∙ (here_new ∙ sym new.0))
      ];
      listed = λ g r lt. elim (place_cases g r lt) [
        | inl old ↦
            ap (λ (n : ℕ). get_or (groups ++ Some h ∷ []) n None) (stays g r old).1
            ∙ (at_front groups (Some h) (get_or (list_at lists g) r 0) None (member_below g r old) ∙ seated.listed g r old)
        | inr new ↦
            ap (λ (n : ℕ). get_or (groups ++ Some h ∷ []) n None) (ap (λ (n : ℕ). get_or (list_at new_lists n) r 0) new.0 ∙ (ap (λ (n : ℕ). get_or (list_at new_lists h) n 0) new.1 ∙ here_new))
            ∙ (at_end groups (Some h) None ∙ ap (λ (n : ℕ). Some n) (sym new.0))
      ];
      ordered = λ g r q less lt. elim (place_cases g q lt) [
        | inl old ↦ omega (arith, seated.ordered g r q less old, (stays g q old).1, (stays g r (omega (arith, less, old))).1)
        | inr new ↦
            let before : r < length (list_at lists g) = subst (λ (n : ℕ). r < length (list_at lists n)) (sym new.0) (omega (arith, less, new.1)) in
            let end : get_or (list_at new_lists g) q 0 ≡ length groups = ap (λ (n : ℕ). get_or (list_at new_lists n) q 0) new.0 ∙ (ap (λ (n : ℕ). get_or (list_at new_lists h) n 0) new.1 ∙ here_new) in
            omega (arith, (stays g r before).1, member_below g r before, end)
      ];
    }
      where
        last : (e : ℕ) → e ≡ length groups → get_or (ranks ++ rank ∷ []) e 0 ≡ rank
        last e end = ap (λ (n : ℕ). get_or (ranks ++ rank ∷ []) n 0) (end ∙ sym seated.fits) ∙ at_end ranks rank 0

  pub one_seat : (group : Option ℕ) (e rank : ℕ) → e ≡ length groups → ((g : ℕ) → group ≡ Some g → g < length lists) → rank ≡ rank_in lists group → AreSeated (groups ++ group ∷ []) (ranks ++ rank ∷ []) (with_member lists group e)
  one_seat None e rank same room is = free_seat rank
  one_seat (Some h) e rank same room is =
      subst (λ (n : ℕ). AreSeated (groups ++ Some h ∷ []) (ranks ++ rank ∷ []) (with_member lists (Some h) n)) (sym same) (pool_seat h (room h refl) rank is)

pub seat_next : (groups : List (Option ℕ)) (i : ℕ) (ranks news : List ℕ) (lists after : List (List ℕ)) (group : Option ℕ) (rank : ℕ) → i < length groups → AreSeated (take i groups) ranks lists → group ≡ get_or groups i None
    → ((g : ℕ) → group ≡ Some g → g < length lists) → rank ≡ rank_in lists group → news ≡ ranks ++ rank ∷ [] → after ≡ with_member lists group i → AreSeated (take (i + 1) groups) news after
seat_next groups i ranks news lists after group rank lt seated is room rank_is_ pushed grown =
    subst (λ (l : List (Option ℕ)). AreSeated l news after) (sym (take_more groups i None lt ∙ ap (λ (o : Option ℕ). take i groups ++ o ∷ []) (sym is)))
    (subst (λ (l : List ℕ). AreSeated (take i groups ++ group ∷ []) l after) (sym pushed)
    (subst (λ (l : List (List ℕ)). AreSeated (take i groups ++ group ∷ []) (ranks ++ rank ∷ []) l) (sym grown)
    (one_seat (take i groups) ranks lists seated group i rank (omega (arith, taken groups i lt)) room rank_is_)))
  where
    taken : (xs : List (Option ℕ)) (i : ℕ) → i < length xs → length (take i xs) ≡ i
    taken [] i lt = absurd (omega (arith, lt))
    taken (x ∷ xs) zero lt = refl
    taken (x ∷ xs) (suc i) lt = let rest = taken xs i (omega (arith, lt)) in omega (arith, rest)

-- ---- before the first edge waits

pub begun : (groups : List (Option ℕ)) (ranks : List ℕ) (pools : List Pool) (waiting front : List Bool) → AreWithin (length pools) groups → AreSeated groups ranks (map members_of pools)
    → ((g : ℕ) (pool : Pool) → slice_get pools g ≡ Some pool → HasRoom pool) → ((g : ℕ) → get_or (map shown_of pools) g None ≡ None) → waiting ≡ replicate (length groups) false → AreNone front → length groups ≤ length front
    → AreQueued groups ranks pools waiting front
begun groups ranks pools waiting front within seated rooms shown none front_none room = record {
  within = within;
  flags = ap (λ (l : List Bool). length l) none ∙ length-replicate (length groups) false;
  room = room;
  seats = seated;
  kept = λ g pool is. record {
    members = record {
      ordered = λ r q less lt. subst (λ (l : List ℕ). get_or l r 0 < get_or l q 0) (list_is pools g pool is) (seated.ordered g r q less (omega (arith, lt, ap (λ (l : List ℕ). length l) (list_is pools g pool is))));
      waiting = λ r set_. absurd (false≢true (sym ((rooms g pool is).none r) ∙ set_));
      fits = (rooms g pool is).room;
    };
    waits = λ e at. (rooms g pool is).none (get_or ranks e 0) ∙ sym (waits_none e);
    shown = subst (λ (o : Option ℕ). IsShown pool o) (sym (shown_is g pool is)) (λ lt. (rooms g pool is).none);
  };
  fronts = record {
    free = λ e at. front_none e ∙ sym (waits_none e);
    shows = λ e g pool at is set_. absurd (false≢true (sym (front_none e) ∙ set_));
    shown = λ e g pool at is shows. absurd (none_some e (sym (shown_is g pool is) ∙ shows));
  };
}
  where
    none_some : (x : ℕ) → None ≡ Some x → ⊥
    none_some x e = cc

    all_false : (n e : ℕ) → get_or (replicate n false) e false ≡ false
    all_false zero e = refl
    all_false (suc n) zero = refl
    all_false (suc n) (suc e) = all_false n e

    waits_none : (e : ℕ) → has waiting e ≡ false
    waits_none e = ap (λ (l : List Bool). has l e) none ∙ all_false (length groups) e

    shown_is : (g : ℕ) (pool : Pool) → slice_get pools g ≡ Some pool → pool.shown ≡ None
    shown_is g pool is =
        sym (ap (λ (p : Pool). p.shown) (get_or_from_slice_get pools g pool pool is))
        ∙ (sym (get_or-map shown_of pools g pool None (slice_get_within pools g pool is)) ∙ shown g)

pub limits_more : (a b c : List Pool) → HaveSameLimits a b → HaveSameLimits b c → HaveSameLimits a c
limits_more a b c first then_ = record { depths = then_.depths ∙ first.depths; running = then_.running ∙ first.running; shown = then_.shown ∙ first.shown }
