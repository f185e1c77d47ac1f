-- What a change of one edge leaves of a queue.
use Rattle.std.proofs.Common.{◌≡◌, inl, inr, ℕ, zero, suc, ◌<◌, ◌≤◌, nat_lt, Bool, true, false, List, [], ◌∷◌, Option, None, Some, map, length, get_or, MatchOption, refl, sym, ◌∙◌, ap, subst, arith}
use Rattle.std.specs.List.{slice_get}
use Rattle.std.proofs.Math.ListN.{set}
use Rattle.std.proofs.Math.Seq.{map-set_same}
use Rattle.std.proofs.lemmas.List.{length-set, get_or-set_same, get_or-set_other}
use Rattle.std.proofs.lemmas.Option.{slice_get-get_or, slice_get_within, get_or_from_slice_get}
use Rattle.std.proofs.lemmas.Bool.{false≢true, and_parts, and_from, cases_Bool, cases_eq, lt-ltb, ltb-true}
use Rattle.plan.specs.Flags.{has, IsFirst, AreNone}
use Rattle.plan.specs.declared.pool.Pool.{Pool}
use Rattle.plan.specs.Turns.{Turns, room, may, IsFirstTurn, NoTurn}
use Rattle.plan.specs.PoolShown.{member_at, AreMembers, IsShown, with_shown}
use Rattle.plan.specs.Seats.{members_of, depth_of, running_of, list_at, AreSeated}
use Rattle.plan.specs.Queues.{IsPool, AreQueued}
use Rattle.plan.proofs.Fronts.{some_is, flag_other, flag_new, flag_was, shown_fits, turn_of, none_of, list_is, turn_in, shown_in, rank_is, member_fits}

pub some_group : (g h : ℕ) (o : Option ℕ) → o ≡ Some g → o ≡ Some h → g ≡ h
some_group g h o a b = some_is g h (sym a ∙ b)

none_group : (g : ℕ) (o : Option ℕ) → o ≡ None → o ≡ Some g → ⊥
none_group g o a b = no g (sym a ∙ b)
  where
    no : (x : ℕ) → None ≡ Some x → ⊥
    no x e = cc

-- ---- a write among pools

pub pool_here : (pools : List Pool) (g : ℕ) (p q : Pool) → g < length pools → slice_get (set pools g p) g ≡ Some q → q ≡ p
pool_here pools g p q lt is = sym (get_or_from_slice_get (set pools g p) g q p is) ∙ get_or-set_same pools g p p lt

pub pool_other : (pools : List Pool) (g h : ℕ) (p q : Pool) → (h ≡ g → ⊥) → slice_get (set pools g p) h ≡ Some q → slice_get pools h ≡ Some q
pool_other pools g h p q other is =
    let lt : h < length pools = omega (arith, slice_get_within (set pools g p) h q is, length-set pools g p) in
    slice_get-get_or pools h q lt ∙ ap (λ (x : Pool). Some x) (sym (get_or-set_other pools g h p q other) ∙ get_or_from_slice_get (set pools g p) h q q is)

-- ---- one pool is changed, and the edge that it shows

module _ (groups : List (Option ℕ)) (ranks : List ℕ) (pools : List Pool) (waiting front : List Bool) (queued : AreQueued groups ranks pools waiting front)
    (g : ℕ) (old new : Pool) (there : slice_get pools g ≡ Some old) (flags : List Bool) where
  pub pool_changed : new.members.items ≡ old.members.items → AreMembers new → IsShown new new.shown → length flags ≡ length waiting
      → ((e : ℕ) → get_or groups e None ≡ Some g → has new.waiting (get_or ranks e 0) ≡ has flags e)
      → ((e : ℕ) → (get_or groups e None ≡ Some g → ⊥) → has flags e ≡ has waiting e)
      → AreQueued groups ranks (set pools g new) flags (with_shown old.shown new.shown front)
  pool_changed same members shows fits waits others = record {
    within = λ e h is. omega (arith, queued.within e h is, length-set pools g new);
    flags = fits ∙ queued.flags;
    room = omega (arith, queued.room, shown_fits old.shown new.shown front);
    seats = subst (λ (l : List (List ℕ)). AreSeated groups ranks l) (sym lists) queued.seats;
    kept = kept;
    fronts = record { free = free; shows = shows_one; shown = shown_one };
  }
    where
      lt : g < length pools
      lt = slice_get_within pools g old there

      lists : map members_of (set pools g new) ≡ map members_of pools
      lists = map-set_same members_of pools g new old (same ∙ sym (ap (λ (p : Pool). p.members.items) (get_or_from_slice_get pools g old old there)))

      -- what is shown, before and after, are edges of the pool
      old_in : (x : ℕ) → old.shown ≡ Some x → get_or groups x None ≡ Some g
      old_in x is = shown_in groups ranks pools waiting front queued g x old there is

      new_in : (x : ℕ) → new.shown ≡ Some x → get_or groups x None ≡ Some g
      new_in x is =
          let turn = turn_of new new.shown x shows is in
          let within = members.waiting turn.rank turn.first.is in
          let one : list_at (map members_of pools) g ≡ new.members.items = list_is pools g old there ∙ sym same in
          subst (λ (n : ℕ). get_or groups n None ≡ Some g) (ap (λ (l : List ℕ). get_or l turn.rank 0) one ∙ turn.is)
          (queued.seats.listed g turn.rank (omega (arith, within, ap (λ (l : List ℕ). length l) one)))

      apart : (e h : ℕ) → get_or groups e None ≡ Some h → (h ≡ g → ⊥) → get_or groups e None ≡ Some g → ⊥
      apart e h at other here = other (some_group h g (get_or groups e None) at here)

      same_front : (e : ℕ) → (get_or groups e None ≡ Some g → ⊥) → has (with_shown old.shown new.shown front) e ≡ has front e
      same_front e out = flag_other old.shown new.shown front e (λ is. out (old_in e is)) (λ is. out (new_in e is))

      kept : (h : ℕ) (pool : Pool) → slice_get (set pools g new) h ≡ Some pool → IsPool groups ranks flags h pool
      kept h pool is = elim (cases_eq h g) [
        | inl here ↦
            subst (λ (p : Pool). IsPool groups ranks flags h p) (sym (pool_here pools g new pool lt (subst (λ (n : ℕ). slice_get (set pools g new) n ≡ Some pool) here is))) record {
              members = members;
              waits = λ e at. waits e (at ∙ ap (λ (n : ℕ). Some n) here);
              shown = shows;
            }
        | inr other ↦
            let before = queued.kept h pool (pool_other pools g h new pool other is) in
            record {
              members = before.members;
              waits = λ e at. before.waits e at ∙ sym (others e (apart e h at other));
              shown = before.shown;
            }
      ]

      free : (e : ℕ) → get_or groups e None ≡ None → has (with_shown old.shown new.shown front) e ≡ has flags e
      free e none =
          let out : get_or groups e None ≡ Some g → ⊥ = λ (at : get_or groups e None ≡ Some g). none_group g (get_or groups e None) none at in
          same_front e out ∙ (queued.fronts.free e none ∙ sym (others e out))

      shows_one : (e h : ℕ) (pool : Pool) → get_or groups e None ≡ Some h → slice_get (set pools g new) h ≡ Some pool → has (with_shown old.shown new.shown front) e ≡ true → pool.shown ≡ Some e
      shows_one e h pool at is flag = elim (cases_eq h g) [
        | inl here ↦
            let p : pool ≡ new = pool_here pools g new pool lt (subst (λ (n : ℕ). slice_get (set pools g new) n ≡ Some pool) here is) in
            ap (λ (x : Pool). x.shown) p ∙ elim (flag_was old.shown new.shown front e flag) [
              | inl now ↦ now
              | inr was ↦ absurd (was.0 (queued.fronts.shows e g old (at ∙ ap (λ (n : ℕ). Some n) here) there was.1))
            ]
        | inr other ↦
            queued.fronts.shows e h pool at (pool_other pools g h new pool other is) (sym (same_front e (apart e h at other)) ∙ flag)
      ]

      shown_one : (e h : ℕ) (pool : Pool) → get_or groups e None ≡ Some h → slice_get (set pools g new) h ≡ Some pool → pool.shown ≡ Some e → has (with_shown old.shown new.shown front) e ≡ true
      shown_one e h pool at is shown = elim (cases_eq h g) [
        | inl here ↦
            let p : pool ≡ new = pool_here pools g new pool lt (subst (λ (n : ℕ). slice_get (set pools g new) n ≡ Some pool) here is) in
            let now : new.shown ≡ Some e = sym (ap (λ (x : Pool). x.shown) p) ∙ shown in
            flag_new old.shown new.shown front e now (below (at ∙ ap (λ (n : ℕ). Some n) here))
        | inr other ↦
            same_front e (apart e h at other) ∙ queued.fronts.shown e h pool at (pool_other pools g h new pool other is) shown
      ]
        where
          below : get_or groups e None ≡ Some g → e < length front
          below here =
              let rank = rank_is groups ranks pools waiting front queued g e old there here in
              let e_lt = member_below (get_or ranks e 0) rank.0 in
              omega (arith, e_lt, rank.1)
            where
              member_below : (r : ℕ) → r < length old.members.items → member_at old r < length front
              member_below r within = member_fits groups ranks pools waiting front queued g r old there within

-- an edge of no pool waits, or does so no more
module _ (groups : List (Option ℕ)) (ranks : List ℕ) (pools : List Pool) (waiting front : List Bool) (queued : AreQueued groups ranks pools waiting front) (e : ℕ) (flag : Bool) where
  pub free_changed : get_or groups e None ≡ None → e < length waiting → AreQueued groups ranks pools (set waiting e flag) (set front e flag)
  free_changed none lt = record {
    within = queued.within;
    flags = length-set waiting e flag ∙ queued.flags;
    room = omega (arith, queued.room, length-set front e flag);
    seats = queued.seats;
    kept = λ g pool is. let before = queued.kept g pool is in record {
      members = before.members;
      waits = λ k at. before.waits k at ∙ sym (get_or-set_other waiting e k flag false (away k g at));
      shown = before.shown;
    };
    fronts = record {
      free = λ k at. elim (cases_eq k e) [
        | inl same ↦
            subst (λ (n : ℕ). has (set front e flag) n ≡ has (set waiting e flag) n) (sym same)
            (get_or-set_same front e flag false (omega (arith, lt, queued.room, queued.flags)) ∙ sym (get_or-set_same waiting e flag false lt))
        | inr other ↦ get_or-set_other front e k flag false other ∙ (queued.fronts.free k at ∙ sym (get_or-set_other waiting e k flag false other))
      ];
      shows = λ k g pool at is set_. queued.fronts.shows k g pool at is (sym (get_or-set_other front e k flag false (away k g at)) ∙ set_);
      shown = λ k g pool at is shown. get_or-set_other front e k flag false (away k g at) ∙ queued.fronts.shown k g pool at is shown;
    };
  }
    where
      away : (k g : ℕ) → get_or groups k None ≡ Some g → k ≡ e → ⊥
      away k g at same = none_group g (get_or groups e None) none (subst (λ (n : ℕ). get_or groups n None ≡ Some g) same at)

-- ---- the first turn

module _ (groups : List (Option ℕ)) (ranks : List ℕ) (pools : List Pool) (waiting front : List Bool) (queued : AreQueued groups ranks pools waiting front) where
  abbrev turns : Turns
  turns = record { groups = groups; depths = map depth_of pools; running = map running_of pools; waiting = waiting }

  pool_at : (g : ℕ) → g < length pools → (pool : Pool) × (slice_get pools g ≡ Some pool) × (get_or (map running_of pools) g 0 ≡ pool.running) × (get_or (map depth_of pools) g 0 ≡ pool.depth)
  pool_at g lt = found pools g lt
    where
      found : (xs : List Pool) (g : ℕ) → g < length xs → (pool : Pool) × (slice_get xs g ≡ Some pool) × (get_or (map running_of xs) g 0 ≡ pool.running) × (get_or (map depth_of xs) g 0 ≡ pool.depth)
      found [] g lt = absurd (omega (arith, lt))
      found (x ∷ xs) zero lt = (x, refl, refl, refl)
      found (x ∷ xs) (suc g) lt = found xs g (omega (arith, lt))

  -- what stands in front may start
  pub front_may : (e : ℕ) → has front e ≡ true → may turns e ≡ true
  front_may e flag = by (get_or groups e None) refl
    where
      by : (o : Option ℕ) → get_or groups e None ≡ o → may turns e ≡ true
      by None at = and_from (has waiting e) (room turns (get_or groups e None)) (sym (queued.fronts.free e at) ∙ flag) (ap (λ (o : Option ℕ). room turns o) at)
      by (Some g) at =
          let found = pool_at g (queued.within e g at) in
          let pool = found.0 in
          let before = queued.kept g pool found.1 in
          let turn = turn_of pool pool.shown e before.shown (queued.fronts.shows e g pool at found.1 flag) in
          let rank = rank_is groups ranks pools waiting front queued g e pool found.1 at in
          let same = same_rank pool before.members turn.rank (get_or ranks e 0) (before.members.waiting turn.rank turn.first.is) rank.0 (turn.is ∙ sym rank.1) in
          and_from (has waiting e) (room turns (get_or groups e None))
          (sym (before.waits e at) ∙ subst (λ (n : ℕ). has pool.waiting n ≡ true) same turn.first.is)
          (ap (λ (o : Option ℕ). room turns o) at ∙ lt-ltb (get_or (map running_of pools) g 0) (get_or (map depth_of pools) g 0) (omega (arith, found.2, found.3, turn.room)))
        where
          same_rank : (pool : Pool) → AreMembers pool → (r q : ℕ) → r < length pool.members.items → q < length pool.members.items → member_at pool r ≡ member_at pool q → r ≡ q
          same_rank pool members r q r_lt q_lt e = elim (cases_eq r q) [
            | inl is ↦ is
            | inr not ↦ elim (cases_Bool (nat_lt r q)) [
              | inl less ↦ absurd (omega (arith, members.ordered r q (ltb-true r q less) q_lt, e))
              | inr more ↦ absurd (omega (arith, members.ordered q r (omega (arith, not, not_less r q more)) r_lt, e))
            ]
          ]
            where
              not_less : (a b : ℕ) → nat_lt a b ≡ false → b ≤ a
              not_less a b fails = elim (cases_Bool (nat_lt b a)) [
                | inl yes_ ↦ omega (arith, ltb-true b a yes_)
                | inr _ ↦ omega (arith, λ (h : a < b). false≢true (sym fails ∙ lt-ltb a b h))
              ]

  -- before what may start stands something in front, or it itself
  pub may_front : (e : ℕ) → may turns e ≡ true → (f : ℕ) × (f ≤ e) × (has front f ≡ true)
  may_front e is = by (get_or groups e None) refl
    where
      both : (has waiting e ≡ true) × (room turns (get_or groups e None) ≡ true)
      both = and_parts (has waiting e) (room turns (get_or groups e None)) is

      by : (o : Option ℕ) → get_or groups e None ≡ o → (f : ℕ) × (f ≤ e) × (has front f ≡ true)
      by None at = (e, omega arith, queued.fronts.free e at ∙ both.0)
      by (Some g) at =
          let found = pool_at g (queued.within e g at) in
          let room_is : room turns (Some g) ≡ true = sym (ap (λ (o : Option ℕ). room turns o) at) ∙ both.1 in
          by_shown found.0 found.1 (omega (arith, found.2, found.3, ltb-true (get_or (map running_of pools) g 0) (get_or (map depth_of pools) g 0) room_is)) found.0.shown refl
        where
          by_shown : (pool : Pool) → slice_get pools g ≡ Some pool → pool.running < pool.depth → (o : Option ℕ) → pool.shown ≡ o → (f : ℕ) × (f ≤ e) × (has front f ≡ true)
          by_shown pool there has_room None none =
              let before = queued.kept g pool there in
              absurd (false≢true (sym (none_of pool pool.shown before.shown none has_room (get_or ranks e 0)) ∙ (before.waits e at ∙ both.0)))
          by_shown pool there has_room (Some f) shown =
              let before = queued.kept g pool there in
              let turn = turn_of pool pool.shown f before.shown shown in
              let rank = rank_is groups ranks pools waiting front queued g e pool there at in (
                f,
                lower pool before.members turn.rank (get_or ranks e 0) rank.0 (not_above turn.rank (get_or ranks e 0) (λ less. false≢true (sym (turn.first.lowest (get_or ranks e 0) less) ∙ (before.waits e at ∙ both.0)))) f turn.is rank.1,
                queued.fronts.shown f g pool (turn_in groups ranks pools waiting front queued g f pool there turn) there shown,
              )
            where
              not_above : (a b : ℕ) → (b < a → ⊥) → a ≤ b
              not_above a b fails = elim (cases_Bool (nat_lt b a)) [
                | inl less ↦ absurd (fails (ltb-true b a less))
                | inr more ↦ omega (arith, λ (h : b < a). false≢true (sym more ∙ lt-ltb b a h))
              ]

              lower : (pool : Pool) → AreMembers pool → (r q : ℕ) → q < length pool.members.items → r ≤ q → (f : ℕ) → member_at pool r ≡ f → member_at pool q ≡ e → f ≤ e
              lower pool members r q lt le f is_f is_e = elim (cases_eq r q) [
                | inl same ↦ omega (arith, is_f, is_e, ap (λ (n : ℕ). member_at pool n) same)
                | inr other ↦ omega (arith, members.ordered r q (omega (arith, le, other)) lt, is_f, is_e)
              ]

  pub first_turn : (r : Option ℕ) → MatchOption r (AreNone front) (IsFirst front) → MatchOption r (NoTurn turns) (IsFirstTurn turns)
  first_turn None none = λ e. elim (cases_Bool (may turns e)) [
    | inl is ↦ let found = may_front e is in absurd (false≢true (sym (none found.0) ∙ found.2))
    | inr not ↦ not
  ]
  first_turn (Some f) first = record {
    is = front_may f first.is;
    lowest = λ k lt. elim (cases_Bool (may turns k)) [
      | inl is ↦ let found = may_front k is in absurd (false≢true (sym (first.lowest found.0 (omega (arith, lt, found.1))) ∙ found.2))
      | inr not ↦ not
    ];
  }
