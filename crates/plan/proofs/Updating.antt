-- What a queue is after one edge was put, taken or released.
use Rattle.std.proofs.Common.{◌≡◌, inl, inr, ℕ, zero, suc, ◌<◌, Bool, true, false, List, [], ◌∷◌, Option, None, Some, IfSome, map, length, get_or, refl, sym, ◌∙◌, ap, subst, arith}
use Rattle.std.specs.List.{slice_get}
use Rattle.std.proofs.Math.ListN.{set}
use Rattle.std.proofs.Math.Seq.{map-set_same}
use Rattle.std.proofs.lemmas.List.{length-set, get_or-set_same, get_or-set_other, get_or-map, map-set}
use Rattle.std.proofs.lemmas.Option.{slice_get_within, get_or_from_slice_get, slice_get_read}
use Rattle.std.proofs.lemmas.Bool.{cases_eq, and_parts, ltb-true}
use Rattle.plan.specs.Flags.{has}
use Rattle.plan.specs.declared.pool.Pool.{Pool}
use Rattle.plan.specs.Turns.{Turns, room, may, runs_in, runs_at, set_runs, with_waiting, with_running}
use Rattle.plan.specs.PoolShown.{member_at, AreMembers, IsShown, ShownWithin, with_shown}
use Rattle.plan.specs.Seats.{depth_of, running_of}
use Rattle.plan.specs.Queues.{AreQueued}
use Rattle.plan.proofs.Fronts.{rank_is, member_fits, shown_below}
use Rattle.plan.proofs.Changing.{pool_changed}

pub read_pool : (pools : List Pool) (g : ℕ) (pool : Pool) → pool ≡ get_or pools g pool → g < length pools → slice_get pools g ≡ Some pool
read_pool pools g pool is lt = slice_get_read pools (length pools) g pool refl lt is

pub read_rank : (ranks : List ℕ) (e r : ℕ) → r ≡ get_or ranks e r → e < length ranks → r ≡ get_or ranks e 0
read_rank [] e r is lt = absurd (omega (arith, lt))
read_rank (x ∷ ranks) zero r is lt = is
read_rank (x ∷ ranks) (suc e) r is lt = read_rank ranks e r is (omega (arith, lt))

pub read_group : (groups : List (Option ℕ)) (e g : ℕ) (o : Option ℕ) → o ≡ get_or groups e o → o ≡ Some g → e < length groups → get_or groups e None ≡ Some g
read_group [] e g o is some lt = absurd (omega (arith, lt))
read_group (x ∷ groups) zero g o is some lt = sym is ∙ some
read_group (x ∷ groups) (suc e) g o is some lt = read_group groups e g o is some (omega (arith, lt))

-- a pool with other counts, waiting members and shown edge
pub members_again : (pool : Pool) (running : ℕ) (shown : Option ℕ) → AreMembers pool → AreMembers record { depth = pool.depth; running = running; members = pool.members; waiting = pool.waiting; shown = shown }
members_again pool running shown members = record { ordered = members.ordered; waiting = members.waiting; fits = members.fits }

pub members_set : (pool : Pool) (running r : ℕ) (flag : Bool) (waiting : List Bool) → AreMembers pool → r < length pool.members.items → waiting ≡ set pool.waiting r flag
    → AreMembers record { depth = pool.depth; running = running; members = pool.members; waiting = waiting; shown = pool.shown }
members_set pool running r flag waiting members lt is = subst (λ (w : List Bool). AreMembers record { depth = pool.depth; running = running; members = pool.members; waiting = w; shown = pool.shown }) (sym is) record {
  ordered = members.ordered;
  waiting = λ k set_. elim (cases_eq k r) [
    | inl same ↦ omega (arith, same, lt)
    | inr other ↦ members.waiting k (sym (get_or-set_other pool.waiting r k flag false other) ∙ set_)
  ];
  fits = omega (arith, members.fits, length-set pool.waiting r flag);
}

shows_again : (pool : Pool) (x s : Option ℕ) → IsShown pool s → IsShown (record pool { shown = x }) s
shows_again pool x None is = is
shows_again pool x (Some e) is = record { rank = is.rank; first = is.first; room = is.room; is = is.is }

-- ---- one pool

module _ (groups : List (Option ℕ)) (ranks : List ℕ) (pools : List Pool) (waiting front : List Bool) (queued : AreQueued groups ranks pools waiting front)
    (g : ℕ) (old : Pool) (there : slice_get pools g ≡ Some old) where
  pub shown_within : (running : ℕ) (flags : List Bool) → ShownWithin record { depth = old.depth; running = running; members = old.members; waiting = flags; shown = old.shown } (length front)
  shown_within running flags = by old.shown refl
    where
      by : (o : Option ℕ) → old.shown ≡ o → IfSome old.shown (λ e. e < length front)
      by None is = subst (λ (o : Option ℕ). IfSome o (λ e. e < length front)) (sym is) tt
      by (Some e) is = subst (λ (o : Option ℕ). IfSome o (λ e. e < length front)) (sym is) (shown_below groups ranks pools waiting front queued g e old there is)

  pub members_within : (r : ℕ) → r < length old.members.items → member_at old r < length front
  members_within r lt = member_fits groups ranks pools waiting front queued g r old there lt

  -- a write at an edge of the pool is the same write at its rank
  pub waits_set : (e : ℕ) (flag : Bool) → get_or groups e None ≡ Some g → e < length waiting → (k : ℕ) → get_or groups k None ≡ Some g
      → has (set old.waiting (get_or ranks e 0) flag) (get_or ranks k 0) ≡ has (set waiting e flag) k
  waits_set e flag at lt k also =
      let mine = rank_is groups ranks pools waiting front queued g e old there at in
      let other_rank = rank_is groups ranks pools waiting front queued g k old there also in
      let fits = (queued.kept g old there).members.fits in
      elim (cases_eq k e) [
        | inl same ↦
            subst (λ (n : ℕ). has (set old.waiting (get_or ranks e 0) flag) (get_or ranks n 0) ≡ has (set waiting e flag) n) (sym same)
            (get_or-set_same old.waiting (get_or ranks e 0) flag false (omega (arith, mine.0, fits)) ∙ sym (get_or-set_same waiting e flag false lt))
        | inr other ↦
            get_or-set_other old.waiting (get_or ranks e 0) (get_or ranks k 0) flag false (λ same. other (sym other_rank.1 ∙ (ap (λ (n : ℕ). member_at old n) same ∙ mine.1)))
            ∙ ((queued.kept g old there).waits k also ∙ sym (get_or-set_other waiting e k flag false other))
      ]

  pub after_show : (running : ℕ) (waits flags : List Bool) (new : Pool) (after : List Bool)
      → (mid : AreMembers record { depth = old.depth; running = running; members = old.members; waiting = waits; shown = old.shown })
      → new ≡ record { depth = old.depth; running = running; members = old.members; waiting = waits; shown = new.shown }
      → IsShown record { depth = old.depth; running = running; members = old.members; waiting = waits; shown = old.shown } new.shown
      → after ≡ with_shown old.shown new.shown front → length flags ≡ length waiting
      → ((e : ℕ) → get_or groups e None ≡ Some g → has waits (get_or ranks e 0) ≡ has flags e)
      → ((e : ℕ) → (get_or groups e None ≡ Some g → ⊥) → has flags e ≡ has waiting e)
      → AreQueued groups ranks (set pools g new) flags after
  after_show running waits flags new after mid is shows grown fits same others =
      subst (λ (l : List Bool). AreQueued groups ranks (set pools g new) flags l) (sym grown)
      (pool_changed groups ranks pools waiting front queued g old new there flags (ap (λ (p : Pool). p.members.items) is)
      (subst (λ (p : Pool). AreMembers p) (sym is) (record { ordered = mid.ordered; waiting = mid.waiting; fits = mid.fits }))
      (subst (λ (p : Pool). IsShown p new.shown) (sym is) (shows_again record { depth = old.depth; running = running; members = old.members; waiting = waits; shown = old.shown } new.shown new.shown shows))
      fits (λ e at. ap (λ (p : Pool). has p.waiting (get_or ranks e 0)) is ∙ same e at) others)

  pub others_set : (e : ℕ) (flag : Bool) → get_or groups e None ≡ Some g → (k : ℕ) → (get_or groups k None ≡ Some g → ⊥) → has (set waiting e flag) k ≡ has waiting k
  others_set e flag at k out = get_or-set_other waiting e k flag false (λ same. out (subst (λ (n : ℕ). get_or groups n None ≡ Some g) (sym same) at))

-- ---- what contracts see

same_turns : (groups : List (Option ℕ)) (d e r s : List ℕ) (waiting : List Bool) → d ≡ e → r ≡ s
    → record { groups = groups; depths = d; running = r; waiting = waiting } ≡ (let t : Turns = record { groups = groups; depths = e; running = s; waiting = waiting } in t)
same_turns groups d e r s waiting p q = ap (λ (l : List ℕ). turns_with l r) p ∙ ap (λ (l : List ℕ). turns_with e l) q
  where
    turns_with : List ℕ → List ℕ → Turns
    turns_with a b = record { groups = groups; depths = a; running = b; waiting = waiting }

abbrev pub turns_at : List (Option ℕ) → List Pool → List Bool → Turns
turns_at groups ps w = record { groups = groups; depths = map depth_of ps; running = map running_of ps; waiting = w }

module _ (groups : List (Option ℕ)) (pools : List Pool) (waiting : List Bool) (g e : ℕ) (old new : Pool) (there : slice_get pools g ≡ Some old) (at : get_or groups e None ≡ Some g) where
  depths_same : new.depth ≡ old.depth → map depth_of (set pools g new) ≡ map depth_of pools
  depths_same same = map-set_same depth_of pools g new old (same ∙ sym (ap (λ (p : Pool). p.depth) (get_or_from_slice_get pools g old old there)))

  pub seen_put : (flag : Bool) → new.depth ≡ old.depth → new.running ≡ old.running → turns_at groups (set pools g new) (set waiting e flag) ≡ with_waiting (turns_at groups pools waiting) e flag
  seen_put flag depth running =
      same_turns groups (map depth_of (set pools g new)) (map depth_of pools) (map running_of (set pools g new)) (map running_of pools) (set waiting e flag) (depths_same depth)
      (map-set_same running_of pools g new old (running ∙ sym (ap (λ (p : Pool). p.running) (get_or_from_slice_get pools g old old there))))

  runs_now : runs_in (map running_of pools) (Some g) ≡ old.running
  runs_now = get_or-map running_of pools g old 0 (slice_get_within pools g old there) ∙ ap (λ (p : Pool). p.running) (get_or_from_slice_get pools g old old there)

  pub seen_running : (flags : List Bool) (f : ℕ → ℕ) → new.depth ≡ old.depth → new.running ≡ f old.running
      → turns_at groups (set pools g new) flags ≡ with_running (turns_at groups pools flags) e (f (runs_at (turns_at groups pools flags) e))
  seen_running flags f depth running =
      same_turns groups (map depth_of (set pools g new)) (map depth_of pools) (map running_of (set pools g new)) (set_runs (map running_of pools) (get_or groups e None) (f (runs_in (map running_of pools) (get_or groups e None)))) flags (depths_same depth)
      (map-set running_of pools g new
      ∙ (ap (λ (n : ℕ). set (map running_of pools) g n) (running ∙ ap f (sym runs_now))
      ∙ sym (ap (λ (o : Option ℕ). set_runs (map running_of pools) o (f (runs_in (map running_of pools) o))) at)))

-- where an edge may start, fewer commands of its pool run than may
pub runs_below : (groups : List (Option ℕ)) (pools : List Pool) (waiting : List Bool) (g e : ℕ) (pool : Pool) (seen : Turns) → turns_at groups pools waiting ≡ seen → may seen e ≡ true
    → get_or groups e None ≡ Some g → slice_get pools g ≡ Some pool → pool.running < pool.depth
runs_below groups pools waiting g e pool seen same is at there =
    let here : may (turns_at groups pools waiting) e ≡ true = subst (λ (t : Turns). may t e ≡ true) (sym same) is in
    let open_ : room (turns_at groups pools waiting) (Some g) ≡ true = sym (ap (λ (o : Option ℕ). room (turns_at groups pools waiting) o) at) ∙ (and_parts (has waiting e) (room (turns_at groups pools waiting) (get_or groups e None)) here).1 in
    let less = ltb-true (get_or (map running_of pools) g 0) (get_or (map depth_of pools) g 0) open_ in
    let lt = slice_get_within pools g pool there in
    let runs = get_or-map running_of pools g pool 0 lt ∙ ap (λ (p : Pool). p.running) (get_or_from_slice_get pools g pool pool there) in
    let limit = get_or-map depth_of pools g pool 0 lt ∙ ap (λ (p : Pool). p.depth) (get_or_from_slice_get pools g pool pool there) in
    omega (arith, less, runs, limit)

pub read_none : (groups : List (Option ℕ)) (e : ℕ) (o : Option ℕ) → o ≡ get_or groups e o → o ≡ None → get_or groups e None ≡ None
read_none [] e o is none = refl
read_none (x ∷ groups) zero o is none = sym is ∙ none
read_none (x ∷ groups) (suc e) o is none = read_none groups e o is none
