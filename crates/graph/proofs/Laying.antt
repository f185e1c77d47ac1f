-- Empty rooms, one behind the other.
use Rattle.std.proofs.Common.{◌≡◌, ◌≢◌, ◌⊎◌, inl, inr, ℕ, zero, suc, ◌+◌, ◌-◌, ◌≤◌, List, [], ◌∷◌, ◌++◌, map, length, take, drop, get_or, refl, sym, ◌∙◌, ap, subst, arith, length-append}
use Rattle.std.proofs.Math.ListN.{replicate}
use Rattle.std.proofs.Math.Seq.{get_or-append_seam}
use Rattle.std.proofs.lemmas.Bool.{cases_eq, cases_lt}
use Rattle.std.proofs.lemmas.List.{get_or_past, get_or_append_left}
use Rattle.graph.specs.declared.users.Room.{Room}
use Rattle.graph.specs.Rooms.{room_of, no_room, AreApart, AreLaid}

none_at : (k : ℕ) → get_or [] k no_room ≡ no_room
none_at zero = refl
none_at (suc k) = refl

pub laid_none : (rooms : List Room) → rooms ≡ [] → AreLaid 0 0 rooms
laid_none rooms is = subst (AreLaid 0 0) (sym is) (record {
  fits = refl;
  empty = λ k. ap (λ (room : Room). room.stop) (none_at k) ∙ sym (ap (λ (room : Room). room.start) (none_at k));
  in_order = λ k. let at = ap (λ (room : Room). room.stop) (none_at k) in omega (arith, at);
  within = λ k. let at = ap (λ (room : Room). room.end) (none_at k) in omega (arith, at);
  apart = λ j k other. inl (let at = ap (λ (room : Room). room.end) (none_at j) in omega (arith, at));
})

-- which room stands at a place once there is one more
abbrev IsAt : List Room → Room → ℕ → Room → Type 0
IsAt rooms last k room = (room ≡ get_or rooms k no_room) ⊎ ((k ≡ length rooms) × (room ≡ last))

at_next : (rooms : List Room) (last : Room) (k : ℕ) → IsAt rooms last k (get_or (rooms ++ last ∷ []) k no_room)
at_next rooms last k = elim (cases_eq k (length rooms)) [
  | inl same ↦ inr (same, ap (λ (n : ℕ). get_or (rooms ++ last ∷ []) n no_room) same ∙ get_or-append_seam rooms last [] no_room)
  | inr other ↦ elim (cases_lt k (length rooms)) [
    | inl low ↦ inl (get_or_append_left rooms (last ∷ []) no_room k low)
    | inr high ↦
        let long = length-append rooms (last ∷ []) in
        inl (get_or_past (rooms ++ last ∷ []) k no_room (omega (arith, long, high, other)) ∙ sym (get_or_past rooms k no_room high))
  ]
]

abbrev room_at : List Room → ℕ → Room
room_at rooms k = get_or rooms k no_room

module _ (count end next : ℕ) (rooms : List Room) (are : AreLaid count end rooms) (more : end ≤ next) where
  abbrev last : Room
  last = record { start = end; stop = end; end = next }

  empty_at : (k : ℕ) (room : Room) → IsAt rooms last k room → room.stop ≡ room.start
  empty_at k room (inl old) = ap (λ (r : Room). r.stop) old ∙ (are.empty k ∙ sym (ap (λ (r : Room). r.start) old))
  empty_at k room (inr new) = ap (λ (r : Room). r.stop) new.1 ∙ sym (ap (λ (r : Room). r.start) new.1)

  order_at : (k : ℕ) (room : Room) → IsAt rooms last k room → room.stop ≤ room.end
  order_at k room (inl old) = let a = ap (λ (r : Room). r.stop) old in let b = ap (λ (r : Room). r.end) old in let c = are.in_order k in omega (arith, a, b, c)
  order_at k room (inr new) = let a = ap (λ (r : Room). r.stop) new.1 in let b = ap (λ (r : Room). r.end) new.1 in omega (arith, a, b, more)

  within_at : (k : ℕ) (room : Room) → IsAt rooms last k room → room.end ≤ next
  within_at k room (inl old) = let b = ap (λ (r : Room). r.end) old in let c = are.within k in omega (arith, b, c, more)
  within_at k room (inr new) = let b = ap (λ (r : Room). r.end) new.1 in omega (arith, b)

  apart_at : (j k : ℕ) → j ≢ k → (one other : Room) → IsAt rooms last j one → IsAt rooms last k other → AreApart one other
  apart_at j k differ one other (inl a) (inl b) = subst (λ (r : Room). AreApart r other) (sym a) (subst (λ (r : Room). AreApart (room_at rooms j) r) (sym b) (are.apart j k differ))
  apart_at j k differ one other (inl a) (inr b) =
      let ends = ap (λ (r : Room). r.end) a in let starts = ap (λ (r : Room). r.start) b.1 in let low = are.within j in inl (omega (arith, ends, starts, low))
  apart_at j k differ one other (inr a) (inl b) =
      let ends = ap (λ (r : Room). r.end) b in let starts = ap (λ (r : Room). r.start) a.1 in let low = are.within k in inr (omega (arith, ends, starts, low))
  apart_at j k differ one other (inr a) (inr b) = absurd (differ (a.0 ∙ sym b.0))

  laid_more : AreLaid (count + 1) next (rooms ++ last ∷ [])
  laid_more = record {
    fits = let long = length-append rooms (last ∷ []) in omega (arith, long, are.fits);
    empty = λ k. empty_at k (room_at (rooms ++ last ∷ []) k) (at_next rooms last k);
    in_order = λ k. order_at k (room_at (rooms ++ last ∷ []) k) (at_next rooms last k);
    within = λ k. within_at k (room_at (rooms ++ last ∷ []) k) (at_next rooms last k);
    apart = λ j k differ. apart_at j k differ (room_at (rooms ++ last ∷ []) j) (room_at (rooms ++ last ∷ []) k) (at_next rooms last j) (at_next rooms last k);
  }

pub laid_next : (count end next : ℕ) (rooms new : List Room) → AreLaid count end rooms → end ≤ next → new ≡ rooms ++ record { start = end; stop = end; end = next } ∷ [] → AreLaid (count + 1) next new
laid_next count end next rooms new are more grown = subst (AreLaid (count + 1) next) (sym grown) (laid_more count end next rooms are more)

nothing_in : (items : List ℕ) (room : Room) → room.stop ≡ room.start → room_of items room ≡ []
nothing_in items room is = let none : room.stop - room.start ≡ 0 = omega (arith, is) in ap (λ (n : ℕ). take n (drop room.start items)) none

pub view_of : (items : List ℕ) (rooms : List Room) → ((k : ℕ) → (room_at rooms k).stop ≡ (room_at rooms k).start) → map (room_of items) rooms ≡ replicate (length rooms) []
view_of items [] each = refl
view_of items (room ∷ rooms) each =
    ap (λ (l : List ℕ). l ∷ map (room_of items) rooms) (nothing_in items room (each 0)) ∙ ap (λ (l : List (List ℕ)). [] ∷ l) (view_of items rooms (λ k. each (suc k)))

pub laid_view : (items : List ℕ) (count end : ℕ) (rooms : List Room) → AreLaid count end rooms → map (room_of items) rooms ≡ replicate count []
laid_view items count end rooms are = view_of items rooms are.empty ∙ ap (λ (n : ℕ). replicate n []) are.fits
