-- Lists in flat memory, with room to grow.
use Rattle.std.proofs.Common.{◌≡◌, ◌≢◌, ◌⊎◌, inl, inr, ℕ, zero, suc, ◌+◌, ◌-◌, ◌^◌, ◌<◌, ◌≤◌, min, List, [], ◌∷◌, ◌++◌, map, length, take, drop, get_or, refl, sym, ◌∙◌, ap, subst, arith, length-append, append_assoc}
use Rattle.std.proofs.Math.ListN.{set, replicate}
use Rattle.std.proofs.Math.Seq.{drop-append_seam, take-append_seam, drop-append-add}
use Rattle.std.proofs.lemmas.List.{take-append-le, drop-append-le, drop-set-lt, drop-set-add, take-set-le, get_or-set_same, get_or-set_other, get_or-map, length-map, length-drop, length-take-le, get_or_default, take_all, drop-replicate, append-nil}
use Rattle.paths.specs.Lists.{between, Extends}
use Rattle.graph.specs.declared.recorded.Span.{Span}
use Rattle.graph.specs.declared.users.Room.{Room}
use Rattle.graph.specs.Held.{list_at, push_at}
use Rattle.graph.specs.Spans.{span_of, IsSpanIn, AreSpansIn}
use Rattle.graph.proofs.Walking.{same_or_other}
use Rattle.graph.specs.Rooms.{room_of, IsRoomIn, AreApart, no_room, AreRooms, IsMoved}

-- ---- parts of a list

pub between_more : (xs more : List ℕ) (a b : ℕ) → a ≤ b → b ≤ length xs → between (xs ++ more) a b ≡ between xs a b
between_more xs more a b ab fits =
    let front : a ≤ length xs = omega (arith, ab, fits) in
    let size = length-drop a xs in
    let within : b - a ≤ length (drop a xs) = omega (arith, size, ab, fits) in
    ap (take (b - a)) (drop-append-le a xs more front) ∙ take-append-le (b - a) (drop a xs) more within

pub between_last : (xs part : List ℕ) (a b : ℕ) → a ≡ length xs → b ≡ length xs + length part → between (xs ++ part) a b ≡ part
between_last xs part a b at_a at_b =
    let count : b - a ≡ length part = omega (arith, at_a, at_b) in
    ap (λ (n : ℕ). take (b - a) (drop n (xs ++ part))) at_a ∙ (ap (take (b - a)) (drop-append_seam xs part) ∙ (ap (λ (n : ℕ). take n part) count ∙ take_whole part))
  where
    take_whole : (ys : List ℕ) → take (length ys) ys ≡ ys
    take_whole [] = refl
    take_whole (y ∷ ys) = ap (λ (rest : List ℕ). y ∷ rest) (take_whole ys)

length-between : (xs : List ℕ) (a b : ℕ) → b ≤ length xs → length (between xs a b) ≡ b - a
length-between xs a b fits = let size = length-drop a xs in length-take-le (b - a) (drop a xs) (omega (arith, size, fits))

-- a write elsewhere
between_apart : (xs : List ℕ) (a b i v : ℕ) → a ≤ b → (i < a) ⊎ (b ≤ i) → between (set xs i v) a b ≡ between xs a b
between_apart xs a b i v ab (inl low) = ap (take (b - a)) (drop-set-lt a xs i v low)
between_apart xs a b i v ab (inr high) =
    let place : i ≡ a + (i - a) = omega (arith, ab, high) in
    ap (λ (n : ℕ). take (b - a) (drop a (set xs n v))) place
    ∙ (ap (take (b - a)) (drop-set-add a xs (i - a) v) ∙ take-set-le (b - a) (drop a xs) (i - a) v (omega (arith, high)))

-- a write right behind
between_next : (xs : List ℕ) (a b v : ℕ) → a ≤ b → b < length xs → between (set xs b v) a (suc b) ≡ between xs a b ++ v ∷ []
between_next xs a b v ab fits =
    let place : b ≡ a + (b - a) = omega (arith, ab) in
    let count : suc b - a ≡ suc (b - a) = omega (arith, ab) in
    let size = length-drop a xs in
    let room : b - a < length (drop a xs) = omega (arith, size, ab, fits) in
    ap (λ (n : ℕ). take n (drop a (set xs b v))) count
    ∙ (ap (λ (n : ℕ). take (suc (b - a)) (drop a (set xs n v))) place
    ∙ (ap (take (suc (b - a))) (drop-set-add a xs (b - a) v) ∙ next (drop a xs) (b - a) room))
  where
    next : (ys : List ℕ) (k : ℕ) → k < length ys → take (suc k) (set ys k v) ≡ take k ys ++ v ∷ []
    next [] k lt = absurd (omega (arith, lt))
    next (y ∷ ys) zero lt = refl
    next (y ∷ ys) (suc k) lt = ap (λ (l : List ℕ). y ∷ l) (next ys k (omega (arith, lt)))

-- without the last
between_less : (xs : List ℕ) (a b : ℕ) → b ≤ length xs → between xs a (b - 1) ≡ take (length (between xs a b) - 1) (between xs a b)
between_less xs a b fits =
    let size = length-between xs a b fits in
    let fewer : (b - 1) - a ≡ length (between xs a b) - 1 = omega (arith, size) in
    ap (λ (n : ℕ). take n (drop a xs)) fewer ∙ sym (shorter (drop a xs) (b - a) (length (between xs a b) - 1) (omega (arith, size)))
  where
    shorter : (ys : List ℕ) (n m : ℕ) → m ≤ n → take m (take n ys) ≡ take m ys
    shorter ys n zero less = refl
    shorter [] zero (suc m) less = refl
    shorter [] (suc n) (suc m) less = refl
    shorter (y ∷ ys) zero (suc m) less = absurd (omega (arith, less))
    shorter (y ∷ ys) (suc n) (suc m) less = ap (λ (l : List ℕ). y ∷ l) (shorter ys n m (omega (arith, less)))

-- ---- one entry changes

map_same : {X Y : Type 0} (f g : X → Y) (xs : List X) (d : X) → ((k : ℕ) → k < length xs → g (get_or xs k d) ≡ f (get_or xs k d)) → map g xs ≡ map f xs
map_same f g [] d each = refl
map_same f g (x ∷ xs) d each = ap (λ y. y ∷ map g xs) (each 0 (omega arith)) ∙ ap (λ l. f x ∷ l) (map_same f g xs d (λ k lt. each (suc k) (omega (arith, lt))))

map_set : {X Y : Type 0} (f g : X → Y) (xs : List X) (p : ℕ) (x d : X) → ((k : ℕ) → k ≢ p → k < length xs → g (get_or xs k d) ≡ f (get_or xs k d)) → map g (set xs p x) ≡ set (map f xs) p (g x)
map_set f g [] p x d each = refl
map_set f g (y ∷ ys) zero x d each = ap (λ l. g x ∷ l) (map_same f g ys d (λ k lt. each (suc k) (λ same. absurd (omega (arith, same))) (omega (arith, lt))))
map_set f g (y ∷ ys) (suc p) x d each =
    ap (λ z. z ∷ map g (set ys p x)) (each 0 (λ same. absurd (omega (arith, same))) (omega arith))
    ∙ ap (λ l. f y ∷ l) (map_set f g ys p x d (λ k other lt. each (suc k) (λ same. other (omega (arith, same))) (omega (arith, lt))))

pub map_replicate : {X Y : Type 0} (f : X → Y) (n : ℕ) (x : X) → map f (replicate n x) ≡ replicate n (f x)
map_replicate f zero x = refl
map_replicate f (suc n) x = ap (λ l. f x ∷ l) (map_replicate f n x)

-- ---- recorded inputs

abbrev pub no_span : Span
no_span = record { start = 0; stop = 0 }

span_at : (n : ℕ) (spans : List Span) (k : ℕ) (d : Span) → k < length spans → AreSpansIn n spans → IsSpanIn n (get_or spans k d)
span_at n [] k d lt all = absurd (omega (arith, lt))
span_at n (s ∷ spans) zero d lt all = all.0
span_at n (s ∷ spans) (suc k) d lt all = span_at n spans k d (omega (arith, lt)) all.1

pub span_set : (numbers part new : List ℕ) (spans : List Span) (e start stop : ℕ) → AreSpansIn (length numbers) spans → new ≡ numbers ++ part → start ≡ length numbers → stop ≡ length new
    → map (span_of new) (set spans e (record { start = start; stop = stop })) ≡ set (map (span_of numbers) spans) e part
span_set numbers part new spans e start stop lie grown at_start at_stop =
    let size : length new ≡ length numbers + length part = ap length grown ∙ length-append numbers part in
    map_set (span_of numbers) (span_of new) spans e (record { start = start; stop = stop }) no_span others
    ∙ ap (set (map (span_of numbers) spans) e) (ap (λ (l : List ℕ). between l start stop) grown ∙ between_last numbers part start stop at_start (omega (arith, at_stop, size)))
  where
    others : (k : ℕ) → k ≢ e → k < length spans → span_of new (get_or spans k no_span) ≡ span_of numbers (get_or spans k no_span)
    others k other lt =
        let lies = span_at (length numbers) spans k no_span lt lie in
        ap (λ (l : List ℕ). span_of l (get_or spans k no_span)) grown
        ∙ between_more numbers part (get_or spans k no_span).start (get_or spans k no_span).stop lies.in_order lies.within

-- a list that is let go
pub span_gone : (numbers : List ℕ) (spans : List Span) (e : ℕ) → map (span_of numbers) (set spans e (record { start = 0; stop = 0 })) ≡ set (map (span_of numbers) spans) e []
span_gone numbers spans e = map_set (span_of numbers) (span_of numbers) spans e (record { start = 0; stop = 0 }) no_span (λ k other lt. refl)

-- ---- rooms

module _ (items : List ℕ) (rooms : List Room) (are : AreRooms items rooms) where
  rooms_more : (more : List ℕ) (k : ℕ) → room_of (items ++ more) (get_or rooms k no_room) ≡ room_of items (get_or rooms k no_room)
  rooms_more more k =
      let lies = are.within k in
      between_more items more (get_or rooms k no_room).start (get_or rooms k no_room).stop lies.in_order (omega (arith, lies.used, lies.within))

  -- what is put at the end changes no list
  pub rooms_kept : (new : List ℕ) → Extends items new → map (room_of new) rooms ≡ map (room_of items) rooms
  rooms_kept new extends = ap (λ (l : List ℕ). map (room_of l) rooms) extends.grows ∙ map_same (room_of items) (room_of (items ++ extends.more)) rooms no_room (λ k lt. rooms_more extends.more k)

  pub rooms_wider : (new : List ℕ) → Extends items new → AreRooms new rooms
  rooms_wider new extends = record {
    within = λ k.
        let lies = are.within k in
        let size : length new ≡ length items + length extends.more = ap length extends.grows ∙ length-append items extends.more in
        record { in_order = lies.in_order; used = lies.used; within = omega (arith, lies.within, size) };
    apart = are.apart;
  }

  module _ (p : ℕ) (lt : p < length rooms) (room : Room) (is : room ≡ get_or rooms p no_room) where
    room_lies : IsRoomIn (length items) room
    room_lies = subst (IsRoomIn (length items)) (sym is) (are.within p)

    -- one more in the room
    pub pushed_in : (e : ℕ) → room.stop < room.end → map (room_of (set items room.stop e)) (set rooms p (record { start = room.start; stop = suc room.stop; end = room.end })) ≡ push_at (map (room_of items) rooms) p e
    pushed_in e free =
        map_set (room_of items) (room_of (set items room.stop e)) rooms p (record { start = room.start; stop = suc room.stop; end = room.end }) no_room others
        ∙ ap (set (map (room_of items) rooms) p) (between_next items room.start room.stop e room_lies.in_order (omega (arith, free, room_lies.within)) ∙ ap (λ (l : List ℕ). l ++ e ∷ []) here)
      where
        here : room_of items room ≡ list_at (map (room_of items) rooms) p
        here = ap (room_of items) is ∙ sym (get_or-map (room_of items) rooms p no_room [] lt)

        others : (k : ℕ) → k ≢ p → k < length rooms → room_of (set items room.stop e) (get_or rooms k no_room) ≡ room_of items (get_or rooms k no_room)
        others k other low =
            let lies = are.within k in
            between_apart items (get_or rooms k no_room).start (get_or rooms k no_room).stop room.stop e lies.in_order
            (elim (subst (λ (r : Room). AreApart r (get_or rooms k no_room)) (sym is) (are.apart p k (λ same. other (sym same)))) [
              | inl before ↦ inl (omega (arith, before, free))
              | inr behind ↦ inr (omega (arith, behind, lies.used, room_lies.in_order))
            ])

    -- one less
    pub popped : map (room_of items) (set rooms p (record { start = room.start; stop = room.stop - 1; end = room.end }))
        ≡ set (map (room_of items) rooms) p (take (length (list_at (map (room_of items) rooms) p) - 1) (list_at (map (room_of items) rooms) p))
    popped =
        map_set (room_of items) (room_of items) rooms p (record { start = room.start; stop = room.stop - 1; end = room.end }) no_room (λ k other low. refl)
        ∙ ap (set (map (room_of items) rooms) p) (between_less items room.start room.stop (omega (arith, room_lies.used, room_lies.within)) ∙ ap (λ (l : List ℕ). take (length l - 1) l) here)
      where
        here : room_of items room ≡ list_at (map (room_of items) rooms) p
        here = ap (room_of items) is ∙ sym (get_or-map (room_of items) rooms p no_room [] lt)

    pub unpopped : room.stop ≤ room.start → map (room_of items) rooms ≡ set (map (room_of items) rooms) p (take (length (list_at (map (room_of items) rooms) p) - 1) (list_at (map (room_of items) rooms) p))
    unpopped empty = sym (ap (set (map (room_of items) rooms) p) (subst (λ (l : List ℕ). take (length l - 1) l ≡ l) here (nothing (room_of items room) none)) ∙ set_self (map (room_of items) rooms) p)
      where
        here : room_of items room ≡ list_at (map (room_of items) rooms) p
        here = ap (room_of items) is ∙ sym (get_or-map (room_of items) rooms p no_room [] lt)

        none : length (room_of items room) ≡ 0
        none = length-between items room.start room.stop (omega (arith, room_lies.used, room_lies.within)) ∙ omega (arith, empty)

        nothing : (l : List ℕ) → length l ≡ 0 → take (length l - 1) l ≡ l
        nothing [] is = refl
        nothing (x ∷ l) is = absurd (omega (arith, is))

        set_self : (ls : List (List ℕ)) (k : ℕ) → set ls k (list_at ls k) ≡ ls
        set_self [] k = refl
        set_self (l ∷ ls) zero = refl
        set_self (l ∷ ls) (suc k) = ap (λ m. l ∷ m) (set_self ls k)

    -- the list moved to the end
    module _ (new : List ℕ) (e stop : ℕ) (moved : IsMoved items new (room_of items room ++ e ∷ []) stop) (next : Room) (next_is : next ≡ record { start = length items; stop = stop; end = length new }) where
      size : length new ≡ length items + (length (room_of items room ++ e ∷ []) + length moved.more)
      size = ap length moved.grows ∙ (length-append items ((room_of items room ++ e ∷ []) ++ moved.more) ∙ ap (λ (n : ℕ). length items + n) (length-append (room_of items room ++ e ∷ []) moved.more))

      pub moved_lists : map (room_of new) (set rooms p next) ≡ push_at (map (room_of items) rooms) p e
      moved_lists =
          map_set (room_of items) (room_of new) rooms p next no_room (λ k other low. ap (λ (l : List ℕ). room_of l (get_or rooms k no_room)) moved.grows ∙ rooms_more ((room_of items room ++ e ∷ []) ++ moved.more) k)
          ∙ ap (set (map (room_of items) rooms) p) (ap (room_of new) next_is ∙ (whole ∙ ap (λ (l : List ℕ). l ++ e ∷ []) here))
        where
          here : room_of items room ≡ list_at (map (room_of items) rooms) p
          here = ap (room_of items) is ∙ sym (get_or-map (room_of items) rooms p no_room [] lt)

          grown : new ≡ (items ++ (room_of items room ++ e ∷ [])) ++ moved.more
          grown = moved.grows ∙ sym (append_assoc items (room_of items room ++ e ∷ []) moved.more)

          whole : between new (length items) stop ≡ room_of items room ++ e ∷ []
          whole =
              let long = length-append items (room_of items room ++ e ∷ []) in
              ap (λ (l : List ℕ). between l (length items) stop) grown
              ∙ (between_more (items ++ (room_of items room ++ e ∷ [])) moved.more (length items) stop (omega (arith, moved.at)) (omega (arith, moved.at, long))
              ∙ between_last items (room_of items room ++ e ∷ []) (length items) stop refl moved.at)

      pub moved_rooms : AreRooms new (set rooms p next)
      moved_rooms = record { within = within; apart = apart }
        where
          fresh : next.start ≡ length items
          fresh = ap (λ (r : Room). r.start) next_is

          was : (k : ℕ) → k ≢ p → get_or (set rooms p next) k no_room ≡ get_or rooms k no_room
          was k other = get_or-set_other rooms p k next no_room other

          this : (k : ℕ) → p ≡ k → get_or (set rooms p next) k no_room ≡ next
          this k same = subst (λ (n : ℕ). get_or (set rooms p next) n no_room ≡ next) same (get_or-set_same rooms p next no_room lt)

          next_lies : IsRoomIn (length new) next
          next_lies = subst (IsRoomIn (length new)) (sym next_is) record {
            in_order = omega (arith, moved.at);
            used = omega (arith, moved.at, size);
            within = omega arith;
          }

          wider : (k : ℕ) → IsRoomIn (length new) (get_or rooms k no_room)
          wider k = let lies = are.within k in record { in_order = lies.in_order; used = lies.used; within = omega (arith, lies.within, size) }

          within : (k : ℕ) → IsRoomIn (length new) (get_or (set rooms p next) k no_room)
          within k = elim (same_or_other p k) [
            | inl same ↦ subst (IsRoomIn (length new)) (sym (this k (sym same))) next_lies
            | inr other ↦ subst (IsRoomIn (length new)) (sym (was k other)) (wider k)
          ]

          apart : (j k : ℕ) → j ≢ k → AreApart (get_or (set rooms p next) j no_room) (get_or (set rooms p next) k no_room)
          apart j k differ = elim (same_or_other p j) [
            | inl j_here ↦
                let k_else : k ≢ p = λ same. differ (j_here ∙ sym same) in
                let lies = are.within k in
                subst (λ (r : Room). AreApart r (get_or (set rooms p next) k no_room)) (sym (this j (sym j_here)))
                (subst (λ (r : Room). AreApart next r) (sym (was k k_else)) (inr (omega (arith, lies.within, fresh))))
            | inr j_else ↦ elim (same_or_other p k) [
              | inl k_here ↦
                  let lies = are.within j in
                  subst (λ (r : Room). AreApart (get_or (set rooms p next) j no_room) r) (sym (this k (sym k_here)))
                  (subst (λ (r : Room). AreApart r next) (sym (was j j_else)) (inl (omega (arith, lies.within, fresh))))
              | inr k_else ↦
                  subst (λ (r : Room). AreApart r (get_or (set rooms p next) k no_room)) (sym (was j j_else))
                  (subst (λ (r : Room). AreApart (get_or rooms j no_room) r) (sym (was k k_else)) (are.apart j k differ))
            ]
          ]

-- ---- views

abbrev room_made : ℕ → ℕ → ℕ → Room
room_made start stop end = record { start = start; stop = stop; end = end }

view_length : (items : List ℕ) (rooms : List Room) (view : List (List ℕ)) → map (room_of items) rooms ≡ view → length view ≡ length rooms
view_length items rooms view is = ap length (sym is) ∙ length-map rooms (room_of items)

module _ (items : List ℕ) (rooms : List Room) (are : AreRooms items rooms) (view : List (List ℕ)) (is : map (room_of items) rooms ≡ view) (path place : ℕ) (same : place ≡ path) (lt : path < length view) (room : Room) (at : room ≡ get_or rooms place room) where
  in_rooms : place < length rooms
  in_rooms = let long = view_length items rooms view is in omega (arith, same, lt, long)

  at_none : room ≡ get_or rooms place no_room
  at_none = at ∙ get_or_default rooms place room no_room in_rooms

  pub lies_in : IsRoomIn (length items) room
  lies_in = subst (IsRoomIn (length items)) (sym at_none) (are.within place)

  -- the room may have been looked at twice
  pub push_view : (e : ℕ) (again : Room) → again ≡ get_or rooms place again → room.stop < room.end → map (room_of (set items room.stop e)) (set rooms place (room_made again.start (room.stop + 1) again.end)) ≡ push_at view path e
  push_view e again is_again free =
      let next : room.stop + 1 ≡ suc room.stop = omega arith in
      let seen : again ≡ room = is_again ∙ (get_or_default rooms place again no_room in_rooms ∙ sym at_none) in
      ap (λ (r : Room). map (room_of (set items room.stop e)) (set rooms place (room_made r.start (room.stop + 1) r.end))) seen
      ∙ (ap (λ (n : ℕ). map (room_of (set items room.stop e)) (set rooms place (room_made room.start n room.end))) next
      ∙ (pushed_in items rooms are place in_rooms room at_none e free ∙ (ap (λ (v : List (List ℕ)). push_at v place e) is ∙ ap (λ (n : ℕ). push_at view n e) same)))

  pub pop_view : map (room_of items) (set rooms place (room_made room.start (room.stop - 1) room.end)) ≡ set view path (take (length (list_at view path) - 1) (list_at view path))
  pop_view =
      popped items rooms are place in_rooms room at_none
      ∙ (ap (λ (v : List (List ℕ)). set v place (take (length (list_at v place) - 1) (list_at v place))) is ∙ ap (λ (n : ℕ). set view n (take (length (list_at view n) - 1) (list_at view n))) same)

  pub unpop_view : room.stop ≤ room.start → view ≡ set view path (take (length (list_at view path) - 1) (list_at view path))
  unpop_view empty =
      sym is ∙ (unpopped items rooms are place in_rooms room at_none empty
      ∙ (ap (λ (v : List (List ℕ)). set v place (take (length (list_at v place) - 1) (list_at v place))) is ∙ ap (λ (n : ℕ). set view n (take (length (list_at view n) - 1) (list_at view n))) same))

  module _ (new : List ℕ) (e start stop end : ℕ) (moved : IsMoved items new (between items room.start room.stop ++ e ∷ []) stop) (from : start ≡ length items) (to : end ≡ length new) where
    next_is : room_made start stop end ≡ room_made (length items) stop (length new)
    next_is = ap (λ (n : ℕ). room_made n stop end) from ∙ ap (λ (n : ℕ). room_made (length items) stop n) to

    pub move_view : map (room_of new) (set rooms place (room_made start stop end)) ≡ push_at view path e
    move_view =
        moved_lists items rooms are place in_rooms room at_none new e stop moved (room_made start stop end) next_is
        ∙ (ap (λ (v : List (List ℕ)). push_at v place e) is ∙ ap (λ (n : ℕ). push_at view n e) same)

    pub move_rooms : AreRooms new (set rooms place (room_made start stop end))
    move_rooms = moved_rooms items rooms are place in_rooms room at_none new e stop moved (room_made start stop end) next_is

-- what a refused move leaves
pub kept_view : (items new : List ℕ) (rooms : List Room) (view : List (List ℕ)) → AreRooms items rooms → map (room_of items) rooms ≡ view → Extends items new → map (room_of new) rooms ≡ view
kept_view items new rooms view are is extends = rooms_kept items rooms are new extends ∙ is

-- a sum that is below the bound at which it would stay
pub unsaturated : (sum size : ℕ) → size ≡ min sum 18446744073709551615 → size < 2 ^ 63 → size ≡ sum
unsaturated sum size is low = omega (arith, is, low)

-- a move into more room
pub moved_over : (old wide new : List ℕ) (start stop count extra size e at : ℕ) → start ≤ stop → stop ≤ length old → count ≡ stop - start → size ≡ length old + count + 1 + extra
    → wide ≡ take size old ++ replicate (size - length old) e → new ≡ take (length old) wide ++ (between wide start stop ++ drop (length old + count) wide)
    → at ≡ length old + count + 1 → IsMoved old new (between old start stop ++ e ∷ []) at
moved_over old wide new start stop count extra size e at order fits is_count is_size is_wide is_new is_at = record {
  more = replicate extra e;
  grows = is_new ∙ (ap (λ (l : List ℕ). l ++ (between wide start stop ++ drop (length old + count) wide)) front ∙ ap (λ (l : List ℕ). old ++ l) behind);
  at = let list = length-append (between old start stop) (e ∷ []) in let long = length-between old start stop fits in is_at ∙ omega (arith, list, long, is_count);
}
  where
    fill : List ℕ
    fill = replicate (size - length old) e

    grown : wide ≡ old ++ fill
    grown = is_wide ∙ ap (λ (l : List ℕ). l ++ fill) (take_all size old (omega (arith, is_size)))

    front : take (length old) wide ≡ old
    front = ap (take (length old)) grown ∙ take-append_seam old fill

    left : (size - length old) - count ≡ suc extra
    left = omega (arith, is_size)

    rest : drop (length old + count) wide ≡ e ∷ replicate extra e
    rest = ap (drop (length old + count)) grown ∙ (drop-append-add old fill count ∙ (drop-replicate count (size - length old) e ∙ ap (λ (n : ℕ). replicate n e) left))

    behind : between wide start stop ++ drop (length old + count) wide ≡ (between old start stop ++ e ∷ []) ++ replicate extra e
    behind =
        ap (λ (l : List ℕ). between l start stop ++ drop (length old + count) wide) grown
        ∙ (ap (λ (l : List ℕ). l ++ drop (length old + count) wide) (between_more old fill start stop order fits)
        ∙ (ap (λ (l : List ℕ). between old start stop ++ l) rest ∙ sym (append_assoc (between old start stop) (e ∷ []) (replicate extra e))))

-- the first of a list, at the end
pub first_moved : (old new : List ℕ) (start stop e at : ℕ) → stop ≤ start → new ≡ old ++ e ∷ [] → at ≡ length new → IsMoved old new (between old start stop ++ e ∷ []) at
first_moved old new start stop e at none grown is_at = record {
  more = [];
  grows = grown ∙ ap (λ (l : List ℕ). old ++ l) (sym (append-nil (between old start stop ++ e ∷ []) ∙ alone));
  at = is_at ∙ (ap length grown ∙ (length-append old (e ∷ []) ∙ ap (λ (l : List ℕ). length old + length l) (sym alone)));
}
  where
    alone : between old start stop ++ e ∷ [] ≡ e ∷ []
    alone = let nothing : stop - start ≡ 0 = omega (arith, none) in ap (λ (n : ℕ). take n (drop start old) ++ e ∷ []) nothing
