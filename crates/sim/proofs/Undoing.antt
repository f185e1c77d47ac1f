-- A history by what the paths hold now and what they held before each write.
use Rattle.std.proofs.Common.{◌≡◌, ℕ, suc, ◌+◌, ◌-◌, Bool, true, false, List, [], ◌∷◌, ◌++◌, Option, Some, None, refl, sym, ◌∙◌, ap, cond, bytes_eq, length, take, arith}
use Rattle.std.proofs.lemmas.List.{length-append}
use Rattle.std.proofs.lemmas.Slice.Eq.{bytes_eq-Decides}
use Rattle.model.specs.declared.event.Event.{Event}
use Rattle.model.specs.declared.event.Moment.{Moment}
use Rattle.model.specs.declared.event.Moment.TheVariants.{Wrote, Happened}
use Rattle.model.specs.declared.event.Writer.{Writer}
use Rattle.model.specs.World.{File, file_after, file_from, file_at}
use Rattle.sim.specs.declared.notes.Before.{Before}
use Rattle.sim.specs.declared.notes.Last.{Last}
use Rattle.sim.specs.declared.notes.Note.{Note}
use Rattle.sim.specs.declared.notes.Note.TheVariants.{Change, Came}
use Rattle.sim.specs.Notes.{Lasts, content_in, stamp_in, file_in, reverted, undone, all_undone, moment_of, told, IsWritten}

-- ---- one note more

pub all_undone-push : (notes : List Note) (note : Note) (lasts : Lasts) → all_undone (notes ++ note ∷ []) lasts ≡ all_undone notes (undone note lasts)
all_undone-push [] note lasts = refl
all_undone-push (n ∷ notes) note lasts = ap (undone n) (all_undone-push notes note lasts)

pub told-push : (notes : List Note) (note : Note) (lasts : Lasts) → told (notes ++ note ∷ []) lasts ≡ told notes (undone note lasts) ++ moment_of note lasts ∷ []
told-push [] note lasts = refl
told-push (n ∷ notes) note lasts = λ i. moment_of n (all_undone-push notes note lasts i) ∷ told-push notes note lasts i

pub length-told : (notes : List Note) (lasts : Lasts) → length (told notes lasts) ≡ length notes
length-told [] lasts = refl
length-told (n ∷ notes) lasts = ap suc (length-told notes lasts)

-- ---- the files

after_note : (p : List ℕ) (note : Note) (lasts : Lasts) → file_after p (file_in (undone note lasts p)) (moment_of note lasts) ≡ file_in (lasts p)
after_note p (Change by path before) lasts = by_test (bytes_eq path p) refl
  where
    by_test : (b : Bool) → bytes_eq path p ≡ b → cond b (file_in (lasts path)) (file_in (cond b (reverted before (lasts p)) (lasts p))) ≡ file_in (lasts p)
    by_test true same = ap (λ (q : List ℕ). file_in (lasts q)) ((bytes_eq-Decides path p).0 same)
    by_test false other = refl
after_note p (Came event) lasts = refl

after_notes : (p : List ℕ) (notes : List Note) (lasts : Lasts) → file_from p (file_in (all_undone notes lasts p)) (told notes lasts) ≡ file_in (lasts p)
after_notes p [] lasts = refl
after_notes p (note ∷ notes) lasts = ap (λ (file : Option File). file_from p file (told notes lasts)) (after_note p note (all_undone notes lasts)) ∙ after_notes p notes lasts

-- a file is what the last write left
pub file_told : (p : List ℕ) (notes : List Note) (lasts : Lasts) → all_undone notes lasts p ≡ None → file_in (lasts p) ≡ file_at (told notes lasts) p
file_told p notes lasts nothing = sym (after_notes p notes lasts) ∙ ap (λ (last : Option Last). file_from p (file_in last) (told notes lasts)) nothing

-- ---- a write more

restored : (before : Before) (path : List ℕ) (last : Last) (old new : Lasts) (p : List ℕ) → IsWritten before path last old new → cond (bytes_eq path p) (reverted before (new p)) (new p) ≡ old p
restored before path last old new p writes = by_test (bytes_eq path p) refl (writes.leaves p)
  where
    by_test : (b : Bool) → bytes_eq path p ≡ b → new p ≡ cond b (Some last) (old p) → cond b (reverted before (new p)) (new p) ≡ old p
    by_test true same left = ap (reverted before) left ∙ writes.held ∙ ap old ((bytes_eq-Decides path p).0 same)
    by_test false other left = left

pub write_undone : (by : Writer) (before : Before) (path : List ℕ) (last : Last) (old new : Lasts) → IsWritten before path last old new → undone (Change by path before) new ≡ old
write_undone by before path last old new writes = λ i p. restored before path last old new p writes i

write_told : (by : Writer) (before : Before) (path : List ℕ) (last : Last) (old new : Lasts) → IsWritten before path last old new → moment_of (Change by path before) new ≡ Wrote by path last.content last.stamp
write_told by before path last old new writes =
    ap (λ (l : Option Last). Wrote by path (content_in l) (stamp_in l)) (writes.leaves path ∙ ap (λ (b : Bool). cond b (Some last) (old path)) ((bytes_eq-Decides path path).1 refl))

-- notes and what the paths hold, before and after a write
pub told_write : (by : Writer) (before : Before) (path : List ℕ) (last : Last) (old new : Lasts) (notes reserved all : List Note) → IsWritten before path last old new → reserved ≡ notes → all ≡ reserved ++ Change by path before ∷ []
    → told all new ≡ told notes old ++ Wrote by path last.content last.stamp ∷ []
told_write by before path last old new notes reserved all writes same more =
    ap (λ (ns : List Note). told ns new) (more ∙ ap (λ (ns : List Note). ns ++ Change by path before ∷ []) same) ∙ told-push notes (Change by path before) new
    ∙ (λ i. told notes (write_undone by before path last old new writes i) ++ write_told by before path last old new writes i ∷ [])

pub whole_write : (p : List ℕ) (by : Writer) (before : Before) (path : List ℕ) (last : Last) (old new : Lasts) (notes reserved all : List Note) → IsWritten before path last old new → reserved ≡ notes → all ≡ reserved ++ Change by path before ∷ []
    → all_undone notes old p ≡ None → all_undone all new p ≡ None
whole_write p by before path last old new notes reserved all writes same more nothing =
    ap (λ (ns : List Note). all_undone ns new p) (more ∙ ap (λ (ns : List Note). ns ++ Change by path before ∷ []) same) ∙ ap (λ (l : Lasts). l p) (all_undone-push notes (Change by path before) new)
    ∙ ap (λ (l : Lasts). all_undone notes l p) (write_undone by before path last old new writes) ∙ nothing

-- ---- a start or an end more

pub told_event : (event : Event) (lasts : Lasts) (notes reserved all : List Note) → reserved ≡ notes → all ≡ reserved ++ Came event ∷ [] → told all lasts ≡ told notes lasts ++ Happened event ∷ []
told_event event lasts notes reserved all same more = ap (λ (ns : List Note). told ns lasts) (more ∙ ap (λ (ns : List Note). ns ++ Came event ∷ []) same) ∙ told-push notes (Came event) lasts

pub whole_event : (p : List ℕ) (event : Event) (lasts : Lasts) (notes reserved all : List Note) → reserved ≡ notes → all ≡ reserved ++ Came event ∷ [] → all_undone notes lasts p ≡ None → all_undone all lasts p ≡ None
whole_event p event lasts notes reserved all same more nothing =
    ap (λ (ns : List Note). all_undone ns lasts p) (more ∙ ap (λ (ns : List Note). ns ++ Came event ∷ []) same) ∙ ap (λ (l : Lasts). l p) (all_undone-push notes (Came event) lasts) ∙ nothing

-- ---- nothing more

pub told_same : (old new : Lasts) (notes reserved : List Note) → reserved ≡ notes → ((p : List ℕ) → new p ≡ old p) → told reserved new ≡ told notes old
told_same old new notes reserved same stays = λ i. told (same i) (λ p. stays p i)

pub whole_same : (p : List ℕ) (old new : Lasts) (notes reserved : List Note) → reserved ≡ notes → ((p : List ℕ) → new p ≡ old p) → all_undone notes old p ≡ None → all_undone reserved new p ≡ None
whole_same p old new notes reserved same stays nothing = (λ i. all_undone (same i) (λ q. stays q i) p) ∙ nothing

-- ---- one note less

take_all : (front : List Moment) (moment : Moment) → take (length front) (front ++ moment ∷ []) ≡ front
take_all [] moment = refl
take_all (m ∷ front) moment = ap (λ (h : List Moment). m ∷ h) (take_all front moment)

take_front : (front : List Moment) (moment : Moment) → take (length (front ++ moment ∷ []) - 1) (front ++ moment ∷ []) ≡ front
take_front front moment =
    let one : length (front ++ moment ∷ []) ≡ length front + 1 = length-append front (moment ∷ []) in
    let less : length (front ++ moment ∷ []) - 1 ≡ length front = omega (arith, one) in
    ap (λ (n : ℕ). take n (front ++ moment ∷ [])) less ∙ take_all front moment

pub told_less : (note : Note) (old new : Lasts) (notes front : List Note) → notes ≡ front ++ note ∷ [] → ((p : List ℕ) → new p ≡ undone note old p) → told front new ≡ take (length (told notes old) - 1) (told notes old)
told_less note old new notes front last back =
    ap (told front) (λ i p. back p i) ∙ sym (take_front (told front (undone note old)) (moment_of note old))
    ∙ ap (λ (h : List Moment). take (length h - 1) h) (sym (ap (λ (ns : List Note). told ns old) last ∙ told-push front note old))

pub whole_less : (p : List ℕ) (note : Note) (old new : Lasts) (notes front : List Note) → notes ≡ front ++ note ∷ [] → ((p : List ℕ) → new p ≡ undone note old p) → all_undone notes old p ≡ None → all_undone front new p ≡ None
whole_less p note old new notes front last back nothing =
    ap (λ (l : Lasts). all_undone front l p) (λ i q. back q i) ∙ ap (λ (l : Lasts). l p) (sym (ap (λ (ns : List Note). all_undone ns old) last ∙ all_undone-push front note old)) ∙ nothing

-- the note's path as it was handed over
pub undone_at : (p : List ℕ) (note : Note) (by : Writer) (path given : List ℕ) (before : Before) (old new : Lasts) → note ≡ Change by path before → given ≡ path → new p ≡ cond (bytes_eq given p) (reverted before (old p)) (old p) → new p ≡ undone note old p
undone_at p note by path given before old new is same back = back ∙ (λ i. cond (bytes_eq (same i) p) (reverted before (old p)) (old p)) ∙ sym (ap (λ (n : Note). undone n old p) is)

pub untouched : (p : List ℕ) (note : Note) (event : Event) (lasts : Lasts) → note ≡ Came event → lasts p ≡ undone note lasts p
untouched p note event lasts is = sym (ap (λ (n : Note). undone n lasts p) is)
