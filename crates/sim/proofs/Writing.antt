-- What a write leaves at its path, and how it is taken back.
use Rattle.std.proofs.Common.{◌≡◌, ℕ, Bool, true, false, List, Option, Some, None, Result, Ok, Err, IfOk, OnErr, refl, sym, ◌∙◌, ap, cond, bytes_eq, option_map, take}
use Rattle.std.proofs.lemmas.Slice.Eq.{bytes_eq-Decides}
use Rattle.sim.specs.declared.notes.Before.{Before}
use Rattle.sim.specs.declared.notes.Before.TheVariants.{Held, Beginning}
use Rattle.sim.specs.declared.notes.Last.{Last}
use Rattle.sim.specs.Notes.{Lasts, content_in, held_before, reverted, grown, IsWritten, IsGrown, IsExtended}

pub put_written : (bytes copy path : List ℕ) (before : Option Last) (last : Last) (old new : Lasts) → bytes ≡ copy → copy ≡ path → before ≡ old bytes → ((p : List ℕ) → new p ≡ cond (bytes_eq bytes p) (Some last) (old p))
    → IsWritten (Held before) path last old new
put_written bytes copy path before last old new same is_copy is puts = record {
  leaves = λ p. puts p ∙ (λ i. cond (bytes_eq ((same ∙ is_copy) i) p) (Some last) (old p));
  held = is ∙ ap old (same ∙ is_copy);
}

-- a file that holds the same leaves all as it was
stays : (path p : List ℕ) (at now : Last) (old new : Lasts) → now ≡ at → Some at ≡ old path → new p ≡ cond (bytes_eq path p) (Some now) (old p) → new p ≡ old p
stays path p at now old new same is puts = by_test (bytes_eq path p) refl puts
  where
    by_test : (b : Bool) → bytes_eq path p ≡ b → new p ≡ cond b (Some now) (old p) → new p ≡ old p
    by_test true here puts = puts ∙ ap Some same ∙ is ∙ ap old ((bytes_eq-Decides path p).0 here)
    by_test false other puts = puts

pub extended : {E : Type 0} → (path bytes : List ℕ) (stamp : ℕ) (result : Result (Option Before) E) (at now : Last) (old new : Lasts) → IfOk result (λ before. IsGrown before bytes stamp at now) → Some at ≡ old path
    → ((p : List ℕ) → new p ≡ cond (bytes_eq path p) (Some now) (old p)) → IfOk result (λ before. IsExtended before path bytes stamp old new)
extended path bytes stamp (Ok None) at now old new grows is puts = (sym (ap content_in is) ∙ grows.0, λ p. stays path p at now old new grows.1 is (puts p))
extended path bytes stamp (Ok (Some before)) at now old new grows is puts =
    let left : now ≡ grown bytes stamp (old path) = grows.0 ∙ ap (grown bytes stamp) is in
    record {
      leaves = λ p. puts p ∙ ap (λ (last : Last). cond (bytes_eq path p) (Some last) (old p)) left;
      held = sym (ap (held_before before) left) ∙ grows.1 ∙ is;
    }
extended path bytes stamp (Err error) at now old new grows is puts = tt

pub not_extended : {T E : Type 0} → (path : List ℕ) (result : Result T E) (at now : Last) (old new : Lasts) → OnErr result (now ≡ at) → Some at ≡ old path
    → ((p : List ℕ) → new p ≡ cond (bytes_eq path p) (Some now) (old p)) → OnErr result ((p : List ℕ) → new p ≡ old p)
not_extended path (Ok value) at now old new same is puts = tt
not_extended path (Err error) at now old new same is puts = λ p. stays path p at now old new same is (puts p)

-- ---- back

pub taken_back : (path p : List ℕ) (before : Before) (put : Option Last) (old new : Lasts) → put ≡ reverted before (old path) → new p ≡ cond (bytes_eq path p) put (old p) → new p ≡ cond (bytes_eq path p) (reverted before (old p)) (old p)
taken_back path p before put old new is puts = by_test (bytes_eq path p) refl puts
  where
    by_test : (b : Bool) → bytes_eq path p ≡ b → new p ≡ cond b put (old p) → new p ≡ cond b (reverted before (old p)) (old p)
    by_test true here puts = puts ∙ is ∙ ap (λ (q : List ℕ). reverted before (old q)) ((bytes_eq-Decides path p).0 here)
    by_test false other puts = puts

pub reverted_none : (before : Before) (held last : Option Last) → before ≡ Held held → held ≡ None → None ≡ reverted before last
reverted_none before held None is nothing = refl
reverted_none before held (Some last) is nothing = sym nothing ∙ sym (ap (λ (b : Before). held_before b last) is)

pub reverted_held : (before : Before) (held last : Option Last) (was at : Last) → before ≡ Held held → held ≡ Some was → Some at ≡ last → Some was ≡ reverted before last
reverted_held before held last was at is something listed = sym something ∙ sym (ap (λ (b : Before). held_before b at) is) ∙ ap (reverted before) listed

pub reverted_beginning : (before : Before) (length stamp : ℕ) (last : Option Last) (at now : Last) → before ≡ Beginning length stamp → now.content ≡ option_map (take length) at.content → now.stamp ≡ stamp → Some at ≡ last
    → Some now ≡ reverted before last
reverted_beginning before length stamp last at now is content stamped listed =
    (λ i. Some (record { content = content i; stamp = stamped i })) ∙ sym (ap (λ (b : Before). held_before b at) is) ∙ ap (reverted before) listed
