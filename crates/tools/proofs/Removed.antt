-- Files that are removed one after another.
use Rattle.std.proofs.Common.{◌≡◌, ◌⊎◌, inl, inr, ℕ, zero, suc, Bool, true, false, List, [], ◌∷◌, ◌++◌, Option, Some, None, IfSome, slice_get, sym, subst}
use Rattle.std.specs.Map.Iter.{deref}
use Rattle.std.specs.Option.{option_map}
use denote.Ref.{Bor}
use Rattle.model.specs.Calls.{OnlyLooks, WritesOrNot}
use Rattle.model.specs.Graph.{has}
use Rattle.model.specs.World.{World}
use Rattle.theory.proofs.Looks.{looks_nothing, looks_then}
use Rattle.tools.specs.Moves.{AreAmong, AreRemoved, IsRemoved, NoMore, OneMore, RemovesOf, RemovesOne}
use Rattle.tools.proofs.Adding.{has_cases, has_either, has_first, has_later}

-- one more at the end
removed_more : (tells : Bool) (gone : List (List ℕ)) (path : List ℕ) (old mid new : World) → AreRemoved tells gone old mid → IsRemoved tells path mid new → AreRemoved tells (gone ++ path ∷ []) old new
removed_more tells gone path old mid new (NoMore _ _ looks) one =
    OneMore path [] old new new (record { before = one.before; looks = looks_then tells old mid one.before looks one.looks; removes = one.removes }) (NoMore new new (looks_nothing tells new))
removed_more tells gone path old mid new (OneMore first rest _ between _ removed further) one = OneMore first (rest ++ path ∷ []) old between new removed (removed_more tells rest path between mid new further one)

pub removes_none : (tells only_count : Bool) (paths : List (List ℕ)) (world : World) → RemovesOf tells only_count paths world world
removes_none tells true paths world = looks_nothing tells world
removes_none tells false paths world = ([], λ path h. absurd (not_true h), NoMore world world (looks_nothing tells world))
  where
    not_true : false ≡ true → ⊥
    not_true h = cc

-- one of the paths more
pub removes_more : (tells only_count : Bool) (paths : List (List ℕ)) (path : List ℕ) (old mid new : World) → has paths path ≡ true → RemovesOf tells only_count paths old mid → RemovesOne tells only_count path mid new → RemovesOf tells only_count paths old new
removes_more tells true paths path old mid new is before one = looks_then tells old mid new before one
removes_more tells false paths path old mid new is before one = (
  before.0 ++ path ∷ [],
  λ other h. elim (has_cases before.0 path other h) [
    | inl was ↦ before.1 other was
    | inr now ↦ subst (λ (q : List ℕ). has paths q ≡ true) now is
  ],
  removed_more tells before.0 path old mid new before.2 one,
)

pub has_at : (paths : List (List ℕ)) (i : ℕ) (path : List ℕ) → slice_get paths i ≡ Some path → has paths path ≡ true
has_at [] i path is = absurd (cc)
has_at (first ∷ paths) zero path is = let same : Some first ≡ Some path = is in first_has first path paths cc
  where
    first_has : (first path : List ℕ) (paths : List (List ℕ)) → first ≡ path → has (first ∷ paths) path ≡ true
    first_has first path paths same = subst (λ (q : List ℕ). has (first ∷ paths) q ≡ true) same (has_first first paths)
has_at (first ∷ paths) (suc i) path is = has_later first path paths (has_at paths i path is)

-- ---- one file

pub removes_nothing : (tells only_count : Bool) (path : List ℕ) (old new : World) → OnlyLooks tells old new → RemovesOne tells only_count path old new
removes_nothing tells true path old new looks = looks
removes_nothing tells false path old new looks = record { before = new; looks = looks; removes = inl (looks_nothing tells new) }

pub removes_one : (tells only_count : Bool) (path : List ℕ) (old mid new : World) → only_count ≡ false → OnlyLooks tells old mid → WritesOrNot tells path None mid new → RemovesOne tells only_count path old new
removes_one tells true path old mid new not looks removes = absurd (cc)
removes_one tells false path old mid new not looks removes = record { before = mid; looks = looks; removes = removes }

-- ---- one after the other

looked_before : (tells : Bool) (gone : List (List ℕ)) (old mid new : World) → OnlyLooks tells old mid → AreRemoved tells gone mid new → AreRemoved tells gone old new
looked_before tells gone old mid new looks (NoMore _ _ more) = NoMore old new (looks_then tells old mid new looks more)
looked_before tells gone old mid new looks (OneMore path rest _ next _ removed further) =
    OneMore path rest old next new (record { before = removed.before; looks = looks_then tells old mid removed.before looks removed.looks; removes = removed.removes }) further

removed_then : (tells : Bool) (one two : List (List ℕ)) (old mid new : World) → AreRemoved tells one old mid → AreRemoved tells two mid new → AreRemoved tells (one ++ two) old new
removed_then tells one two old mid new (NoMore _ _ looks) after = looked_before tells two old mid new looks after
removed_then tells one two old mid new (OneMore path rest _ next _ removed further) after = OneMore path (rest ++ two) old next new removed (removed_then tells rest two next mid new further after)

pub removes_then : (tells only_count : Bool) (paths : List (List ℕ)) (old mid new : World) → RemovesOf tells only_count paths old mid → RemovesOf tells only_count paths mid new → RemovesOf tells only_count paths old new
removes_then tells true paths old mid new first second = looks_then tells old mid new first second
removes_then tells false paths old mid new first second = (first.0 ++ second.0, λ path h. by path (has_either first.0 second.0 path h), removed_then tells first.0 second.0 old mid new first.2 second.2)
  where
    by : (path : List ℕ) → (has first.0 path ≡ true) ⊎ (has second.0 path ≡ true) → has paths path ≡ true
    by path (inl one) = first.1 path one
    by path (inr two) = second.1 path two

-- one file at a place, if there is one
pub some_has : (paths : List (List ℕ)) (i : ℕ) (o : Option (Bor (List ℕ))) → option_map deref o ≡ slice_get paths i → IfSome o (λ one. has paths one.now ≡ true)
some_has paths i None is = tt
some_has paths i (Some text) is = has_at paths i text.now (sym is)

pub removes_here : (tells only_count : Bool) (paths : List (List ℕ)) (path : List ℕ) (old new : World) → has paths path ≡ true → RemovesOne tells only_count path old new → RemovesOf tells only_count paths old new
removes_here tells only_count paths path old new is one = removes_more tells only_count paths path old old new is (removes_none tells only_count paths old) one
