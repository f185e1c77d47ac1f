-- What `clean` and `cleandead` do to a site.
use Rattle.std.specs.Prelude.{◌≡◌, ℕ, Bool, true, false, IfSome, List, [], ◌∷◌, Option, None}
use Rattle.std.specs.Borrow.{Bor}
use Rattle.model.specs.Calls.{OnlyLooks, WritesOrNot}
use Rattle.model.specs.Graph.{has}
use Rattle.model.specs.World.{World}

-- it looked, and then the file was removed, or that was refused
pub record IsRemoved (tells : Bool) (path : List ℕ) (old new : World) : Type 0 where
  pub before : World
  pub looks : OnlyLooks tells old before
  pub removes : WritesOrNot tells path None before new

-- so were the files at these paths, one after another; at the end it only looked
pub data AreRemoved (tells : Bool) : List (List ℕ) → World → World → Type 0 where
  NoMore : (old new : World) → OnlyLooks tells old new → AreRemoved tells [] old new
  OneMore : (path : List ℕ) (paths : List (List ℕ)) (old mid new : World) → IsRemoved tells path old mid → AreRemoved tells paths mid new → AreRemoved tells (path ∷ paths) old new

-- the same of one file; where it is only counted, nothing was done
abbrev pub RemovesOne : Bool → Bool → List ℕ → World → World → Type 0
RemovesOne tells true path old new = OnlyLooks tells old new
RemovesOne tells false path old new = IsRemoved tells path old new

-- all of them are among these
abbrev pub AreAmong : List (List ℕ) → List (List ℕ) → Type 0
AreAmong some paths = (path : List ℕ) → has some path ≡ true → has paths path ≡ true

-- Nothing was done but to remove some of these files, each of which is an edit between builds; where they are only counted, nothing at all.
abbrev pub RemovesOf : Bool → Bool → List (List ℕ) → World → World → Type 0
RemovesOf tells true paths old new = OnlyLooks tells old new
RemovesOf tells false paths old new = (gone : List (List ℕ)) × AreAmong gone paths × AreRemoved tells gone old new

-- so it is of any files among which this one is, if one is named
abbrev pub RemovesAmong : Bool → Bool → Option (Bor (List ℕ)) → World → World → Type 0
RemovesAmong tells only_count path old new = (paths : List (List ℕ)) → IfSome path (λ one. has paths one.now ≡ true) → RemovesOf tells only_count paths old new
