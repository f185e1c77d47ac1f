-- What is said of who names a path, whatever is recorded, and of answers yes or no.
use Rattle.std.specs.Prelude.{ℕ, Bool, List, Result, IfOk, IsTrue, IsFalse}
use Rattle.paths.specs.declared.manifest.Manifest.{Manifest}
use Rattle.graph.specs.Held.{AreRecorded, AreUsers}

-- they are the users for some recorded inputs
abbrev pub IsUsedBy : Manifest → List (List ℕ) → Type 0
IsUsedBy manifest users = (recorded : List (List ℕ)) × AreRecorded manifest recorded × AreUsers manifest recorded users

-- for whatever recorded inputs they were the users, they are so now
abbrev pub StayUsed : Manifest → Manifest → List (List ℕ) → List (List ℕ) → Type 0
StayUsed old new was now = (recorded : List (List ℕ)) → AreRecorded old recorded → AreUsers old recorded was → AreUsers new recorded now

-- where the answer is yes, this is so
abbrev pub IfYes : {E : Type 0} → Result Bool E → Type 0 → Type 0
IfYes result P = IfOk result (λ is. IsTrue is → P)

-- where the answer is no, this is so
abbrev pub IfNo : {E : Type 0} → Result Bool E → Type 0 → Type 0
IfNo result P = IfOk result (λ is. IsFalse is → P)
