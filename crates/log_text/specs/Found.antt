-- Records in force as they are handed out.
use Rattle.std.specs.Prelude.{◌≡◌, ◌<◌, ℕ, List, [], ◌∷◌, ◌++◌, Some, map, length, slice_get, if◌then◌else◌}
use Rattle.std.specs.List.{AllByRecursion}
use Rattle.std.specs.Borrow.{Bor}
use Rattle.log_text.specs.Kept.{Saying, Telling, AreDistinct, tolds, outputs_left, some_of, Table, IsTableOf, AreNumbersOf, left_to, is_place, place_at}

-- the texts that are borrowed
abbrev pub texts_in : List (Bor (List ℕ)) → List (List ℕ)
texts_in = map (λ o. o.now)

-- a record in force as it is handed out
abbrev pub Found : Type 0 → Type 0
Found T = List (Bor (List ℕ)) × Bor T

-- what these tell of which outputs
abbrev pub tellings_in : {T : Type 0} → List (Found T) → List (Telling T)
tellings_in = map (λ t. (texts_in t.0, t.1.now))

-- an output is named, and none twice
abbrev pub IsNamed : {T : Type 0} → Found T → Type 0
IsNamed t = (0 < length (texts_in t.0)) × AreDistinct (texts_in t.0)

-- so it is in each
abbrev pub AreNamed : {T : Type 0} → List (Found T) → Type 0
AreNamed = AllByRecursion IsNamed

-- ---- one more

-- where the record with this number tells this, it was put behind the old ones, if it is in force for an output
abbrev pub PutsTold : {T : Type 0} → List (Saying T) → ℕ → T → List (Telling T) → List (Telling T) → Type 0
PutsTold all n told old new = slice_get (tolds all) n ≡ Some told → new ≡ old ++ some_of (outputs_left all n) told

abbrev pub PutsFound : {T : Type 0} → Table T → ℕ → List (Found T) → List (Found T) → Type 0
PutsFound {T} table n old new =
    (all : List (Saying T)) (told : T) → IsTableOf all table → PutsTold all n told (tellings_in old) (tellings_in new)

-- the output with this number, where the record is in force for it
abbrev pub if_left : {T : Type 0} → Table T → ℕ → ℕ → List ℕ → List (List ℕ)
if_left table n number o = if is_place n (place_at table number) then o ∷ [] else []

-- it was put behind the old ones
abbrev pub PutsLeft : {T : Type 0} → Table T → ℕ → ℕ → List (Bor (List ℕ)) → List (Bor (List ℕ)) → Type 0
PutsLeft table n number old new =
    (o : List ℕ) → slice_get table.outputs number ≡ Some o → texts_in new ≡ texts_in old ++ if_left table n number o

-- where these outputs have these numbers, those are left for which the record is in force
abbrev pub LeavesTo : {T : Type 0} → List (Saying T) → List (List ℕ) → ℕ → List ℕ → List (List ℕ) → List (Bor (List ℕ)) → Type 0
LeavesTo all texts n numbers outputs left = AreNumbersOf texts numbers outputs → texts_in left ≡ left_to all n outputs

abbrev pub Leaves : {T : Type 0} → Table T → ℕ → List ℕ → List (Bor (List ℕ)) → Type 0
Leaves {T} t n numbers left = (all : List (Saying T)) (os : List (List ℕ)) → IsTableOf all t → LeavesTo all t.outputs n numbers os left
