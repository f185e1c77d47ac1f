-- What is kept of the records of a log: which one is in force for each output.
use Rattle.std.specs.Prelude.{◌≡◌, ℕ, zero, suc, ◌+◌, ◌*◌, ◌<◌, ◌≤◌, ◌==◌, Bool, false, if◌then◌else◌, List, [], ◌∷◌, ◌++◌, Option, Some, None, map, filter, length, slice_get, string_bytes, String}
use Rattle.std.specs.List.{AllByRecursion, list_any}
use Rattle.model.specs.Graph.{has, StandsTwice}

-- what a record says of its outputs; None where from here on nothing is in force for them
abbrev pub Saying : Type 0 → Type 0
Saying T = List (List ℕ) × Option T

-- a record that tells something of its outputs
abbrev pub Telling : Type 0 → Type 0
Telling T = List (List ℕ) × T

-- no path stands in the list twice
abbrev pub AreDistinct : List (List ℕ) → Type 0
AreDistinct paths = (p : List ℕ) → StandsTwice paths p → ⊥

abbrev pub told_from : {T : Type 0} → List ℕ → Option T → List (Saying T) → Option T
told_from o held [] = held
told_from o held (s ∷ rest) = told_from o (if has s.0 o then s.1 else held) rest

-- what is in force for an output: what the last record that names it tells
abbrev pub told_of : {T : Type 0} → List (Saying T) → List ℕ → Option T
told_of all o = told_from o None all

-- the records that tell something, in order: the number of one is its place here, from 0
abbrev pub tellings : {T : Type 0} → List (Saying T) → List (Telling T)
tellings [] = []
tellings ((outputs, None) ∷ rest) = tellings rest
tellings ((outputs, Some told) ∷ rest) = (outputs, told) ∷ tellings rest

-- what they tell, in order
abbrev pub tolds : {T : Type 0} → List (Saying T) → List T
tolds all = map (λ t. t.1) (tellings all)

abbrev pub place_from : {T : Type 0} → List ℕ → Option ℕ → ℕ → List (Saying T) → Option ℕ
place_from o held n [] = held
place_from o held n ((outputs, None) ∷ rest) = place_from o (if has outputs o then None else held) n rest
place_from o held n ((outputs, Some told) ∷ rest) = place_from o (if has outputs o then Some n else held) (n + 1) rest

-- the number of the record in force for an output: the last one that names it
abbrev pub place_of : {T : Type 0} → List (Saying T) → List ℕ → Option ℕ
place_of all o = place_from o None 0 all

abbrev pub is_place : ℕ → Option ℕ → Bool
is_place n None = false
is_place n (Some m) = m == n

-- those of these outputs for which the record with this number is in force
abbrev pub left_to : {T : Type 0} → List (Saying T) → ℕ → List (List ℕ) → List (List ℕ)
left_to all n outputs = filter (λ o. is_place n (place_of all o)) outputs

-- the outputs of the record with this number
abbrev pub outputs_at : {T : Type 0} → List (Telling T) → ℕ → List (List ℕ)
outputs_at [] n = []
outputs_at (t ∷ rest) zero = t.0
outputs_at (t ∷ rest) (suc n) = outputs_at rest n

-- those of its outputs for which the record with this number is in force
abbrev pub outputs_left : {T : Type 0} → List (Saying T) → ℕ → List (List ℕ)
outputs_left all n = left_to all n (outputs_at (tellings all) n)

-- whether it is in force for one of them
abbrev pub is_left : {T : Type 0} → List (Saying T) → ℕ → Bool
is_left all n = list_any (λ o. is_place n (place_of all o)) (outputs_at (tellings all) n)

abbrev pub some_of : {T : Type 0} → List (List ℕ) → T → List (Telling T)
some_of [] told = []
some_of (o ∷ os) told = (o ∷ os, told) ∷ []

abbrev pub in_force_from : {T : Type 0} → List (Saying T) → ℕ → List (Telling T) → List (Telling T)
in_force_from all n [] = []
in_force_from all n (t ∷ rest) = some_of (left_to all n t.0) t.1 ++ in_force_from all (n + 1) rest

-- the records in force in their order, each with those of its outputs for which it is in force: one at least
abbrev pub in_force_of : {T : Type 0} → List (Saying T) → List (Telling T)
in_force_of all = in_force_from all 0 (tellings all)

-- these records, each of which tells something
abbrev pub sayings_of : {T : Type 0} → List (Telling T) → List (Saying T)
sayings_of tells = map (λ t. (t.0, Some t.1)) tells

-- the records in force tell of each output what all records tell
abbrev pub InForceKeeps : Type 0 → Type 0
InForceKeeps T = (all : List (Saying T)) (o : List ℕ) → told_of (sayings_of (in_force_of all)) o ≡ told_of all o

-- what is kept: outputs and other texts by number, the number of the record in force for each, the records that tell something with
-- numbers in place of outputs, and how many records there were
pub record Table (T : Type 0) : Type 0 where
  pub outputs : List (List ℕ)
  pub in_force : List (Option ℕ)
  pub told : List (List ℕ × T)
  pub records : ℕ

abbrev pub joined : {T : Type 0} → Option (Option T) → Option T
joined None = None
joined (Some o) = o

-- the numbers of these texts, in order
abbrev pub AreNumbersOf : List (List ℕ) → List ℕ → List (List ℕ) → Type 0
AreNumbersOf texts [] [] = Unit {0}
AreNumbersOf texts [] (t ∷ ts) = ⊥
AreNumbersOf texts (n ∷ ns) [] = ⊥
AreNumbersOf texts (n ∷ ns) (t ∷ ts) = (slice_get texts n ≡ Some t) × AreNumbersOf texts ns ts

abbrev pub if_some : Option (List ℕ) → List (List ℕ)
if_some None = []
if_some (Some t) = t ∷ []

-- the texts with these numbers; a number that is no text's gives none
abbrev pub texts_at : List (List ℕ) → List ℕ → List (List ℕ)
texts_at texts [] = []
texts_at texts (n ∷ ns) = if_some (slice_get texts n) ++ texts_at texts ns

-- these are the records that tell something, with numbers in place of outputs
abbrev pub AreTold : {T : Type 0} → List (List ℕ) → List (List ℕ × T) → List (Telling T) → Type 0
AreTold texts [] [] = Unit {0}
AreTold texts [] (t ∷ ts) = ⊥
AreTold texts (k ∷ ks) [] = ⊥
AreTold texts (k ∷ ks) (t ∷ ts) = AreNumbersOf texts k.0 t.0 × (k.1 ≡ t.1) × AreTold texts ks ts

-- what is kept stands for these records, none of which names an output twice
pub record IsTableOf {T : Type 0} (all : List (Saying T)) (table : Table T) : Type 0 where
  pub once : AllByRecursion (λ s. AreDistinct s.0) all
  pub distinct : AreDistinct table.outputs
  pub fits : length table.in_force ≡ length table.outputs
  pub place : (n : ℕ) (o : List ℕ) → slice_get table.outputs n ≡ Some o → joined (slice_get table.in_force n) ≡ place_of all o
  pub absent : (o : List ℕ) → has table.outputs o ≡ false → place_of all o ≡ None
  pub told : AreTold table.outputs table.told (tellings all)
  pub count : table.records ≡ length all

-- the number of the record in force for the output with this number
abbrev pub place_at : {T : Type 0} → Table T → ℕ → Option ℕ
place_at table number = joined (slice_get table.in_force number)

-- a log is to be compacted where it has at least 100 records, and more than half of them are not in force
pub record WantsCompaction (records in_force : ℕ) : Type 0 where
  pub many : 100 ≤ records
  pub half : 2 * in_force < records

abbrev pub texts_of : {Z : Type 0} → List (String Z) → List (List ℕ)
texts_of = map string_bytes
