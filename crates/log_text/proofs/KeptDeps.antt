-- What is kept of the records, in the words of the model.
use Rattle.std.proofs.Common.{◌≡◌, ℕ, zero, suc, List, [], ◌∷◌, ◌++◌, length, map, Option, Some, None, slice_get, refl, sym, ap, ◌∙◌, subst, Bool, Result, Ok, Err}
use Rattle.std.specs.Prelude.{◌↔◌, IsTrue, OnOk, OnErr}
use Rattle.std.specs.Option.{option_and_then, option_map}
use Rattle.std.proofs.lemmas.List.{length-map}
use Rattle.model.specs.declared.record.DepsRecord.{DepsRecord}
use Rattle.model.specs.Records.{Told, deps_in_force}
use Rattle.log_text.specs.Kept.{Saying, Telling, Table, IsTableOf, AreNumbersOf, texts_at, if_some, told_of, tellings, in_force_of, WantsCompaction}
use Rattle.log_text.specs.Steps.{IsGrown}
use Rattle.log_text.specs.declared.deps.Deps.{Deps}
use Rattle.log_text.specs.DepsLog.{told_of_record, tolds, saying, deps_record, IsSaidBy, AreSaidBy, Keeps, told_in, compaction}
use Rattle.log_text.proofs.Sayings.{over, on, told_over, tellings_over, in_force_over, deps_told}

get_grown : (xs ys : List (List ℕ)) (n : ℕ) (t : List ℕ) → slice_get xs n ≡ Some t → slice_get (xs ++ ys) n ≡ Some t
get_grown [] ys n t is = cc
get_grown (x ∷ xs) ys zero t is = is
get_grown (x ∷ xs) ys (suc n) t is = get_grown xs ys n t is

numbers_grown : (xs ys : List (List ℕ)) (ns : List ℕ) (ts : List (List ℕ)) → AreNumbersOf xs ns ts → AreNumbersOf (xs ++ ys) ns ts
numbers_grown xs ys [] [] are = tt
numbers_grown xs ys [] (t ∷ ts) are = are
numbers_grown xs ys (n ∷ ns) [] are = are
numbers_grown xs ys (n ∷ ns) (t ∷ ts) are = (get_grown xs ys n t are.0, numbers_grown xs ys ns ts are.1)

said_grown : (xs ys : List (List ℕ)) (all : List (Saying Deps)) (records : List DepsRecord) → AreSaidBy xs all records → AreSaidBy (xs ++ ys) all records
said_grown xs ys [] [] are = tt
said_grown xs ys [] (r ∷ rs) are = are
said_grown xs ys (s ∷ all) [] are = are
said_grown xs ys ((os, None) ∷ all) (r ∷ rs) are = absurd are.0
said_grown xs ys ((os, Some deps) ∷ all) (r ∷ rs) are = ((are.0.0, are.0.1, numbers_grown xs ys deps.paths r.paths are.0.2), said_grown xs ys all rs are.1)

said_push : (xs : List (List ℕ)) (all : List (Saying Deps)) (records : List DepsRecord) (s : Saying Deps) (r : DepsRecord) → AreSaidBy xs all records → IsSaidBy xs s r → AreSaidBy xs (all ++ s ∷ []) (records ++ r ∷ [])
said_push xs [] [] s r are is = (is, tt)
said_push xs [] (q ∷ rs) s r are is = absurd are
said_push xs (p ∷ all) [] s r are is = absurd are
said_push xs (p ∷ all) (q ∷ rs) s r are is = (are.0, said_push xs all rs s r are.1 is)

-- the same records are kept where texts were added
pub keeps_same : {old new : Table Deps} → ((all : List (Saying Deps)) → IsTableOf all old → IsTableOf all new) → IsGrown old new → (records : List DepsRecord) → Keeps records old → Keeps records new
keeps_same {old = old} {new = new} same grown records keeps = record {
  all = keeps.all;
  table = same keeps.all keeps.table;
  said = subst (λ (xs : List (List ℕ)). AreSaidBy xs keeps.all records) (sym grown.outputs) (said_grown old.outputs grown.more keeps.all records keeps.said);
}

-- and one record more where it was put
pub keeps_more : {mid new : Table Deps} (outputs : List (List ℕ)) (start : ℕ) (numbers : List ℕ) (paths : List (List ℕ)) → AreNumbersOf mid.outputs numbers paths
    → ((all : List (Saying Deps)) → IsTableOf all mid → IsTableOf (all ++ (outputs, Some (record { start = start; paths = numbers })) ∷ []) new) → IsGrown mid new
    → (records : List DepsRecord) → Keeps records mid → Keeps (records ++ record { outputs = outputs; start = start; paths = paths } ∷ []) new
keeps_more {mid = mid} {new = new} outputs start numbers paths are put grown records keeps =
    let texts = mid.outputs ++ grown.more in
    let here : IsSaidBy texts (outputs, Some (record { start = start; paths = numbers })) (record { outputs = outputs; start = start; paths = paths }) = (refl, refl, numbers_grown mid.outputs grown.more numbers paths are) in
    record {
      all = keeps.all ++ (outputs, Some (record { start = start; paths = numbers })) ∷ [];
      table = put keeps.all keeps.table;
      said = subst (λ (xs : List (List ℕ)). AreSaidBy xs (keeps.all ++ (outputs, Some (record { start = start; paths = numbers })) ∷ []) (records ++ record { outputs = outputs; start = start; paths = paths } ∷ [])) (sym grown.outputs)
          (said_push texts keeps.all records (outputs, Some (record { start = start; paths = numbers })) (record { outputs = outputs; start = start; paths = paths }) (said_grown mid.outputs grown.more keeps.all records keeps.said) here);
    }

-- ---- what the numbers tell is what the records say

numbers_are : (xs : List (List ℕ)) (ns : List ℕ) (ts : List (List ℕ)) → AreNumbersOf xs ns ts → texts_at xs ns ≡ ts
numbers_are xs [] [] are = refl
numbers_are xs [] (t ∷ ts) are = absurd are
numbers_are xs (n ∷ ns) [] are = absurd are
numbers_are xs (n ∷ ns) (t ∷ ts) are = ap (λ (o : Option (List ℕ)). if_some o ++ texts_at xs ns) are.0 ∙ ap (λ (l : List (List ℕ)). t ∷ l) (numbers_are xs ns ts are.1)

said_as : (xs : List (List ℕ)) (os : List (List ℕ)) (deps : Deps) (r : DepsRecord) → IsSaidBy xs (os, Some deps) r → over (told_in xs) (os, Some deps) ≡ saying r
said_as xs os deps r is = λ i. (is.0 i, Some (record { start = is.1 i; paths = numbers_are xs deps.paths r.paths is.2 i }))

named : (xs : List (List ℕ)) (all : List (Saying Deps)) (records : List DepsRecord) → AreSaidBy xs all records → map (over (told_in xs)) all ≡ map saying records
named xs [] [] are = refl
named xs [] (r ∷ rs) are = absurd are
named xs (s ∷ all) [] are = absurd are
named xs ((os, None) ∷ all) (r ∷ rs) are = absurd are.0
named xs ((os, Some deps) ∷ all) (r ∷ rs) are =
    ap (λ (s : Saying Told). s ∷ map (over (told_in xs)) all) (said_as xs os deps r are.0) ∙ ap (λ (l : List (Saying Told)). saying r ∷ l) (named xs all rs are.1)

pub found_is : {table : Table Deps} (records : List DepsRecord) (o : List ℕ) (found : Option Deps) (keeps : Keeps records table) → found ≡ told_of keeps.all o → option_map (told_in table.outputs) found ≡ deps_in_force records o
found_is {table = table} records o found keeps e =
    ap (option_map (told_in table.outputs)) e
    ∙ (sym (told_over (told_in table.outputs) keeps.all o) ∙ (ap (λ (l : List (Saying Told)). told_of l o) (named table.outputs keeps.all records keeps.said) ∙ sym (deps_told records o)))

tellings_said : (records : List DepsRecord) → map (λ t. t.1) (tellings (map saying records)) ≡ tolds records
tellings_said [] = refl
tellings_said (r ∷ rs) = ap (λ (l : List Told). told_of_record r ∷ l) (tellings_said rs)

get_on : (xs : List (List ℕ)) (ts : List (Telling Deps)) (n : ℕ) → option_map (told_in xs) (slice_get (map (λ t. t.1) ts) n) ≡ slice_get (map (λ t. t.1) (map (on (told_in xs)) ts)) n
get_on xs [] n = refl
get_on xs (t ∷ ts) zero = refl
get_on xs (t ∷ ts) (suc n) = get_on xs ts n

-- the record with a number
at_number : {table : Table Deps} (records : List DepsRecord) (n : ℕ) (keeps : Keeps records table) → option_map (told_in table.outputs) (slice_get (map (λ t. t.1) (tellings keeps.all)) n) ≡ slice_get (tolds records) n
at_number {table = table} records n keeps =
    get_on table.outputs (tellings keeps.all) n
    ∙ ap (λ (l : List Told). slice_get l n)
    (ap (map (λ t. t.1)) (sym (tellings_over (told_in table.outputs) keeps.all) ∙ ap tellings (named table.outputs keeps.all records keeps.said)) ∙ tellings_said records)

pub told_at : {table : Table Deps} (records : List DepsRecord) (n : ℕ) (found : Option Deps) (keeps : Keeps records table) → found ≡ slice_get (map (λ t. t.1) (tellings keeps.all)) n → option_map (told_in table.outputs) found ≡ slice_get (tolds records) n
told_at {table = table} records n found keeps e = ap (option_map (told_in table.outputs)) e ∙ at_number records n keeps

pub place_is : {table : Table Deps} (records : List DepsRecord) (o : List ℕ) (p : Option ℕ) (keeps : Keeps records table) → option_and_then (slice_get (map (λ t. t.1) (tellings keeps.all))) p ≡ told_of keeps.all o
    → option_and_then (slice_get (tolds records)) p ≡ deps_in_force records o
place_is {table = table} records o p keeps e = by_place p ∙ found_is records o (option_and_then (slice_get (map (λ t. t.1) (tellings keeps.all))) p) keeps e
  where
    by_place : (p : Option ℕ) → option_and_then (slice_get (tolds records)) p ≡ option_map (told_in table.outputs) (option_and_then (slice_get (map (λ t. t.1) (tellings keeps.all))) p)
    by_place None = refl
    by_place (Some n) = sym (at_number records n keeps)

pub count_is : {table : Table Deps} (records : List DepsRecord) (keeps : Keeps records table) → length keeps.all ≡ length records
count_is {table = table} records keeps =
    sym (length-map keeps.all (over (told_in table.outputs))) ∙ (ap length (named table.outputs keeps.all records keeps.said) ∙ length-map records saying)

-- each record tells something
pub told_count : {table : Table Deps} (records : List DepsRecord) (keeps : Keeps records table) → length (tellings keeps.all) ≡ length (tolds records)
told_count {table = table} records keeps =
    sym (length-map (tellings keeps.all) (on (told_in table.outputs)))
    ∙ (ap length (sym (tellings_over (told_in table.outputs) keeps.all) ∙ ap tellings (named table.outputs keeps.all records keeps.said))
    ∙ (sym (length-map (tellings (map saying records)) (λ t. t.1)) ∙ ap length (tellings_said records)))

in_force_is : {table : Table Deps} (records : List DepsRecord) (keeps : Keeps records table) → map (on (told_in table.outputs)) (in_force_of keeps.all) ≡ in_force_of (map saying records)
in_force_is {table = table} records keeps =
    sym (in_force_over (told_in table.outputs) keeps.all) ∙ ap in_force_of (named table.outputs keeps.all records keeps.said)

pub in_force_count : {table : Table Deps} (records : List DepsRecord) (keeps : Keeps records table) → length (in_force_of keeps.all) ≡ length (compaction records)
in_force_count {table = table} records keeps =
    sym (length-map (in_force_of keeps.all) (on (told_in table.outputs))) ∙ (ap length (in_force_is records keeps) ∙ sym (length-map (in_force_of (map saying records)) deps_record))

-- the records of what is in force are the compaction
pub compaction_is : {table : Table Deps} (records : List DepsRecord) (keeps : Keeps records table) → map deps_record (map (on (told_in table.outputs)) (in_force_of keeps.all)) ≡ compaction records
compaction_is records keeps = ap (map deps_record) (in_force_is records keeps)

pub wants_is : {table : Table Deps} (answer : Bool) (records : List DepsRecord) (keeps : Keeps records table) → (IsTrue answer ↔ WantsCompaction (length keeps.all) (length (in_force_of keeps.all))) → IsTrue answer ↔ WantsCompaction (length records) (length (compaction records))
wants_is answer records keeps is = rw (count_is records keeps, in_force_count records keeps) at is

pub on_err : {A E : Type 0} (r : Result A E) {P : Type 0} → P → OnErr r P
on_err (Ok x) p = tt
on_err (Err e) p = p

pub then_ok : {A E : Type 0} (r : Result A E) {P Q : Type 0} → OnOk r P → (P → Q) → OnOk r Q
then_ok (Ok x) p then = then p
then_ok (Err e) p then = tt

pub then_err : {A E : Type 0} (r : Result A E) {P Q : Type 0} → OnErr r P → (P → Q) → OnErr r Q
then_err (Ok x) p then = tt
then_err (Err e) p then = then p
