-- What is kept, record by record.
use Rattle.std.proofs.Common.{◌≡◌, ℕ, ◌+◌, ◌<◌, Bool, true, false, List, [], ◌∷◌, ◌++◌, Option, Some, None, map, take, length, slice_get, zero, suc, max, refl, sym, ap, subst, ◌∙◌, inl, inr, arith, cond, if◌then◌else◌}
use Rattle.std.specs.Borrow.{Bor}
use Rattle.std.specs.Str.{bytes_eq}
use Rattle.std.proofs.lemmas.Bool.{cases_Bool}
use Rattle.indexmap.specs.IndexMap.{insert_entry}
use Rattle.seen_log.specs.declared.note.Last.{Last}
use Rattle.seen_log.specs.declared.note.Note.{Note}
use Rattle.seen_log.specs.declared.note.Noted.{Noted}
use Rattle.seen_log.specs.declared.log.Log.{Log}
use Rattle.seen_log.specs.Record.{noting}
use Rattle.seen_log.specs.Log.{compaction, greatest_of, noted_in_force, noteds, put_note, to_pass}
use Rattle.seen_log.specs.Keeping.{Keeps, IsLast, entry_note, last_of}
use Rattle.seen_log.proofs.InForce.{in_force_more, noted_kept, noted_last, compaction_more, greatest_more, count_more}

-- what is in force for another path stays so
last_kept : (records : List Note) (r : Note) (path : List ℕ) (last : Option Last) → bytes_eq r.path path ≡ false → IsLast records path last → IsLast (records ++ r ∷ []) path last
last_kept records r path None other is = in_force_more records r path ∙ (ap (λ (b : Bool). if b then Some r.noted else noted_in_force records path) other ∙ is)
last_kept records r path (Some last) other is = (
  in_force_more records r path ∙ (ap (λ (b : Bool). if b then Some r.noted else noted_in_force records path) other ∙ is.0),
  noted_kept records r last.place last.noted is.1,
)

last_put : (records : List Note) (r : Note) (path : List ℕ) (place : ℕ) → bytes_eq r.path path ≡ true → place ≡ length records → IsLast (records ++ r ∷ []) path (Some (record { place = place; noted = r.noted }))
last_put records r path place here is = (
  in_force_more records r path ∙ ap (λ (b : Bool). if b then Some r.noted else noted_in_force records path) here,
  noted_last records r place is,
)

pub last_more : (records : List Note) (r : Note) (path : List ℕ) (place : ℕ) (before : Option Last) → place ≡ length records → IsLast records path before
    → IsLast (records ++ r ∷ []) path (cond (bytes_eq r.path path) (Some (record { place = place; noted = r.noted })) before)
last_more records r path place before is kept = elim (cases_Bool (bytes_eq r.path path)) [
  | inl here ↦ subst (λ (b : Bool). IsLast (records ++ r ∷ []) path (cond b (Some (record { place = place; noted = r.noted })) before)) (sym here) (last_put records r path place here is)
  | inr other ↦ subst (λ (b : Bool). IsLast (records ++ r ∷ []) path (cond b (Some (record { place = place; noted = r.noted })) before)) (sym other) (last_kept records r path before other kept)
]

-- an entry is put in as a record
pub entries_more : (es : List (Bor (List ℕ) × Last)) (key : Bor (List ℕ)) (last : Last) → map entry_note (insert_entry (λ (a b : Bor (List ℕ)). bytes_eq a.now b.now) es key last) ≡ put_note (map entry_note es) (noting key.now last.noted)
entries_more [] key last = refl
entries_more (e ∷ es) key last = elim (cases_Bool (bytes_eq key.now e.0.now)) [
  | inl same ↦ rw same refl
  | inr other ↦ rw other (ap (λ (l : List Note). entry_note e ∷ l) (entries_more es key last))
]

-- one record more
pub record KeepsMore (records : List Note) (r : Note) (old new : Log) : Type 0 where
  pub last : (path : List ℕ) → last_of new path ≡ cond (bytes_eq r.path path) (Some (record { place = old.records; noted = r.noted })) (last_of old path)
  pub entries : map entry_note new.last.entries ≡ put_note (map entry_note old.last.entries) r
  pub count : new.records ≡ old.records + 1
  pub greatest : new.greatest ≡ max old.greatest (to_pass r.noted)

pub keeps_more : (records : List Note) (r : Note) (old new : Log) → KeepsMore records r old new → Keeps records old → Keeps (records ++ r ∷ []) new
keeps_more records r old new more keeps = record {
  last = λ path. subst (IsLast (records ++ r ∷ []) path) (sym (more.last path)) (last_more records r path old.records (last_of old path) keeps.count (keeps.last path));
  in_force = more.entries ∙ (ap (λ (l : List Note). put_note l r) keeps.in_force ∙ sym (compaction_more records r));
  count = more.count ∙ count_more records r old.records keeps.count;
  greatest = more.greatest ∙ (ap (λ (n : ℕ). max n (to_pass r.noted)) keeps.greatest ∙ sym (greatest_more records r));
}
