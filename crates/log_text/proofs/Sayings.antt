-- What numbers tell, the texts being given, in the words of the model.
use Rattle.std.proofs.Common.{◌≡◌, ◌+◌, ℕ, Bool, true, false, cond, List, [], ◌∷◌, ◌++◌, map, Option, Some, None, refl, sym, ap, ◌∙◌}
use Rattle.std.specs.Option.{option_map}
use Rattle.std.proofs.lemmas.List.{map-append}
use Rattle.model.specs.declared.record.DepsRecord.{DepsRecord}
use Rattle.model.specs.Graph.{has}
use Rattle.model.specs.Records.{Told, deps_in_force, deps_from}
use Rattle.log_text.specs.Kept.{Saying, Telling, told_from, told_of, tellings, place_from, place_of, is_place, left_to, some_of, in_force_from, in_force_of, sayings_of, InForceKeeps}
use Rattle.log_text.specs.DepsLog.{told_of_record, saying, deps_record, compaction}

module _ {T U : Type 0} (f : T → U) where
  abbrev pub over : Saying T → Saying U
  over s = (s.0, option_map f s.1)

  abbrev pub on : Telling T → Telling U
  on t = (t.0, f t.1)

  map-cond : (b : Bool) (x y : Option T) → option_map f (cond b x y) ≡ cond b (option_map f x) (option_map f y)
  map-cond true x y = refl
  map-cond false x y = refl

  told_over_from : (all : List (Saying T)) (o : List ℕ) (held : Option T) → told_from o (option_map f held) (map over all) ≡ option_map f (told_from o held all)
  told_over_from [] o held = refl
  told_over_from (s ∷ all) o held = ap (λ (h : Option U). told_from o h (map over all)) (sym (map-cond (has s.0 o) s.1 held)) ∙ told_over_from all o (cond (has s.0 o) s.1 held)

  pub told_over : (all : List (Saying T)) (o : List ℕ) → told_of (map over all) o ≡ option_map f (told_of all o)
  told_over all o = told_over_from all o None

  pub tellings_over : (all : List (Saying T)) → tellings (map over all) ≡ map on (tellings all)
  tellings_over [] = refl
  tellings_over ((os, None) ∷ all) = tellings_over all
  tellings_over ((os, Some x) ∷ all) = ap (λ (l : List (Telling U)). (os, f x) ∷ l) (tellings_over all)

  place_over_from : (all : List (Saying T)) (o : List ℕ) (held : Option ℕ) (n : ℕ) → place_from o held n (map over all) ≡ place_from o held n all
  place_over_from [] o held n = refl
  place_over_from ((os, None) ∷ all) o held n = place_over_from all o (cond (has os o) None held) n
  place_over_from ((os, Some x) ∷ all) o held n = place_over_from all o (cond (has os o) (Some n) held) (n + 1)

  left_over : (all : List (Saying T)) (n : ℕ) (os : List (List ℕ)) → left_to (map over all) n os ≡ left_to all n os
  left_over all n [] = refl
  left_over all n (o ∷ os) =
      ap (λ (p : Option ℕ). cond (is_place n p) (o ∷ left_to (map over all) n os) (left_to (map over all) n os)) (place_over_from all o None 0)
      ∙ ap (λ (l : List (List ℕ)). cond (is_place n (place_of all o)) (o ∷ l) l) (left_over all n os)

  some_on : (os : List (List ℕ)) (x : T) → some_of os (f x) ≡ map on (some_of os x)
  some_on [] x = refl
  some_on (o ∷ os) x = refl

  in_force_on : (all : List (Saying T)) (n : ℕ) (ts : List (Telling T)) → in_force_from (map over all) n (map on ts) ≡ map on (in_force_from all n ts)
  in_force_on all n [] = refl
  in_force_on all n (t ∷ ts) =
      ap (λ (os : List (List ℕ)). some_of os (f t.1) ++ in_force_from (map over all) (n + 1) (map on ts)) (left_over all n t.0)
      ∙ (ap (λ (l : List (Telling U)). l ++ in_force_from (map over all) (n + 1) (map on ts)) (some_on (left_to all n t.0) t.1)
      ∙ (ap (λ (l : List (Telling U)). map on (some_of (left_to all n t.0) t.1) ++ l) (in_force_on all (n + 1) ts)
      ∙ sym (map-append on (some_of (left_to all n t.0) t.1) (in_force_from all (n + 1) ts))))

  pub in_force_over : (all : List (Saying T)) → in_force_of (map over all) ≡ map on (in_force_of all)
  in_force_over all = ap (in_force_from (map over all) 0) (tellings_over all) ∙ in_force_on all 0 (tellings all)

  sayings_over : (ts : List (Telling T)) → map over (sayings_of ts) ≡ sayings_of (map on ts)
  sayings_over [] = refl
  sayings_over (t ∷ ts) = ap (λ (l : List (Saying U)). (t.0, Some (f t.1)) ∷ l) (sayings_over ts)

  -- what is told by records in force, of one kind of telling and so of another
  pub keeps_over : InForceKeeps T → (all : List (Saying T)) (o : List ℕ) → told_of (sayings_of (in_force_of (map over all))) o ≡ told_of (map over all) o
  keeps_over keeps all o =
      ap (λ (ts : List (Telling U)). told_of (sayings_of ts) o) (in_force_over all)
      ∙ (ap (λ (l : List (Saying U)). told_of l o) (sym (sayings_over (in_force_of all)))
      ∙ (told_over (sayings_of (in_force_of all)) o ∙ (ap (option_map f) (keeps all o) ∙ sym (told_over all o))))

deps_told_from : (records : List DepsRecord) (o : List ℕ) (held : Option Told) → deps_from o held records ≡ told_from o held (map saying records)
deps_told_from [] o held = refl
deps_told_from (r ∷ rs) o held = deps_told_from rs o (cond (has r.outputs o) (Some (told_of_record r)) held)

-- what is in force is what is told of the output
pub deps_told : (records : List DepsRecord) (o : List ℕ) → deps_in_force records o ≡ told_of (map saying records) o
deps_told records o = deps_told_from records o None

abbrev whole : DepsRecord → Saying DepsRecord
whole r = (r.outputs, Some r)

same_sayings : (records : List DepsRecord) → map (over told_of_record) (map whole records) ≡ map saying records
same_sayings [] = refl
same_sayings (r ∷ rs) = ap (λ (l : List (Saying Told)). saying r ∷ l) (same_sayings rs)

said_again : (ts : List (Telling Told)) → map saying (map deps_record ts) ≡ sayings_of ts
said_again [] = refl
said_again (t ∷ ts) = ap (λ (l : List (Saying Told)). (t.0, Some t.1) ∷ l) (said_again ts)

pub compaction_keeps_law : InForceKeeps DepsRecord → (records : List DepsRecord) (output : List ℕ) → deps_in_force (compaction records) output ≡ deps_in_force records output
compaction_keeps_law keeps records output =
    deps_told (compaction records) output
    ∙ (ap (λ (l : List (Saying Told)). told_of l output) (said_again (in_force_of (map saying records)))
    ∙ (ap (λ (l : List (Saying Told)). told_of (sayings_of (in_force_of l)) output) (sym (same_sayings records))
    ∙ (keeps_over told_of_record keeps (map whole records) output
    ∙ (ap (λ (l : List (Saying Told)). told_of l output) (same_sayings records) ∙ sym (deps_told records output)))))
