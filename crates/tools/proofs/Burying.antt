-- What a build made once and no line names any more.
use Rattle.std.proofs.Common.{◌≡◌, ◌↔◌, inl, inr, ℕ, ◌+◌, ◌<◌, Bool, true, false, List, [], ◌∷◌, ◌++◌, Option, None, Some, IsSome, length, take, get_or, map, slice_get, refl, sym, ap, ◌∙◌, subst, arith, append-nil, append_assoc}
use Rattle.std.proofs.lemmas.Bool.{cases_Bool, false≢true}
use Rattle.std.proofs.lemmas.List.{length-map, take_more}
use Rattle.std.proofs.lemmas.Option.{get_or_from_slice_get, none-some, same_Some, slice_get-map, slice_get_within}
use Rattle.std.specs.Option.{option_map}
use Rattle.std.specs.Map.Iter.{deref}
use denote.Ref.{Bor}
use Rattle.model.specs.declared.record.Record.{Record}
use Rattle.model.specs.declared.record.DepsRecord.{DepsRecord}
use Rattle.model.specs.Graph.{has}
use Rattle.model.specs.Records.{Told, in_force}
use Rattle.log_text.specs.Kept.{if_some, outputs_left, texts_at}
use Rattle.log_text.specs.BuildLog.{makings, saying}
use Rattle.log_text.specs.DepsLog.{Keeps as KeepsDeps, told_of_record, tolds as deps_tolds}
use Rattle.log_text.specs.declared.deps.Deps.{Deps}
use Rattle.graph.specs.declared.graph.Graph.{Graph}
use Rattle.paths.specs.Numbers.{IsAdded}
use Rattle.paths.specs.Told.{IsNamedNumber, IsUnnamed}
use Rattle.paths.specs.declared.manifest.Manifest.{Manifest}
use Rattle.records.specs.Known.{Knows}
use Rattle.records.specs.declared.records.Records.{Records}
use Rattle.tools.specs.Clean.{AddsJust}
use Rattle.tools.specs.Dead.{AddsEither, AddsLeft, AreBuried, IsLeft, IsListed, IsListedAt, ListsAll}
use Rattle.tools.specs.declared.dead.Dead.{Dead}
use Rattle.tools.proofs.Adding.{IsBelow, IsHad, IsSame, Or, adds_as, adds_none, adds_path, adds_then, below_back, below_on, deref_more, has_cases, has_either, has_left, has_new, has_old, has_right}
use Rattle.tools.proofs.Forcing.{IsLeftAt, force_of_left, left_of_force, named_number}

-- ---- what is added of what is left

-- it is this one, where that is so
abbrev pub IsSameAnd : List ℕ → Type 0 → List ℕ → Type 0
IsSameAnd text P t = (t ≡ text) × P

-- it was made, no line names it, and it is listed or not
abbrev pub IsOne : Manifest → List (List ℕ) → (List ℕ → Type 0) → Bool → List ℕ → Type 0
IsOne manifest listed made kept t = made t × IsUnnamed manifest t × (has listed t ≡ kept)

left_as : (manifest : Manifest) (listed : List (List ℕ)) (P Q : List ℕ → Type 0) (old new : Dead) → ((t : List ℕ) → P t → Q t) → ((t : List ℕ) → Q t → P t) → AddsLeft manifest listed P old new → AddsLeft manifest listed Q old new
left_as manifest listed P Q old new on back adds = record {
  dead = adds_as old.dead new.dead (IsOne manifest listed P false) (IsOne manifest listed Q false) (λ t one. (on t one.0, one.1, one.2)) (λ t one. (back t one.0, one.1, one.2)) adds.dead;
  kept = adds_as old.kept new.kept (IsOne manifest listed P true) (IsOne manifest listed Q true) (λ t one. (on t one.0, one.1, one.2)) (λ t one. (back t one.0, one.1, one.2)) adds.kept;
}

either_one : (manifest : Manifest) (listed : List (List ℕ)) (P Q : List ℕ → Type 0) (kept : Bool) (old new : List (List ℕ)) → AddsJust old new (Or (IsOne manifest listed P kept) (IsOne manifest listed Q kept)) → AddsJust old new (IsOne manifest listed (Or P Q) kept)
either_one manifest listed P Q kept old new =
    adds_as old new (Or (IsOne manifest listed P kept) (IsOne manifest listed Q kept)) (IsOne manifest listed (Or P Q) kept)
    (λ t either. elim either [
      | inl p ↦ (inl p.0, p.1, p.2)
      | inr q ↦ (inr q.0, q.1, q.2)
    ])
    (λ t one. elim one.0 [
      | inl p ↦ inl (p, one.1, one.2)
      | inr q ↦ inr (q, one.1, one.2)
    ])

left_then : (manifest : Manifest) (listed : List (List ℕ)) (P Q : List ℕ → Type 0) (old mid new : Dead) → AddsLeft manifest listed P old mid → AddsLeft manifest listed Q mid new → AddsLeft manifest listed (Or P Q) old new
left_then manifest listed P Q old mid new first second = record {
  dead = either_one manifest listed P Q false old.dead new.dead (adds_then old.dead mid.dead new.dead (IsOne manifest listed P false) (IsOne manifest listed Q false) first.dead second.dead);
  kept = either_one manifest listed P Q true old.kept new.kept (adds_then old.kept mid.kept new.kept (IsOne manifest listed P true) (IsOne manifest listed Q true) first.kept second.kept);
}

pub left_none : (manifest : Manifest) (listed : List (List ℕ)) (P : List ℕ → Type 0) (old : Dead) → ((t : List ℕ) → P t → IsUnnamed manifest t → ⊥) → AddsLeft manifest listed P old old
left_none manifest listed P old none = record {
  dead = adds_none old.dead (IsOne manifest listed P false) (λ t one. none t one.0 one.1);
  kept = adds_none old.kept (IsOne manifest listed P true) (λ t one. none t one.0 one.1);
}

-- before the first of those below a bound
pub left_start : (manifest : Manifest) (listed dead kept : List (List ℕ)) (P : ℕ → List ℕ → Type 0) → dead ≡ [] → kept ≡ [] → AddsLeft manifest listed (IsBelow P 0) (record { dead = []; kept = [] }) (record { dead = dead; kept = kept })
left_start manifest listed dead kept P no_dead no_kept = record {
  dead = subst (λ (l : List (List ℕ)). AddsJust [] l (IsOne manifest listed (IsBelow P 0) false)) (sym no_dead) (adds_none [] (IsOne manifest listed (IsBelow P 0) false) (λ t one. absurd (omega (arith, one.0.1))));
  kept = subst (λ (l : List (List ℕ)). AddsJust [] l (IsOne manifest listed (IsBelow P 0) true)) (sym no_kept) (adds_none [] (IsOne manifest listed (IsBelow P 0) true) (λ t one. absurd (omega (arith, one.0.1))));
}

-- one more of those below a bound
pub left_counted : (manifest : Manifest) (listed : List (List ℕ)) (P : ℕ → List ℕ → Type 0) (i : ℕ) (old mid new : Dead) → AddsLeft manifest listed (IsBelow P i) old mid → AddsLeft manifest listed (P i) mid new → AddsLeft manifest listed (IsBelow P (i + 1)) old new
left_counted manifest listed P i old mid new before adds =
    left_as manifest listed (Or (IsBelow P i) (P i)) (IsBelow P (i + 1)) old new (below_on P i) (below_back P i) (left_then manifest listed (IsBelow P i) (P i) old mid new before adds)

-- the outputs that are left of a record are those of this list
pub left_texts : (manifest : Manifest) (listed : List (List ℕ)) (rs : List Record) (n : ℕ) (outputs : List (List ℕ)) (old new : Dead) → outputs ≡ outputs_left (map saying rs) n → AddsLeft manifest listed (λ t. has outputs t ≡ true) old new → AddsLeft manifest listed (IsLeftAt rs n) old new
left_texts manifest listed rs n outputs old new same adds =
    left_as manifest listed (λ t. has outputs t ≡ true) (IsLeftAt rs n) old new (λ t is. subst (λ (l : List (List ℕ)). has l t ≡ true) same is) (λ t is. subst (λ (l : List (List ℕ)). has l t ≡ true) (sym same) is) adds

-- one text more of a list
pub left_more : (manifest : Manifest) (listed : List (List ℕ)) (texts : List (Bor (List ℕ))) (i : ℕ) (d : Bor (List ℕ)) (old mid new : Dead) → i < length texts
    → AddsLeft manifest listed (λ t. has (map deref (take i texts)) t ≡ true) old mid → AddsLeft manifest listed (λ t. t ≡ (get_or texts i d).now) mid new → AddsLeft manifest listed (λ t. has (map deref (take (i + 1) texts)) t ≡ true) old new
left_more manifest listed texts i d old mid new low before adds =
    left_as manifest listed (Or (λ t. has (map deref (take i texts)) t ≡ true) (λ t. t ≡ (get_or texts i d).now)) (λ t. has (map deref (take (i + 1) texts)) t ≡ true) old new
    (λ t either. subst (λ (l : List (List ℕ)). has l t ≡ true) (sym (deref_more texts i d low)) (elim either [
      | inl was ↦ has_old (map deref (take i texts)) (get_or texts i d).now t was
      | inr now ↦ subst (λ (u : List ℕ). has (map deref (take i texts) ++ (get_or texts i d).now ∷ []) u ≡ true) (sym now) (has_new (map deref (take i texts)) (get_or texts i d).now)
    ]))
    (λ t there. elim (has_cases (map deref (take i texts)) (get_or texts i d).now t (subst (λ (l : List (List ℕ)). has l t ≡ true) (deref_more texts i d low) there)) [
      | inl was ↦ inl was
      | inr now ↦ inr (sym now)
    ])
    (left_then manifest listed (λ t. has (map deref (take i texts)) t ≡ true) (λ t. t ≡ (get_or texts i d).now) old mid new before adds)

pub either_dead : (listed : List (List ℕ)) (text : List ℕ) (old : Dead) (dead : List (List ℕ)) (n : ℕ) → has listed text ≡ false → IsAdded old.dead dead text n → AddsEither listed text old (record { dead = dead; kept = old.kept })
either_dead listed text old dead n out added = record {
  dead = adds_as old.dead dead (IsSame text) (IsSameAnd text (has listed text ≡ false)) (λ t is. (is, out)) (λ t both. both.0) (adds_path old.dead dead text n added);
  kept = adds_none old.kept (IsSameAnd text (has listed text ≡ true)) (λ t both. false≢true (sym out ∙ both.1));
}

pub either_kept : (listed : List (List ℕ)) (text : List ℕ) (old : Dead) (kept : List (List ℕ)) (n : ℕ) → has listed text ≡ true → IsAdded old.kept kept text n → AddsEither listed text old (record { dead = old.dead; kept = kept })
either_kept listed text old kept n there added = record {
  dead = adds_none old.dead (IsSameAnd text (has listed text ≡ false)) (λ t both. false≢true (sym both.1 ∙ there));
  kept = adds_as old.kept kept (IsSame text) (IsSameAnd text (has listed text ≡ true)) (λ t is. (is, there)) (λ t both. both.0) (adds_path old.kept kept text n added);
}

pub left_either : (manifest : Manifest) (listed : List (List ℕ)) (text : List ℕ) (old new : Dead) → IsUnnamed manifest text → AddsEither listed text old new → AddsLeft manifest listed (λ t. t ≡ text) old new
left_either manifest listed text old new unnamed adds = record {
  dead = one false old.dead new.dead adds.dead;
  kept = one true old.kept new.kept adds.kept;
}
  where
    one : (kept : Bool) (before after : List (List ℕ)) → AddsJust before after (IsSameAnd text (has listed text ≡ kept)) → AddsJust before after (IsOne manifest listed (IsSame text) kept)
    one kept before after =
        adds_as before after (IsSameAnd text (has listed text ≡ kept)) (IsOne manifest listed (IsSame text) kept)
        (λ t both. (both.0, subst (IsUnnamed manifest) (sym both.0) unnamed, ap (has listed) both.0 ∙ both.1))
        (λ t one. (one.0, sym (ap (has listed) one.0) ∙ one.2))

-- an output that a line names
pub left_named : (manifest : Manifest) (listed : List (List ℕ)) (text : List ℕ) (n : ℕ) (old : Dead) → IsNamedNumber manifest text n → AddsLeft manifest listed (λ t. t ≡ text) old old
left_named manifest listed text n old is = left_none manifest listed (IsSame text) old (λ t same unnamed.
    false≢true (sym (subst (IsUnnamed manifest) (same ∙ sym (get_or_from_slice_get manifest.paths n text [] is.0)) unnamed) ∙ named_number manifest n is.1))

-- the records below their number are all
pub left_made : (manifest : Manifest) (listed : List (List ℕ)) (rs : List Record) (n : ℕ) (found : Dead) → n ≡ length (makings rs) → AddsLeft manifest listed (IsBelow (IsLeftAt rs) n) (record { dead = []; kept = [] }) found
    → AddsLeft manifest listed (λ t. IsSome (in_force rs t)) (record { dead = []; kept = [] }) found
left_made manifest listed rs n found all adds =
    left_as manifest listed (IsBelow (IsLeftAt rs) n) (λ t. IsSome (in_force rs t)) (record { dead = []; kept = [] }) found (λ t below. force_of_left rs below.0 t below.2)
    (λ t some. subst (λ (m : ℕ). IsBelow (IsLeftAt rs) m t) (sym all) (left_of_force rs t some)) adds

-- all of a build log and of a deps log
pub buried : (graph : Graph) (records : Records) (listed : List (List ℕ)) (found : Dead) (rs : List Record) (ds : List DepsRecord) → Knows graph records rs ds → ListsAll records listed
    → AddsLeft graph.manifest listed (λ t. IsSome (in_force rs t)) (record { dead = []; kept = [] }) found → AreBuried graph.manifest rs ds found.dead found.kept
buried graph records listed found rs ds known lists adds = record {
  dead = λ t. (
    λ h. elim ((adds.dead t).0 h) [
      | inl none ↦ absurd (false≢true none)
      | inr one ↦ (left t one.0 one.1, λ is. false≢true (sym one.2 ∙ (lists ds t keeps).1 is))
    ],
    λ both. (adds.dead t).1 (inr (
      both.0.made,
      both.0.unnamed,
      elim (cases_Bool (has listed t)) [
        | inl is ↦ absurd (both.1 ((lists ds t keeps).0 is))
        | inr none ↦ none
      ],
    )),
  );
  kept = λ t. (
    λ h. elim ((adds.kept t).0 h) [
      | inl none ↦ absurd (false≢true none)
      | inr one ↦ (left t one.0 one.1, (lists ds t keeps).0 one.2)
    ],
    λ both. (adds.kept t).1 (inr (both.0.made, both.0.unnamed, (lists ds t keeps).1 both.1)),
  );
}
  where
    keeps : KeepsDeps ds records.logs.deps_log.log
    keeps = known.told.keeps

    left : (t : List ℕ) → IsSome (in_force rs t) → IsUnnamed graph.manifest t → IsLeft graph.manifest rs t
    left t made unnamed = record { made = made; unnamed = unnamed }

-- ---- what deps records list

-- the path with this number
abbrev IsAt : List (List ℕ) → ℕ → List ℕ → Type 0
IsAt texts number t = Some t ≡ slice_get texts number

told_at : (ds : List DepsRecord) (n : ℕ) → slice_get (deps_tolds ds) n ≡ option_map told_of_record (slice_get ds n)
told_at ds n = slice_get-map told_of_record ds n

record_at : (ds : List DepsRecord) (n : ℕ) (told : Told) → slice_get (deps_tolds ds) n ≡ Some told → (r : DepsRecord) × (slice_get ds n ≡ Some r) × (told.paths ≡ r.paths)
record_at ds n told is = by (slice_get ds n) refl
  where
    by : (found : Option DepsRecord) → slice_get ds n ≡ found → (r : DepsRecord) × (slice_get ds n ≡ Some r) × (told.paths ≡ r.paths)
    by None at = absurd (none-some told (sym (told_at ds n ∙ ap (option_map told_of_record) at) ∙ is))
    by (Some r) at = (r, at, ap (λ (t : Told). t.paths) (sym (same_Some (told_of_record r) told (sym (told_at ds n ∙ ap (option_map told_of_record) at) ∙ is))))

pub lists_none : (ds : List DepsRecord) (n : ℕ) (old : List (List ℕ)) → None ≡ slice_get (deps_tolds ds) n → AddsJust old old (IsListedAt ds n)
lists_none ds n old none = adds_none old (IsListedAt ds n) (λ t listed. none-some (told_of_record listed.0) (none ∙ (told_at ds n ∙ ap (option_map told_of_record) listed.1)))

pub lists_some : (texts : List (List ℕ)) (deps : Deps) (ds : List DepsRecord) (n : ℕ) (old new : List (List ℕ)) → Some (record { start = deps.start; paths = texts_at texts deps.paths }) ≡ slice_get (deps_tolds ds) n
    → AddsJust old new (λ t. has (texts_at texts deps.paths) t ≡ true) → AddsJust old new (IsListedAt ds n)
lists_some texts deps ds n old new is adds =
    let one = record_at ds n (record { start = deps.start; paths = texts_at texts deps.paths }) (sym is) in
    adds_as old new (λ t. has (texts_at texts deps.paths) t ≡ true) (IsListedAt ds n)
    (λ t there. (one.0, one.1, subst (λ (l : List (List ℕ)). has l t ≡ true) one.2 there))
    (λ t listed. subst (λ (l : List (List ℕ)). has l t ≡ true) (ap (λ (r : DepsRecord). r.paths) (same_Some listed.0 one.0 (sym listed.1 ∙ one.1)) ∙ sym one.2) listed.2)
    adds

pub lists_start : (ds : List DepsRecord) (new : List (List ℕ)) → new ≡ [] → AddsJust [] new (IsBelow (IsListedAt ds) 0)
lists_start ds new none = subst (λ (l : List (List ℕ)). AddsJust [] l (IsBelow (IsListedAt ds) 0)) (sym none) (adds_none [] (IsBelow (IsListedAt ds) 0) (λ t below. absurd (omega (arith, below.1))))

pub lists_all : (ds : List DepsRecord) (n : ℕ) (listed : List (List ℕ)) (text : List ℕ) → n ≡ length (deps_tolds ds) → AddsJust [] listed (IsBelow (IsListedAt ds) n) → has listed text ≡ true ↔ IsListed ds text
lists_all ds n listed text all adds = (
  λ h. elim ((adds text).0 h) [
    | inl none ↦ absurd (false≢true none)
    | inr below ↦ (below.0, below.2.0, below.2.1, below.2.2)
  ],
  λ is. (adds text).1 (inr (is.0, subst (λ (m : ℕ). is.0 < m) (sym (all ∙ length-map ds told_of_record)) (slice_get_within ds is.0 is.1 is.2), (is.1, is.2, is.3))),
)

-- the path of a number, or none
pub number_none : (texts old : List (List ℕ)) (number : ℕ) → None ≡ slice_get texts number → AddsJust old old (λ t. Some t ≡ slice_get texts number)
number_none texts old number none = adds_none old (IsAt texts number) (λ t at. none-some t (none ∙ sym at))

pub number_some : (texts old new : List (List ℕ)) (number n : ℕ) (path : List ℕ) → Some path ≡ slice_get texts number → IsAdded old new path n → AddsJust old new (λ t. Some t ≡ slice_get texts number)
number_some texts old new number n path at added =
    adds_as old new (IsSame path) (IsAt texts number) (λ t is. ap (λ (u : List ℕ). Some u) is ∙ at) (λ t there. same_Some t path (there ∙ sym at)) (adds_path old new path n added)

pub at_or : (found : Option (List ℕ)) (t : List ℕ) → has (if_some found) t ≡ true → Some t ≡ found
at_or None t is = absurd (false≢true is)
at_or (Some u) t is = elim (has_cases [] u t is) [
  | inl none ↦ absurd (false≢true none)
  | inr same ↦ ap (λ (v : List ℕ). Some v) (sym same)
]

pub or_at : (found : Option (List ℕ)) (t : List ℕ) → Some t ≡ found → has (if_some found) t ≡ true
or_at None t is = absurd (none-some t (sym is))
or_at (Some u) t is = subst (λ (v : List ℕ). has (v ∷ []) t ≡ true) (same_Some t u is) (has_new [] t)

texts_push : (texts : List (List ℕ)) (numbers : List ℕ) (n : ℕ) → texts_at texts (numbers ++ n ∷ []) ≡ texts_at texts numbers ++ if_some (slice_get texts n)
texts_push texts [] n = append-nil (if_some (slice_get texts n))
texts_push texts (m ∷ numbers) n =
    ap (λ (l : List (List ℕ)). if_some (slice_get texts m) ++ l) (texts_push texts numbers n) ∙ sym (append_assoc (if_some (slice_get texts m)) (texts_at texts numbers) (if_some (slice_get texts n)))

-- one number more of a deps record
pub texts_more : (texts : List (List ℕ)) (numbers : List ℕ) (i number : ℕ) → i < length numbers → number ≡ get_or numbers i 0 → texts_at texts (take i numbers) ++ if_some (slice_get texts number) ≡ texts_at texts (take (i + 1) numbers)
texts_more texts numbers i number low is = sym (ap (texts_at texts) (take_more numbers i 0 low ∙ ap (λ (m : ℕ). take i numbers ++ m ∷ []) (sym is)) ∙ texts_push texts (take i numbers) number)

pub numbers_more : (texts : List (List ℕ)) (numbers : List ℕ) (i number : ℕ) (old mid new : List (List ℕ)) → i < length numbers → number ≡ get_or numbers i 0
    → AddsJust old mid (λ t. has (texts_at texts (take i numbers)) t ≡ true) → AddsJust mid new (λ t. Some t ≡ slice_get texts number) → AddsJust old new (λ t. has (texts_at texts (take (i + 1) numbers)) t ≡ true)
numbers_more texts numbers i number old mid new low is before adds =
    adds_as old new (Or (IsHad (texts_at texts (take i numbers))) (IsAt texts number)) (IsHad (texts_at texts (take (i + 1) numbers)))
    (λ t either. subst (λ (l : List (List ℕ)). has l t ≡ true) (texts_more texts numbers i number low is) (elim either [
      | inl was ↦ has_left (texts_at texts (take i numbers)) (if_some (slice_get texts number)) t was
      | inr now ↦ has_right (texts_at texts (take i numbers)) (if_some (slice_get texts number)) t (or_at (slice_get texts number) t now)
    ]))
    (λ t there. elim (has_either (texts_at texts (take i numbers)) (if_some (slice_get texts number)) t (subst (λ (l : List (List ℕ)). has l t ≡ true) (sym (texts_more texts numbers i number low is)) there)) [
      | inl was ↦ inl was
      | inr now ↦ inr (at_or (slice_get texts number) t now)
    ])
    (adds_then old mid new (IsHad (texts_at texts (take i numbers))) (IsAt texts number) before adds)
