-- What stands at paths, and in which place.
use Rattle.std.proofs.Common.{◌≡◌, ℕ, zero, suc, ◌+◌, ◌<◌, ◌≤◌, ◌||◌, Bool, true, false, if◌then◌else◌, List, [], ◌∷◌, ◌++◌, length, slice_get, slice_set, refl, sym, ap, ◌∙◌, Some, None, arith, bytes_eq}
use Rattle.std.specs.Prelude.{unwrap_or}
use Rattle.std.proofs.lemmas.Bool.{false≢true}
use Rattle.std.proofs.lemmas.Slice.Eq.{bytes_eq-Decides}
use Rattle.model.specs.Graph.{has}
use Rattle.paths.specs.Numbers.{HaveOnePlace}
use Rattle.audit.specs.declared.standing.Stands.{Stands}
use Rattle.audit.specs.declared.used.Use.{Use}
use Rattle.audit.specs.Seen.{use_in}
use Rattle.audit.specs.Standing.{put, put_at, put_in, stand_in}
use Rattle.audit.specs.Stood.{Stood}
use Rattle.audit.specs.Uses.{unused}
use Rattle.audit.proofs.Members.{in_has}

left_false : (x y : Bool) → (x || y) ≡ false → x ≡ false
left_false true y e = e
left_false false y e = refl

right_false : (x y : Bool) → (x || y) ≡ false → y ≡ false
right_false true y e = absurd (false≢true (sym e))
right_false false y e = e

others : (p : List ℕ) (paths : List (List ℕ)) → HaveOnePlace (p ∷ paths) → HaveOnePlace paths
others p paths once = λ i j path at too. let same : suc i ≡ suc j = once (suc i) (suc j) path at too in omega arith

-- what stands at a path is what stands in its place
pub stand_there : (paths : List (List ℕ)) (stands : List Stands) (path : List ℕ) (n : ℕ) → HaveOnePlace paths → slice_get paths n ≡ Some path → slice_get stands n ≡ stand_in paths stands path
stand_there [] stands path n once at = absurd (cc)
stand_there (p ∷ paths) [] path zero once at = refl
stand_there (p ∷ paths) [] path (suc n) once at = refl
stand_there (p ∷ paths) (s ∷ stands) path zero once at =
    let same : p ≡ path = cc in
    sym (ap (λ (b : Bool). if b then Some s else stand_in paths stands path) ((bytes_eq-Decides p path).1 same))
stand_there (p ∷ paths) (s ∷ stands) path (suc n) once at = by (bytes_eq p path) refl (stand_there paths stands path n (others p paths once) at)
  where
    by : (here : Bool) → bytes_eq p path ≡ here → slice_get stands n ≡ stand_in paths stands path → slice_get stands n ≡ stand_in (p ∷ paths) (s ∷ stands) path
    by true here more = let twice : zero ≡ suc n = once zero (suc n) path (ap (λ (q : List ℕ). Some q) ((bytes_eq-Decides p path).0 here)) at in absurd (omega arith)
    by false here more = more ∙ sym (ap (λ (b : Bool). if b then Some s else stand_in paths stands path) here)

-- nothing is known to stand at a path that is none of these
pub stand_nowhere : (paths : List (List ℕ)) (stands : List Stands) (path : List ℕ) → has paths path ≡ false → None ≡ stand_in paths stands path
stand_nowhere [] stands path lacks = refl
stand_nowhere (p ∷ paths) [] path lacks = refl
stand_nowhere (p ∷ paths) (s ∷ stands) path lacks =
    stand_nowhere paths stands path (right_false (bytes_eq p path) (has paths path) lacks)
    ∙ sym (ap (λ (b : Bool). if b then Some s else stand_in paths stands path) (left_false (bytes_eq p path) (has paths path) lacks))

-- another thing stands at a path, and in its place
pub put_there : (paths : List (List ℕ)) (stands : List Stands) (path : List ℕ) (new : Stands) (n : ℕ) → HaveOnePlace paths → slice_get paths n ≡ Some path → put_in paths stands path new ≡ put_at stands n new
put_there [] stands path new n once at = absurd (cc)
put_there (p ∷ paths) [] path new n once at = refl
put_there (p ∷ paths) (s ∷ stands) path new zero once at =
    let same : p ≡ path = cc in
    ap (λ (b : Bool). if b then new ∷ stands else s ∷ put_in paths stands path new) ((bytes_eq-Decides p path).1 same)
put_there (p ∷ paths) (s ∷ stands) path new (suc n) once at = by (bytes_eq p path) refl (put_there paths stands path new n (others p paths once) at)
  where
    by : (here : Bool) → bytes_eq p path ≡ here → put_in paths stands path new ≡ put_at stands n new → put_in (p ∷ paths) (s ∷ stands) path new ≡ s ∷ put_at stands n new
    by true here more = let twice : zero ≡ suc n = once zero (suc n) path (ap (λ (q : List ℕ). Some q) ((bytes_eq-Decides p path).0 here)) at in absurd (omega arith)
    by false here more =
        ap (λ (b : Bool). if b then new ∷ stands else s ∷ put_in paths stands path new) here ∙ ap (λ (ss : List Stands). s ∷ ss) more

pub set_there : (stands : List Stands) (n : ℕ) (new : Stands) → n < length stands → slice_set stands n new ≡ put_at stands n new
set_there [] n new less = absurd (omega (arith, less))
set_there (s ∷ stands) zero new less = refl
set_there (s ∷ stands) (suc n) new less = ap (λ (ss : List Stands). s ∷ ss) (set_there stands n new (omega (arith, less)))

pub set_past : (stands : List Stands) (n : ℕ) (new : Stands) → length stands ≤ n → stands ≡ put_at stands n new
set_past [] n new past = refl
set_past (s ∷ stands) zero new past = absurd (omega (arith, past))
set_past (s ∷ stands) (suc n) new past = ap (λ (ss : List Stands). s ∷ ss) (set_past stands n new (omega (arith, past)))

abbrev stood : List (List ℕ) → List Stands → Stood
stood paths stands = record { paths = paths; stands = stands }

same_stood : (old : Stood) (paths : List (List ℕ)) (stands : List Stands) → old.paths ≡ paths → old.stands ≡ stands → old ≡ stood paths stands
same_stood old paths stands first second = ap (λ (ps : List (List ℕ)). stood ps old.stands) first ∙ ap (λ (ss : List Stands). stood paths ss) second

-- at a path of which something was known
pub put_known : (old new : Stood) (path : List ℕ) (there : Stands) (n : ℕ) → HaveOnePlace old.paths → slice_get old.paths n ≡ Some path → new.paths ≡ old.paths → new.stands ≡ put_at old.stands n there → new ≡ put old path there
put_known old new path there n once at paths stands =
    same_stood new old.paths (put_in old.paths old.stands path there) paths (stands ∙ sym (put_there old.paths old.stands path there n once at))
    ∙ sym (ap (λ (b : Bool). if b then stood old.paths (put_in old.paths old.stands path there) else stood (old.paths ++ path ∷ []) (old.stands ++ there ∷ [])) (in_has old.paths n path at))

-- at another one
pub put_new : (old new : Stood) (path : List ℕ) (there : Stands) → has old.paths path ≡ false → new.paths ≡ old.paths ++ path ∷ [] → new.stands ≡ old.stands ++ there ∷ [] → new ≡ put old path there
put_new old new path there lacks paths stands =
    same_stood new (old.paths ++ path ∷ []) (old.stands ++ there ∷ []) paths stands
    ∙ sym (ap (λ (b : Bool). if b then stood old.paths (put_in old.paths old.stands path there) else stood (old.paths ++ path ∷ []) (old.stands ++ there ∷ [])) lacks)

-- ---- what was done at paths

pub use_there : (paths : List (List ℕ)) (uses : List Use) (path : List ℕ) (n : ℕ) → HaveOnePlace paths → slice_get paths n ≡ Some path → unwrap_or (slice_get uses n) unused ≡ use_in paths uses path
use_there [] uses path n once at = absurd (cc)
use_there (p ∷ paths) [] path zero once at = refl
use_there (p ∷ paths) [] path (suc n) once at = refl
use_there (p ∷ paths) (u ∷ uses) path zero once at =
    let same : p ≡ path = cc in
    sym (ap (λ (b : Bool). if b then u else use_in paths uses path) ((bytes_eq-Decides p path).1 same))
use_there (p ∷ paths) (u ∷ uses) path (suc n) once at = by (bytes_eq p path) refl (use_there paths uses path n (others p paths once) at)
  where
    by : (here : Bool) → bytes_eq p path ≡ here → unwrap_or (slice_get uses n) unused ≡ use_in paths uses path → unwrap_or (slice_get uses n) unused ≡ use_in (p ∷ paths) (u ∷ uses) path
    by true here more = let twice : zero ≡ suc n = once zero (suc n) path (ap (λ (q : List ℕ). Some q) ((bytes_eq-Decides p path).0 here)) at in absurd (omega arith)
    by false here more = more ∙ sym (ap (λ (b : Bool). if b then u else use_in paths uses path) here)

pub use_nowhere : (paths : List (List ℕ)) (uses : List Use) (path : List ℕ) → has paths path ≡ false → unused ≡ use_in paths uses path
use_nowhere [] uses path lacks = refl
use_nowhere (p ∷ paths) [] path lacks = refl
use_nowhere (p ∷ paths) (u ∷ uses) path lacks =
    use_nowhere paths uses path (right_false (bytes_eq p path) (has paths path) lacks)
    ∙ sym (ap (λ (b : Bool). if b then u else use_in paths uses path) (left_false (bytes_eq p path) (has paths path) lacks))
