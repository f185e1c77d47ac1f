-- What is found at one path after another.
use Rattle.std.proofs.Common.{◌≡◌, ℕ, ◌+◌, ◌≤◌, List, [], ◌∷◌, ◌++◌, length, drop, slice_get, refl, sym, ap, ◌∙◌, Some, None}
use Rattle.std.proofs.lemmas.List.{append_assoc, append-nil}
use Rattle.audit.specs.declared.place.Lists.{Lists}
use Rattle.audit.specs.declared.place.Around.{Around}
use Rattle.audit.specs.declared.used.Use.{Use}
use Rattle.audit.specs.declared.breach.Breach.{Breach}
use Rattle.audit.specs.Places.{place_of}
use Rattle.audit.specs.Findings.{findings}
use Rattle.audit.specs.Breaches.{all_at, breaches_from}
use Rattle.audit.proofs.Members.{next, past, past_all}

pub found_next : (whole found more : List Breach) (lists : Lists) (n : ℕ) (paths : List (List ℕ)) (arounds : List Around) (uses : List Use) (path : List ℕ) (around : Around) (used : Use)
    → slice_get arounds n ≡ Some around → slice_get paths n ≡ Some path → slice_get uses n ≡ Some used
    → more ≡ found ++ all_at n (findings (place_of lists around path) used)
    → whole ≡ found ++ breaches_from lists n (drop n paths) (drop n arounds) (drop n uses)
    → whole ≡ more ++ breaches_from lists (n + 1) (drop (n + 1) paths) (drop (n + 1) arounds) (drop (n + 1) uses)
found_next whole found more lists n paths arounds uses path around used around_at path_at used_at grown so_far =
    so_far
    ∙ (ap (λ (ps : List (List ℕ)). found ++ breaches_from lists n ps (drop n arounds) (drop n uses)) (next paths n path path_at)
    ∙ (ap (λ (rs : List Around). found ++ breaches_from lists n (path ∷ drop (n + 1) paths) rs (drop n uses)) (next arounds n around around_at)
    ∙ (ap (λ (us : List Use). found ++ breaches_from lists n (path ∷ drop (n + 1) paths) (around ∷ drop (n + 1) arounds) us) (next uses n used used_at)
    ∙ (sym (append_assoc found (all_at n (findings (place_of lists around path) used)) (breaches_from lists (n + 1) (drop (n + 1) paths) (drop (n + 1) arounds) (drop (n + 1) uses)))
    ∙ ap (λ (l : List Breach). l ++ breaches_from lists (n + 1) (drop (n + 1) paths) (drop (n + 1) arounds) (drop (n + 1) uses)) (sym grown)))))

no_arounds : (lists : Lists) (n : ℕ) (paths : List (List ℕ)) (uses : List Use) → breaches_from lists n paths [] uses ≡ []
no_arounds lists n [] uses = refl
no_arounds lists n (path ∷ paths) uses = refl

no_uses : (lists : Lists) (n : ℕ) (paths : List (List ℕ)) (arounds : List Around) → breaches_from lists n paths arounds [] ≡ []
no_uses lists n [] arounds = refl
no_uses lists n (path ∷ paths) [] = refl
no_uses lists n (path ∷ paths) (around ∷ arounds) = refl

-- nothing is left
pub past_paths : (whole found : List Breach) (lists : Lists) (n : ℕ) (paths : List (List ℕ)) (arounds : List Around) (uses : List Use) → slice_get paths n ≡ None
    → whole ≡ found ++ breaches_from lists n (drop n paths) (drop n arounds) (drop n uses) → found ≡ whole
past_paths whole found lists n paths arounds uses at so_far =
    sym (so_far ∙ (ap (λ (ps : List (List ℕ)). found ++ breaches_from lists n ps (drop n arounds) (drop n uses)) (past paths n at) ∙ append-nil found))

pub past_uses : (whole found : List Breach) (lists : Lists) (n : ℕ) (paths : List (List ℕ)) (arounds : List Around) (uses : List Use) → slice_get uses n ≡ None
    → whole ≡ found ++ breaches_from lists n (drop n paths) (drop n arounds) (drop n uses) → found ≡ whole
past_uses whole found lists n paths arounds uses at so_far =
    sym (so_far ∙ (ap (λ (us : List Use). found ++ breaches_from lists n (drop n paths) (drop n arounds) us) (past uses n at)
    ∙ (ap (λ (l : List Breach). found ++ l) (no_uses lists n (drop n paths) (drop n arounds)) ∙ append-nil found)))

pub past_arounds : (whole found : List Breach) (lists : Lists) (n : ℕ) (paths : List (List ℕ)) (arounds : List Around) (uses : List Use) → length arounds ≤ n
    → whole ≡ found ++ breaches_from lists n (drop n paths) (drop n arounds) (drop n uses) → found ≡ whole
past_arounds whole found lists n paths arounds uses at so_far =
    sym (so_far ∙ (ap (λ (rs : List Around). found ++ breaches_from lists n (drop n paths) rs (drop n uses)) (past_all arounds n at)
    ∙ (ap (λ (l : List Breach). found ++ l) (no_arounds lists n (drop n paths) (drop n uses)) ∙ append-nil found)))

pub past_some_arounds : (whole found : List Breach) (lists : Lists) (n : ℕ) (paths : List (List ℕ)) (arounds : List Around) (uses : List Use) → slice_get arounds n ≡ None
    → whole ≡ found ++ breaches_from lists n (drop n paths) (drop n arounds) (drop n uses) → found ≡ whole
past_some_arounds whole found lists n paths arounds uses at so_far =
    sym (so_far ∙ (ap (λ (rs : List Around). found ++ breaches_from lists n (drop n paths) rs (drop n uses)) (past arounds n at)
    ∙ (ap (λ (l : List Breach). found ++ l) (no_arounds lists n (drop n paths) (drop n uses)) ∙ append-nil found)))
