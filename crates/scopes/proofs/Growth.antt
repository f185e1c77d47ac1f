-- A text that is too large with a front of its pieces is too large with all of them.
use Rattle.std.proofs.Common.{◌≡◌, ℕ, ◌+◌, ◌-◌, ◌<◌, ◌≤◌, List, [], ◌∷◌, ◌++◌, length, take, drop, get_or, map, ap, sym, ◌∙◌, refl, append_assoc, subst, arith}
use Rattle.std.specs.List.{flat_map}
use Rattle.std.specs.Map.Iter.{deref}
use denote.Ref.{Bor}
use Rattle.std.proofs.lemmas.List.{take_all, length-append}
use Rattle.std.proofs.lemmas.List.Folds.{length-flat_map-take}
use Rattle.scopes.specs.Texts.{joined}

pub large_pieces : {X : Type 0} (f : X → List ℕ) (front : List ℕ) (xs : List X) (i most : ℕ) (d : X) → i < length xs
    → most < length ((front ++ flat_map f (take i xs)) ++ f (get_or xs i d)) → most < length (front ++ flat_map f xs)
large_pieces f front xs i most d below large =
    let within = length-flat_map-take f xs i d below in
    let more : most < length front + length (flat_map f (take i xs)) + length (f (get_or xs i d)) = simp length-append at large in
    simp length-append (omega arith)

-- pieces of texts that are borrowed
pub deref_pieces : (f : List ℕ → List ℕ) (texts : List (Bor (List ℕ))) → flat_map f (map deref texts) ≡ flat_map (λ (next : Bor (List ℕ)). f next.now) texts
deref_pieces f [] = refl
deref_pieces f (x ∷ xs) = ap (λ (rest : List ℕ). f x.now ++ rest) (deref_pieces f xs)

-- the same where the texts behind the first are appended one after another, each behind a separator
pub large_texts : (text start now separator : List ℕ) (d : Bor (List ℕ)) (texts : List (Bor (List ℕ))) (i most : ℕ) → 1 ≤ length texts → i < length (take (length texts - 1) (drop 1 texts))
    → start ≡ text ++ (get_or texts 0 d).now → now ≡ start ++ flat_map (λ (next : Bor (List ℕ)). separator ++ next.now) (take i (take (length texts - 1) (drop 1 texts)))
    → most < length (now ++ (separator ++ (get_or (take (length texts - 1) (drop 1 texts)) i d).now)) → most < length (text ++ joined separator (map deref texts))
large_texts text start now separator d [] i most some below begins reads large = absurd (omega arith)
large_texts text start now separator d (x ∷ xs) i most some below begins reads large =
    let all : take (length (x ∷ xs) - 1) (drop 1 (x ∷ xs)) ≡ xs = take_all (length (x ∷ xs) - 1) xs (omega arith) in
    let below' : i < length xs = rw all at below in
    let reads' : now ≡ start ++ flat_map (λ (next : Bor (List ℕ)). separator ++ next.now) (take i xs) = rw all at reads in
    let large' : most < length ((start ++ flat_map (λ (next : Bor (List ℕ)). separator ++ next.now) (take i xs)) ++ (separator ++ (get_or xs i d).now)) = rw (reads', all) at large in
    let whole = large_pieces (λ (next : Bor (List ℕ)). separator ++ next.now) start xs i most d below' large' in
    let flat : most < length (text ++ x.now) + length (flat_map (λ (next : Bor (List ℕ)). separator ++ next.now) xs) = rw (begins, length-append) at whole in
    let same : length (flat_map (λ (next : List ℕ). separator ++ next) (map deref xs)) ≡ length (flat_map (λ (next : Bor (List ℕ)). separator ++ next.now) xs) =
    ap length (deref_pieces (λ (next : List ℕ). separator ++ next) xs) in
    simp length-append (omega (arith, length-append text x.now, same))

-- all of them
pub whole_texts : (text start now separator : List ℕ) (d : Bor (List ℕ)) (texts : List (Bor (List ℕ))) (i : ℕ) → 1 ≤ length texts → length (take (length texts - 1) (drop 1 texts)) ≤ i
    → start ≡ text ++ (get_or texts 0 d).now → now ≡ start ++ flat_map (λ (next : Bor (List ℕ)). separator ++ next.now) (take i (take (length texts - 1) (drop 1 texts)))
    → now ≡ text ++ joined separator (map deref texts)
whole_texts text start now separator d [] i some past begins reads = absurd (omega arith)
whole_texts text start now separator d (x ∷ xs) i some past begins reads =
    let all : take (length (x ∷ xs) - 1) (drop 1 (x ∷ xs)) ≡ xs = take_all (length (x ∷ xs) - 1) xs (omega arith) in
    let past' : length xs ≤ i = rw all at past in
    let reads' : now ≡ start ++ flat_map (λ (next : Bor (List ℕ)). separator ++ next.now) (take i xs) = rw all at reads in
    reads' ∙ (ap (λ (l : List (Bor (List ℕ))). start ++ flat_map (λ (next : Bor (List ℕ)). separator ++ next.now) l) (take_all i xs past')
    ∙ (ap (λ (l : List ℕ). l ++ flat_map (λ (next : Bor (List ℕ)). separator ++ next.now) xs) begins
    ∙ (append_assoc text x.now _ ∙ ap (λ (l : List ℕ). text ++ (x.now ++ l)) (sym (deref_pieces (λ (next : List ℕ). separator ++ next) xs)))))

-- the same where the text reads as the front and the pieces so far
pub large_front : {X : Type 0} (f : X → List ℕ) (front now : List ℕ) (xs : List X) (i most : ℕ) (x : X) → i < length xs
    → now ≡ front ++ flat_map f (take i xs) → x ≡ get_or xs i x → most < length (now ++ f x) → most < length (front ++ flat_map f xs)
large_front {X} f front now xs i most x below reads ends large =
    large_pieces f front xs i most x below (subst (λ (y : X). most < length ((front ++ flat_map f (take i xs)) ++ f y)) ends (rw reads at large))
