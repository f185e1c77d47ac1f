-- What the plain program's files hold after each of its steps.
use Rattle.std.proofs.Common.{◌≡◌, inl, inr, ℕ, zero, suc, ◌||◌, ◌&&◌, if◌then◌else◌, Bool, true, false, List, [], ◌∷◌, ◌++◌, map, filter, Option, Some, None, is_some, refl, sym, ◌∙◌, ap, bytes_eq, append_assoc, arith}
use Rattle.std.proofs.lemmas.Bool.{cases_Bool, false≢true}
use Rattle.model.specs.declared.event.Moment.{Moment}
use Rattle.model.specs.declared.event.Moment.TheVariants.{Wrote}
use Rattle.model.specs.declared.event.Writer.{Writer}
use Rattle.model.specs.declared.graph.Edge.{Edge}
use Rattle.model.specs.World.{View, File, written, file_after, file_from, content_of, view_of}
use Rattle.model.specs.Graph.{has, maker, later_number, outputs, all_outputs}
use Rattle.model.specs.Outcome.{Behaviour, given}
use Rattle.model.specs.Clean.{made, rounds, sources_of, if_no_command}
use Rattle.witness.specs.Made.{if_command, command_of, made_paths, given_by, overwritten}
use Rattle.witness.proofs.CleanLists.{same_bytes, has_append}

-- ---- lists

filter-append : (f : List ℕ → Bool) (xs ys : List (List ℕ)) → filter f (xs ++ ys) ≡ filter f xs ++ filter f ys
filter-append f [] ys = refl
filter-append f (x ∷ xs) ys = elim (cases_Bool (f x)) [
  | inl yes_it ↦ rw yes_it (ap (λ (l : List (List ℕ)). x ∷ l) (filter-append f xs ys))
  | inr no_it ↦ rw no_it (filter-append f xs ys)
]

pub push_edge : (f : List ℕ → Bool) (m0 m1 m2 : List (List ℕ)) (e : Edge) (rest es : List Edge) (whole : List (List ℕ))
    → m1 ≡ m0 ++ filter f e.explicit_outputs → m2 ≡ m1 ++ filter f e.implicit_outputs → es ≡ e ∷ rest
    → m0 ++ filter f (all_outputs es) ≡ whole → m2 ++ filter f (all_outputs rest) ≡ whole
push_edge f m0 m1 m2 e rest es whole first second here so_far =
    ap (λ (l : List (List ℕ)). l ++ filter f (all_outputs rest)) (second ∙ ap (λ (l : List (List ℕ)). l ++ filter f e.implicit_outputs) first)
    ∙ joined m0 (filter f e.explicit_outputs) (filter f e.implicit_outputs) (filter f (all_outputs rest))
    ∙ ap (λ (l : List (List ℕ)). m0 ++ l) (sym split)
    ∙ sym (ap (λ (l : List Edge). m0 ++ filter f (all_outputs l)) here) ∙ so_far
  where
    joined : (a b c d : List (List ℕ)) → ((a ++ b) ++ c) ++ d ≡ a ++ ((b ++ c) ++ d)
    joined a b c d = simp append_assoc

    split : filter f ((e.explicit_outputs ++ e.implicit_outputs) ++ all_outputs rest) ≡ (filter f e.explicit_outputs ++ filter f e.implicit_outputs) ++ filter f (all_outputs rest)
    split = filter-append f (e.explicit_outputs ++ e.implicit_outputs) (all_outputs rest)
        ∙ ap (λ (l : List (List ℕ)). l ++ filter f (all_outputs rest)) (filter-append f e.explicit_outputs e.implicit_outputs)

-- ---- writes

file_from-push : (p : List ℕ) (file : Option File) (h : List Moment) (m : Moment) → file_from p file (h ++ m ∷ []) ≡ file_after p (file_from p file h) m
file_from-push p file [] m = refl
file_from-push p file (x ∷ h) m = file_from-push p (file_after p file x) h m

content-written : (content : Option (List ℕ)) (stamp : ℕ) → content_of (written content stamp) ≡ content
content-written None stamp = refl
content-written (Some c) stamp = refl

view-push : (h new : List Moment) (by : Writer) (path : List ℕ) (content : Option (List ℕ)) (stamp : ℕ) (p : List ℕ) → new ≡ h ++ Wrote by path content stamp ∷ []
    → view_of new p ≡ (if bytes_eq path p then content else view_of h p)
view-push h new by path content stamp p is =
    ap (λ (l : List Moment). view_of l p) is
    ∙ ap content_of (file_from-push p None h (Wrote by path content stamp))
    ∙ elim (cases_Bool (bytes_eq path p)) [
      | inl here ↦ rw here (content-written content stamp)
      | inr other ↦ rw other refl
    ]

overwritten-push : (view : View) (ws : List (List ℕ × Option (List ℕ))) (w : List ℕ × Option (List ℕ)) (p : List ℕ)
    → overwritten view (ws ++ w ∷ []) p ≡ (if bytes_eq w.0 p then w.1 else overwritten view ws p)
overwritten-push view [] w p = refl
overwritten-push view (x ∷ ws) w p = overwritten-push (λ q. if bytes_eq x.0 q then x.1 else view q) ws w p

pub one_more : (first h new : List Moment) (ws : List (List ℕ × Option (List ℕ))) (by : Writer) (path : List ℕ) (content : Option (List ℕ)) (stamp : ℕ)
    → ((p : List ℕ) → view_of h p ≡ overwritten (view_of first) ws p) → new ≡ h ++ Wrote by path content stamp ∷ []
    → (p : List ℕ) → view_of new p ≡ overwritten (view_of first) (ws ++ (path, content) ∷ []) p
one_more first h new ws by path content stamp so_far is p =
    view-push h new by path content stamp p is
    ∙ ap (λ (held : Option (List ℕ)). if bytes_eq path p then content else held) (so_far p)
    ∙ sym (overwritten-push (view_of first) ws (path, content) p)

-- the same function's values are written at each path
pub overwritten_by : (f : List ℕ → Option (List ℕ)) (view : View) (ps : List (List ℕ)) (p : List ℕ)
    → overwritten view (map (λ q. (q, f q)) ps) p ≡ (if has ps p then f p else view p)
overwritten_by f view [] p = refl
overwritten_by f view (q ∷ ps) p =
    overwritten_by f (λ x. if bytes_eq q x then f q else view x) ps p
    ∙ elim (cases_Bool (bytes_eq q p)) [
      | inl here ↦ rw here (elim (cases_Bool (has ps p)) [ inl among ↦ rw among refl | inr absent ↦ rw absent (ap f (same_bytes q p here)) ])
      | inr other ↦ rw other refl
    ]

-- ---- which command makes a path

-- what is given where the maker is known by its number, and by its edge
made-later : (B : Behaviour) (e : Edge) (es : List Edge) (sources view : View) (p : List ℕ) (m : Option ℕ) → ((k : ℕ) → m ≡ Some k → (j : ℕ) × (k ≡ suc j))
    → made B (e ∷ es) sources view p (later_number m) ≡ made B es sources view p m
made-later B e es sources view p None positive = refl
made-later B e es sources view p (Some zero) positive = absurd (let bad = (positive zero refl).1 in omega (arith, bad))
made-later B e es sources view p (Some (suc k)) positive = refl

maker_positive : (es : List Edge) (p : List ℕ) (k : ℕ) → maker es p ≡ Some k → (j : ℕ) × (k ≡ suc j)
maker_positive [] p k is = cc
maker_positive (e ∷ es) p k is = elim (cases_Bool (has (outputs e) p)) [
  | inl here ↦ let first : Some 1 ≡ Some k = rw here at is in let one : 1 ≡ k = cc in (0, sym one)
  | inr below ↦ let rest : later_number (maker es p) ≡ Some k = rw below at is in later (maker es p) rest
]
  where
    later : (m : Option ℕ) → later_number m ≡ Some k → (j : ℕ) × (k ≡ suc j)
    later None is = cc
    later (Some j) is = let next : suc j ≡ k = cc in (j, sym next)

abbrev pub made_by : Behaviour → View → View → List ℕ → Option Edge → Option (List ℕ)
made_by B sources view p None = sources p
made_by B sources view p (Some e) = given B e.act view p

pub made_is : (B : Behaviour) (es : List Edge) (sources view : View) (p : List ℕ) → made B es sources view p (maker es p) ≡ made_by B sources view p (command_of es p)
made_is B [] sources view p = refl
made_is B (e ∷ es) sources view p = elim (cases_Bool (has (outputs e) p)) [
  | inl here ↦ rw here (alias e.phony refl)
  | inr below ↦ rw below (made-later B e es sources view p (maker es p) (maker_positive es p) ∙ made_is B es sources view p)
]
  where
    alias : (b : Bool) → e.phony ≡ b → (if e.phony then sources p else given B e.act view p) ≡ made_by B sources view p (if_command e)
    alias true is = rw is refl
    alias false is = rw is refl

-- ---- the rounds

has_filter : (f : List ℕ → Bool) (ps : List (List ℕ)) (p : List ℕ) → has (filter f ps) p ≡ (has ps p && f p)
has_filter f [] p = refl
has_filter f (q ∷ ps) p = step (has_filter f ps p)
  where
    step : has (filter f ps) p ≡ (has ps p && f p) → has (filter f (q ∷ ps)) p ≡ ((bytes_eq q p || has ps p) && f p)
    step rest = elim (cases_Bool (bytes_eq q p)) [
      | inl here ↦ elim (cases_Bool (f q)) [
        | inl kept ↦ rw (kept, here) (sym (sym (ap f (same_bytes q p here)) ∙ kept))
        | inr dropped ↦ rw (dropped, here) (rest ∙ rw (sym (ap f (same_bytes q p here)) ∙ dropped) (and_false (has ps p)))
      ]
      | inr other ↦ elim (cases_Bool (f q)) [
        | inl kept ↦ rw (kept, other) rest
        | inr dropped ↦ rw (dropped, other) rest
      ]
    ]
      where
        and_false : (b : Bool) → (b && false) ≡ false
        and_false true = refl
        and_false false = refl

command_among : (es : List Edge) (p : List ℕ) → is_some (command_of es p) ≡ true → has (all_outputs es) p ≡ true
command_among [] p h = absurd (false≢true h)
command_among (e ∷ es) p h = has_append (outputs e) (all_outputs es) p ∙ elim (cases_Bool (has (outputs e) p)) [
  | inl here ↦ rw here refl
  | inr below ↦
      let there : is_some (command_of es p) ≡ true = rw below at h in
      rw below (command_among es p there)
]

-- a path is among those that commands make just where an edge's command makes it
among_made : (es : List Edge) (p : List ℕ) → has (made_paths es) p ≡ is_some (command_of es p)
among_made es p = has_filter (λ q. is_some (command_of es q)) (all_outputs es) p ∙ elim (cases_Bool (is_some (command_of es p))) [
  | inl is ↦ rw (command_among es p is) refl
  | inr none ↦ rw none (and_false (has (all_outputs es) p))
]
  where
    and_false : (b : Bool) → (b && false) ≡ false
    and_false true = refl
    and_false false = refl

-- commands that always fail
abbrev failing : Behaviour
failing = record { outcome = λ act view. record { ok = false; writes = [] }; depfile = λ content. None; dyndep = λ content. None }

-- a source is what no command makes
sources_by : (es : List Edge) (files : View) (p : List ℕ) → sources_of es files p ≡ made_by failing files files p (command_of es p)
sources_by es files p = at_maker (maker es p) ∙ made_is failing es files files p
  where
    at_maker : (m : Option ℕ) → if_no_command es (files p) m ≡ made failing es files files p m
    at_maker None = refl
    at_maker (Some i) = refl

abbrev fst_if : Bool → Option (List ℕ) → Option (List ℕ) → Option (List ℕ)
fst_if b x y = if b then x else y

map-map : {A : Type 0} (h : A → List ℕ) (f : List ℕ → Option (List ℕ)) (xs : List A) → map {B = List ℕ × Option (List ℕ)} (λ x. (h x, f (h x))) xs ≡ map {B = List ℕ × Option (List ℕ)} (λ q. (q, f q)) (map h xs)
map-map h f [] = refl
map-map h f (x ∷ xs) = ap (λ (l : List (List ℕ × Option (List ℕ))). (h x, f (h x)) ∷ l) (map-map h f xs)

removed_at : (es : List Edge) (old new : List Moment) (made_here : List (List ℕ)) → made_here ≡ made_paths es
    → ((p : List ℕ) → view_of new p ≡ overwritten (view_of old) (map (λ q. (q, None)) made_here) p)
    → (p : List ℕ) → view_of new p ≡ sources_of es (view_of old) p
removed_at es old new made_here is written_here p =
    written_here p ∙ overwritten_by (λ q. None) (view_of old) made_here p
    ∙ ap (λ (b : Bool). fst_if b None (view_of old p)) (ap (λ (l : List (List ℕ)). has l p) is ∙ among_made es p)
    ∙ at_command (command_of es p) ∙ sym (sources_by es (view_of old) p)
  where
    at_command : (c : Option Edge) → fst_if (is_some c) None (view_of old p) ≡ made_by failing (view_of old) (view_of old) p c
    at_command None = refl
    at_command (Some e) = refl

-- once what commands make is deleted, the sources are left
pub removed : {A : Type 0} (h : A → List ℕ) (es : List Edge) (old new : List Moment) (made_here slice : List A) (contents : List (List ℕ × Option (List ℕ)))
    → map h made_here ≡ made_paths es → slice ≡ made_here → contents ≡ map {B = List ℕ × Option (List ℕ)} (λ x. (h x, None)) slice
    → ((p : List ℕ) → view_of new p ≡ overwritten (view_of old) contents p)
    → (p : List ℕ) → view_of new p ≡ sources_of es (view_of old) p
removed h es old new xs slice contents is same_slice are wrote p =
    removed_at es old new (map h xs) is
    (λ q. wrote q ∙ ap (λ (l : List (List ℕ × Option (List ℕ))). overwritten (view_of old) l q)
    (are ∙ ap (λ l. map {B = List ℕ × Option (List ℕ)} (λ x. (h x, None)) l) same_slice ∙ map-map h (λ q. None) xs))
    p

unmade : (B : Behaviour) (es : List Edge) (sources : View) (k : ℕ) (p : List ℕ) → command_of es p ≡ None → rounds B es sources k p ≡ sources p
unmade B es sources zero p is = refl
unmade B es sources (suc k) p is =
    made_is B es sources (rounds B es sources k) p ∙ ap (λ (c : Option Edge). made_by B sources (rounds B es sources k) p c) is

-- once what each command gives is written, one more round is done
one_round_at : (B : Behaviour) (es : List Edge) (sources : View) (k : ℕ) (old new : List Moment) (made_here : List (List ℕ)) → made_here ≡ made_paths es
    → ((p : List ℕ) → view_of old p ≡ rounds B es sources k p)
    → ((p : List ℕ) → view_of new p ≡ overwritten (view_of old) (map (λ q. (q, given_by B (view_of old) q (command_of es q))) made_here) p)
    → (p : List ℕ) → view_of new p ≡ rounds B es sources (suc k) p
one_round_at B es sources k old new made_here is so_far written_here p =
    written_here p ∙ overwritten_by (λ q. given_by B (view_of old) q (command_of es q)) (view_of old) made_here p
    ∙ ap (λ (b : Bool). fst_if b (given_by B (view_of old) p (command_of es p)) (view_of old p)) (ap (λ (l : List (List ℕ)). has l p) is ∙ among_made es p)
    ∙ at_command (command_of es p) refl ∙ sym (made_is B es sources (rounds B es sources k) p)
  where
    same : view_of old ≡ rounds B es sources k
    same = λ i q. so_far q i

    at_command : (c : Option Edge) → command_of es p ≡ c → fst_if (is_some c) (given_by B (view_of old) p c) (view_of old p) ≡ made_by B sources (rounds B es sources k) p c
    at_command None none = so_far p ∙ unmade B es sources k p none
    at_command (Some e) some = ap (λ (v : View). given B e.act v p) same

pub one_round : {A : Type 0} (h : A → List ℕ) (B : Behaviour) (es : List Edge) (sources : View) (k n : ℕ) (old new : List Moment) (made_here slice : List A)
    (contents : List (List ℕ × Option (List ℕ)))
    → n ≡ suc k → map h made_here ≡ made_paths es → slice ≡ made_here
    → contents ≡ map {B = List ℕ × Option (List ℕ)} (λ x. (h x, given_by B (view_of old) (h x) (command_of es (h x)))) slice
    → ((p : List ℕ) → view_of old p ≡ rounds B es sources k p)
    → ((p : List ℕ) → view_of new p ≡ overwritten (view_of old) contents p)
    → (p : List ℕ) → view_of new p ≡ rounds B es sources n p
one_round h B es sources k n old new xs slice contents next is same_slice are so_far wrote p =
    one_round_at B es sources k old new (map h xs) is so_far
    (λ q. wrote q ∙ ap (λ (l : List (List ℕ × Option (List ℕ))). overwritten (view_of old) l q)
    (are ∙ ap (λ l. map {B = List ℕ × Option (List ℕ)} (λ x. (h x, given_by B (view_of old) (h x) (command_of es (h x)))) l) same_slice
    ∙ map-map h (λ q. given_by B (view_of old) q (command_of es q)) xs))
    p
    ∙ ap (λ (m : ℕ). rounds B es sources m p) (sym next)
