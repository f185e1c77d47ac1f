-- Which texts the records of a build log are in force for, by their numbers, and which paths lines name.
use Rattle.std.proofs.Common.{◌≡◌, ◌⊎◌, inl, inr, ℕ, zero, suc, ◌+◌, ◌<◌, ◌==◌, ◌&&◌, ◌||◌, Bool, true, false, cond, List, [], ◌∷◌, ◌++◌, Option, None, Some, IsSome, is_some, bytes_eq, filter, flat_map, length, map, refl, sym, ap, ◌∙◌, subst, arith}
use Rattle.std.proofs.lemmas.Bool.{and_from, and_parts, and_right, cases_Bool, eq-eqb, eqb-true, false≢true, or_cases, or_left, or_right}
use Rattle.std.proofs.lemmas.List.{length-map, map-append}
use Rattle.std.proofs.lemmas.Option.{none-some}
use Rattle.std.proofs.lemmas.Slice.Eq.{bytes_eq-Decides}
use Rattle.model.specs.declared.record.Record.{Record}
use Rattle.model.specs.declared.record.Record.TheVariants.{Begun, Done as DoneRecord}
use Rattle.model.specs.Graph.{has, has_number, is_named, paths_of}
use Rattle.model.specs.Records.{Made, in_force, in_force_from}
use Rattle.theory.proofs.Lists.{has_number-cases, same_bytes}
use Rattle.log_text.specs.Kept.{Saying, Telling, is_place, outputs_at, outputs_left, place_from, place_of, tellings}
use Rattle.log_text.specs.BuildLog.{made_of, makings, saying}
use Rattle.log_text.specs.declared.done.Done.{Done}
use Rattle.paths.specs.Lists.{line_paths}
use Rattle.paths.specs.Told.{edge_of, edges_of, graph_of, text_at, texts_at}
use Rattle.paths.specs.declared.line.Line.{Line}
use Rattle.paths.specs.declared.manifest.Action.{Action}
use Rattle.paths.specs.declared.manifest.Action.TheVariants.{Alias, Command}
use Rattle.paths.specs.declared.manifest.Manifest.{Manifest}
use Rattle.tools.proofs.Adding.{IsBelow}

-- ---- which records are in force

-- the record with this number is in force for the text
abbrev pub IsLeftAt : List Record → ℕ → List ℕ → Type 0
IsLeftAt rs n t = has (outputs_left (map saying rs) n) t ≡ true

both_some : (b : Bool) (x y : Option Made) (p q : Option ℕ) → is_some x ≡ is_some p → is_some y ≡ is_some q → is_some (cond b x y) ≡ is_some (cond b p q)
both_some true x y p q one other = one
both_some false x y p q one other = other

-- something is in force for a text just where a record is
force_from : (rs : List Record) (o : List ℕ) (held : Option Made) (place : Option ℕ) (n : ℕ) → is_some held ≡ is_some place → is_some (in_force_from o held rs) ≡ is_some (place_from o place n (map saying rs))
force_from [] o held place n same = same
force_from (Begun os ∷ rs) o held place n same = force_from rs o (cond (has os o) None held) (cond (has os o) None place) n (both_some (has os o) None held None place refl same)
force_from (DoneRecord os start act ∷ rs) o held place n same =
    force_from rs o (cond (has os o) (Some (record { act = act; start = start })) held) (cond (has os o) (Some n) place) (n + 1) (both_some (has os o) (Some (record { act = act; start = start })) held (Some n) place refl same)

force_is : (rs : List Record) (o : List ℕ) → is_some (in_force rs o) ≡ is_some (place_of (map saying rs) o)
force_is rs o = force_from rs o None None 0 refl

-- the record in force for a text names it
named_from : (rest : List (Saying Done)) (o : List ℕ) (held : Option ℕ) (n m : ℕ) → place_from o held n rest ≡ Some m → (held ≡ Some m) ⊎ ((k : ℕ) × (m ≡ n + k) × (has (outputs_at (tellings rest) k) o ≡ true))
named_from [] o held n m e = inl e
named_from ((os, None) ∷ rest) o held n m e = go (cases_Bool (has os o)) (named_from rest o (cond (has os o) None held) n m e)
  where
    go : (has os o ≡ true) ⊎ (has os o ≡ false) → (cond (has os o) None held ≡ Some m) ⊎ ((k : ℕ) × (m ≡ n + k) × (has (outputs_at (tellings rest) k) o ≡ true)) → (held ≡ Some m) ⊎ ((k : ℕ) × (m ≡ n + k) × (has (outputs_at (tellings rest) k) o ≡ true))
    go c (inr r) = inr r
    go (inl h) (inl f) = absurd (none-some m (sym (ap (λ (b : Bool). cond b None held) h) ∙ f))
    go (inr h) (inl f) = inl (sym (ap (λ (b : Bool). cond b None held) h) ∙ f)
named_from ((os, Some x) ∷ rest) o held n m e = go (cases_Bool (has os o)) (named_from rest o (cond (has os o) (Some n) held) (n + 1) m e)
  where
    go : (has os o ≡ true) ⊎ (has os o ≡ false) → (cond (has os o) (Some n) held ≡ Some m) ⊎ ((k : ℕ) × (m ≡ (n + 1) + k) × (has (outputs_at (tellings rest) k) o ≡ true)) → (held ≡ Some m) ⊎ ((k : ℕ) × (m ≡ n + k) × (has (outputs_at ((os, x) ∷ tellings rest) k) o ≡ true))
    go c (inr r) = inr (suc r.0, (let e = r.1 in let same : m ≡ n + suc r.0 = omega arith in same), r.2)
    go (inl h) (inl f) =
        let here : Some n ≡ Some m = sym (ap (λ (b : Bool). cond b (Some n) held) h) ∙ f in
        let same : n ≡ m = cc in
        inr (0, (let at : m ≡ n + 0 = omega arith in at), h)
    go (inr h) (inl f) = inl (sym (ap (λ (b : Bool). cond b (Some n) held) h) ∙ f)

told_within : (ts : List (Telling Done)) (k : ℕ) (o : List ℕ) → has (outputs_at ts k) o ≡ true → k < length ts
told_within [] k o there = absurd (false≢true there)
told_within (t ∷ ts) zero o there = omega arith
told_within (t ∷ ts) (suc k) o there = let rest = told_within ts k o there in omega (arith, rest)

has-filter : (test : List ℕ → Bool) (os : List (List ℕ)) (o : List ℕ) → has (filter test os) o ≡ (has os o && test o)
has-filter test [] o = refl
has-filter test (q ∷ os) o = go (test q) (bytes_eq q o) refl refl (has-filter test os o)
  where
    go : (a b : Bool) → test q ≡ a → bytes_eq q o ≡ b → has (filter test os) o ≡ (has os o && test o) → has (cond a (q ∷ filter test os) (filter test os)) o ≡ ((b || has os o) && test o)
    go true true e f ih = ap (λ (x : Bool). x || has (filter test os) o) f ∙ (sym e ∙ ap test (same_bytes q o f))
    go true false e f ih = ap (λ (x : Bool). x || has (filter test os) o) f ∙ ih
    go false true e f ih = ih ∙ (ap (λ (x : Bool). has os o && x) none ∙ (and_right (has os o) false refl ∙ sym none))
      where
        none : test o ≡ false
        none = sym (ap test (same_bytes q o f)) ∙ e
    go false false e f ih = ih

left_is : (rs : List Record) (n : ℕ) (o : List ℕ) → has (outputs_left (map saying rs) n) o ≡ (has (outputs_at (tellings (map saying rs)) n) o && is_place n (place_of (map saying rs) o))
left_is rs n o = has-filter (λ q. is_place n (place_of (map saying rs) q)) (outputs_at (tellings (map saying rs)) n) o

left_at : (rs : List Record) (o : List ℕ) (m k : ℕ) → place_of (map saying rs) o ≡ Some m → m ≡ 0 + k → has (outputs_at (tellings (map saying rs)) k) o ≡ true → IsBelow (IsLeftAt rs) (length (makings rs)) o
left_at rs o m k is same named = (k, low, left_is rs k o ∙ and_from (has (outputs_at (tellings (map saying rs)) k) o) (is_place k (place_of (map saying rs) o)) named (ap (is_place k) is ∙ eq-eqb m k here))
  where
    low : k < length (makings rs)
    low = subst (λ (count : ℕ). k < count) (sym (length-map (tellings (map saying rs)) (λ t. made_of t.1))) (told_within (tellings (map saying rs)) k o named)

    here : m ≡ k
    here = omega (arith, same)

-- what is in force for a text is told by a record that is in force for it
pub left_of_force : (rs : List Record) (o : List ℕ) → IsSome (in_force rs o) → IsBelow (IsLeftAt rs) (length (makings rs)) o
left_of_force rs o some = by (place_of (map saying rs) o) refl
  where
    by : (p : Option ℕ) → place_of (map saying rs) o ≡ p → IsBelow (IsLeftAt rs) (length (makings rs)) o
    by None is = absurd (false≢true (sym (ap (λ (q : Option ℕ). is_some q) is) ∙ (sym (force_is rs o) ∙ some)))
    by (Some m) is = elim (named_from (map saying rs) o None 0 m is) [
      | inl none ↦ absurd (none-some m none)
      | inr told ↦ left_at rs o m told.0 is told.1 told.2
    ]

pub force_of_left : (rs : List Record) (n : ℕ) (o : List ℕ) → IsLeftAt rs n o → IsSome (in_force rs o)
force_of_left rs n o left =
    force_is rs o ∙ by (place_of (map saying rs) o) (and_parts (has (outputs_at (tellings (map saying rs)) n) o) (is_place n (place_of (map saying rs) o)) (sym (left_is rs n o) ∙ left)).1
  where
    by : (p : Option ℕ) → is_place n p ≡ true → is_some p ≡ true
    by None is = absurd (false≢true is)
    by (Some m) is = refl

-- ---- which paths lines name

has_text : (paths : List (List ℕ)) (numbers : List ℕ) (n : ℕ) → has_number numbers n ≡ true → has (texts_at paths numbers) (text_at paths n) ≡ true
has_text paths [] n h = absurd (false≢true h)
has_text paths (m ∷ numbers) n h = elim (or_cases (m == n) (has_number numbers n) h) [
  | inl here ↦ or_left (bytes_eq (text_at paths m) (text_at paths n)) (has (texts_at paths numbers) (text_at paths n))
      (subst (λ (k : ℕ). bytes_eq (text_at paths m) (text_at paths k) ≡ true) (eqb-true m n here) ((bytes_eq-Decides (text_at paths m) (text_at paths m)).1 refl))
  | inr later ↦ or_right (bytes_eq (text_at paths m) (text_at paths n)) (has (texts_at paths numbers) (text_at paths n)) (has_text paths numbers n later)
]

six_parts : (f : ℕ → List ℕ) (a b c d e v : List ℕ) → map f ((a ++ b) ++ (((c ++ d) ++ e) ++ v)) ≡ (map f a ++ map f b) ++ (((map f c ++ map f d) ++ map f e) ++ map f v)
six_parts f a b c d e v =
    map-append f (a ++ b) (((c ++ d) ++ e) ++ v)
    ∙ (ap (λ (l : List (List ℕ)). l ++ map f (((c ++ d) ++ e) ++ v)) (map-append f a b)
    ∙ ap (λ (l : List (List ℕ)). (map f a ++ map f b) ++ l)
    (map-append f ((c ++ d) ++ e) v ∙ ap (λ (l : List (List ℕ)). l ++ map f v) (map-append f (c ++ d) e ∙ ap (λ (l : List (List ℕ)). l ++ map f e) (map-append f c d))))

-- the paths of an edge are those of its line
paths_are : (paths : List (List ℕ)) (line : Line) (action : Action) → texts_at paths (line_paths line) ≡ paths_of (edge_of paths line action)
paths_are paths line Alias = six_parts (text_at paths) line.explicit_outputs line.implicit_outputs line.explicit_inputs line.implicit_inputs line.order_only_inputs line.validations
paths_are paths line (Command command) = six_parts (text_at paths) line.explicit_outputs line.implicit_outputs line.explicit_inputs line.implicit_inputs line.order_only_inputs line.validations

named_in : (paths : List (List ℕ)) (lines : List Line) (actions : List Action) (n : ℕ) → length actions ≡ length lines → has_number (flat_map line_paths lines) n ≡ true → is_named (edges_of paths lines actions) (text_at paths n) ≡ true
named_in paths [] actions n fits there = absurd (false≢true there)
named_in paths (line ∷ lines) [] n fits there = absurd (omega (arith, fits))
named_in paths (line ∷ lines) (action ∷ actions) n fits there = elim (has_number-cases (line_paths line) (flat_map line_paths lines) n there) [
  | inl here ↦ or_left (has (paths_of (edge_of paths line action)) (text_at paths n)) (is_named (edges_of paths lines actions) (text_at paths n))
      (ap (λ (l : List (List ℕ)). has l (text_at paths n)) (sym (paths_are paths line action)) ∙ has_text paths (line_paths line) n here)
  | inr later ↦ or_right (has (paths_of (edge_of paths line action)) (text_at paths n)) (is_named (edges_of paths lines actions) (text_at paths n)) (named_in paths lines actions n (omega (arith, fits)) later)
]

-- the text of a number that lines name
pub named_number : (manifest : Manifest) (n : ℕ) → has_number (flat_map line_paths manifest.lines) n ≡ true → is_named (graph_of manifest).edges (text_at manifest.paths n) ≡ true
named_number manifest n among = named_in manifest.paths manifest.lines manifest.actions n manifest.fits among
