-- What stands after one more turn of a loop.
use Rattle.std.proofs.Common.{◌≡◌, ◌≢◌, ◌⊎◌, inl, inr, ℕ, zero, suc, ◌+◌, ◌<◌, ◌==◌, ◌||◌, Bool, true, false, cond, nat_eq, nat_lt, List, [], ◌∷◌, ◌++◌, Option, Some, None, length, get_or, take, drop, add-one, refl, sym, ◌∙◌, ap, subst, arith, append_assoc, bytes_eq}
use Rattle.std.specs.Prelude.{option_to_list}
use Rattle.std.specs.List.{AllByRecursion, flat_map}
use Rattle.std.specs.Option.{is_some}
use Rattle.std.proofs.Math.ListN.{set}
use Rattle.std.proofs.Math.Seq.{take-suc}
use Rattle.std.proofs.lemmas.Bool.{cases_eq, cases_Bool, eqb-true, eq-eqb, or_left, or_right, or_cases, false≢true, false_from_ne_true}
use Rattle.std.proofs.lemmas.List.{get_or-set_same, get_or-set_other, map-append, append-nil}
use Rattle.std.proofs.lemmas.Grind.{flat_map-append}
use Rattle.indexmap.specs.IndexSet.{insert_key, insert_all}
use Rattle.model.specs.declared.graph.Edge.{Edge}
use Rattle.model.specs.Graph.{has, has_number, maker}
use Rattle.theory.proofs.Lists.{same_bytes, bytes_same, has-left, has-right, has-cases, has_number-left, has_number-append, has_number-push, has_number-push_cases, has_number-push_other}
use Rattle.paths.specs.declared.line.Line.{Line}
use Rattle.paths.specs.Lists.{line_at, line_inputs}
use Rattle.paths.specs.Told.{text_at, texts_at}
use Rattle.graph.specs.Alias.{alias_at, aliases_of}
use Rattle.graph.specs.Held.{list_at, times, StandOnce, maker_in, pushed}
use Rattle.graph.specs.Linked.{AreMakersOf}
use Rattle.graph.specs.Links.{Links}
use Rattle.graph.specs.Making.{IsFirstClaimed}
use Rattle.graph.proofs.Lists.{times_pushed, once_push}

-- the first of a list, and one more
pub take_next : (xs : List ℕ) (i n : ℕ) → i < length xs → n ≡ get_or xs i n → take (i + 1) xs ≡ take i xs ++ n ∷ []
take_next xs i n lt is = rw (add-one, take-suc xs i n lt) (ap (λ (m : ℕ). take i xs ++ m ∷ []) (sym is))

pub all_at : (P : ℕ → Type 0) (xs : List ℕ) (i n : ℕ) → AllByRecursion P xs → i < length xs → n ≡ get_or xs i n → P n
all_at P [] i n all lt is = absurd (omega (arith, lt))
all_at P (x ∷ xs) zero n all lt is = subst P (sym is) all.0
all_at P (x ∷ xs) (suc i) n all lt is = all_at P xs i n all.1 (omega (arith, lt)) is

-- ---- marks

pub marked_next : (old now : List Bool) (numbers : List ℕ) (i n : ℕ) → i < length numbers → n ≡ get_or numbers i n → n < length now
    → ((k : ℕ) → get_or now k false ≡ (get_or old k false || has_number (take i numbers) k))
    → (k : ℕ) → get_or (set now n true) k false ≡ (get_or old k false || has_number (take (i + 1) numbers) k)
marked_next old now numbers i n lt is within so_far k =
    written ∙ (ap (λ (b : Bool). b || has_number (n ∷ []) k) (so_far k)
    ∙ (or_assoc (get_or old k false) (has_number (take i numbers) k) (has_number (n ∷ []) k)
    ∙ ap (λ (b : Bool). get_or old k false || b) (sym (ap (λ (l : List ℕ). has_number l k) (take_next numbers i n lt is) ∙ has_number-append (take i numbers) (n ∷ []) k))))
  where
    or_assoc : (a b c : Bool) → ((a || b) || c) ≡ (a || (b || c))
    or_assoc true b c = refl
    or_assoc false b c = refl

    written : get_or (set now n true) k false ≡ (get_or now k false || has_number (n ∷ []) k)
    written = elim (cases_eq n k) [
      | inl same ↦
          ap (λ (j : ℕ). get_or (set now n true) j false) (sym same) ∙ (get_or-set_same now n true false within
          ∙ sym (or_right (get_or now k false) (has_number (n ∷ []) k) (or_left (n == k) false (eq-eqb n k same))))
      | inr other ↦
          get_or-set_other now n k true false (λ e. other (sym e))
          ∙ sym (ap (λ (b : Bool). get_or now k false || (b || false)) (false_from_ne_true (n == k) (λ e. other (eqb-true n k e))) ∙ or_false (get_or now k false))
    ]
      where
        or_false : (b : Bool) → (b || (false || false)) ≡ b
        or_false true = refl
        or_false false = refl

take_after : (lines : List Line) (k : ℕ) → k < length lines → take (suc k) lines ≡ take k lines ++ line_at lines k ∷ []
take_after [] k lt = absurd (omega (arith, lt))
take_after (line ∷ lines) zero lt = refl
take_after (line ∷ lines) (suc k) lt = ap (λ (l : List Line). line ∷ l) (take_after lines k (omega (arith, lt)))

take_lines : (lines : List Line) (k : ℕ) → k < length lines → take (k + 1) lines ≡ take k lines ++ line_at lines k ∷ []
take_lines lines k lt = let next : k + 1 ≡ suc k = omega arith in ap (λ (n : ℕ). take n lines) next ∙ take_after lines k lt

pub flat_next : (f : Line → List ℕ) (lines : List Line) (k : ℕ) → k < length lines → flat_map f (take (k + 1) lines) ≡ flat_map f (take k lines) ++ f (line_at lines k)
flat_next f lines k lt =
    ap (flat_map f) (take_lines lines k lt) ∙ (flat_map-append f (take k lines) (line_at lines k ∷ []) ∙ ap (λ (l : List ℕ). flat_map f (take k lines) ++ l) (append-nil (f (line_at lines k))))

-- the inputs of one more edge
pub needed_next : (lines : List Line) (k : ℕ) (now marks : List Bool) → k < length lines → ((p : ℕ) → get_or now p false ≡ has_number (flat_map line_inputs (take k lines)) p)
    → ((p : ℕ) → get_or marks p false ≡ (get_or now p false || has_number (line_inputs (line_at lines k)) p)) → (p : ℕ) → get_or marks p false ≡ has_number (flat_map line_inputs (take (k + 1) lines)) p
needed_next lines k now marks lt so_far here p =
    here p ∙ (ap (λ (b : Bool). b || has_number (line_inputs (line_at lines k)) p) (so_far p)
    ∙ sym (ap (λ (l : List ℕ). has_number l p) (flat_next line_inputs lines k lt) ∙ has_number-append (flat_map line_inputs (take k lines)) (line_inputs (line_at lines k)) p))

-- ---- sets

insert_push : (xs ns : List ℕ) (n : ℕ) → insert_all nat_eq xs (ns ++ n ∷ []) ≡ insert_key nat_eq (insert_all nat_eq xs ns) n
insert_push xs [] n = refl
insert_push xs (m ∷ ns) n = insert_push (insert_key nat_eq xs m) ns n

pub insert_next : (first now next xs : List ℕ) (i n : ℕ) → i < length xs → n ≡ get_or xs i n → now ≡ insert_all nat_eq first (take i xs) → next ≡ insert_key nat_eq now n → next ≡ insert_all nat_eq first (take (i + 1) xs)
insert_next first now next xs i n lt is so_far grown =
    grown ∙ (ap (λ (l : List ℕ). insert_key nat_eq l n) so_far ∙ sym (ap (insert_all nat_eq first) (take_next xs i n lt is) ∙ insert_push first (take i xs) n))

aliases-append : (links : Links) (ps qs : List ℕ) → aliases_of links (ps ++ qs) ≡ aliases_of links ps ++ aliases_of links qs
aliases-append links [] qs = refl
aliases-append links (p ∷ ps) qs = ap (λ (l : List ℕ). option_to_list (alias_at links p) ++ l) (aliases-append links ps qs) ∙ sym (append_assoc (option_to_list (alias_at links p)) (aliases_of links ps) (aliases_of links qs))

aliases_next : (links : Links) (ps : List ℕ) (i p : ℕ) → i < length ps → p ≡ get_or ps i p → aliases_of links (take (i + 1) ps) ≡ aliases_of links (take i ps) ++ option_to_list (alias_at links p)
aliases_next links ps i p lt is =
    ap (aliases_of links) (take_next ps i p lt is) ∙ (aliases-append links (take i ps) (p ∷ []) ∙ ap (λ (l : List ℕ). aliases_of links (take i ps) ++ l) (append-nil (option_to_list (alias_at links p))))

pub alias_push : (links : Links) (first now next ps : List ℕ) (i p j : ℕ) → i < length ps → p ≡ get_or ps i p → alias_at links p ≡ Some j → now ≡ insert_all nat_eq first (aliases_of links (take i ps)) → next ≡ insert_key nat_eq now j
    → next ≡ insert_all nat_eq first (aliases_of links (take (i + 1) ps))
alias_push links first now next ps i p j lt is alias so_far grown =
    grown ∙ (ap (λ (l : List ℕ). insert_key nat_eq l j) so_far
    ∙ sym (ap (insert_all nat_eq first) (aliases_next links ps i p lt is ∙ ap (λ (o : Option ℕ). aliases_of links (take i ps) ++ option_to_list o) alias) ∙ insert_push first (aliases_of links (take i ps)) j))

pub alias_skip : (links : Links) (first now ps : List ℕ) (i p : ℕ) → i < length ps → p ≡ get_or ps i p → alias_at links p ≡ None → now ≡ insert_all nat_eq first (aliases_of links (take i ps))
    → now ≡ insert_all nat_eq first (aliases_of links (take (i + 1) ps))
alias_skip links first now ps i p lt is alias so_far =
    so_far ∙ sym (ap (insert_all nat_eq first) (aliases_next links ps i p lt is ∙ (ap (λ (o : Option ℕ). aliases_of links (take i ps) ++ option_to_list o) alias ∙ append-nil (aliases_of links (take i ps)))))

-- ---- the users of one more edge's inputs

pub users_next : (users new : List (List ℕ)) (lines : List Line) (k : ℕ) → AllByRecursion (λ p. p < length users) (line_inputs (line_at lines k)) → new ≡ pushed users (line_inputs (line_at lines k)) k
    → ((p e : ℕ) → times (list_at users p) e ≡ cond (nat_lt e k) (times (line_inputs (line_at lines e)) p) 0) → (p e : ℕ) → times (list_at new p) e ≡ cond (nat_lt e (k + 1)) (times (line_inputs (line_at lines e)) p) 0
users_next users new lines k within is so_far p e =
    ap (λ (l : List (List ℕ)). times (list_at l p) e) is ∙ (times_pushed users (line_inputs (line_at lines k)) p k e within ∙ by (cases_eq k e))
  where
    nothing : (n : ℕ) → n + 0 ≡ n
    nothing n = omega arith

    by : (k ≡ e) ⊎ (k ≢ e) → times (list_at users p) e + cond (k == e) (times (line_inputs (line_at lines k)) p) 0 ≡ cond (nat_lt e (k + 1)) (times (line_inputs (line_at lines e)) p) 0
    by (inl same) =
        let late : nat_lt e k ≡ false = grind (arith, same) in
        let now : nat_lt e (k + 1) ≡ true = grind (arith, same) in
        let before : times (list_at users p) e ≡ 0 = so_far p e ∙ ap (λ (b : Bool). cond b (times (line_inputs (line_at lines e)) p) 0) late in
        let mine : cond (k == e) (times (line_inputs (line_at lines k)) p) 0 ≡ times (line_inputs (line_at lines k)) p = ap (λ (b : Bool). cond b (times (line_inputs (line_at lines k)) p) 0) (eq-eqb k e same) in
        let edge : times (line_inputs (line_at lines k)) p ≡ times (line_inputs (line_at lines e)) p = ap (λ (n : ℕ). times (line_inputs (line_at lines n)) p) same in
        let whole : cond (nat_lt e (k + 1)) (times (line_inputs (line_at lines e)) p) 0 ≡ times (line_inputs (line_at lines e)) p = ap (λ (b : Bool). cond b (times (line_inputs (line_at lines e)) p) 0) now in
        omega (arith, before, mine, edge, whole)
    by (inr other) =
        let mine : cond (k == e) (times (line_inputs (line_at lines k)) p) 0 ≡ 0 = ap (λ (b : Bool). cond b (times (line_inputs (line_at lines k)) p) 0) (false_from_ne_true (k == e) (λ is_same. other (eqb-true k e is_same))) in
        let same : nat_lt e (k + 1) ≡ nat_lt e k = grind (arith, other) in
        ap (λ (n : ℕ). times (list_at users p) e + n) mine ∙ (nothing (times (list_at users p) e) ∙ (so_far p e ∙ ap (λ (b : Bool). cond b (times (line_inputs (line_at lines e)) p) 0) (sym same)))

-- ---- makers of one more output

module _ (old now : List (Option ℕ)) (outputs : List ℕ) (i p e : ℕ) (lt : i < length outputs) (is : p ≡ get_or outputs i p) (once : StandOnce (take i outputs))
    (fresh : (q : ℕ) → has_number (take i outputs) q ≡ true → maker_in old q ≡ None) (so_far : (q : ℕ) → maker_in now q ≡ cond (has_number (take i outputs) q) (Some e) (maker_in old q)) where
  module _ (free : maker_in now p ≡ None) where
    not_before : has_number (take i outputs) p ≡ false
    not_before = false_from_ne_true (has_number (take i outputs) p) (λ h.
        let both : None ≡ Some e = sym free ∙ (so_far p ∙ ap (λ (b : Bool). cond b (Some e) (maker_in old p)) h) in
        none_some e both)
      where
        none_some : (d : ℕ) → None ≡ Some d → ⊥
        none_some d same = cc

    pub next_once : StandOnce (take (i + 1) outputs)
    next_once = subst StandOnce (sym (take_next outputs i p lt is)) (once_push (take i outputs) p once not_before)

    pub next_fresh : (q : ℕ) → has_number (take (i + 1) outputs) q ≡ true → maker_in old q ≡ None
    next_fresh q h = elim (has_number-push_cases (take i outputs) p q (subst (λ (l : List ℕ). has_number l q ≡ true) (take_next outputs i p lt is) h)) [
      | inl before ↦ fresh q before
      | inr here ↦ subst (λ (n : ℕ). maker_in old n ≡ None) here (sym (so_far p ∙ ap (λ (b : Bool). cond b (Some e) (maker_in old p)) not_before) ∙ free)
    ]

    pub next_is : p < length now → (q : ℕ) → maker_in (set now p (Some e)) q ≡ cond (has_number (take (i + 1) outputs) q) (Some e) (maker_in old q)
    next_is within q = elim (cases_eq p q) [
      | inl same ↦
          let there : has_number (take (i + 1) outputs) q ≡ true = ap (λ (l : List ℕ). has_number l q) (take_next outputs i p lt is) ∙ subst (λ (n : ℕ). has_number (take i outputs ++ p ∷ []) n ≡ true) same (has_number-push (take i outputs) p) in
          ap (maker_in (set now p (Some e))) (sym same) ∙ (get_or-set_same now p (Some e) None within ∙ sym (ap (λ (b : Bool). cond b (Some e) (maker_in old q)) there))
      | inr other ↦
          let kept : has_number (take (i + 1) outputs) q ≡ has_number (take i outputs) q = ap (λ (l : List ℕ). has_number l q) (take_next outputs i p lt is) ∙ has_number-push_other (take i outputs) p q other in
          get_or-set_other now p q (Some e) None (λ same. other (sym same)) ∙ (so_far q ∙ sym (ap (λ (b : Bool). cond b (Some e) (maker_in old q)) kept))
    ]

  pub claimed_twice : is_some (maker_in now p) ≡ true → IsFirstClaimed old outputs p
  claimed_twice some = record {
    before = take i outputs;
    after = drop (suc i) outputs;
    splits = split outputs i lt is;
    once = once;
    fresh = fresh;
    claimed = elim (cases_Bool (has_number (take i outputs) p)) [
      | inl here ↦ inr here
      | inr absent ↦ inl (ap is_some (sym (so_far p ∙ ap (λ (b : Bool). cond b (Some e) (maker_in old p)) absent)) ∙ some)
    ];
  }
    where
      split : (xs : List ℕ) (k : ℕ) → k < length xs → p ≡ get_or xs k p → xs ≡ take k xs ++ p ∷ drop (suc k) xs
      split [] k low at = absurd (omega (arith, low))
      split (x ∷ xs) zero low at = ap (λ (n : ℕ). n ∷ xs) (sym at)
      split (x ∷ xs) (suc k) low at = ap (λ (l : List ℕ). x ∷ l) (split xs k (omega (arith, low)) at)

-- ---- the edges that make some paths

pub makers_none : (edges : List Edge) → AreMakersOf edges [] []
makers_none edges = record {
  each = λ e listed. absurd (false≢true listed);
  all = λ p e wanted is. absurd (false≢true wanted);
}

is_one : (path p : List ℕ) → has (path ∷ []) p ≡ true → path ≡ p
is_one path p h = elim (or_cases (bytes_eq path p) false h) [ inl here ↦ same_bytes path p here | inr none ↦ absurd (false≢true none) ]

module _ (edges : List Edge) (paths : List (List ℕ)) (targets requested : List ℕ) (k target : ℕ) (lt : k < length targets) (is : target ≡ get_or targets k target) (are : AreMakersOf edges (texts_at paths (take k targets)) requested) where
  one_more : texts_at paths (take (k + 1) targets) ≡ texts_at paths (take k targets) ++ text_at paths target ∷ []
  one_more = ap (texts_at paths) (take_next targets k target lt is) ∙ map-append (text_at paths) (take k targets) (target ∷ [])

  pub makers_push : (e : ℕ) → maker edges (text_at paths target) ≡ Some (suc e) → AreMakersOf edges (texts_at paths (take (k + 1) targets)) (requested ++ e ∷ [])
  makers_push e made = subst (λ (l : List (List ℕ)). AreMakersOf edges l (requested ++ e ∷ [])) (sym one_more) record {
    each = λ d listed. elim (has_number-push_cases requested e d listed) [
      | inl old ↦
          let one = are.each d old in
          record { path = one.path; wanted = has-left (texts_at paths (take k targets)) (text_at paths target ∷ []) one.path one.wanted; made = one.made }
      | inr new ↦ record {
        path = text_at paths target;
        wanted = has-right (texts_at paths (take k targets)) (text_at paths target ∷ []) (text_at paths target) (or_left (bytes_eq (text_at paths target) (text_at paths target)) false (bytes_same (text_at paths target)));
        made = made ∙ ap (λ (n : ℕ). Some (suc n)) new;
      }
    ];
    all = λ p d wanted other. elim (has-cases (texts_at paths (take k targets)) (text_at paths target ∷ []) p wanted) [
      | inl old ↦ has_number-left requested (e ∷ []) d (are.all p d old other)
      | inr new ↦
          let both : Some (suc e) ≡ Some (suc d) = sym made ∙ (ap (maker edges) (is_one (text_at paths target) p new) ∙ other) in
          let same : e ≡ d = cc in
          subst (λ (n : ℕ). has_number (requested ++ e ∷ []) n ≡ true) same (has_number-push requested e)
    ];
  }

  pub makers_skip : maker edges (text_at paths target) ≡ None → AreMakersOf edges (texts_at paths (take (k + 1) targets)) requested
  makers_skip source = subst (λ (l : List (List ℕ)). AreMakersOf edges l requested) (sym one_more) record {
    each = λ d listed.
        let one = are.each d listed in
        record { path = one.path; wanted = has-left (texts_at paths (take k targets)) (text_at paths target ∷ []) one.path one.wanted; made = one.made };
    all = λ p d wanted other. elim (has-cases (texts_at paths (take k targets)) (text_at paths target ∷ []) p wanted) [
      | inl old ↦ are.all p d old other
      | inr new ↦ let both : None ≡ Some (suc d) = sym source ∙ (ap (maker edges) (is_one (text_at paths target) p new) ∙ other) in cc
    ];
  }
