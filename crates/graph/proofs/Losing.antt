-- What edges gain by a load, and lose again.
use Rattle.std.proofs.Common.{◌≡◌, inl, inr, ℕ, ◌+◌, ◌<◌, ◌≤◌, ◌==◌, Bool, true, false, cond, List, [], ◌∷◌, ◌++◌, Option, Some, None, length, take, drop, get_or, refl, sym, ◌∙◌, ap, subst, arith, append_assoc, length-append}
use Rattle.std.proofs.Math.ListN.{set}
use Rattle.std.proofs.Math.Seq.{take-append_seam}
use Rattle.std.proofs.lemmas.Bool.{cases_Bool, eq-eqb, false≢true, or_left, or_parts}
use Rattle.std.proofs.lemmas.List.{append-nil, ext_get_or, get_or-set_same, get_or-set_other, get_or-take, length-set}
use Rattle.model.specs.Graph.{has_number}
use Rattle.theory.proofs.Lists.{has_number-append, has_number-cases, has_number-is}
use Rattle.graph.specs.declared.choice.Choice.{Choice}
use Rattle.graph.specs.declared.loaded.Gain.{Gain}
use Rattle.graph.specs.Fronts.{AreCut}
use Rattle.graph.specs.Gains.{gained_times, gained_outputs, HaveGrown, HaveGained, AreFreed}
use Rattle.graph.specs.Held.{list_at, maker_in, more_lists, times}
use Rattle.graph.specs.InTurn.{users_with, users_given, AreInputsBelow, ClaimsWith}
use Rattle.graph.specs.Making.{HaveClaimed}
use Rattle.graph.specs.Statements.{gain_at, gain_of}
use Rattle.graph.proofs.Fronts.{GrewBy, grew_none, grew_then, grew_back, pushed_more, more_same}
use Rattle.graph.proofs.Texts.{within_of}
use Rattle.graph.proofs.Turns.{take_next}
use Rattle.graph.proofs.Using.{length-more, length-used, length-used_with}

-- ---- users

with_more : (gains : List Gain) (users : List (List ℕ)) (e : ℕ) (o : Option ℕ) → AreInputsBelow (length users) gains → (q : ℕ) → GrewBy (times (gain_of gains o).inputs q) (list_at users q) (list_at (users_with gains users e o) q)
with_more gains users e None below q = grew_none (list_at users q) (list_at users q) refl
with_more gains users e (Some k) below q = pushed_more users (gain_at gains k).inputs e q (within_of (length users) (gain_at gains k).inputs (below k))

given_more : (gains : List Gain) (users : List (List ℕ)) (cs : List Choice) → AreInputsBelow (length users) gains → (q : ℕ) → GrewBy (gained_times gains cs q) (list_at users q) (list_at (users_given gains users cs) q)
given_more gains users [] below q = grew_none (list_at users q) (list_at users q) refl
given_more gains users (c ∷ cs) below q =
    let now = users_with gains users c.edge c.statement in
    grew_then (list_at users q) (list_at now q) (list_at (users_given gains now cs) q) (times (gain_of gains c.statement).inputs q) (gained_times gains cs q) (with_more gains users c.edge c.statement below q)
    (given_more gains now cs (subst (λ (n : ℕ). AreInputsBelow n gains) (sym (length-used_with gains users c.edge c.statement)) below) q)

-- edges that are put behind the lists of more paths
pub given_grown : (gains : List Gain) (users : List (List ℕ)) (count : ℕ) (cs : List Choice) → length users ≤ count → AreInputsBelow count gains → HaveGrown gains cs users (users_given gains (more_lists users count) cs)
given_grown gains users count cs fits below =
    let wide = more_lists users count in
    let within = subst (λ (n : ℕ). AreInputsBelow n gains) (sym (length-more users count fits)) below in
    record {
      fronts = λ p. let grew = given_more gains wide cs within p in record { more = grew.more; grows = grew.grows ∙ ap (λ (l : List ℕ). l ++ grew.more) (more_same users count p) };
      long = λ p.
          let grew = given_more gains wide cs within p in
          let size = ap length grew.grows in
          let sum = length-append (list_at wide p) grew.more in
          let same = ap length (more_same users count p) in
          let long = grew.long in
          omega (arith, size, sum, same, long);
    }

-- what was put behind them is taken again
pub given_back : (gains : List Gain) (users now : List (List ℕ)) (cs : List Choice) → AreInputsBelow (length users) gains → AreCut (gained_times gains cs) (users_given gains users cs) now → now ≡ users
given_back gains users now cs below cut =
    ext_get_or [] now users (cut.fits ∙ length-used gains users cs) (λ p low. cut.each p ∙ grew_back (gained_times gains cs p) (list_at users p) (list_at (users_given gains users cs) p) (given_more gains users cs below p))

pub times_push : (gains : List Gain) (cs : List Choice) (x : Choice) (p : ℕ) → gained_times gains (cs ++ x ∷ []) p ≡ gained_times gains cs p + times (gain_of gains x.statement).inputs p
times_push gains [] x p = let one : gained_times gains (x ∷ []) p ≡ times (gain_of gains x.statement).inputs p + 0 = refl in omega (arith, one)
times_push gains (c ∷ cs) x p =
    let rest = times_push gains cs x p in
    let whole : gained_times gains (c ∷ (cs ++ x ∷ [])) p ≡ times (gain_of gains c.statement).inputs p + gained_times gains (cs ++ x ∷ []) p = refl in
    let was : gained_times gains (c ∷ cs) p ≡ times (gain_of gains c.statement).inputs p + gained_times gains cs p = refl in
    omega (arith, rest, whole, was)

-- ---- makers

-- a list that was written over one of its length stands whole
pub slice_whole : (len : ℕ) (old new : List (Option ℕ)) → len ≡ length old → length new ≡ length old → take len (new ++ drop (length new) old) ≡ new
slice_whole len old new full size = ap (λ (n : ℕ). take n (new ++ drop (length new) old)) (full ∙ sym size) ∙ take-append_seam new (drop (length new) old)

pub outputs_push : (gains : List Gain) (cs : List Choice) (x : Choice) → gained_outputs gains (cs ++ x ∷ []) ≡ gained_outputs gains cs ++ (gain_of gains x.statement).outputs
outputs_push gains [] x = append-nil (gain_of gains x.statement).outputs
outputs_push gains (c ∷ cs) x =
    ap (λ (l : List ℕ). (gain_of gains c.statement).outputs ++ l) (outputs_push gains cs x) ∙ sym (append_assoc (gain_of gains c.statement).outputs (gained_outputs gains cs) (gain_of gains x.statement).outputs)

absent_left : (xs ys : List ℕ) (p : ℕ) → has_number (xs ++ ys) p ≡ false → has_number xs p ≡ false
absent_left xs ys p absent = (or_parts (has_number xs p) (has_number ys p) (sym (has_number-append xs ys p) ∙ absent)).0

absent_right : (xs ys : List ℕ) (p : ℕ) → has_number (xs ++ ys) p ≡ false → has_number ys p ≡ false
absent_right xs ys p absent = (or_parts (has_number xs p) (has_number ys p) (sym (has_number-append xs ys p) ∙ absent)).1

pub gained_none : (makers : List (Option ℕ)) → HaveGained [] makers makers
gained_none makers = record { longer = omega arith; fresh = λ p h. absurd (false≢true h); others = λ p absent. refl }

pub gained_claimed : (old new : List (Option ℕ)) (outs : List ℕ) (e : ℕ) → length new ≡ length old → HaveClaimed old new outs e → HaveGained outs old new
gained_claimed old new outs e fits claimed = record {
  longer = omega (arith, fits);
  fresh = claimed.fresh;
  others = λ p absent. claimed.is p ∙ ap (λ (b : Bool). cond b (Some e) (maker_in old p)) absent;
}

pub gained_with : (gains : List Gain) (old new : List (Option ℕ)) (e : ℕ) (o : Option ℕ) → length new ≡ length old → ClaimsWith gains old new e o → HaveGained (gain_of gains o).outputs old new
gained_with gains old new e None fits same = subst (HaveGained [] old) (sym same) (gained_none old)
gained_with gains old new e (Some k) fits claimed = gained_claimed old new (gain_at gains k).outputs e fits claimed

pub gained_then : (xs ys : List ℕ) (old mid new : List (Option ℕ)) → HaveGained xs old mid → HaveGained ys mid new → HaveGained (xs ++ ys) old new
gained_then xs ys old mid new one two = record {
  longer = let a = one.longer in let b = two.longer in omega (arith, a, b);
  fresh = λ p h. elim (cases_Bool (has_number xs p)) [
    | inl here ↦ one.fresh p here
    | inr absent ↦ elim (has_number-cases xs ys p h) [
      | inl here ↦ absurd (false≢true (sym absent ∙ here))
      | inr there ↦ sym (one.others p absent) ∙ two.fresh p there
    ]
  ];
  others = λ p absent. two.others p (absent_right xs ys p absent) ∙ one.others p (absent_left xs ys p absent);
}

-- more places for makers, which are none
pub gained_longer : (xs : List ℕ) (old wide new : List (Option ℕ)) → length old ≤ length wide → ((p : ℕ) → maker_in wide p ≡ maker_in old p) → HaveGained xs wide new → HaveGained xs old new
gained_longer xs old wide new fits same gained = record {
  longer = let more = gained.longer in omega (arith, fits, more);
  fresh = λ p h. sym (same p) ∙ gained.fresh p h;
  others = λ p absent. gained.others p absent ∙ same p;
}

pub freed_none : (makers : List (Option ℕ)) → AreFreed [] makers makers
freed_none makers = record { fits = refl; gone = λ p h. absurd (false≢true h); others = λ p absent. refl }

pub freed_then : (xs ys : List ℕ) (old mid new : List (Option ℕ)) → AreFreed xs old mid → AreFreed ys mid new → AreFreed (xs ++ ys) old new
freed_then xs ys old mid new one two = record {
  fits = two.fits ∙ one.fits;
  gone = λ p h. elim (cases_Bool (has_number ys p)) [
    | inl there ↦ two.gone p there
    | inr absent ↦ elim (has_number-cases xs ys p h) [
      | inl here ↦ two.others p absent ∙ one.gone p here
      | inr there ↦ absurd (false≢true (sym absent ∙ there))
    ]
  ];
  others = λ p absent. two.others p (absent_right xs ys p absent) ∙ one.others p (absent_left xs ys p absent);
}

freed_one : (makers : List (Option ℕ)) (n : ℕ) → n < length makers → AreFreed (n ∷ []) makers (set makers n None)
freed_one makers n low = record {
  fits = length-set makers n None;
  gone = λ p h. subst (λ (q : ℕ). maker_in (set makers n None) q ≡ None) (has_number-is n p h) (get_or-set_same makers n None None low);
  others = λ p absent. get_or-set_other makers n p None None (λ same. false≢true (sym absent ∙ or_left (n == p) false (eq-eqb n p (sym same))));
}

-- one path more
pub freed_next : (first now : List (Option ℕ)) (paths : List ℕ) (k n : ℕ) → k < length paths → n ≡ get_or paths k n → n < length now → AreFreed (take k paths) first now → AreFreed (take (k + 1) paths) first (set now n None)
freed_next first now paths k n low is within so_far =
    subst (λ (l : List ℕ). AreFreed l first (set now n None)) (sym (take_next paths k n low is)) (freed_then (take k paths) (n ∷ []) first now (set now n None) so_far (freed_one now n within))

-- what got a maker loses it again
freed_at : (xs : List ℕ) (old mid new : List (Option ℕ)) → HaveGained xs old mid → AreFreed xs mid new → (p : ℕ) → maker_in new p ≡ maker_in old p
freed_at xs old mid new gained freed p = elim (cases_Bool (has_number xs p)) [
  | inl here ↦ freed.gone p here ∙ sym (gained.fresh p here)
  | inr absent ↦ freed.others p absent ∙ gained.others p absent
]

pub freed_back : (xs : List ℕ) (old mid new : List (Option ℕ)) → length mid ≡ length old → HaveGained xs old mid → AreFreed xs mid new → new ≡ old
freed_back xs old mid new fits gained freed = ext_get_or None new old (freed.fits ∙ fits) (λ p low. freed_at xs old mid new gained freed p)

-- so it does where there are more places
pub freed_front : (xs : List ℕ) (old mid new : List (Option ℕ)) (count : ℕ) → count ≡ length old → HaveGained xs old mid → AreFreed xs mid new → (size : length (take count new) ≡ length old) → take count new ≡ old
freed_front xs old mid new count is gained freed size =
    ext_get_or None (take count new) old size (λ p low. get_or-take count new p None (let long = size in omega (arith, low, long, is)) ∙ freed_at xs old mid new gained freed p)
