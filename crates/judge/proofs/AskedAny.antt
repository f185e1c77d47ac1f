-- Whether one of some paths is absent or due, as they were seen, one more after another.
use Rattle.std.proofs.Common.{◌≡◌, inl, inr, ℕ, ◌+◌, ◌<◌, Bool, true, false, List, [], ◌∷◌, Option, Some, None, length, take, get_or, refl, sym, ◌∙◌, ap, subst}
use Rattle.std.specs.Option.{is_none}
use Rattle.std.proofs.lemmas.Bool.{false≢true}
use Rattle.std.proofs.lemmas.List.{take_more}
use Rattle.model.specs.Graph.{has_number}
use Rattle.theory.proofs.Lists.{has_number-cases, has_number-is}
use Rattle.graph.specs.Links.{Links}
use Rattle.judge.specs.declared.looks.Look.{Look}
use Rattle.judge.specs.Seen.{look_at, look_of, is_asked, StaysKnown}
use Rattle.judge.specs.Facts.{seen_stamp}
use Rattle.judge.specs.Dues.{due_by}
use Rattle.judge.specs.Ruled.{is_absent_seen, is_due_seen, WasAsked, WasSourceAsked, IsAbsentAsked, IsDueAsked, IsAnyAsked, NoneAsked}
use Rattle.judge.proofs.NumbersAsTexts.{at_has}

-- ---- one path

asked_look : (stamp : Option ℕ) → is_asked (look_of stamp) ≡ true
asked_look None = refl
asked_look (Some stamp) = refl

absent_look : (stamp : Option ℕ) → is_none (seen_stamp (look_of stamp)) ≡ is_none stamp
absent_look None = refl
absent_look (Some stamp) = refl

-- it was asked for just now
pub absent_noted : (seen : List Look) (p : ℕ) (stamp : Option ℕ) (is : Bool) → is ≡ is_none stamp → look_at seen p ≡ look_of stamp → IsAbsentAsked seen p is
absent_noted seen p stamp is told noted = record {
  asked = ap is_asked noted ∙ asked_look stamp;
  same = ap (λ (look : Look). is_none (seen_stamp look)) noted ∙ (absent_look stamp ∙ sym told);
}

some_none : (e : ℕ) → Some e ≡ None → ⊥
some_none e is = cc

-- it is a source
pub due_source : (links : Links) (seen : List Look) (due : List Bool) (p : ℕ) (is : Bool) → links.maker p ≡ None → IsAbsentAsked seen p is → IsDueAsked links seen due p is
due_source links seen due p is source absent = record { asked = λ same. absent.asked; same = ap (due_by due (is_absent_seen seen p)) source ∙ absent.same }

-- an edge makes it
pub due_made : (links : Links) (seen : List Look) (due : List Bool) (p e : ℕ) (is : Bool) → links.maker p ≡ Some e → due_by due false (Some e) ≡ is → IsDueAsked links seen due p is
due_made links seen due p e is made same = record { asked = λ source. absurd (some_none e (sym made ∙ source)); same = ap (due_by due (is_absent_seen seen p)) made ∙ same }

-- ---- what was seen stays

module _ (seen new : List Look) (stays : StaysKnown seen new) where
  pub absent_stays : (p : ℕ) → WasAsked seen p → (WasAsked new p) × (is_absent_seen new p ≡ is_absent_seen seen p)
  absent_stays p asked = (ap is_asked (stays p asked) ∙ asked, ap (λ (look : Look). is_none (seen_stamp look)) (stays p asked))

  pub due_stays : (links : Links) (due : List Bool) (p : ℕ) → WasSourceAsked links seen p → (WasSourceAsked links new p) × (is_due_seen links new due p ≡ is_due_seen links seen due p)
  due_stays links due p asked = by_maker (links.maker p) refl
    where
      by_maker : (o : Option ℕ) → links.maker p ≡ o → (WasSourceAsked links new p) × (due_by due (is_absent_seen new p) o ≡ due_by due (is_absent_seen seen p) o)
      by_maker None is = let both = absent_stays p (asked is) in ((λ source. both.0), both.1)
      by_maker (Some e) is = ((λ source. absurd (some_none e (sym is ∙ source))), refl)

-- ---- one more of some

module _ (Old New : ℕ → Type 0) (was now : ℕ → Bool) (stays : (p : ℕ) → Old p → (New p) × (now p ≡ was p)) (paths : List ℕ) (k d : ℕ) (lt : k < length paths) (asked : New (get_or paths k d)) where
  -- it passes the test, which ends the search
  pub one_asked : now (get_or paths k d) ≡ true → IsAnyAsked New now paths true
  one_asked same = record { one = λ is. (get_or paths k d, at_has paths k d lt, asked, same); none = λ is. absurd (false≢true (sym is)) }

  -- it does not, nor does one before it
  pub none_more : NoneAsked Old was (take k paths) → now (get_or paths k d) ≡ false → NoneAsked New now (take (k + 1) paths)
  none_more before same p listed = elim (has_number-cases (take k paths) (get_or paths k d ∷ []) p (subst (λ (l : List ℕ). has_number l p ≡ true) (take_more paths k d lt) listed)) [
    | inl early ↦
        let old = before p early in
        let kept = stays p old.0 in
        (kept.0, kept.1 ∙ old.1)
    | inr here ↦ subst (λ (q : ℕ). (New q) × (now q ≡ false)) (has_number-is (get_or paths k d) p here) (asked, same)
  ]

-- none of all passes
pub all_asked : (Asked : ℕ → Type 0) (test : ℕ → Bool) (paths : List ℕ) → NoneAsked Asked test paths → IsAnyAsked Asked test paths false
all_asked Asked test paths none = record { one = λ is. absurd (false≢true is); none = λ is. none }
