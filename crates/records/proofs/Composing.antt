-- What a log tells behind two steps: it was made usable, and then something was put behind it.
use Rattle.std.proofs.Common.{◌≡◌, ◌⊎◌, inl, inr, ℕ, Bool, IsTrue, List, [], ◌∷◌, ◌++◌, Option, Some, None, refl, sym, ◌∙◌, ap, subst}
use Rattle.log_text.specs.declared.form.Version.{Version}
use Rattle.log_text.specs.declared.form.Version.TheVariants.{Two}
use Rattle.log_text.specs.declared.tail.Tail.TheVariants.{Whole, Torn}
use Rattle.log_text.specs.Form.{Form}
use Rattle.log_text.specs.Laws.{OneReading}
use Rattle.log_text.specs.Text.{IsRead}
use Rattle.site.specs.Files.{text_in}
use Rattle.records.specs.Held.{AreRecordsIn, IsToldBy, behind, TellsMore, IsKeptOrWrittenAnew, MayTellMore}

module _ {R X : Type 0} (forms : Version → Form R) (in_force : List R → List ℕ → Option X) (one : OneReading forms) where
  told_in : (content : Option (List ℕ)) (text : List ℕ) (rs : List R) → content ≡ Some text → IsToldBy forms text rs → AreRecordsIn forms content rs
  told_in content text rs is (inl whole) = (Whole, subst (λ (c : Option (List ℕ)). IsRead forms (text_in c) rs Whole) (sym is) whole)
  told_in content text rs is (inr torn) = (Torn, subst (λ (c : Option (List ℕ)). IsRead forms (text_in c) rs Torn) (sym is) (Two, torn))

  pub same_records : (content : Option (List ℕ)) (a b : List R) → AreRecordsIn forms content a → AreRecordsIn forms content b → a ≡ b
  same_records content a b (s, is_a) (t, is_b) = (one (text_in content) a b s t is_a is_b).0

  pub then_more : (added : Option R) (a b c : Option (List ℕ)) → IsKeptOrWrittenAnew forms in_force a b → TellsMore forms in_force added b c → TellsMore forms in_force added a c
  then_more added a b c (inl same) more = subst (λ (x : Option (List ℕ)). TellsMore forms in_force added x c) same more
  then_more added a b c (inr anew) more = record {
    old = anew.old;
    was = anew.was;
    new = more.new;
    same = λ o.
        more.same o
        ∙ (ap (λ (rs : List R). in_force rs o) (same_records b more.old anew.new more.was (told_in b anew.text anew.new anew.holds anew.told)) ∙ anew.same o);
    text = more.text;
    holds = more.holds;
    told = more.told;
  }

  pub then_may : (r : R) (a b c : Option (List ℕ)) → IsKeptOrWrittenAnew forms in_force a b → MayTellMore forms in_force r b c → MayTellMore forms in_force r a c
  then_may r a b c anew (inl (inl same)) = inl (subst (λ (x : Option (List ℕ)). IsKeptOrWrittenAnew forms in_force a x) (sym same) anew)
  then_may r a b c anew (inl (inr more)) = inl (inr (then_more None a b c anew more))
  then_may r a b c anew (inr more) = inr (then_more (Some r) a b c anew more)
