-- A variable more.
use Rattle.std.proofs.Common.{◌≡◌, ℕ, List, [], ◌∷◌, ◌++◌, sym, ap, ◌∙◌}
use Rattle.std.proofs.lemmas.List.{append_assoc, append-nil}
use Rattle.os.specs.Paths.{HasNoNul}
use Rattle.host.specs.Environment.{ended, AreWhole, IsBlock}

ended_append : (texts : List (List ℕ)) (text : List ℕ) → ended (texts ++ text ∷ []) ≡ (ended texts ++ text) ++ 0 ∷ []
ended_append [] text = append-nil (text ++ 0 ∷ [])
ended_append (first ∷ texts) text =
    ap (λ (rest : List ℕ). (first ++ 0 ∷ []) ++ rest) (ended_append texts text)
    ∙ sym (append_assoc (first ++ 0 ∷ []) (ended texts ++ text) (0 ∷ []))
    ∙ ap (λ (rest : List ℕ). rest ++ 0 ∷ []) (sym (append_assoc (first ++ 0 ∷ []) (ended texts) text))

whole_append : (texts : List (List ℕ)) (text : List ℕ) → AreWhole texts → HasNoNul text → AreWhole (texts ++ text ∷ [])
whole_append [] text all one = (one, tt)
whole_append (first ∷ texts) text all one = (all.0, whole_append texts text all.1 one)

pub one_more : (block text new : List ℕ) → IsBlock block → HasNoNul text → new ≡ (block ++ text) ++ 0 ∷ [] → IsBlock new
one_more block text new was whole is = record {
  texts = was.texts ++ text ∷ [];
  whole = whole_append was.texts text was.whole whole;
  is = is ∙ ap (λ (b : List ℕ). (b ++ text) ++ 0 ∷ []) was.is ∙ sym (ended_append was.texts text);
}
