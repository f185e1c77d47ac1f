-- Which texts may be appended to.
use Rattle.std.proofs.Common.{◌≡◌, inr, ℕ, List, [], ◌∷◌, ◌++◌, length, arith}
use Rattle.log_text.specs.declared.form.Version.{Version}
use Rattle.log_text.specs.declared.form.Version.TheVariants.{Two}
use Rattle.log_text.specs.declared.tail.Tail.{Tail}
use Rattle.log_text.specs.declared.tail.Tail.TheVariants.{Whole}
use Rattle.log_text.specs.Form.{Form, lines_text}
use Rattle.log_text.specs.Text.{IsRead, IsLogOf}
use Rattle.log_text.specs.Laws.{OneReading}

no_text : (a b : List ℕ) → [] ≡ (a ++ 10 ∷ []) ++ b → ⊥
no_text [] b is = cc
no_text (x ∷ a) b is = cc

module _ {R : Type 0} (forms : Version → Form R) where
  -- a log is no empty text
  pub no_log : (rs : List R) → IsLogOf (forms Two) [] rs → ⊥
  no_log rs log = no_text (forms Two).first (lines_text (forms Two) rs) log.lines

  pub no_empty_log : (text : List ℕ) (rs : List R) → IsLogOf (forms Two) text rs → length text ≡ 0 → ⊥
  no_empty_log [] rs log none = no_log rs log
  no_empty_log (x ∷ text) rs log none = omega (arith, none)

  pub ends_whole : OneReading forms → (text : List ℕ) (rs : List R) (tail : Tail) → IsRead forms text rs tail → IsLogOf (forms Two) text rs → tail ≡ Whole
  ends_whole one text rs tail read log = (one text rs rs tail Whole read (inr log)).1
