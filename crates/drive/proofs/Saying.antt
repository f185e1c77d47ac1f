-- What a report says of the answer of its build.
use Rattle.std.proofs.Common.{◌≡◌, ◌⊎◌, inl, inr, ℕ, ◌<◌, Bool, false, List, [], ◌∷◌, ◌++◌, Option, Some, None, refl, sym, ◌∙◌, ap, subst}
use Rattle.std.proofs.lemmas.Bool.{false≢true, cases_order}
use Rattle.model.specs.declared.graph.Edge.{Edge}
use Rattle.model.specs.declared.moves.Move.{Move}
use Rattle.model.specs.declared.moves.Move.TheVariants.{Write, Delete, Build}
use Rattle.model.specs.History.{Visit, Edited, Built, Unread, Restarted}
use Rattle.model.specs.Outcome.{Behaviour}
use Rattle.model.specs.Records.{LogFormat}
use Rattle.model.specs.SingleBuild as answer
use Rattle.model.specs.SingleBuild.{Answer, is_fault}
use Rattle.paths.specs.Told.{text_at}
use Rattle.builder.specs.Build.{Says, IsUnknown, missing_answer}
use Rattle.work.specs.declared.report.Refusal.TheVariants.{File, MadeTwice, NoDyndepInput, Occupied, NoDyndep, BadVersion, BadStatement, Unfit, UnknownTarget, Cycle, Missing}
use Rattle.work.specs.declared.report.Report.{Report}
use Rattle.work.specs.declared.report.Report.TheVariants.{Success, Failed, Refused, Fault}
use Rattle.drive.specs.Driven.{words_of, builds_in, ReportEach}
use Rattle.drive.specs.Moves.{reports_fault}

-- one target is the first that no build line names
unknown_once : (edges : List Edge) (given targets : List (List ℕ)) (text p q : List ℕ) → IsUnknown edges given targets text p → IsUnknown edges given targets text q → p ≡ q
unknown_once edges given targets text p q a b = by_order (cases_order a.place b.place)
  where
    by_order : (a.place ≡ b.place) ⊎ ((a.place < b.place) ⊎ (b.place < a.place)) → p ≡ q
    by_order (inl same) = a.path_is ∙ (ap (λ (k : ℕ). text_at targets k) same ∙ sym b.path_is)
    by_order (inr (inl less)) = absurd (false≢true (sym a.first.unknown ∙ b.first.earlier a.place less))
    by_order (inr (inr less)) = absurd (false≢true (sym b.first.unknown ∙ a.first.earlier b.place less))

-- THE ANSWER IS ONE: a report says no two.
pub said_once : (edges : List Edge) (given targets : List (List ℕ)) (report : Report) (a b : Answer) → Says edges given targets report a → Says edges given targets report b → a ≡ b
said_once edges given targets (Success started) a b p q = p ∙ sym q
said_once edges given targets (Failed outputs) a b p q = p ∙ sym q
said_once edges given targets (Refused (File fault)) a b p q = absurd p
said_once edges given targets (Refused (MadeTwice path)) a b p q = p ∙ sym q
said_once edges given targets (Refused (NoDyndepInput path)) a b p q = p ∙ sym q
said_once edges given targets (Refused (Occupied occupied)) a b p q = p ∙ sym q
said_once edges given targets (Refused (NoDyndep path)) a b p q = p ∙ sym q
said_once edges given targets (Refused (BadVersion path)) a b p q = p ∙ sym q
said_once edges given targets (Refused (BadStatement path)) a b p q = p ∙ sym q
said_once edges given targets (Refused (Unfit unfit)) a b p q = p ∙ sym q
said_once edges given targets (Refused (UnknownTarget target)) a b p q = p.1 ∙ (ap (λ (path : List ℕ). answer.Unknown path) (unknown_once edges given targets target p.0 q.0 p.2 q.2) ∙ sym q.1)
said_once edges given targets (Refused (Cycle paths)) a b p q = p ∙ sym q
said_once edges given targets (Refused (Missing missing)) a b p q = p ∙ sym q
said_once edges given targets (Fault fault) a b p q = p ∙ sym q

-- what is missing is no fault
missing_no_fault : (path : List ℕ) (needed : Option (List ℕ)) → is_fault (missing_answer path needed) ≡ false
missing_no_fault path None = refl
missing_no_fault path (Some output) = refl

-- a report is a fault just where its answer is one
pub fault_same : (edges : List Edge) (given targets : List (List ℕ)) (report : Report) (a : Answer) → Says edges given targets report a → is_fault a ≡ reports_fault report
fault_same edges given targets (Success started) a says = ap is_fault says
fault_same edges given targets (Failed outputs) a says = ap is_fault says
fault_same edges given targets (Refused (File fault)) a says = absurd says
fault_same edges given targets (Refused (MadeTwice path)) a says = ap is_fault says
fault_same edges given targets (Refused (NoDyndepInput path)) a says = ap is_fault says
fault_same edges given targets (Refused (Occupied occupied)) a says = ap is_fault says
fault_same edges given targets (Refused (NoDyndep path)) a says = ap is_fault says
fault_same edges given targets (Refused (BadVersion path)) a says = ap is_fault says
fault_same edges given targets (Refused (BadStatement path)) a says = ap is_fault says
fault_same edges given targets (Refused (Unfit unfit)) a says = ap is_fault says
fault_same edges given targets (Refused (UnknownTarget target)) a says = ap is_fault says.1
fault_same edges given targets (Refused (Cycle paths)) a says = ap is_fault says
fault_same edges given targets (Refused (Missing missing)) a says = ap is_fault says ∙ missing_no_fault missing.path missing.needed_by
fault_same edges given targets (Fault fault) a says = ap is_fault says

-- ---- lists

pub words-append : (moves more : List Move) → words_of (moves ++ more) ≡ words_of moves ++ words_of more
words-append [] more = refl
words-append (Write path content ∷ moves) more = words-append moves more
words-append (Delete path ∷ moves) more = words-append moves more
words-append (Build words ∷ moves) more = ap (λ (l : List (List (List ℕ))). words ∷ l) (words-append moves more)

module _ (tells : Bool) (B : Behaviour) (format : LogFormat) where
  pub builds-append : (visits more : List (Visit tells B format)) → builds_in (visits ++ more) ≡ builds_in visits ++ builds_in more
  builds-append [] more = refl
  builds-append (Edited path content old new edit ∷ visits) more = builds-append visits more
  builds-append (Built asked old new answer build ∷ visits) more = ap (λ (l : List (Visit tells B format)). Built asked old new answer build ∷ l) (builds-append visits more)
  builds-append (Unread old new answer cause ∷ visits) more = ap (λ (l : List (Visit tells B format)). Unread old new answer cause ∷ l) (builds-append visits more)
  builds-append (Restarted edges old new restart ∷ visits) more = builds-append visits more

  each-append : (name : List ℕ) (words others : List (List (List ℕ))) (visits more : List (Visit tells B format)) (reports told : List Report)
      → ReportEach name words visits reports → ReportEach name others more told → ReportEach name (words ++ others) (visits ++ more) (reports ++ told)
  each-append name [] others [] more [] told each next = next
  each-append name [] others [] more (r ∷ reports) told each next = absurd each
  each-append name [] others (v ∷ visits) more reports told each next = absurd each
  each-append name (w ∷ words) others [] more reports told each next = absurd each
  each-append name (w ∷ words) others (v ∷ visits) more [] told each next = absurd each
  each-append name (w ∷ words) others (v ∷ visits) more (r ∷ reports) told each next = (each.0, each-append name words others visits more reports told each.1 next)

  -- what later moves report stands behind what the earlier ones reported
  pub reported_on : (name : List ℕ) (moves more : List Move) (visits next : List (Visit tells B format)) (reports told : List Report)
      → ReportEach name (words_of moves) (builds_in visits) reports → ReportEach name (words_of more) (builds_in next) told
      → ReportEach name (words_of (moves ++ more)) (builds_in (visits ++ next)) (reports ++ told)
  reported_on name moves more visits next reports told each also =
      subst (λ (ws : List (List (List ℕ))). ReportEach name ws (builds_in (visits ++ next)) (reports ++ told)) (sym (words-append moves more))
      (subst (λ (vs : List (Visit tells B format)). ReportEach name (words_of moves ++ words_of more) vs (reports ++ told)) (sym (builds-append visits next))
      (each-append name (words_of moves) (words_of more) (builds_in visits) (builds_in next) reports told each also))
