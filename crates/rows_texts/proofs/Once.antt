-- One output stands once, so records of one output are records.
use Rattle.std.proofs.Common.{◌≡◌, ℕ, ◌<◌, ◌^◌, true, List, [], ◌∷◌, ◌++◌, sym, subst, arith}
use Rattle.std.proofs.lemmas.Bool.{false≢true}
use Rattle.model.specs.Graph.{has, StandsTwice}
use Rattle.model.specs.declared.act.Act.{Act}
use Rattle.model.specs.declared.record.Record.TheVariants.{Begun, Done}
use Rattle.log_text.specs.declared.form.Version.TheVariants.{Two}
use Rattle.log_text.specs.BuildRecord.{IsRecord}

not_apart : (o p : List ℕ) (before after : List (List ℕ)) → o ∷ [] ≡ before ++ p ∷ after → has before p ≡ true → ⊥
not_apart o p [] after e h = false≢true h
not_apart o p (b ∷ []) after e h = cc
not_apart o p (b ∷ c ∷ before) after e h = cc

pub one_once : (o p : List ℕ) → StandsTwice (o ∷ []) p → ⊥
one_once o p twice = not_apart o p twice.before twice.after twice.splits twice.earlier

pub begun_is_record : (outputs : List (List ℕ)) (o : List ℕ) → outputs ≡ o ∷ [] → IsRecord Two (Begun outputs)
begun_is_record outputs o e = subst (λ (os : List (List ℕ)). IsRecord Two (Begun os)) (sym e) (record { room = (omega arith, omega arith); once = one_once o; start = tt })

pub done_is_record : (outputs : List (List ℕ)) (o : List ℕ) (start : ℕ) (act : Act) → outputs ≡ o ∷ [] → start < 2 ^ 64 → IsRecord Two (Done outputs start act)
done_is_record outputs o start act e small = subst (λ (os : List (List ℕ)). IsRecord Two (Done os start act)) (sym e) (record { room = (omega arith, omega arith); once = one_once o; start = small })
