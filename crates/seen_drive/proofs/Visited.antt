-- One move as a visit.
use Rattle.std.proofs.Common.{◌≡◌, ℕ, Bool, List, [], ◌∷◌, Option, Some, None, Result, Ok, Err, IfOk, OnErr, refl, sym, ◌∙◌, subst}
use Rattle.std.proofs.lemmas.List.{append-nil}
use Rattle.model.specs.declared.event.Event.{Event}
use Rattle.model.specs.declared.moves.Move.{Move}
use Rattle.model.specs.declared.moves.Move.TheVariants.{Write, Delete, Build}
use Rattle.model.specs.Driven.{IsCutNext}
use Rattle.model.specs.World.{World, IsIdle}
use Rattle.work.specs.declared.report.Options.{Options}
use Rattle.work.specs.declared.report.Report.{Report}
use Rattle.drive.specs.Moves.{IsEdited}
use Rattle.seen_drive.specs.Visits.{Built, Edited}
use Rattle.seen_drive.specs.Moves.{IsCarried, IsReported}

if_ok_then : {T E : Type 0} {P Q : T → Type 0} (r : Result T E) → IfOk r P → ((x : T) → P x → Q x) → IfOk r Q
if_ok_then (Ok x) p f = f x p
if_ok_then (Err e) p f = tt

-- an edit that found no memory is one, whatever moves come behind it
pub cut_before : (tells : Bool) (old new : World) (move : Move) (rest : List Move) → IsCutNext tells (move ∷ []) old new → IsCutNext tells (move ∷ rest) old new
cut_before tells old new (Write path content) rest cut = cut
cut_before tells old new (Delete path) rest cut = cut
cut_before tells old new (Build words) rest cut = absurd cut

module _ (tells : Bool) (options : Options) (old new : World) where
  module _ (reports : List Report) (idle : IsIdle old.events) where
    write_so : (path content : List ℕ) (again : Bool) → IsEdited tells path (Some content) again old new → IsCarried tells options (Write path content) again reports reports old new
    write_so path content again edited = record {
      visit = Edited path (Some content) old new edited.edit;
      entry = refl;
      exit = refl;
      none = refl;
      does = refl;
      asks = edited.stopped;
      counted = refl;
      grows = sym (append-nil reports);
      ended = λ is. subst (λ (es : List Event). IsIdle es) (sym edited.edit.events) idle;
    }

    delete_so : (path : List ℕ) (again : Bool) → IsEdited tells path None again old new → IsCarried tells options (Delete path) again reports reports old new
    delete_so path again edited = record {
      visit = Edited path None old new edited.edit;
      entry = refl;
      exit = refl;
      none = refl;
      does = refl;
      asks = edited.stopped;
      counted = refl;
      grows = sym (append-nil reports);
      ended = λ is. subst (λ (es : List Event). IsIdle es) (sym edited.edit.events) idle;
    }

    pub write_carried : {E : Type 0} (m : Move) (path content : List ℕ) → m ≡ Write path content → (r : Result Bool E) → IfOk r (λ again. IsEdited tells path (Some content) again old new)
        → IfOk r (λ again. IsCarried tells options m again reports reports old new)
    write_carried m path content is r edited = if_ok_then r edited (λ again one. subst (λ (x : Move). IsCarried tells options x again reports reports old new) (sym is) (write_so path content again one))

    pub delete_carried : {E : Type 0} (m : Move) (path : List ℕ) → m ≡ Delete path → (r : Result Bool E) → IfOk r (λ again. IsEdited tells path None again old new)
        → IfOk r (λ again. IsCarried tells options m again reports reports old new)
    delete_carried m path is r edited = if_ok_then r edited (λ again one. subst (λ (x : Move). IsCarried tells options x again reports reports old new) (sym is) (delete_so path again one))

  pub build_carried : (m : Move) (words : List (List ℕ)) → m ≡ Build words → (again : Bool) (before after : List Report) → IsReported tells options words again before after old new
      → IsCarried tells options m again before after old new
  build_carried m words is again before after reported = subst (λ (x : Move). IsCarried tells options x again before after old new) (sym is) (record {
    visit = Built words old new reported.report reported.built;
    entry = refl;
    exit = refl;
    none = refl;
    does = refl;
    asks = sym reported.asks;
    counted = refl;
    grows = reported.grows;
    ended = λ none. reported.ended (sym reported.asks ∙ none);
  })

-- what is so of a result, where it is known which it is
pub at_ok : {T E : Type 0} (P : T → Type 0) (r : Result T E) (x : T) → r ≡ Ok x → IfOk r P → P x
at_ok {T} {E} P r x is so = subst (λ (q : Result T E). IfOk q P) is so

pub at_err : {T E P : Type 0} (r : Result T E) (e : E) → r ≡ Err e → OnErr r P → P
at_err {T} {E} {P} r e is so = subst (λ (q : Result T E). OnErr q P) is so
