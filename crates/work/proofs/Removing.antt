-- How the end of a command removes its response file.
use Rattle.std.proofs.Common.{◌≡◌, ◌≢◌, ℕ, Bool, true, IsTrue, List, [], ◌∷◌, ◌++◌, None, sym, ◌∙◌, ap, subst, append_assoc}
use Rattle.model.specs.declared.act.Act.{Act}
use Rattle.model.specs.declared.event.Event.{Event}
use Rattle.model.specs.declared.event.Event.TheVariants.{Finish}
use Rattle.model.specs.declared.event.Moment.{Moment}
use Rattle.model.specs.declared.event.Moment.TheVariants.{Wrote, Happened}
use Rattle.model.specs.declared.event.Writer.TheVariants.{Program}
use Rattle.model.specs.declared.graph.Edge.{Edge}
use Rattle.model.specs.World.{World, IsRunning}
use Rattle.model.specs.Calls.{IsByOthers, AllByOthers, OnlyLooks, Writes, Finishes}
use Rattle.model.specs.Graph.{edge_at}
use Rattle.theory.proofs.Lists.{same_rest, all_append}
use Rattle.theory.specs.Writes.{WritesAt}
use Rattle.theory.proofs.Growing.{longer}
use Rattle.work.specs.Removing.{EndsByRemoving}

-- ---- the end of a command

-- the history grows over calls that write
pub grew_thrice : (tells : Bool) (p q r : List ℕ) (a b c d : World) → WritesAt tells p a b → WritesAt tells q b c → WritesAt tells r c d → IsTrue tells → (more : List Moment) × (d.history ≡ a.history ++ more)
grew_thrice tells p q r a b c d first second third tell =
    let one = first.history tell in
    let two = second.history tell in
    let three = third.history tell in (
      one.more ++ (two.more ++ three.more),
      three.grows
          ∙ (ap (λ (l : List Moment). l ++ three.more) (two.grows ∙ ap (λ (l : List Moment). l ++ two.more) one.grows)
          ∙ (append_assoc (a.history ++ one.more) two.more three.more ∙ append_assoc a.history one.more (two.more ++ three.more))),
    )

-- the history grew, and then its response file is removed
pub ends_by_removing : (tells : Bool) (act : Act) (old mid new : World) → (IsTrue tells → (more : List Moment) × (mid.history ≡ old.history ++ more)) → (act.response_path ≢ [] → Writes tells act.response_path None mid new) → EndsByRemoving tells act old new
ends_by_removing tells act old mid new grew removed named tell =
    let log = grew tell in
    let call = (removed named).history tell in
    record {
      earlier = log.0 ++ call.1.earlier;
      stamp = call.0;
      later = call.1.later;
      grows = call.1.grows
          ∙ (ap (λ (l : List Moment). l ++ (call.1.earlier ++ Wrote Program act.response_path None call.0 ∷ call.1.later)) log.1
          ∙ (append_assoc old.history log.0 (call.1.earlier ++ Wrote Program act.response_path None call.0 ∷ call.1.later)
          ∙ ap (λ (l : List Moment). old.history ++ l) (sym (append_assoc log.0 call.1.earlier (Wrote Program act.response_path None call.0 ∷ call.1.later)))));
      others = subst (λ (l : List Event). AllByOthers (IsRunning l) call.1.later) (sym (removed named).events) call.1.all_later;
    }

-- one event more than before is the one that was told
told_once : (before : List Event) (job i : ℕ) (ok : Bool) → before ++ Finish job ok ∷ [] ≡ before ++ Finish i true ∷ [] → (job ≡ i) × (ok ≡ true)
told_once before job i ok is = by_rest (same_rest before (Finish job ok ∷ []) (Finish i true ∷ []) is)
  where
    by_rest : Finish job ok ∷ [] ≡ Finish i true ∷ [] → (job ≡ i) × (ok ≡ true)
    by_rest same =
        let jobs : job ≡ i = cc in
        let oks : ok ≡ true = cc in
        (jobs, oks)

-- behind it the site was only looked at
pub removing_then : (tells : Bool) (act : Act) (old mid new : World) → EndsByRemoving tells act old mid → OnlyLooks tells mid new → EndsByRemoving tells act old new
removing_then tells act old mid new ends looks named tell =
    let removed = ends named tell in
    let shown = looks.history tell in
    let removal = Wrote Program act.response_path None removed.stamp in
    record {
      earlier = removed.earlier;
      stamp = removed.stamp;
      later = removed.later ++ shown.more;
      grows = longer old.history removed.earlier removal removed.later shown.more mid.history new.history shown.grows removed.grows;
      others = all_append (IsByOthers (IsRunning new.events)) removed.later shown.more (subst (λ (l : List Event). AllByOthers (IsRunning l) removed.later) (sym looks.events) removed.others)
          (subst (λ (l : List Event). AllByOthers (IsRunning l) shown.more) (sym looks.events) shown.all);
    }

-- before it the history grew
pub removing_after : (tells : Bool) (act : Act) (old mid new : World) → (IsTrue tells → (more : List Moment) × (mid.history ≡ old.history ++ more)) → EndsByRemoving tells act mid new → EndsByRemoving tells act old new
removing_after tells act old mid new grew ends named tell =
    let removed = ends named tell in
    let first = grew tell in
    let behind = removed.earlier ++ Wrote Program act.response_path None removed.stamp ∷ removed.later in
    record {
      earlier = first.0 ++ removed.earlier;
      stamp = removed.stamp;
      later = removed.later;
      grows = removed.grows
          ∙ (ap (λ (l : List Moment). l ++ behind) first.1
          ∙ (append_assoc old.history first.0 behind ∙ ap (λ (l : List Moment). old.history ++ l) (sym (append_assoc first.0 removed.earlier (Wrote Program act.response_path None removed.stamp ∷ removed.later)))));
      others = removed.others;
    }

-- a command is taken in before that, and its depfile read
pub taken_by_removing : (tells : Bool) (edges : List Edge) (job : ℕ) (ok : Bool) (old mid last new : World) → Finishes tells job ok old mid → OnlyLooks tells mid last → new.events ≡ last.events → (ok ≡ true → EndsByRemoving tells (edge_at edges job).act last new)
    → (i : ℕ) → new.events ≡ old.events ++ Finish i true ∷ [] → EndsByRemoving tells (edge_at edges i).act old new
taken_by_removing tells edges job ok old mid last new finish looks events ends i is =
    let told = told_once old.events job i ok (sym finish.events ∙ (sym looks.events ∙ (sym events ∙ is))) in
    removing_after tells (edge_at edges i).act old last new grew (subst (λ (n : ℕ). EndsByRemoving tells (edge_at edges n).act last new) told.0 (ends told.1))
  where
    grew : IsTrue tells → (more : List Moment) × (last.history ≡ old.history ++ more)
    grew tell =
        let end = finish.history tell in
        let read = looks.history tell in
        (end.earlier ++ Happened (Finish job ok) ∷ (end.later ++ read.more), longer old.history end.earlier (Happened (Finish job ok)) end.later read.more mid.history last.history read.grows end.grows)
