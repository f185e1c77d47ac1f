-- Builds in phases: what was lawful and rightly judged so far goes on through each step, and through each load.
use Rattle.std.proofs.Common.{◌≡◌, ◌⊎◌, inl, inr, ℕ, cond, Bool, true, false, IsTrue, List, [], ◌∷◌, ◌++◌, Option, Some, None, bytes_eq, refl, sym, ◌∙◌, ap, subst, append_assoc}
use Rattle.std.proofs.lemmas.List.{append-nil}
use Rattle.std.proofs.lemmas.Bool.{cases_Bool, false≢true, false_from_ne_true}
use Rattle.model.specs.declared.event.Moment.{Moment}
use Rattle.model.specs.declared.graph.Edge.{Edge}
use Rattle.model.specs.World.{World, View, view_of, IsIdle}
use Rattle.model.specs.Graph.{has, has_number, edge_at, maker, inputs, IsCommand, IsMadeOnce, Addition}
use Rattle.model.specs.Outcome.{Behaviour}
use Rattle.model.specs.Records.{Store, OwnFiles, recorded_inputs}
use Rattle.model.specs.OutOfDate.{ReadsNoFree, IsVerdict}
use Rattle.model.specs.Schedule.{Task, Step, Judged, Started, Ended, IsLawfulStep, judged_in, started_in, running_in, well_in, done_in}
use Rattle.model.specs.Phases.{Phase, IsGrownBy, IsDueLoad, NoLoadIsDue, IsNextLoad, AreUnloadedFrom, IsLawfulPhase, IsLoad, IsInOrderAt, AreTakenIn, ArePhasesFrom, steps_of, next_edges, task_with}
use Rattle.model.specs.Premises.{FilesAreKept, RecordedApart}
use Rattle.model.specs.SingleBuild.{HeldAt, LoadHeldAt, AreLoadsHeldAt, Asked, NamesOther, asked_with, task_of}
use Rattle.theory.specs.Run.{IsRun, IsRunOrRest}
use Rattle.theory.proofs.Lists.{same_bytes, bytes_same, same_some, has-left, has_number-is}
use Rattle.theory.proofs.Settled.{settled_command}
use Rattle.theory.proofs.Growth.{HasGrown, cases_named, grown_same, grown_by, still_loaded, maker_still, once_back}
use Rattle.theory.proofs.Loads.{rest_has_grown}
use Rattle.theory.proofs.Orderly.{kept_orderly}
use Rattle.theory.proofs.Moved.{run_moved}
use Rattle.theory.proofs.Runs.{rest_begins}
use Rattle.theory.proofs.Steps.{lawful_push_from, in_either, in_left, judged-append, started-append}
use Rattle.theory.specs.Judged.{JudgedOver, AreJudgedOver, ArePhasesJudged}
use Rattle.theory.specs.Ledger.{LoadedThen, IsPhased}
use Rattle.theory.proofs.Turned.{kept_then}

-- ---- what loaded files held

abbrev pub with_text : List ℕ → List ℕ → View → View
with_text file content texts = λ p. cond (bytes_eq file p) (Some content) (texts p)

-- what was held by the files that were loaded is held still
abbrev pub HoldsAll : View → View → Type 0
HoldsAll texts more = (p content : List ℕ) → texts p ≡ Some content → more p ≡ Some content

pub no_text : (content : List ℕ) → None ≡ Some content → ⊥
no_text content is = cc

pub holds_all : (texts : View) (file content : List ℕ) → texts file ≡ None → HoldsAll texts (with_text file content texts)
holds_all texts file content none p held is = elim (cases_Bool (bytes_eq file p)) [
  | inl same ↦ absurd (no_text held (sym none ∙ (ap texts (same_bytes file p same) ∙ is)))
  | inr other ↦ ap (λ (b : Bool). cond b (Some content) (texts p)) other ∙ is
]

pub holds_it : (texts : View) (file content : List ℕ) → with_text file content texts file ≡ Some content
holds_it texts file content = ap (λ (b : Bool). cond b (Some content) (texts file)) (bytes_same file)

load_moved : (reading : List ℕ → Option (List Addition)) (texts more : View) → HoldsAll texts more → (task : Task) (before : List Step) (next : List Edge) → IsLoad reading texts task before next → IsLoad reading more task before next
load_moved reading texts more holds task before next load = record {
  file = load.file;
  is_next = load.is_next;
  content = load.content;
  holds = holds load.file load.content load.holds;
  additions = load.additions;
  read = load.read;
  grown = load.grown;
}

-- ---- what they held at their loads

-- what was held at a moment of then was held at one of now
pub held_later : (file : List ℕ) (held : Option (List ℕ)) (before : List Step) (old now new ms : List Moment) → new ≡ now ++ ms → HeldAt file held before old now → HeldAt file held before old new
held_later file held before old now new ms grows was = record {
  at = was.at;
  moment = record {
    so_far = was.moment.so_far;
    later = was.moment.later ++ ms;
    is = was.moment.is;
    grows = grows ∙ (ap (λ (l : List Moment). l ++ ms) was.moment.grows ∙ append_assoc was.at was.moment.later ms);
    happened = was.moment.happened;
  };
  holds = was.holds;
}

pub loads_later : (texts : View) (task : Task) (store : Store) (before : List Step) (phases : List Phase) (old now new ms : List Moment) → new ≡ now ++ ms → AreLoadsHeldAt texts task store before phases old now
    → AreLoadsHeldAt texts task store before phases old new
loads_later texts task store before [] old now new ms grows held = tt
loads_later texts task store before (phase ∷ phases) old now new ms grows held = (
  record {
    file = held.0.file;
    is_next = held.0.is_next;
    content = held.0.content;
    read = held.0.read;
    held = held_later held.0.file (Some held.0.content) (before ++ phase.steps) old now new ms grows held.0.held;
  },
  loads_later texts task store (before ++ phase.steps) phases old now new ms grows held.1,
)

-- of phases it does not matter what else is held
pub loads_with : (texts more : View) → HoldsAll texts more → (task : Task) (store : Store) (before : List Step) (phases : List Phase) (old now : List Moment) → AreLoadsHeldAt texts task store before phases old now
    → AreLoadsHeldAt more task store before phases old now
loads_with texts more holds task store before [] old now held = tt
loads_with texts more holds task store before (phase ∷ phases) old now held = (
  record { file = held.0.file; is_next = held.0.is_next; content = held.0.content; read = holds held.0.file held.0.content held.0.read; held = held.0.held },
  loads_with texts more holds task store (before ++ phase.steps) phases old now held.1,
)

-- ---- lists of phases

pub steps_of-append : (xs ys : List Phase) → steps_of (xs ++ ys) ≡ steps_of xs ++ steps_of ys
steps_of-append [] ys = refl
steps_of-append (x ∷ xs) ys = ap (λ (l : List Step). x.steps ++ l) (steps_of-append xs ys) ∙ sym (append_assoc x.steps (steps_of xs) (steps_of ys))

next_edges_of : (phases : List Phase) (last : Phase) (edges : List Edge) → next_edges (phases ++ last ∷ []) edges ≡ next_edges phases last.edges
next_edges_of [] last edges = refl
next_edges_of (phase ∷ phases) last edges = refl

pub unloaded_push : (task : Task) (before steps : List Step) (step : Step) → AreUnloadedFrom task before steps → NoLoadIsDue task (before ++ steps) → AreUnloadedFrom task before (steps ++ step ∷ [])
unloaded_push task before [] step unloaded none = (subst (λ (l : List Step). NoLoadIsDue task l) (append-nil before) none, tt)
unloaded_push task before (s ∷ steps) step unloaded none =
    (unloaded.0, unloaded_push task (before ++ s ∷ []) steps step unloaded.1 (subst (λ (l : List Step). NoLoadIsDue task l) (sym (append_assoc before (s ∷ []) steps)) none))

module _ (tells : Bool) (B : Behaviour) (own : OwnFiles) (asked : Asked) (store : Store) (old : World) where
  abbrev The : Task
  The = task_of asked store

  abbrev Phased : List Phase → List Step → World → Type 0
  Phased phases steps now = IsPhased tells B own asked store phases steps old now

  abbrev Over : List Edge → List Step → List Step → World → Type 0
  Over edges before steps now = AreJudgedOver tells own asked store edges before steps old now

  -- ---- the site goes on

  module _ (now new : World) (ms : List Moment) (grows : IsTrue tells → new.history ≡ now.history ++ ms) where
    one_on : (edges : List Edge) (before : List Step) (i : ℕ) (b : Bool) → JudgedOver tells own asked store edges before i b old now → JudgedOver tells own asked store edges before i b old new
    one_on edges before i b was = record {
      mid = was.mid;
      run = was.run;
      more = was.more ++ ms;
      grows = λ tell. grows tell ∙ (ap (λ (l : List Moment). l ++ ms) (was.grows tell) ∙ append_assoc was.mid.history was.more ms);
      loaded = was.loaded;
      right = was.right;
    }

    pub over_on : (edges : List Edge) (before steps : List Step) → Over edges before steps now → Over edges before steps new
    over_on edges before [] judged = tt
    over_on edges before (Judged i b ∷ steps) judged = (one_on edges before i b judged.0, over_on edges (before ++ Judged i b ∷ []) steps judged.1)
    over_on edges before (Started i ∷ steps) judged = over_on edges (before ++ Started i ∷ []) steps judged
    over_on edges before (Ended i w ∷ steps) judged = over_on edges (before ++ Ended i w ∷ []) steps judged

    pub all_on : (before : List Step) (phases : List Phase) → ArePhasesJudged tells own asked store before phases old now → ArePhasesJudged tells own asked store before phases old new
    all_on before [] judged = tt
    all_on before (phase ∷ phases) judged = (over_on phase.edges before phase.steps judged.0, all_on (before ++ phase.steps) phases judged.1)

  pub held_on : (now new : World) (ms : List Moment) → new.history ≡ now.history ++ ms → (file content : List ℕ) (steps : List Step) → LoadedThen tells own asked store file content steps old now
      → LoadedThen tells own asked store file content steps old new
  held_on now new ms grows file content steps was = record {
    before = was.before;
    later = was.later;
    splits = was.splits;
    mid = was.mid;
    run = was.run;
    more = was.more ++ ms;
    grows = grows ∙ (ap (λ (l : List Moment). l ++ ms) was.grows ∙ append_assoc was.mid.history was.more ms);
    holds = was.holds;
    input = was.input;
    settled = was.settled;
  }

  pub held_push : (file content : List ℕ) (steps : List Step) (step : Step) (now : World) → LoadedThen tells own asked store file content steps old now → LoadedThen tells own asked store file content (steps ++ step ∷ []) old now
  held_push file content steps step now was = record {
    before = was.before;
    later = was.later ++ step ∷ [];
    splits = ap (λ (l : List Step). l ++ step ∷ []) was.splits ∙ append_assoc was.before was.later (step ∷ []);
    mid = was.mid;
    run = was.run;
    more = was.more;
    grows = was.grows;
    holds = was.holds;
    input = was.input;
    settled = was.settled;
  }

  abbrev pub phased_on : (phases : List Phase) (steps : List Step) (now new : World) (more : IsTrue tells → List Moment) → ((tell : IsTrue tells) → new.history ≡ now.history ++ more tell) → Phased phases steps now → Phased phases steps new
  phased_on phases steps now new more grows phased = record {
    texts = phased.texts;
    build = phased.build;
    so = phased.so;
    unread = phased.unread;
    inputs = phased.inputs;
    loaded = phased.loaded;
    held = λ tell file content is. held_on now new (more tell) (grows tell) file content steps (phased.held tell file content is);
    read_then = λ tell. loads_later phased.texts The store [] phased.build.earlier old.history now.history new.history (more tell) (grows tell) (phased.read_then tell);
    before = λ tell. all_on now new (more tell) (λ t. grows tell) [] phased.build.earlier (phased.before tell);
    last = λ tell. over_on now new (more tell) (λ t. grows tell) asked.graph.edges (steps_of phased.build.earlier) phased.build.last (phased.last tell);
  }

  -- ---- one step more

  pub over_push : (edges : List Edge) (before steps : List Step) (step : Step) (now : World) → ((i : ℕ) (b : Bool) → step ≡ Judged i b → JudgedOver tells own asked store edges (before ++ steps) i b old now)
      → Over edges before steps now → Over edges before (steps ++ step ∷ []) now
  over_push edges before [] (Judged i b) now right judged = (subst (λ (l : List Step). JudgedOver tells own asked store edges l i b old now) (append-nil before) (right i b refl), tt)
  over_push edges before [] (Started i) now right judged = tt
  over_push edges before [] (Ended i w) now right judged = tt
  over_push edges before (Judged j c ∷ steps) step now right judged = (judged.0, over_push edges (before ++ Judged j c ∷ []) steps step now (right_on (Judged j c) right) judged.1)
    where
      right_on : (s : Step) → ((i : ℕ) (b : Bool) → step ≡ Judged i b → JudgedOver tells own asked store edges (before ++ s ∷ steps) i b old now)
          → (i : ℕ) (b : Bool) → step ≡ Judged i b → JudgedOver tells own asked store edges ((before ++ s ∷ []) ++ steps) i b old now
      right_on s right i b is = subst (λ (l : List Step). JudgedOver tells own asked store edges l i b old now) (sym (append_assoc before (s ∷ []) steps)) (right i b is)
  over_push edges before (Started j ∷ steps) step now right judged =
      over_push edges (before ++ Started j ∷ []) steps step now
      (λ i b is. subst (λ (l : List Step). JudgedOver tells own asked store edges l i b old now) (sym (append_assoc before (Started j ∷ []) steps)) (right i b is)) judged
  over_push edges before (Ended j w ∷ steps) step now right judged =
      over_push edges (before ++ Ended j w ∷ []) steps step now
      (λ i b is. subst (λ (l : List Step). JudgedOver tells own asked store edges l i b old now) (sym (append_assoc before (Ended j w ∷ []) steps)) (right i b is)) judged

  -- an edge is judged, rightly by the edges and files of now
  pub over_now : (steps : List Step) (now : World) (i : ℕ) (b : Bool) → IsRun tells own The steps old now → ((k : ℕ) → has_number (judged_in steps) k ≡ true → (edge_at asked.graph.edges k).dyndep ≡ None)
      → (IsTrue tells → (files : FilesAreKept own asked.graph.edges old.history now.history) → RecordedApart own (recorded_inputs store asked.graph.edges)
      → ReadsNoFree files.free asked.graph.edges store now.history i → IsVerdict asked.graph.edges store (well_in steps) old.history now.history i b)
      → (j : ℕ) (c : Bool) → Judged i b ≡ Judged j c → JudgedOver tells own asked store asked.graph.edges steps j c old now
  over_now steps now i b run loaded right j c is =
      let same : i ≡ j = cc in
      let also : b ≡ c = cc in
      subst (λ (n : ℕ). JudgedOver tells own asked store asked.graph.edges steps n c old now) same (subst (λ (x : Bool). JudgedOver tells own asked store asked.graph.edges steps i x old now) also
      (record {
        mid = now;
        run = run_moved tells own The (task_with The store asked.graph.edges) steps old now (grown_same asked.graph.edges) run;
        loaded = loaded;
        more = [];
        grows = λ tell. sym (append-nil now.history);
        right = right;
      }))

  pub taken_in_push : (before steps : List Step) (i : ℕ) (w : Bool) → AreTakenIn before steps → has_number (running_in (before ++ steps)) i ≡ true → AreTakenIn before (steps ++ Ended i w ∷ [])
  taken_in_push before [] i w taken runs = (subst (λ (l : List Step). has_number (running_in l) i ≡ true) (append-nil before) runs, tt)
  taken_in_push before (Judged j b ∷ steps) i w taken runs = absurd taken
  taken_in_push before (Started j ∷ steps) i w taken runs = absurd taken
  taken_in_push before (Ended j v ∷ steps) i w taken runs =
      (taken.0, taken_in_push (before ++ Ended j v ∷ []) steps i w taken.1 (subst (λ (l : List Step). has_number (running_in l) i ≡ true) (sym (append_assoc before (Ended j v ∷ []) steps)) runs))

  -- nothing is loaded yet, and no step was taken
  abbrev pub phased_entry : (now : World) → asked.graph.edges ≡ asked.declared → ((file : List ℕ) → NamesOther asked.graph.edges file → ⊥) → Phased [] [] now
  phased_entry now same others = record {
    texts = λ p. None;
    build = record {
      earlier = [];
      last = [];
      taken_in = [];
      whole = refl;
      begins = same;
      phases = tt;
      lawful = record { lawful = tt; unloaded = tt };
      rest = tt;
      cause = inl refl;
    };
    so = refl;
    unread = λ i file names. refl;
    inputs = λ i file names. elim (cases_Bool (has (inputs (edge_at asked.graph.edges i)) file)) [
      | inl is ↦ is
      | inr other ↦ absurd (others file (record { edge = i; names = names; other = other }))
    ];
    loaded = λ i judged. absurd (false≢true judged);
    held = λ tell file content is. absurd (no_text content is);
    read_then = λ tell. tt;
    before = λ tell. tt;
    last = λ tell. tt;
  }

  module _ (phases : List Phase) (steps : List Step) (now : World) (phased : Phased phases steps now) where
    -- where no load was refused the steps are those of the phases and of the last one
    pub so_far : phased.build.taken_in ≡ [] → steps ≡ steps_of phased.build.earlier ++ phased.build.last
    so_far on = phased.build.whole ∙ ap (λ (l : List Step). steps_of phased.build.earlier ++ l) (ap (λ (l : List Step). phased.build.last ++ l) on ∙ append-nil phased.build.last)

    -- an edge that is judged where no load is due has its dyndep file loaded
    pub judged_loaded : (i : ℕ) (b : Bool) → IsLawfulStep The steps (Judged i b) → NoLoadIsDue The steps → (edge_at asked.graph.edges i).dyndep ≡ None
    judged_loaded i b next none = by_name (edge_at asked.graph.edges i).dyndep refl
      where
        by_name : (d : Option (List ℕ)) → (edge_at asked.graph.edges i).dyndep ≡ d → (edge_at asked.graph.edges i).dyndep ≡ None
        by_name None is = is
        by_name (Some file) is = absurd (none file (record {
          edge = i;
          within = next.0.within;
          names = is;
          settled = next.0.ready file (has-left (inputs (edge_at asked.graph.edges i)) (recorded_inputs store asked.graph.edges i) file (phased.inputs i file is));
        }))

    pub loaded_then : (step : Step) → IsLawfulStep The steps step → NoLoadIsDue The steps → (i : ℕ) → has_number (judged_in (steps ++ step ∷ [])) i ≡ true → (edge_at asked.graph.edges i).dyndep ≡ None
    loaded_then step next none i judged = elim (in_either judged_in judged-append steps (step ∷ []) i judged) [
      | inl before ↦ phased.loaded i before
      | inr now ↦ here step next now
    ]
      where
        here : (s : Step) → IsLawfulStep The steps s → has_number (judged_in (s ∷ [])) i ≡ true → (edge_at asked.graph.edges i).dyndep ≡ None
        here (Judged j b) next is = subst (λ (n : ℕ). (edge_at asked.graph.edges n).dyndep ≡ None) (has_number-is j i is) (judged_loaded j b next none)
        here (Started j) next is = absurd (false≢true is)
        here (Ended j w) next is = absurd (false≢true is)

    -- a lawful step, where no load is due
    abbrev pub phased_step : (step : Step) → phased.build.taken_in ≡ [] → IsLawfulStep The steps step → NoLoadIsDue The steps
        → (IsTrue tells → (i : ℕ) (b : Bool) → step ≡ Judged i b → JudgedOver tells own asked store asked.graph.edges steps i b old now) → Phased phases (steps ++ step ∷ []) now
    phased_step step on next none right = record {
      texts = phased.texts;
      build = record {
        earlier = phased.build.earlier;
        last = phased.build.last ++ step ∷ [];
        taken_in = [];
        whole = ap (λ (l : List Step). l ++ step ∷ []) (so_far on) ∙ (append_assoc (steps_of phased.build.earlier) phased.build.last (step ∷ [])
            ∙ ap (λ (l : List Step). steps_of phased.build.earlier ++ l) (sym (append-nil (phased.build.last ++ step ∷ []))));
        begins = phased.build.begins;
        phases = phased.build.phases;
        lawful = record {
          lawful = lawful_push_from The (steps_of phased.build.earlier) phased.build.last step phased.build.lawful.lawful (subst (λ (l : List Step). IsLawfulStep The l step) (so_far on) next);
          unloaded = unloaded_push The (steps_of phased.build.earlier) phased.build.last step phased.build.lawful.unloaded (subst (λ (l : List Step). NoLoadIsDue The l) (so_far on) none);
        };
        rest = tt;
        cause = inl refl;
      };
      so = phased.so;
      unread = phased.unread;
      inputs = phased.inputs;
      loaded = λ i judged. loaded_then step next none i judged;
      held = λ tell file content is. held_push file content steps step now (phased.held tell file content is);
      read_then = phased.read_then;
      before = phased.before;
      last = λ tell. over_push asked.graph.edges (steps_of phased.build.earlier) phased.build.last step now
          (λ i b is. subst (λ (l : List Step). JudgedOver tells own asked store asked.graph.edges l i b old now) (so_far on) (right tell i b is)) (phased.last tell);
    }

    -- A command is taken in after a load that was refused, or behind which an input was missing.
    abbrev pub phased_taken_in : (i : ℕ) (w : Bool) → has_number (running_in steps) i ≡ true
        → (phased.build.last ≡ []) ⊎ ((file : List ℕ) × IsDueLoad The (steps_of phased.build.earlier ++ phased.build.last) file) → Phased phases (steps ++ Ended i w ∷ []) now
    phased_taken_in i w runs cause = record {
      texts = phased.texts;
      build = record {
        earlier = phased.build.earlier;
        last = phased.build.last;
        taken_in = phased.build.taken_in ++ Ended i w ∷ [];
        whole = ap (λ (l : List Step). l ++ Ended i w ∷ []) phased.build.whole ∙ (append_assoc (steps_of phased.build.earlier) (phased.build.last ++ phased.build.taken_in) (Ended i w ∷ [])
            ∙ ap (λ (l : List Step). steps_of phased.build.earlier ++ l) (append_assoc phased.build.last phased.build.taken_in (Ended i w ∷ [])));
        begins = phased.build.begins;
        phases = phased.build.phases;
        lawful = phased.build.lawful;
        rest = taken_in_push (steps_of phased.build.earlier ++ phased.build.last) phased.build.taken_in i w phased.build.rest
            (subst (λ (l : List Step). has_number (running_in l) i ≡ true) (phased.build.whole ∙ sym (append_assoc (steps_of phased.build.earlier) phased.build.last phased.build.taken_in)) runs);
        cause = inr cause;
      };
      so = phased.so;
      unread = phased.unread;
      inputs = phased.inputs;
      loaded = λ j judged. elim (in_either judged_in judged-append steps (Ended i w ∷ []) j judged) [
        | inl before ↦ phased.loaded j before
        | inr now ↦ absurd (false≢true now)
      ];
      held = λ tell file content is. held_push file content steps (Ended i w) now (phased.held tell file content is);
      read_then = phased.read_then;
      before = phased.before;
      last = phased.last;
    }

-- ---- a load

module _ (tells : Bool) (B : Behaviour) (own : OwnFiles) (asked : Asked) (store : Store) (phases : List Phase) (old now : World) (next : List Edge) where
  abbrev pub More : Asked
  More = asked_with asked next

  -- the phase that the load ends
  abbrev pub ended_with : List Step → Phase
  ended_with steps = record { edges = asked.graph.edges; steps = steps }

  pub phases_push : (texts more : View) → HoldsAll texts more → (before : List Step) (phases : List Phase) (last : List Step) → ArePhasesFrom B.dyndep texts (task_of asked store) store before phases
      → IsLawfulPhase (task_of asked store) (before ++ steps_of phases) last → IsLoad B.dyndep more (task_of asked store) ((before ++ steps_of phases) ++ last) next → IsInOrderAt store (task_of More store)
      → ArePhasesFrom B.dyndep more (task_of More store) store before (phases ++ ended_with last ∷ [])
  phases_push texts more holds before [] last phases lawful load order = (
    subst (λ (l : List Step). IsLawfulPhase (task_of asked store) l last) (append-nil before) lawful,
    subst (λ (l : List Step). IsLoad B.dyndep more (task_of asked store) (l ++ last) next) (append-nil before) load,
    order,
    tt,
  )
  phases_push texts more holds before (phase ∷ phases) last lawfuls lawful load order = (
    lawfuls.0,
    subst (λ (es : List Edge). IsLoad B.dyndep more (task_with (task_of asked store) store phase.edges) (before ++ phase.steps) es) (sym (next_edges_of phases (ended_with last) next))
        (load_moved B.dyndep texts more holds (task_with (task_of asked store) store phase.edges) (before ++ phase.steps) (next_edges phases asked.graph.edges) lawfuls.1),
    subst (λ (es : List Edge). IsInOrderAt store (task_with (task_of asked store) store es)) (sym (next_edges_of phases (ended_with last) next)) lawfuls.2,
    phases_push texts more holds (before ++ phase.steps) phases last lawfuls.3
        (subst (λ (l : List Step). IsLawfulPhase (task_of asked store) l last) (sym (append_assoc before phase.steps (steps_of phases))) lawful)
        (subst (λ (l : List Step). IsLoad B.dyndep more (task_of asked store) (l ++ last) next) (sym (append_assoc before phase.steps (steps_of phases))) load) order,
  )

  -- the file with whose load the phase ends held then what it is read as
  pub loads_push : (texts more : View) → HoldsAll texts more → (before : List Step) (phases : List Phase) (last : List Step) → AreLoadsHeldAt texts (task_of asked store) store before phases old.history now.history
      → LoadHeldAt more (task_of asked store) ((before ++ steps_of phases) ++ last) old.history now.history → AreLoadsHeldAt more (task_of More store) store before (phases ++ ended_with last ∷ []) old.history now.history
  loads_push texts more holds before [] last held load = (subst (λ (l : List Step). LoadHeldAt more (task_of asked store) (l ++ last) old.history now.history) (append-nil before) load, tt)
  loads_push texts more holds before (phase ∷ phases) last held load = (
    record { file = held.0.file; is_next = held.0.is_next; content = held.0.content; read = holds held.0.file held.0.content held.0.read; held = held.0.held },
    loads_push texts more holds (before ++ phase.steps) phases last held.1
        (subst (λ (l : List Step). LoadHeldAt more (task_of asked store) (l ++ last) old.history now.history) (sym (append_assoc before phase.steps (steps_of phases))) load),
  )

  -- verdicts stay, over the edges of then
  one_more : (edges : List Edge) (before : List Step) (i : ℕ) (b : Bool) → JudgedOver tells own asked store edges before i b old now → JudgedOver tells own More store edges before i b old now
  one_more edges before i b was = record { mid = was.mid; run = was.run; more = was.more; grows = was.grows; loaded = was.loaded; right = was.right }

  over_more : (edges : List Edge) (before steps : List Step) → AreJudgedOver tells own asked store edges before steps old now → AreJudgedOver tells own More store edges before steps old now
  over_more edges before [] judged = tt
  over_more edges before (Judged i b ∷ steps) judged = (one_more edges before i b judged.0, over_more edges (before ++ Judged i b ∷ []) steps judged.1)
  over_more edges before (Started i ∷ steps) judged = over_more edges (before ++ Started i ∷ []) steps judged
  over_more edges before (Ended i w ∷ steps) judged = over_more edges (before ++ Ended i w ∷ []) steps judged

  pub judged_push : (before : List Step) (phases : List Phase) (last : List Step) → ArePhasesJudged tells own asked store before phases old now
      → AreJudgedOver tells own asked store asked.graph.edges (before ++ steps_of phases) last old now → ArePhasesJudged tells own More store before (phases ++ ended_with last ∷ []) old now
  judged_push before [] last judged over = (over_more asked.graph.edges before last (subst (λ (l : List Step). AreJudgedOver tells own asked store asked.graph.edges l last old now) (append-nil before) over), tt)
  judged_push before (phase ∷ phases) last judged over = (
    over_more phase.edges before phase.steps judged.0,
    judged_push (before ++ phase.steps) phases last judged.1
        (subst (λ (l : List Step). AreJudgedOver tells own asked store asked.graph.edges l last old now) (sym (append_assoc before phase.steps (steps_of phases))) over),
  )

  pub begins_push : (phases : List Phase) (last : List Step) → next_edges (phases ++ ended_with last ∷ []) next ≡ next_edges phases asked.graph.edges
  begins_push phases last = next_edges_of phases (ended_with last) next

  pub steps_push : (phases : List Phase) (last : List Step) → steps_of (phases ++ ended_with last ∷ []) ≡ steps_of phases ++ last
  steps_push phases last = steps_of-append phases (ended_with last ∷ []) ∙ ap (λ (l : List Step). steps_of phases ++ l) (append-nil last)

  -- A file was loaded: it was the next one, it held this, which can be read, and fits; and what the edges are then is in order.
  module _ (file content : List ℕ) (additions : List Addition) (grown : IsGrownBy file additions asked.graph.edges next) where
    -- an edge that names a file still named it before, and another one than this
    pub named_before : (i : ℕ) (other : List ℕ) → (edge_at next i).dyndep ≡ Some other → ((edge_at asked.graph.edges i).dyndep ≡ Some other) × (bytes_eq file other ≡ false)
    named_before i other names = elim (cases_named (edge_at asked.graph.edges i).dyndep file) [
      | inl named ↦ absurd (no_text other (sym (ap (λ (e : Edge). e.dyndep) (grown.named i named).2) ∙ names))
      | inr apart ↦
          let was : (edge_at asked.graph.edges i).dyndep ≡ Some other = ap (λ (e : Edge). e.dyndep) (sym (grown.others i apart)) ∙ names in
          (was, false_from_ne_true (bytes_eq file other) (λ same. apart (was ∙ ap (λ (p : List ℕ). Some p) (sym (same_bytes file other same)))))
    ]

    pub loads : (steps : List Step) → (phased : IsPhased tells B own asked store phases steps old now) → phased.build.taken_in ≡ [] → IsNextLoad (task_of asked store) steps file → B.dyndep content ≡ Some additions
        → IsLoad B.dyndep (with_text file content phased.texts) (task_of asked store) (steps_of phased.build.earlier ++ phased.build.last) next
    loads steps phased on is_next read = record {
      file = file;
      is_next = subst (λ (l : List Step). IsNextLoad (task_of asked store) l file) (so_far tells B own asked store old phases steps now phased on) is_next;
      content = content;
      holds = holds_it phased.texts file content;
      additions = additions;
      read = read;
      grown = grown;
    }

    more_edges : HasGrown asked.graph.edges next
    more_edges = grown_by file additions asked.graph.edges next grown

    -- one that was loaded before
    pub held_before : IsMadeOnce next → (steps : List Step) → IsTrue tells → IsIdle old.events → (declared : HasGrown asked.declared asked.graph.edges) → (p held : List ℕ) → LoadedThen tells own asked store p held steps old now
        → ((i : ℕ) → has_number (started_in steps) i ≡ true → (edge_at asked.graph.edges i).dyndep ≡ None)
        → LoadedThen tells own More store p held steps old now
    held_before once steps tell idle declared p held was loaded = record {
      before = was.before;
      later = was.later;
      splits = was.splits;
      mid = was.mid;
      run = run_moved tells own (task_of asked store) (task_of More store) was.before old was.mid more_edges was.run;
      more = was.more;
      grows = was.grows;
      holds = λ files bound. was.holds (kept_then tells own (task_of asked store) next more_edges was.before old was.mid tell idle (rest_begins tells own (task_of asked store) old was.before was.mid was.run)
          (λ i started. loaded i (subst (λ (l : List Step). has_number (started_in l) i ≡ true) (sym was.splits) (in_left started_in started-append was.before was.later i started))) files) bound;
      input = (was.input.0, more_edges.inputs was.input.0 p was.input.1);
      settled = λ same j makes command. by_maker same j makes command (maker asked.graph.edges p) refl;
    }
      where
        some_none_at : (d : ℕ) → None ≡ Some d → ⊥
        some_none_at d is = cc

        by_maker : (maker asked.declared p ≡ None → maker next p ≡ None) → (j : ℕ) → maker next p ≡ Some j → IsCommand next j → (m : Option ℕ) → maker asked.graph.edges p ≡ m → has_number (done_in was.before) j ≡ true
        by_maker same j makes command None none = absurd (some_none_at j (sym (same undeclared) ∙ makes))
          where
            undeclared : maker asked.declared p ≡ None
            undeclared = by_declared (maker asked.declared p) refl
              where
                by_declared : (d : Option ℕ) → maker asked.declared p ≡ d → maker asked.declared p ≡ None
                by_declared None is = is
                by_declared (Some d) is = absurd (some_none_at d (sym none ∙ maker_still asked.declared asked.graph.edges declared (once_back asked.graph.edges next more_edges once) p d is))
        by_maker same j makes command (Some d) is = was.settled (λ undeclared. absurd (some_none_at d (sym (lacks undeclared) ∙ still))) j
            (is ∙ ap (λ (n : ℕ). Some n) (same_some d j (sym still ∙ makes))) (sym (more_edges.phony j) ∙ command)
          where
            still : maker next p ≡ Some d
            still = maker_still asked.graph.edges next more_edges once p d is

            lacks : maker asked.declared p ≡ None → maker next p ≡ None
            lacks undeclared = same undeclared

    -- this one
    pub held_here : (steps : List Step) → IsRun tells own (task_of asked store) steps old now → IsTrue tells → IsIdle old.events → IsMadeOnce next → HasGrown asked.declared asked.graph.edges
        → IsDueLoad (task_of asked store) steps file → ((i : ℕ) (f : List ℕ) → (edge_at asked.graph.edges i).dyndep ≡ Some f → has (inputs (edge_at asked.graph.edges i)) f ≡ true)
        → ((i : ℕ) → has_number (started_in steps) i ≡ true → (edge_at asked.graph.edges i).dyndep ≡ None) → ((files : FilesAreKept own asked.graph.edges old.history now.history) → files.free file ≡ false → view_of now.history file ≡ Some content)
        → LoadedThen tells own More store file content steps old now
    held_here steps rest tell idle once declared due inputs_named loaded holds = held_before once steps tell idle declared file content (record {
      before = steps;
      later = [];
      splits = sym (append-nil steps);
      mid = now;
      run = rest;
      more = [];
      grows = sym (append-nil now.history);
      holds = holds;
      input = (due.edge, inputs_named due.edge file due.names);
      settled = λ same j makes command. settled_command asked.graph.edges (done_in steps) j command (due.settled j makes);
    }) loaded

    pub has_grown : (steps : List Step) → IsPhased tells B own asked store phases steps old now → HasGrown asked.declared asked.graph.edges
    has_grown steps phased = subst (λ (es : List Edge). HasGrown es asked.graph.edges) phased.build.begins
        (rest_has_grown B.dyndep phased.texts asked.declared (task_of asked store) store [] phased.build.earlier phased.build.phases)

    -- what was started has its dyndep file loaded
    pub loaded_of : (steps : List Step) → IsPhased tells B own asked store phases steps old now → IsRunOrRest tells own (task_of asked store) steps old now → (i : ℕ) → has_number (started_in steps) i ≡ true
        → (edge_at asked.graph.edges i).dyndep ≡ None
    loaded_of steps phased rest i started =
        let kept = kept_orderly asked.graph.edges steps rest.orderly in
        phased.loaded i (kept.out_of_date i (kept.started i started))

    abbrev pub phased_load : (steps : List Step) → (phased : IsPhased tells B own asked store phases steps old now) → phased.build.taken_in ≡ [] → IsNextLoad (task_of asked store) steps file → B.dyndep content ≡ Some additions
        → IsInOrderAt store (task_of More store) → IsRun tells own (task_of asked store) steps old now → IsIdle old.events
        → (IsTrue tells → (files : FilesAreKept own asked.graph.edges old.history now.history) → files.free file ≡ false → view_of now.history file ≡ Some content)
        → (IsTrue tells → HeldAt file (Some content) steps old.history now.history) → IsPhased tells B own More store (phases ++ ended_with phased.build.last ∷ []) steps old now
    phased_load steps phased on is_next read order rest idle holds held_then = record {
      texts = with_text file content phased.texts;
      build = record {
        earlier = phased.build.earlier ++ ended_with phased.build.last ∷ [];
        last = [];
        taken_in = [];
        whole = so_far tells B own asked store old phases steps now phased on ∙ (sym (steps_push phased.build.earlier phased.build.last) ∙ sym (append-nil (steps_of (phased.build.earlier ++ ended_with phased.build.last ∷ []))));
        begins = begins_push phased.build.earlier phased.build.last ∙ phased.build.begins;
        phases = phases_push phased.texts (with_text file content phased.texts) (holds_all phased.texts file content (phased.unread is_next.due.edge file is_next.due.names))
            [] phased.build.earlier phased.build.last phased.build.phases phased.build.lawful (loads steps phased on is_next read) order;
        lawful = record { lawful = tt; unloaded = tt };
        rest = tt;
        cause = inl refl;
      };
      so = ap (λ (l : List Phase). l ++ ended_with phased.build.last ∷ []) phased.so;
      unread = λ i other names.
          let was = named_before i other names in
          ap (λ (b : Bool). cond b (Some content) (phased.texts other)) was.1 ∙ phased.unread i other was.0;
      inputs = λ i other names.
          let was = named_before i other names in
          (grown_by file additions asked.graph.edges next grown).inputs i other (phased.inputs i other was.0);
      loaded = λ i judged. still_loaded asked.graph.edges next (grown_by file additions asked.graph.edges next grown) i (phased.loaded i judged);
      held = λ tell p held is. elim (cases_Bool (bytes_eq file p)) [
        | inl same ↦ subst (λ (q : List ℕ). LoadedThen tells own More store q held steps old now) (same_bytes file p same)
            (subst (λ (c : List ℕ). LoadedThen tells own More store file c steps old now) (same_some content held (sym (ap (λ (b : Bool). cond b (Some content) (phased.texts p)) same) ∙ is))
            (held_here steps rest tell idle order.once (has_grown steps phased) is_next.due phased.inputs (loaded_of steps phased (rest_begins tells own (task_of asked store) old steps now rest)) (holds tell)))
        | inr other ↦ held_before order.once steps tell idle (has_grown steps phased) p held
            (phased.held tell p held (sym (ap (λ (b : Bool). cond b (Some content) (phased.texts p)) other) ∙ is)) (loaded_of steps phased (rest_begins tells own (task_of asked store) old steps now rest))
      ];
      read_then = λ tell. loads_push phased.texts (with_text file content phased.texts) (holds_all phased.texts file content (phased.unread is_next.due.edge file is_next.due.names))
          [] phased.build.earlier phased.build.last (phased.read_then tell) (record {
            file = file;
            is_next = subst (λ (l : List Step). IsNextLoad (task_of asked store) l file) (so_far tells B own asked store old phases steps now phased on) is_next;
            content = content;
            read = holds_it phased.texts file content;
            held = subst (λ (l : List Step). HeldAt file (Some content) l old.history now.history) (so_far tells B own asked store old phases steps now phased on) (held_then tell);
          });
      before = λ tell. judged_push [] phased.build.earlier phased.build.last (phased.before tell) (phased.last tell);
      last = λ tell. tt;
    }
