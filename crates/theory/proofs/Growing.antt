-- What the logs tell goes on through a run: as the site's events and history grow, and as records are put behind others.
use Rattle.std.proofs.Common.{◌≡◌, ◌≢◌, ◌⊎◌, inl, inr, ℕ, cond, Bool, true, false, List, [], ◌∷◌, ◌++◌, Option, Some, None, refl, sym, ◌∙◌, ap, subst, append_assoc}
use Rattle.std.proofs.lemmas.List.{append-nil}
use Rattle.std.proofs.lemmas.Bool.{false≢true, cases_Bool, cond-true, cond-false}
use Rattle.model.specs.declared.act.Act.{Act}
use Rattle.model.specs.declared.event.Event.{Event}
use Rattle.model.specs.declared.event.Event.TheVariants.{Start, Finish}
use Rattle.model.specs.declared.event.Moment.{Moment}
use Rattle.model.specs.declared.event.Moment.TheVariants.{Happened}
use Rattle.model.specs.declared.graph.Edge.{Edge}
use Rattle.model.specs.declared.record.Record.{Record}
use Rattle.model.specs.declared.record.Record.TheVariants.{Begun, Done}
use Rattle.model.specs.declared.record.DepsRecord.{DepsRecord}
use Rattle.model.specs.World.{World, view_of}
use Rattle.model.specs.Graph.{has, has_number, edge_at, outputs, IsMadeOnce}
use Rattle.model.specs.Outcome.{Behaviour, depfile_in, listed}
use Rattle.model.specs.Records.{Told, Store, Made, in_force_from, in_force, deps_from, deps_in_force, ListsOnce}
use Rattle.model.specs.Schedule.{Step, Judged, Started, Ended, started_in, well_in}
use Rattle.model.specs.Premises.{EndedAt}
use Rattle.model.specs.Kept.{StartedUnder}
use Rattle.theory.proofs.Lists.{has_number-one, has_number-is, same_some, some_none}
use Rattle.theory.proofs.Makers.{one_maker}
use Rattle.theory.proofs.Steps.{in_left, in_right, in_either, started-append, well-append}
use Rattle.theory.specs.Logged.{KeepsBoth, HasNone, HasNew, HasNewDeps, IsLogged}

-- ---- a site that goes on

-- the events and the history of a site are those of an earlier one, and more
pub record GoesOn (now new : World) : Type 0 where
  pub moments : List Moment
  pub history : new.history ≡ now.history ++ moments
  pub more : List Event
  pub events : new.events ≡ now.events ++ more

pub goes_nowhere : (now : World) → GoesOn now now
goes_nowhere now = record { moments = []; history = sym (append-nil now.history); more = []; events = sym (append-nil now.events) }

pub longer : {X : Type 0} (old before : List X) (x : X) (after more now new : List X) → new ≡ now ++ more → now ≡ old ++ (before ++ x ∷ after) → new ≡ old ++ (before ++ x ∷ (after ++ more))
longer old before x after more now new grows splits =
    grows ∙ (ap (λ l. l ++ more) splits ∙ (append_assoc old (before ++ x ∷ after) more ∙ ap (λ l. old ++ l) (append_assoc before (x ∷ after) more)))

pub started_on : (i stamp : ℕ) (old now new : World) (more : List Event) → new.events ≡ now.events ++ more → StartedUnder i stamp old now → StartedUnder i stamp old new
started_on i stamp old now new more grows started = record {
  act = started.act;
  before = started.before;
  after = started.after ++ more;
  splits = longer old.events started.before (Start i started.act stamp) started.after more now.events new.events grows started.splits;
}

ended_on : (i : ℕ) (at : List Moment) (old now new : World) → GoesOn now new → EndedAt i old.history now.history at → EndedAt i old.history new.history at
ended_on i at old now new on ended = record {
  before = ended.before;
  after = ended.after ++ on.moments;
  is = ended.is;
  splits = longer old.history ended.before (Happened (Finish i true)) ended.after on.moments now.history new.history on.history ended.splits;
}

-- ---- what was logged stays so

module _ (B : Behaviour) (edges : List Edge) (entry : Store) (old : World) where
  new_on : (few many : List Step) (store : Store) (now new : World) (o : List ℕ) → ((i : ℕ) → has_number (well_in few) i ≡ true → has_number (well_in many) i ≡ true) → GoesOn now new
      → HasNew B edges few store old now o → HasNew B edges many store old new o
  new_on few many store now new o more on has_new = record {
    edge = has_new.edge;
    stamp = has_new.stamp;
    at = has_new.at;
    makes = has_new.makes;
    well = more has_new.edge has_new.well;
    started = started_on has_new.edge has_new.stamp old now new on.more on.events has_new.started;
    ended = ended_on has_new.edge has_new.at old now new on has_new.ended;
    recorded = has_new.recorded;
  }

  new_deps_on : (store : Store) (now new : World) (o : List ℕ) → GoesOn now new → HasNewDeps edges store old now o → HasNewDeps edges store old new o
  new_deps_on store now new o on has_new = record {
    edge = has_new.edge;
    deps = has_new.deps;
    makes = has_new.makes;
    depfile = has_new.depfile;
    started = started_on has_new.edge has_new.deps.start old now new on.more on.events has_new.started;
    is = has_new.is;
  }

  -- at the entry
  pub logged_nothing : IsLogged B edges [] None entry entry old old
  logged_nothing = record {
    records = λ o. inl (record { unstarted = λ i h makes. false≢true h; records = refl; deps = refl });
    deps = λ o. inl refl;
    whole = λ i o well makes none. absurd (false≢true well);
  }

  -- ---- the site and the steps go on, and the logs tell the same

  -- `hand` and `next` are the edges in hand before and after
  logged_on : (few many : List Step) (hand next : Option ℕ) (store : Store) (now new : World)
      → ((i : ℕ) → has_number (started_in few) i ≡ true → has_number (started_in many) i ≡ true) → ((i : ℕ) → has_number (started_in many) i ≡ true → has_number (started_in few) i ≡ true)
      → ((i : ℕ) → has_number (well_in few) i ≡ true → has_number (well_in many) i ≡ true) → ((i : ℕ) → has_number (well_in many) i ≡ true → (has_number (well_in few) i ≡ true) ⊎ (next ≡ Some i))
      → ((i : ℕ) → hand ≡ Some i → next ≡ Some i)
      → GoesOn now new → IsLogged B edges few hand entry store old now → IsLogged B edges many next entry store old new
  logged_on few many hand next store now new starts fewer more last keeps_hand on logged = record {
    records = λ o. by_case o (logged.records o);
    deps = λ o. elim (logged.deps o) [
      | inl same ↦ inl same
      | inr has_new ↦ inr (new_deps_on store now new o on has_new)
    ];
    whole = λ i o well makes none. elim (last i well) [
      | inl before ↦ keeps_hand i (logged.whole i o before makes none)
      | inr taken ↦ taken
    ];
  }
    where
      by_case : (o : List ℕ) → KeepsBoth edges few entry store o ⊎ HasNone edges few hand store o ⊎ HasNew B edges few store old now o
          → KeepsBoth edges many entry store o ⊎ HasNone edges many next store o ⊎ HasNew B edges many store old new o
      by_case o (inl keeps) = inl (record { unstarted = λ i h makes. keeps.unstarted i (fewer i h) makes; records = keeps.records; deps = keeps.deps })
      by_case o (inr (inl none)) = inr (inl (record {
        edge = none.edge;
        makes = none.makes;
        begun = elim none.begun [ inl started ↦ inl (starts none.edge started) | inr held ↦ inr (keeps_hand none.edge held) ];
        none = none.none;
      }))
      by_case o (inr (inr has_new)) = inr (inr (new_on few many store now new o more on has_new))

  -- a call that starts and ends nothing
  pub logged_quiet : (steps : List Step) (hand : Option ℕ) (store : Store) (now new : World) → new.events ≡ now.events → (moments : List Moment) → new.history ≡ now.history ++ moments
      → IsLogged B edges steps hand entry store old now → IsLogged B edges steps hand entry store old new
  logged_quiet steps hand store now new events moments history logged =
      logged_on steps steps hand hand store now new (λ i h. h) (λ i h. h) (λ i h. h) (λ i h. inl h) (λ i h. h)
      (record { moments = moments; history = history; more = []; events = events ∙ sym (append-nil now.events) })
      logged

  -- an edge is taken in hand
  pub logged_hand : (steps : List Step) (store : Store) (now : World) (i : ℕ) → IsLogged B edges steps None entry store old now → IsLogged B edges steps (Some i) entry store old now
  logged_hand steps store now i logged =
      logged_on steps steps None (Some i) store now now (λ k h. h) (λ k h. h) (λ k h. h) (λ k h. inl h) (λ k h. absurd (some_none k (sym h))) (goes_nowhere now) logged

  started_same : (steps : List Step) (step : Step) → started_in (step ∷ []) ≡ [] → (k : ℕ) → has_number (started_in (steps ++ step ∷ [])) k ≡ true → has_number (started_in steps) k ≡ true
  started_same steps step none k h = elim (in_either started_in started-append steps (step ∷ []) k h) [
    | inl was ↦ was
    | inr now ↦ absurd (false≢true (ap (λ (l : List ℕ). has_number l k) (sym none) ∙ now))
  ]

  well_same : (steps : List Step) (step : Step) → well_in (step ∷ []) ≡ [] → (k : ℕ) → has_number (well_in (steps ++ step ∷ [])) k ≡ true → has_number (well_in steps) k ≡ true
  well_same steps step none k h = elim (in_either well_in well-append steps (step ∷ []) k h) [
    | inl was ↦ was
    | inr now ↦ absurd (false≢true (ap (λ (l : List ℕ). has_number l k) (sym none) ∙ now))
  ]

  pub logged_judged : (steps : List Step) (hand : Option ℕ) (store : Store) (now : World) (i : ℕ) (out_of_date : Bool) → IsLogged B edges steps hand entry store old now → IsLogged B edges (steps ++ Judged i out_of_date ∷ []) hand entry store old now
  logged_judged steps hand store now i b logged =
      logged_on steps (steps ++ Judged i b ∷ []) hand hand store now now
      (λ k h. in_left started_in started-append steps (Judged i b ∷ []) k h) (λ k h. started_same steps (Judged i b) refl k h)
      (λ k h. in_left well_in well-append steps (Judged i b ∷ []) k h) (λ k h. inl (well_same steps (Judged i b) refl k h)) (λ k h. h)
      (goes_nowhere now) logged

  -- after a fault a command ends, and no step is taken
  pub logged_rest : (steps : List Step) (hand : Option ℕ) (store : Store) (now new : World) (i : ℕ) (ok : Bool) → new.events ≡ now.events ++ Finish i ok ∷ []
      → (moments : List Moment) → new.history ≡ now.history ++ moments → IsLogged B edges steps hand entry store old now → IsLogged B edges steps hand entry store old new
  logged_rest steps hand store now new i ok events moments history logged =
      logged_on steps steps hand hand store now new (λ k h. h) (λ k h. h) (λ k h. h) (λ k h. inl h) (λ k h. h)
      (record { moments = moments; history = history; more = Finish i ok ∷ []; events = events }) logged

  -- A command that was taken in has failed: no edge is in hand. Or it ended well: it is in hand until it is recorded.
  pub logged_as_failed : (steps : List Step) (store : Store) (now : World) (i : ℕ) → IsLogged B edges steps None entry store old now → IsLogged B edges (steps ++ Ended i false ∷ []) None entry store old now
  logged_as_failed steps store now i logged =
      logged_on steps (steps ++ Ended i false ∷ []) None None store now now
      (λ k h. in_left started_in started-append steps (Ended i false ∷ []) k h) (λ k h. started_same steps (Ended i false) refl k h)
      (λ k h. in_left well_in well-append steps (Ended i false ∷ []) k h) (λ k h. inl (well_same steps (Ended i false) refl k h)) (λ k h. h)
      (goes_nowhere now) logged

  pub logged_as_well : (steps : List Step) (store : Store) (now : World) (i : ℕ) → IsLogged B edges steps None entry store old now → IsLogged B edges (steps ++ Ended i true ∷ []) (Some i) entry store old now
  logged_as_well steps store now i logged =
      logged_on steps (steps ++ Ended i true ∷ []) None (Some i) store now now
      (λ k h. in_left started_in started-append steps (Ended i true ∷ []) k h) (λ k h. started_same steps (Ended i true) refl k h)
      (λ k h. in_left well_in well-append steps (Ended i true ∷ []) k h)
      (λ k h. elim (in_either well_in well-append steps (Ended i true ∷ []) k h) [ inl before ↦ inl before | inr last ↦ inr (ap (λ (n : ℕ). Some n) (has_number-is i k last)) ])
      (λ k h. absurd (some_none k (sym h)))
      (goes_nowhere now) logged

  -- The command in hand is started; none of its outputs has a record in force.
  pub logged_starts : (steps : List Step) (store : Store) (now new : World) (i : ℕ) (act : Act) (stamp : ℕ) → new.events ≡ now.events ++ Start i act stamp ∷ []
      → (moments : List Moment) → new.history ≡ now.history ++ moments
      → ((o : List ℕ) → has (outputs (edge_at edges i)) o ≡ true → in_force store.records o ≡ None) → (has_number (well_in steps) i ≡ true → ⊥)
      → IsLogged B edges steps (Some i) entry store old now → IsLogged B edges (steps ++ Started i ∷ []) None entry store old new
  logged_starts steps store now new i act stamp events moments history begun fresh logged = record {
    records = λ o. elim (cases_Bool (has (outputs (edge_at edges i)) o)) [
      | inl makes ↦ inr (inl (record { edge = i; makes = makes; begun = inl (in_right started_in started-append steps (Started i ∷ []) i (has_number-one i)); none = begun o makes }))
      | inr other ↦ by_case o other (logged.records o)
    ];
    deps = λ o. elim (logged.deps o) [
      | inl same ↦ inl same
      | inr has_new ↦ inr (new_deps_on store now new o on has_new)
    ];
    whole = λ k o well makes none.
        let before = well_same steps (Started i) refl k well in
        absurd (fresh (subst (λ (n : ℕ). has_number (well_in steps) n ≡ true) (sym (same_some i k (logged.whole k o before makes none))) before));
  }
    where
      on : GoesOn now new
      on = record { moments = moments; history = history; more = Start i act stamp ∷ []; events = events }

      by_case : (o : List ℕ) → has (outputs (edge_at edges i)) o ≡ false → KeepsBoth edges steps entry store o ⊎ HasNone edges steps (Some i) store o ⊎ HasNew B edges steps store old now o
          → KeepsBoth edges (steps ++ Started i ∷ []) entry store o ⊎ HasNone edges (steps ++ Started i ∷ []) None store o ⊎ HasNew B edges (steps ++ Started i ∷ []) store old new o
      by_case o other (inl keeps) = inl (record {
        unstarted = λ k h makes. elim (in_either started_in started-append steps (Started i ∷ []) k h) [
          | inl before ↦ keeps.unstarted k before makes
          | inr now ↦ false≢true (sym other ∙ (ap (λ (n : ℕ). has (outputs (edge_at edges n)) o) (has_number-is i k now) ∙ makes))
        ];
        records = keeps.records;
        deps = keeps.deps;
      })
      by_case o other (inr (inl none)) = inr (inl (record {
        edge = none.edge;
        makes = none.makes;
        begun = elim none.begun [
          | inl before ↦ inl (in_left started_in started-append steps (Started i ∷ []) none.edge before)
          | inr held ↦ absurd (false≢true (sym other ∙ (ap (λ (n : ℕ). has (outputs (edge_at edges n)) o) (same_some i none.edge held) ∙ none.makes)))
        ];
        none = none.none;
      }))
      by_case o other (inr (inr has_new)) = inr (inr (new_on steps (steps ++ Started i ∷ []) store now new o (λ k h. in_left well_in well-append steps (Started i ∷ []) k h) on has_new))

  -- ---- a record is put behind the others

  -- both logs tell the same of this path
  abbrev pub TellSame : Store → Store → List ℕ → Type 0
  TellSame before after o = (in_force after.records o ≡ in_force before.records o) × (deps_in_force after.deps o ≡ deps_in_force before.deps o)

  new_same : (steps : List Step) (before after : Store) (now : World) (o : List ℕ) → TellSame before after o → HasNew B edges steps before old now o → HasNew B edges steps after old now o
  new_same steps before after now o same has_new = record {
    edge = has_new.edge;
    stamp = has_new.stamp;
    at = has_new.at;
    makes = has_new.makes;
    well = has_new.well;
    started = has_new.started;
    ended = has_new.ended;
    recorded = record {
      done = same.0 ∙ has_new.recorded.done;
      deps = λ some. let found = has_new.recorded.deps some in (found.0, same.1 ∙ found.1, found.2, found.3);
    };
  }

  deps_next : (before after : Store) (now : World) (o : List ℕ) → (deps_in_force after.deps o ≡ deps_in_force before.deps o) ⊎ HasNewDeps edges after old now o
      → (deps_in_force before.deps o ≡ deps_in_force entry.deps o) ⊎ HasNewDeps edges before old now o → (deps_in_force after.deps o ≡ deps_in_force entry.deps o) ⊎ HasNewDeps edges after old now o
  deps_next before after now o (inl same) (inl was) = inl (same ∙ was)
  deps_next before after now o (inl same) (inr has_new) =
      inr (record { edge = has_new.edge; deps = has_new.deps; makes = has_new.makes; depfile = has_new.depfile; started = has_new.started; is = same ∙ has_new.is })
  deps_next before after now o (inr has_new) was = inr has_new

  keeps_same : (steps : List Step) (before after : Store) (o : List ℕ) → TellSame before after o → KeepsBoth edges steps entry before o → KeepsBoth edges steps entry after o
  keeps_same steps before after o same keeps = record { unstarted = keeps.unstarted; records = same.0 ∙ keeps.records; deps = same.1 ∙ keeps.deps }

  -- a log was written anew, with the same records in force
  pub logged_same : (steps : List Step) (hand : Option ℕ) (before after : Store) (now : World) → ((o : List ℕ) → TellSame before after o) → IsLogged B edges steps hand entry before old now → IsLogged B edges steps hand entry after old now
  logged_same steps hand before after now same logged = record {
    records = λ o. by_case o (logged.records o);
    deps = λ o. deps_next before after now o (inl (same o).1) (logged.deps o);
    whole = λ i o well makes none. logged.whole i o well makes (sym (same o).0 ∙ none);
  }
    where
      by_case : (o : List ℕ) → KeepsBoth edges steps entry before o ⊎ HasNone edges steps hand before o ⊎ HasNew B edges steps before old now o
          → KeepsBoth edges steps entry after o ⊎ HasNone edges steps hand after o ⊎ HasNew B edges steps after old now o
      by_case o (inl keeps) = inl (keeps_same steps before after o (same o) keeps)
      by_case o (inr (inl none)) = inr (inl (record { edge = none.edge; makes = none.makes; begun = none.begun; none = (same o).0 ∙ none.none }))
      by_case o (inr (inr has_new)) = inr (inr (new_same steps before after now o (same o) has_new))

  pub in_force-append : (o : List ℕ) (held : Option Made) (rs ys : List Record) → in_force_from o held (rs ++ ys) ≡ in_force_from o (in_force_from o held rs) ys
  in_force-append o held [] ys = refl
  in_force-append o held (Begun outs ∷ rs) ys = in_force-append o (cond (has outs o) None held) rs ys
  in_force-append o held (Done outs start act ∷ rs) ys = in_force-append o (cond (has outs o) (Some (record { act = act; start = start })) held) rs ys

  pub deps-append : (o : List ℕ) (held : Option Told) (rs ys : List DepsRecord) → deps_from o held (rs ++ ys) ≡ deps_from o (deps_from o held rs) ys
  deps-append o held [] ys = refl
  deps-append o held (r ∷ rs) ys = deps-append o (cond (has r.outputs o) (Some (record { start = r.start; paths = r.paths })) held) rs ys

  -- a begun record takes the records of its outputs out of force
  pub begun_none : (records : List Record) (outs : List (List ℕ)) (o : List ℕ) → has outs o ≡ true → in_force (records ++ Begun outs ∷ []) o ≡ None
  begun_none records outs o h = in_force-append o None records (Begun outs ∷ []) ∙ cond-true (has outs o) None (in_force records o) h

  -- a deps record that was put last is in force for its outputs
  pub deps_last : (deps : List DepsRecord) (r : DepsRecord) (o : List ℕ) → has r.outputs o ≡ true → deps_in_force (deps ++ r ∷ []) o ≡ Some (record { start = r.start; paths = r.paths })
  deps_last deps r o h = deps-append o None deps (r ∷ []) ∙ cond-true (has r.outputs o) (Some (record { start = r.start; paths = r.paths })) (deps_in_force deps o) h

  -- the begun record of the edge in hand
  pub logged_begun : (steps : List Step) (store : Store) (now : World) (i : ℕ) → IsMadeOnce edges → IsLogged B edges steps (Some i) entry store old now
      → IsLogged B edges steps (Some i) entry (record { records = store.records ++ Begun (outputs (edge_at edges i)) ∷ []; deps = store.deps }) old now
  logged_begun steps store now i once logged = record {
    records = λ o. elim (cases_Bool (has (outputs (edge_at edges i)) o)) [
      | inl makes ↦ inr (inl (record { edge = i; makes = makes; begun = inr refl; none = begun_none store.records (outputs (edge_at edges i)) o makes }))
      | inr other ↦ by_case o (same o other) (logged.records o)
    ];
    deps = λ o. deps_next store after now o (inl refl) (logged.deps o);
    whole = λ k o well makes none. elim (cases_Bool (has (outputs (edge_at edges i)) o)) [
      | inl here ↦ ap (λ (n : ℕ). Some n) (one_maker edges o i k once here makes)
      | inr other ↦ logged.whole k o well makes (sym (same o other).0 ∙ none)
    ];
  }
    where
      after : Store
      after = record { records = store.records ++ Begun (outputs (edge_at edges i)) ∷ []; deps = store.deps }

      same : (o : List ℕ) → has (outputs (edge_at edges i)) o ≡ false → TellSame store (record { records = store.records ++ Begun (outputs (edge_at edges i)) ∷ []; deps = store.deps }) o
      same o other = (in_force-append o None store.records (Begun (outputs (edge_at edges i)) ∷ []) ∙ cond-false (has (outputs (edge_at edges i)) o) None (in_force store.records o) other, refl)

      by_case : (o : List ℕ) → TellSame store (record { records = store.records ++ Begun (outputs (edge_at edges i)) ∷ []; deps = store.deps }) o
          → KeepsBoth edges steps entry store o ⊎ HasNone edges steps (Some i) store o ⊎ HasNew B edges steps store old now o
          → KeepsBoth edges steps entry after o ⊎ HasNone edges steps (Some i) after o ⊎ HasNew B edges steps after old now o
      by_case o tells (inl keeps) = inl (keeps_same steps store after o tells keeps)
      by_case o tells (inr (inl none)) = inr (inl (record { edge = none.edge; makes = none.makes; begun = none.begun; none = tells.0 ∙ none.none }))
      by_case o tells (inr (inr has_new)) = inr (inr (new_same steps store after now o tells has_new))

  -- The deps record of the edge in hand, a started command with a depfile, none of whose outputs has a record in force.
  pub logged_deps : (steps : List Step) (hand : Option ℕ) (store : Store) (now : World) (i : ℕ) (r : DepsRecord) → r.outputs ≡ outputs (edge_at edges i) → (edge_at edges i).act.depfile ≢ [] → StartedUnder i r.start old now
      → has_number (started_in steps) i ≡ true → ((o : List ℕ) → has (outputs (edge_at edges i)) o ≡ true → in_force store.records o ≡ None) → IsLogged B edges steps hand entry store old now
      → IsLogged B edges steps hand entry (record { records = store.records; deps = store.deps ++ r ∷ [] }) old now
  logged_deps steps hand store now i r outs depfile started_so started begun logged = record {
    records = λ o. elim (cases_Bool (has r.outputs o)) [
      | inl named ↦ inr (inl (record { edge = i; makes = makes o named; begun = inl started; none = begun o (makes o named) }))
      | inr other ↦ by_case o (refl, unnamed o other) (logged.records o)
    ];
    deps = λ o. deps_next store after now o (elim (cases_Bool (has r.outputs o)) [
      | inl named ↦ inr (record {
        edge = i;
        deps = record { start = r.start; paths = r.paths };
        makes = makes o named;
        depfile = depfile;
        started = started_so;
        is = deps-append o None store.deps (r ∷ []) ∙ cond-true (has r.outputs o) (Some (record { start = r.start; paths = r.paths })) (deps_in_force store.deps o) named;
      })
      | inr other ↦ inl (unnamed o other)
    ]) (logged.deps o);
    whole = logged.whole;
  }
    where
      after : Store
      after = record { records = store.records; deps = store.deps ++ r ∷ [] }

      makes : (o : List ℕ) → has r.outputs o ≡ true → has (outputs (edge_at edges i)) o ≡ true
      makes o named = subst (λ (os : List (List ℕ)). has os o ≡ true) outs named

      unnamed : (o : List ℕ) → has r.outputs o ≡ false → deps_in_force (store.deps ++ r ∷ []) o ≡ deps_in_force store.deps o
      unnamed o other = deps-append o None store.deps (r ∷ []) ∙ cond-false (has r.outputs o) (Some (record { start = r.start; paths = r.paths })) (deps_in_force store.deps o) other

      by_case : (o : List ℕ) → TellSame store (record { records = store.records; deps = store.deps ++ r ∷ [] }) o → KeepsBoth edges steps entry store o ⊎ HasNone edges steps hand store o ⊎ HasNew B edges steps store old now o
          → KeepsBoth edges steps entry after o ⊎ HasNone edges steps hand after o ⊎ HasNew B edges steps after old now o
      by_case o tells (inl keeps) = inl (keeps_same steps store after o tells keeps)
      by_case o tells (inr (inl none)) = inr (inl (record { edge = none.edge; makes = none.makes; begun = none.begun; none = tells.0 ∙ none.none }))
      by_case o tells (inr (inr has_new)) = inr (inr (new_same steps store after now o tells has_new))

  -- The done record of the edge in hand, a command that ended well, whose deps records are there where it has a depfile.
  pub logged_done : (steps : List Step) (store : Store) (now : World) (i stamp : ℕ) (at : List Moment) → has_number (well_in steps) i ≡ true → StartedUnder i stamp old now → EndedAt i old.history now.history at
      → ((edge_at edges i).act.depfile ≢ [] → (o : List ℕ) → has (outputs (edge_at edges i)) o ≡ true
      → (deps : Told) × (deps_in_force store.deps o ≡ Some deps) × (deps.start ≡ stamp) × ListsOnce deps.paths (listed (depfile_in B (edge_at edges i).act (view_of at))))
      → IsLogged B edges steps (Some i) entry store old now
      → IsLogged B edges steps None entry (record { records = store.records ++ Done (outputs (edge_at edges i)) stamp (edge_at edges i).act ∷ []; deps = store.deps }) old now
  logged_done steps store now i stamp at well started ended found logged = record {
    records = λ o. elim (cases_Bool (has (outputs (edge_at edges i)) o)) [
      | inl makes ↦ inr (inr (record {
        edge = i;
        stamp = stamp;
        at = at;
        makes = makes;
        well = well;
        started = started;
        ended = ended;
        recorded = record { done = done_is o makes; deps = λ some. found some o makes };
      }))
      | inr other ↦ by_case o other (same o other) (logged.records o)
    ];
    deps = λ o. deps_next store after now o (inl refl) (logged.deps o);
    whole = λ k o k_well makes none. elim (cases_Bool (has (outputs (edge_at edges i)) o)) [
      | inl here ↦ absurd (some_none (record { act = (edge_at edges i).act; start = stamp }) (sym (done_is o here) ∙ none))
      | inr other ↦ absurd (not_hand o k other makes (logged.whole k o k_well makes (sym (same o other).0 ∙ none)))
    ];
  }
    where
      after : Store
      after = record { records = store.records ++ Done (outputs (edge_at edges i)) stamp (edge_at edges i).act ∷ []; deps = store.deps }

      done_is : (o : List ℕ) → has (outputs (edge_at edges i)) o ≡ true → in_force (store.records ++ Done (outputs (edge_at edges i)) stamp (edge_at edges i).act ∷ []) o ≡ Some (record { act = (edge_at edges i).act; start = stamp })
      done_is o makes = in_force-append o None store.records (Done (outputs (edge_at edges i)) stamp (edge_at edges i).act ∷ [])
          ∙ cond-true (has (outputs (edge_at edges i)) o) (Some (record { act = (edge_at edges i).act; start = stamp })) (in_force store.records o) makes

      same : (o : List ℕ) → has (outputs (edge_at edges i)) o ≡ false → TellSame store (record { records = store.records ++ Done (outputs (edge_at edges i)) stamp (edge_at edges i).act ∷ []; deps = store.deps }) o
      same o other = (
        in_force-append o None store.records (Done (outputs (edge_at edges i)) stamp (edge_at edges i).act ∷ [])
            ∙ cond-false (has (outputs (edge_at edges i)) o) (Some (record { act = (edge_at edges i).act; start = stamp })) (in_force store.records o) other,
        refl,
      )

      not_hand : (o : List ℕ) (k : ℕ) → has (outputs (edge_at edges i)) o ≡ false → has (outputs (edge_at edges k)) o ≡ true → Some i ≡ Some k → ⊥
      not_hand o k other makes held = false≢true (sym other ∙ (ap (λ (n : ℕ). has (outputs (edge_at edges n)) o) (same_some i k held) ∙ makes))

      by_case : (o : List ℕ) → has (outputs (edge_at edges i)) o ≡ false → TellSame store (record { records = store.records ++ Done (outputs (edge_at edges i)) stamp (edge_at edges i).act ∷ []; deps = store.deps }) o
          → KeepsBoth edges steps entry store o ⊎ HasNone edges steps (Some i) store o ⊎ HasNew B edges steps store old now o
          → KeepsBoth edges steps entry after o ⊎ HasNone edges steps None after o ⊎ HasNew B edges steps after old now o
      by_case o other tells (inl keeps) = inl (keeps_same steps store after o tells keeps)
      by_case o other tells (inr (inl none)) = inr (inl (record {
        edge = none.edge;
        makes = none.makes;
        begun = elim none.begun [ inl before ↦ inl before | inr held ↦ absurd (not_hand o none.edge other none.makes held) ];
        none = tells.0 ∙ none.none;
      }))
      by_case o other tells (inr (inr has_new)) = inr (inr (new_same steps store after now o tells has_new))

  -- ---- an append that failed: the log tells the same records, or one more

  pub begun_torn : (steps : List Step) (store : Store) (now : World) (i : ℕ) (records : List Record) → IsMadeOnce edges
      → (records ≡ store.records) ⊎ (records ≡ store.records ++ Begun (outputs (edge_at edges i)) ∷ []) → IsLogged B edges steps (Some i) entry store old now
      → IsLogged B edges steps (Some i) entry (record { records = records; deps = store.deps }) old now
  begun_torn steps store now i records once (inl same) logged = subst (λ (rs : List Record). IsLogged B edges steps (Some i) entry (record { records = rs; deps = store.deps }) old now) (sym same) logged
  begun_torn steps store now i records once (inr more) logged =
      subst (λ (rs : List Record). IsLogged B edges steps (Some i) entry (record { records = rs; deps = store.deps }) old now) (sym more) (logged_begun steps store now i once logged)

  pub deps_torn : (steps : List Step) (hand : Option ℕ) (store : Store) (now : World) (i : ℕ) (r : DepsRecord) (deps : List DepsRecord) → r.outputs ≡ outputs (edge_at edges i) → (edge_at edges i).act.depfile ≢ [] → StartedUnder i r.start old now
      → has_number (started_in steps) i ≡ true → ((o : List ℕ) → has (outputs (edge_at edges i)) o ≡ true → in_force store.records o ≡ None)
      → (deps ≡ store.deps) ⊎ (deps ≡ store.deps ++ r ∷ []) → IsLogged B edges steps hand entry store old now
      → IsLogged B edges steps hand entry (record { records = store.records; deps = deps }) old now
  deps_torn steps hand store now i r deps outs depfile started_so started begun (inl same) logged =
      subst (λ (ds : List DepsRecord). IsLogged B edges steps hand entry (record { records = store.records; deps = ds }) old now) (sym same) logged
  deps_torn steps hand store now i r deps outs depfile started_so started begun (inr more) logged =
      subst (λ (ds : List DepsRecord). IsLogged B edges steps hand entry (record { records = store.records; deps = ds }) old now) (sym more)
      (logged_deps steps hand store now i r outs depfile started_so started begun logged)

  -- the edge may stay in hand, whether its done record stands or not
  pub done_torn : (steps : List Step) (store : Store) (now : World) (i stamp : ℕ) (at : List Moment) (records : List Record) → has_number (well_in steps) i ≡ true → StartedUnder i stamp old now → EndedAt i old.history now.history at
      → ((edge_at edges i).act.depfile ≢ [] → (o : List ℕ) → has (outputs (edge_at edges i)) o ≡ true
      → (deps : Told) × (deps_in_force store.deps o ≡ Some deps) × (deps.start ≡ stamp) × ListsOnce deps.paths (listed (depfile_in B (edge_at edges i).act (view_of at))))
      → (records ≡ store.records) ⊎ (records ≡ store.records ++ Done (outputs (edge_at edges i)) stamp (edge_at edges i).act ∷ [])
      → IsLogged B edges steps (Some i) entry store old now → IsLogged B edges steps (Some i) entry (record { records = records; deps = store.deps }) old now
  done_torn steps store now i stamp at records well started ended found (inl same) logged =
      subst (λ (rs : List Record). IsLogged B edges steps (Some i) entry (record { records = rs; deps = store.deps }) old now) (sym same) logged
  done_torn steps store now i stamp at records well started ended found (inr more) logged =
      subst (λ (rs : List Record). IsLogged B edges steps (Some i) entry (record { records = rs; deps = store.deps }) old now) (sym more)
      (logged_hand steps (record { records = store.records ++ Done (outputs (edge_at edges i)) stamp (edge_at edges i).act ∷ []; deps = store.deps }) now i
      (logged_done steps store now i stamp at well started ended found logged))
