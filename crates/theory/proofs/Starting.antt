-- An edge is made ready and its command started, call by call.
use Rattle.std.proofs.Common.{◌≡◌, ◌≢◌, ◌⊎◌, inl, inr, ℕ, Bool, true, IsTrue, List, [], ◌∷◌, ◌++◌, Option, Some, None, refl, sym, ◌∙◌, ap, subst, append_assoc}
use Rattle.std.specs.List.{AllByRecursion}
use Rattle.std.proofs.lemmas.List.{append-nil}
use Rattle.std.proofs.lemmas.Bool.{false≢true}
use Rattle.model.specs.declared.act.Act.{Act}
use Rattle.model.specs.declared.event.Event.TheVariants.{Start}
use Rattle.model.specs.declared.event.Moment.{Moment}
use Rattle.model.specs.declared.event.Moment.TheVariants.{Wrote, Happened}
use Rattle.model.specs.declared.event.Writer.TheVariants.{Program}
use Rattle.model.specs.declared.graph.Edge.{Edge}
use Rattle.model.specs.World.{World, content_of, written, file_at, view_of, IsRunning, events_in}
use Rattle.model.specs.Calls.{AllByOthers, OthersWrote, Adds, Starts}
use Rattle.model.specs.Graph.{edge_at, IsCommand}
use Rattle.model.specs.Records.{OwnFiles}
use Rattle.model.specs.Premises.{OwnFilesApart, FreeApart, FilesAreKept, AllSince, IsWithinEdge, IsNoEdit}
use Rattle.model.specs.SingleBuild.{IsReadyFor}
use Rattle.theory.specs.Run.{starts_in, AreStartsReady}
use Rattle.theory.proofs.Lists.{same_rest, all_parts, place_in}
use Rattle.theory.proofs.Events.{starts-append}
use Rattle.theory.proofs.Files.{IsElsewhere, file_stays, others_elsewhere, write_stands}
use Rattle.theory.proofs.Looks.{kept_before}
use Rattle.theory.proofs.Moments.{events_in-append, no_events}

-- ---- each start among moments

module _ (P : List Moment → ℕ → ℕ → Act → Type 0) where
  -- each start has the property, which speaks of the moments before it
  abbrev pub EachStart : List Moment → Type 0
  EachStart more = (before after : List Moment) (i stamp : ℕ) (act : Act) → more ≡ before ++ Happened (Start i act stamp) ∷ after → P before i stamp act

  none_there : (ms before after : List Moment) (i stamp : ℕ) (act : Act) → starts_in (events_in ms) ≡ [] → ms ≡ before ++ Happened (Start i act stamp) ∷ after → ⊥
  none_there ms before after i stamp act none is =
      nothing (starts_in (events_in before))
      (sym none ∙ (ap (λ (l : List Moment). starts_in (events_in l)) is
      ∙ (ap starts_in (events_in-append before (Happened (Start i act stamp) ∷ after)) ∙ starts-append (events_in before) (Start i act stamp ∷ events_in after))))
    where
      nothing : (xs : List ℕ) → [] ≡ xs ++ i ∷ starts_in (events_in after) → ⊥
      nothing [] is = cc
      nothing (x ∷ xs) is = cc

  pub each_nothing : EachStart []
  each_nothing before after i stamp act is = absurd (none_there [] before after i stamp act refl is)

  -- moments without a start
  pub each_quiet : (more ms : List Moment) → starts_in (events_in ms) ≡ [] → EachStart more → EachStart (more ++ ms)
  each_quiet more ms none each before after i stamp act is = elim (place_in more ms before after (Happened (Start i act stamp)) is) [
    | inl (rest, first) ↦ each before rest i stamp act first
    | inr (rest, first, second) ↦ absurd (none_there ms rest after i stamp act none second)
  ]

  -- one start
  pub each_started : (more earlier later : List Moment) (i stamp : ℕ) (act : Act) → starts_in (events_in earlier) ≡ [] → starts_in (events_in later) ≡ [] → P (more ++ earlier) i stamp act
      → EachStart more → EachStart (more ++ (earlier ++ Happened (Start i act stamp) ∷ later))
  each_started more earlier later i stamp act none none_later so each before after j s other is =
      elim (place_in more (earlier ++ Happened (Start i act stamp) ∷ later) before after (Happened (Start j other s)) is) [
        | inl (rest, first) ↦ each before rest j s other first
        | inr (rest, first, second) ↦ elim (place_in earlier (Happened (Start i act stamp) ∷ later) rest after (Happened (Start j other s)) second) [
          | inl (between, there) ↦ absurd (none_there earlier rest between j s other none there)
          | inr (between, there, here) ↦ subst (λ (l : List Moment). P l j s other) (sym (first ∙ ap (λ (l : List Moment). more ++ l) there)) (by_place between here)
        ]
      ]
    where
      by_place : (between : List Moment) → Happened (Start i act stamp) ∷ later ≡ between ++ Happened (Start j other s) ∷ after → P (more ++ (earlier ++ between)) j s other
      by_place [] here =
          let job : i ≡ j = cc in
          let stamps : stamp ≡ s = cc in
          let acts : act ≡ other = cc in
          subst (λ (l : List Moment). P (more ++ l) j s other) (sym (append-nil earlier))
          (subst (λ (a : Act). P (more ++ earlier) j s a) acts (subst (λ (t : ℕ). P (more ++ earlier) j t act) stamps (subst (λ (n : ℕ). P (more ++ earlier) n stamp act) job so)))
      by_place (b ∷ between) here =
          let tail : later ≡ between ++ Happened (Start j other s) ∷ after = cc in
          absurd (none_there later between after j s other none_later tail)

-- ---- starts that are ready

module _ (own : OwnFiles) (edges : List Edge) (old : List Moment) where
  -- what is ready at a start
  abbrev ReadyAt : List Moment → ℕ → ℕ → Act → Type 0
  ReadyAt before i stamp act = IsReadyFor act (view_of (old ++ before))

  pub ready_nothing : AreStartsReady own edges old old
  ready_nothing files i stamp act before after is =
      absurd (each_nothing (λ b j s a. ⊥) before after i stamp act (same_rest old [] (before ++ Happened (Start i act stamp) ∷ after) (append-nil old ∙ is)))

  each_ready : (now so_far : List Moment) → now ≡ old ++ so_far → AreStartsReady own edges old now → FilesAreKept own edges old now → EachStart ReadyAt so_far
  each_ready now so_far was ready files before after i stamp act is = ready files i stamp act before after (was ∙ ap (λ (l : List Moment). old ++ l) is)

  ready_each : (new more : List Moment) → new ≡ old ++ more → (FilesAreKept own edges old new → EachStart ReadyAt more) → AreStartsReady own edges old new
  ready_each new more is each files i stamp act before after splits =
      each files before after i stamp act (same_rest old more (before ++ Happened (Start i act stamp) ∷ after) (sym is ∙ splits))

  -- a call in which no command is started
  pub ready_quiet : (now so_far ms new : List Moment) → now ≡ old ++ so_far → new ≡ now ++ ms → starts_in (events_in ms) ≡ [] → AreStartsReady own edges old now → AreStartsReady own edges old new
  ready_quiet now so_far ms new was grows none ready =
      ready_each new (so_far ++ ms) (grows ∙ (ap (λ (l : List Moment). l ++ ms) was ∙ append_assoc old so_far ms))
      (λ files. each_quiet ReadyAt so_far ms none (each_ready now so_far was ready (kept_before own edges old now new ms grows files)))

  -- a call in which one command is started, for which all is ready
  pub ready_started : (now so_far earlier later new : List Moment) (i stamp : ℕ) (act : Act) → now ≡ old ++ so_far → new ≡ now ++ (earlier ++ Happened (Start i act stamp) ∷ later)
      → starts_in (events_in earlier) ≡ [] → starts_in (events_in later) ≡ [] → (FilesAreKept own edges old new → IsReadyFor act (view_of (now ++ earlier)))
      → AreStartsReady own edges old now → AreStartsReady own edges old new
  ready_started now so_far earlier later new i stamp act was grows none none_later so ready =
      ready_each new (so_far ++ (earlier ++ Happened (Start i act stamp) ∷ later))
      (grows ∙ (ap (λ (l : List Moment). l ++ (earlier ++ Happened (Start i act stamp) ∷ later)) was ∙ append_assoc old so_far (earlier ++ Happened (Start i act stamp) ∷ later)))
      (λ files. each_started ReadyAt so_far earlier later i stamp act none none_later
      (subst (λ (l : List Moment). IsReadyFor act (view_of l)) (ap (λ (l : List Moment). l ++ earlier) was ∙ append_assoc old so_far earlier) (so files))
      (each_ready now so_far was ready (kept_before own edges old now new (earlier ++ Happened (Start i act stamp) ∷ later) grows files)))

-- ---- a depfile or a response file of an edge that does not run

-- the path is the depfile or the response file of edge i
pub record IsPrivate (edges : List Edge) (i : ℕ) (q : List ℕ) : Type 0 where
  pub named : q ≢ []
  pub is : (q ≡ (edge_at edges i).act.depfile) ⊎ (q ≡ (edge_at edges i).act.response_path)

-- what runs are commands, and not that of edge i
abbrev pub OthersRun : List Edge → ℕ → (ℕ → Type 0) → Type 0
OthersRun edges i running = (job : ℕ) → running job → IsCommand edges job × (job ≡ i → ⊥)

-- other commands do not write it
pub private_elsewhere : (own : OwnFiles) (edges : List Edge) → OwnFilesApart own edges → (free : List ℕ → Bool) → FreeApart free own edges → (i : ℕ) → IsCommand edges i → (q : List ℕ) → IsPrivate edges i q → (running : ℕ → Type 0) → OthersRun edges i running
    → (ms : List Moment) → AllByOthers running ms → AllByRecursion (IsWithinEdge free edges) ms → AllByRecursion (IsNoEdit free) ms → AllByRecursion (IsElsewhere q) ms
private_elsewhere own edges apart free free_apart i command q private running others ms all within edits =
    others_elsewhere free edges running q (free_apart.set q (in_set private.is)) (λ job is makes. false≢true (sym (apart.outputs job q makes) ∙ in_set private.is)) (λ job is same. other_depfile job is same private.is) ms all within edits
  where
    in_set : (q ≡ (edge_at edges i).act.depfile) ⊎ (q ≡ (edge_at edges i).act.response_path) → own.set q ≡ true
    in_set (inl is) = ap own.set is ∙ (apart.depfiles i command).0
    in_set (inr is) = ap own.set is ∙ (apart.responses i command).0

    other_depfile : (job : ℕ) → running job → q ≡ (edge_at edges job).act.depfile → (q ≡ (edge_at edges i).act.depfile) ⊎ (q ≡ (edge_at edges i).act.response_path) → ⊥
    other_depfile job is same (inl mine) = (apart.apart i job command (others job is).0 (λ e. (others job is).1 (sym e))).0 (λ none. private.named (mine ∙ none)) (sym mine ∙ same)
    other_depfile job is same (inr mine) = (apart.apart job i (others job is).0 command (others job is).1).2 (λ none. private.named (same ∙ none)) (sym same ∙ mine)

-- it holds this, where files are kept
abbrev pub HoldsPrivately : OwnFiles → List Edge → List Moment → List ℕ → Option (List ℕ) → List Moment → Type 0
HoldsPrivately own edges old q held now = FilesAreKept own edges old now → view_of now q ≡ held

-- what is kept of these moments
pub since : (kind : Moment → Type 0) (old so_far now ms new : List Moment) → now ≡ old ++ so_far → new ≡ now ++ ms → AllSince kind old new → AllByRecursion kind ms
since kind old so_far now ms new was grows all =
    (all_parts kind so_far ms (all (so_far ++ ms) (grows ∙ (ap (λ (l : List Moment). l ++ ms) was ∙ append_assoc old so_far ms)))).1

module _ (own : OwnFiles) (edges : List Edge) (old so_far now new : List Moment) (was : now ≡ old ++ so_far) (i : ℕ) (command : IsCommand edges i) (q : List ℕ) (private : IsPrivate edges i q)
    (running : ℕ → Type 0) (others : OthersRun edges i running) where
  by_others : (ms all : List Moment) → new ≡ now ++ all → (before after : List Moment) → all ≡ before ++ (ms ++ after) → AllByOthers running ms → FilesAreKept own edges old new → AllByRecursion (IsElsewhere q) ms
  by_others ms all grows before after splits theirs files =
      private_elsewhere own edges files.own_files files.free files.free_apart i command q private running others ms theirs
      (part (IsWithinEdge files.free edges) files.commands) (part (IsNoEdit files.free) files.edits)
    where
      part : (kind : Moment → Type 0) → AllSince kind old new → AllByRecursion kind ms
      part kind kept = (all_parts kind ms after (all_parts kind before (ms ++ after)
          (subst (λ (l : List Moment). AllByRecursion kind l) splits (since kind old so_far now all new was grows kept))).1).0

  -- others write while a call only looks
  pub private_looks : (held : Option (List ℕ)) → OthersWrote running now new → HoldsPrivately own edges old q held now → HoldsPrivately own edges old q held new
  private_looks held wrote holds files =
      ap content_of (ap (λ (h : List Moment). file_at h q) wrote.grows
      ∙ file_stays q now wrote.more (by_others wrote.more wrote.more wrote.grows [] [] (sym (append-nil wrote.more)) wrote.all files))
      ∙ holds (kept_before own edges old now new wrote.more wrote.grows files)

  module _ (m : Moment) (adds : Adds running running m now new) where
    last_elsewhere : FilesAreKept own edges old new → AllByRecursion (IsElsewhere q) adds.later
    last_elsewhere files = by_others adds.later (adds.earlier ++ m ∷ adds.later) adds.grows (adds.earlier ++ m ∷ []) []
        (ap (λ (l : List Moment). adds.earlier ++ m ∷ l) (sym (append-nil adds.later)) ∙ sym (append_assoc adds.earlier (m ∷ []) (adds.later ++ []))) adds.all_later files

  -- the program wrote or removed it
  pub private_written : (content : Option (List ℕ)) (stamp : ℕ) → Adds running running (Wrote Program q content stamp) now new → HoldsPrivately own edges old q content new
  private_written content stamp adds files =
      ap content_of (write_stands q Program content stamp now adds.earlier adds.later new adds.grows (last_elsewhere (Wrote Program q content stamp) adds files)) ∙ is content
    where
      is : (c : Option (List ℕ)) → content_of (written c stamp) ≡ c
      is None = refl
      is (Some c) = refl

  -- when another command's moment comes in a call, it holds what it held before the call
  pub private_so_far : (held : Option (List ℕ)) (earlier rest : List Moment) → new ≡ now ++ (earlier ++ rest) → AllByOthers running earlier → HoldsPrivately own edges old q held now
      → FilesAreKept own edges old new → view_of (now ++ earlier) q ≡ held
  private_so_far held earlier rest grows theirs holds files =
      ap content_of (file_stays q now earlier (by_others earlier (earlier ++ rest) grows [] rest refl theirs files)) ∙ holds (kept_before own edges old now new (earlier ++ rest) grows files)

-- the command of edge i is started: its old depfile is gone, and its response file is written
pub start_ready : (own : OwnFiles) (edges : List Edge) (tells : Bool) → IsTrue tells → (old so_far : List Moment) (now new : World) → now.history ≡ old ++ so_far → (i : ℕ) (act : Act) → IsCommand edges i
    → OthersRun edges i (IsRunning now.events) → act ≡ (edge_at edges i).act → Starts tells i act now new
    → ((edge_at edges i).act.depfile ≢ [] → (edge_at edges i).act.depfile ≢ (edge_at edges i).act.response_path → HoldsPrivately own edges old (edge_at edges i).act.depfile None now.history)
    → ((edge_at edges i).act.response_path ≢ [] → HoldsPrivately own edges old (edge_at edges i).act.response_path (Some (edge_at edges i).act.response_content) now.history)
    → AreStartsReady own edges old now.history → AreStartsReady own edges old new.history
start_ready own edges tells tell old so_far now new was i act command others is starts gone written_so ready =
    ready_started own edges old now.history so_far adds.earlier adds.later new.history i now.ticked act was adds.grows
    (ap starts_in (no_events own edges (IsRunning now.events) adds.earlier adds.all_earlier)) (ap starts_in (no_events own edges (IsRunning new.events) adds.later adds.all_later))
    (λ files. subst (λ (a : Act). IsReadyFor a (view_of (now.history ++ adds.earlier))) (sym is) (record {
      depfile = λ named other. so (edge_at edges i).act.depfile None (record { named = named; is = inl refl }) (gone named other) files;
      response = λ named. so (edge_at edges i).act.response_path (Some (edge_at edges i).act.response_content) (record { named = named; is = inr refl }) (written_so named) files;
    })) ready
  where
    adds : Adds (IsRunning now.events) (IsRunning new.events) (Happened (Start i act now.ticked)) now.history new.history
    adds = starts.history tell

    so : (q : List ℕ) (held : Option (List ℕ)) → IsPrivate edges i q → HoldsPrivately own edges old q held now.history → FilesAreKept own edges old new.history → view_of (now.history ++ adds.earlier) q ≡ held
    so q held private holds files = private_so_far own edges old so_far now.history new.history was i command q private (IsRunning now.events) others held adds.earlier (Happened (Start i act now.ticked) ∷ adds.later)
        adds.grows adds.all_earlier holds files

-- ---- a depfile, from its command's end to when it is read
