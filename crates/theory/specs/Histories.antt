-- What is claimed of histories, as statements that this crate proves.
use Rattle.std.specs.Prelude.{◌≡◌, None, Bool, List, [], ◌∷◌, ◌++◌}
use Rattle.std.specs.List.{AllByRecursion}
use Rattle.model.specs.declared.graph.Edge.{Edge}
use Rattle.model.specs.World.{World, view_of}
use Rattle.model.specs.Outcome.{Behaviour}
use Rattle.model.specs.Records.{LogFormat, OwnFiles, IsOwnIn}
use Rattle.model.specs.Faithful.{IsFaithfulStore}
use Rattle.model.specs.History.{Visit, Edited, Built, Unread, Restarted, IsHeadline, IsHistory, EndsThese, entry_of, exit_of, last_edges, HeadlineOver}

-- a build of the history is as the headline says, whatever the program's own files are
abbrev pub HasHeadline : {tells : Bool} {B : Behaviour} {format : LogFormat} → Visit tells B format → Type 0
HasHeadline (Edited path content old new edit) = Unit {0}
HasHeadline {tells} {B} {format} (Built asked old new answer build) =
    (own : OwnFiles) (fits : IsOwnIn own asked.folder) → IsHeadline tells B format own asked old new answer (build own fits)
HasHeadline (Unread old new answer cause) = Unit {0}
HasHeadline (Restarted edges old new restart) = Unit {0}

-- Where each build of a history is as the headline says, so is the history.
abbrev pub HistoriesAreAsClaimed : Type 0
HistoriesAreAsClaimed =
    (tells : Bool) (B : Behaviour) (format : LogFormat) (visits : List (Visit tells B format)) (first last : World)
    → IsHistory visits first last → AllByRecursion HasHeadline visits → HeadlineOver first visits

-- A history goes on by a visit that begins where it ended.
abbrev pub HistoriesGrow : Type 0
HistoriesGrow =
    (tells : Bool) (B : Behaviour) (format : LogFormat) (visits : List (Visit tells B format)) (first last : World) (v : Visit tells B format)
    → IsHistory visits first last → entry_of v ≡ last → EndsThese (last_edges [] visits) v → IsHistory (visits ++ v ∷ []) first (exit_of v)

-- A site without logs has a faithful store.
abbrev pub NoLogsAreFaithful : Type 0
NoLogsAreFaithful =
    (B : Behaviour) (format : LogFormat) (own : OwnFiles) (edges : List Edge) (world : World)
    → view_of world.history own.build_log ≡ None → view_of world.history own.deps_log ≡ None → IsFaithfulStore B format own edges world
