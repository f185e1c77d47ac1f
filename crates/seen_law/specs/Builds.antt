-- Builds one after another, each of which is told its files by what counts. All is this project's own.
use Rattle.std.specs.Prelude.{◌≡◌, ℕ, true, List, [], ◌∷◌, ◌++◌, Option, Some}
use Rattle.model.specs.declared.event.Moment.{Moment}
use Rattle.model.specs.declared.graph.Edge.{Edge}
use Rattle.model.specs.World.{World, File, IsIdle, view_of}
use Rattle.model.specs.Outcome.{Behaviour}
use Rattle.model.specs.Records.{LogFormat, OwnFiles}
use Rattle.model.specs.Faithful.{IsFaithfulStore}
use Rattle.model.specs.History.{IsHeadline, KeepsPremises, KeepsRecordsFaithful}
use Rattle.model.specs.SingleBuild.{Asked, Answer, SingleBuild, IsCleanlyBuilt, IsSuccess, StartsOnlyStale}
use Rattle.seen_law.specs.Retold.{Telling, retold}
use Rattle.seen_law.specs.Meanwhile.{told_next, CountRightly}

-- One build: how files count in it, the real site at its entry and at its exit, the moments between, at which paths what others did before
-- is told, what was asked for, and what was answered.
pub record SeenBuild : Type 0 where
  pub telling : Telling
  pub entry : World
  pub exit : World
  pub more : List Moment
  pub paths : List (List ℕ)
  pub asked : Asked
  pub answer : Answer

-- its entry and its exit as they are told, behind what was told before
abbrev pub entry_told : List Moment → SeenBuild → World
entry_told told b = retold b.telling b.entry.history (told_next b.telling told b.entry.history b.paths) [] b.entry

abbrev pub exit_told : List Moment → SeenBuild → World
exit_told told b = retold b.telling b.entry.history (told_next b.telling told b.entry.history b.paths) b.more b.exit

-- THE BUILD WAS MADE SO. No command ran at its entry. What others did since the last one counts rightly: of which stamps they gave to what they
-- wrote, and of when, nothing else is said. To what it was told, it was a build as the headline says, which kept what its records suppose.
pub record IsMadeSo (B : Behaviour) (format : LogFormat) (own : OwnFiles) (told : List Moment) (b : SeenBuild) : Type 0 where
  pub idle : IsIdle b.entry.events
  pub rightly : CountRightly format own b.telling told b.entry.history b.paths
  pub grows : b.exit.history ≡ b.entry.history ++ b.more
  pub build : SingleBuild true B format own b.asked (entry_told told b) (exit_told told b) b.answer
  pub headline : IsHeadline true B format own b.asked (entry_told told b) (exit_told told b) b.answer build
  pub keeps : KeepsRecordsFaithful true B format own b.asked (entry_told told b) (exit_told told b) b.answer build

-- each of these builds, one after another
abbrev pub AreMadeSo : Behaviour → LogFormat → OwnFiles → List Moment → List SeenBuild → Type 0
AreMadeSo B format own told [] = Unit {0}
AreMadeSo B format own told (b ∷ builds) = IsMadeSo B format own told b × AreMadeSo B format own (exit_told told b).history builds

-- What is told to be there is there, and holds that. Of a path whose files always count, as those of a source do, what is told is what is there.
pub record ShowsFiles (t : Telling) (told real : List Moment) : Type 0 where
  pub there : (p content : List ℕ) → view_of told p ≡ Some content → view_of real p ≡ Some content
  pub sources : (p : List ℕ) → ((file : File) → (stamp : ℕ) × (t.counts p file ≡ Some stamp)) → view_of told p ≡ view_of real p

-- The build is as claimed: where it kept its premises, of what others leave alone it started only commands out of date, and a success leaves,
-- of quiet edges, what the clean build gives of the files that are told, which are those that are there.
abbrev pub IsSeenRightly : (B : Behaviour) → (format : LogFormat) → (own : OwnFiles) → (told : List Moment) → (b : SeenBuild) → IsMadeSo B format own told b → Type 0
IsSeenRightly B format own told b made =
    (premises : KeepsPremises true B format own b.asked (entry_told told b) (exit_told told b) b.answer made.build)
    → StartsOnlyStale premises.files.kept.free b.asked.graph.edges made.build.store made.build.steps (entry_told told b).history (exit_told told b).history
    × (IsSuccess b.answer → IsCleanlyBuilt B premises.files.quiet b.asked made.build.store (view_of (exit_told told b).history))
    × ShowsFiles b.telling (exit_told told b).history b.exit.history

abbrev pub AreSeenRightly : (B : Behaviour) → (format : LogFormat) → (own : OwnFiles) → (told : List Moment) → (builds : List SeenBuild) → AreMadeSo B format own told builds → Type 0
AreSeenRightly B format own told [] made = Unit {0}
AreSeenRightly B format own told (b ∷ builds) made =
    IsSeenRightly B format own told b made.0 × AreSeenRightly B format own (exit_told told b).history builds made.1

-- From faithful records, each of these builds is as claimed, however many there are and whatever others did between.
abbrev pub BuildsAreClean : Type 0
BuildsAreClean =
    (B : Behaviour) (format : LogFormat) (own : OwnFiles) (edges : List Edge) (last : World) (builds : List SeenBuild) → IsFaithfulStore B format own edges last
    → (made : AreMadeSo B format own last.history builds) → AreSeenRightly B format own last.history builds made
