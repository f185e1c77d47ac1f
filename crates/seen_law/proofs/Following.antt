-- Builds one after another.
use Rattle.std.proofs.Common.{◌≡◌, ℕ, List, [], ◌∷◌, Option, Some, None, refl, ◌∙◌, ap}
use Rattle.model.specs.declared.event.Moment.{Moment}
use Rattle.model.specs.declared.graph.Edge.{Edge}
use Rattle.model.specs.World.{World, File, content_of, file_at}
use Rattle.model.specs.Outcome.{Behaviour}
use Rattle.model.specs.Records.{LogFormat, OwnFiles}
use Rattle.model.specs.Faithful.{IsFaithfulStore}
use Rattle.seen_law.specs.Retold.{Telling, told_file, stamp_told, under}
use Rattle.seen_law.specs.Laws.{IsCalled, started_so}
use Rattle.seen_law.specs.Meanwhile.{told_next}
use Rattle.seen_law.specs.Builds.{SeenBuild, entry_told, exit_told, IsMadeSo, AreMadeSo, ShowsFiles, IsSeenRightly, AreSeenRightly, BuildsAreClean}
use Rattle.seen_law.proofs.Going.{files_law}
use Rattle.seen_law.proofs.Next.{begins_law}

-- a file that always counts is told with what it holds
counts_always : (t : Telling) (p : List ℕ) → ((file : File) → (stamp : ℕ) × (t.counts p file ≡ Some stamp)) → (started : Option ℕ) (file : Option File)
    → content_of (told_file t.counts started p file) ≡ content_of file
counts_always t p always started None = refl
counts_always t p always started (Some file) =
    ap (λ (c : Option ℕ). content_of (under (stamp_told c started file.stamp) file.content)) (always file).1

module _ (B : Behaviour) (format : LogFormat) (own : OwnFiles) where
  module _ (edges : List Edge) (last : World) (b : SeenBuild) (faithful : IsFaithfulStore B format own edges last) (made : IsMadeSo B format own last.history b) where
    called : IsCalled b.telling b.entry.history (told_next b.telling last.history b.entry.history b.paths) b.more b.exit
    called = record {
      begins = (begins_law B format own edges b.asked.graph.edges b.telling last b.entry last.history b.paths refl made.idle made.rightly faithful).0;
      so_far = made.grows;
    }

    entered : IsFaithfulStore B format own b.asked.graph.edges (entry_told last.history b)
    entered = (begins_law B format own edges b.asked.graph.edges b.telling last b.entry last.history b.paths refl made.idle made.rightly faithful).2

    shows : ShowsFiles b.telling (exit_told last.history b).history b.exit.history
    shows = record {
      there = λ p content is. (files_law b.telling b.entry.history (told_next b.telling last.history b.entry.history b.paths) b.more b.exit called p).1 content is;
      sources = λ p always.
          ap content_of (files_law b.telling b.entry.history (told_next b.telling last.history b.entry.history b.paths) b.more b.exit called p).0
          ∙ counts_always b.telling p always (started_so b.telling b.more p) (file_at b.exit.history p);
    }

    one : IsSeenRightly B format own last.history b made
    one premises = (
      made.headline.stale refl premises.files.kept premises.files.recorded_apart premises.files.dyndep.inputs,
      λ success. made.headline.clean refl entered premises success,
      shows,
    )

    stays : IsFaithfulStore B format own b.asked.graph.edges (exit_told last.history b)
    stays = made.headline.stays refl entered made.keeps

  each : (edges : List Edge) (last : World) (builds : List SeenBuild) → IsFaithfulStore B format own edges last
      → (made : AreMadeSo B format own last.history builds) → AreSeenRightly B format own last.history builds made
  each edges last [] faithful made = tt
  each edges last (b ∷ builds) faithful made =
      (one edges last b faithful made.0, each b.asked.graph.edges (exit_told last.history b) builds (stays edges last b faithful made.0) made.1)

pub builds_law : BuildsAreClean
builds_law B format own edges last builds faithful made = each B format own edges last builds faithful made
