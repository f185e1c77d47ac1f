use Rattle.std.proofs.Common.{◌≡◌, Bool, true, false, ℕ, List, Option, refl, ap}
use Rattle.seen_law.specs.Laws.{LooksAreTold}
use Rattle.seen_law.specs.Retold.{Started}
use Rattle.seen_true.specs.Going.{CallsNote, CallsStand}
use Rattle.seen.specs.Going.{LooksGoOn}
use Rattle.seen.proofs.Kept.{looks_keep}
use Rattle.seen.proofs.Since.{looks_follow}
use Rattle.seen.proofs.Told.{looks_on}
use Rattle.seen.proofs.laws.looks_go_on.Goals as goal

never : false ≡ true → ⊥
never e = cc

go_on : LooksAreTold → CallsNote → CallsStand → LooksGoOn
go_on law calls stands false b x y begins goes looks =
    let keeps = looks_keep false b x y calls stands looks in
    record { so_far = λ is. absurd (never is); started = λ is. absurd (never is); looks = looks_on false b x y goes begins law looks; stand = keeps.stand; kept = keeps.notes }
go_on law calls stands true b x y begins goes looks =
    let follows = looks_follow b x y (goes refl) looks in
    let keeps = looks_keep true b x y calls stands looks in
    record {
      so_far = λ is. follows.so_far;
      started = λ is p. ap (λ (s : Started). s p) follows.is;
      looks = looks_on true b x y goes begins law looks;
      stand = keeps.stand;
      kept = keeps.notes;
    }

pub returns : goal.returns
returns c = go_on c.looks_are_told.ensures c.calls_note.ensures c.calls_stand.ensures
