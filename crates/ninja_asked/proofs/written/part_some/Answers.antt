use Rattle.std.proofs.Common.{ℕ, List, Option, OnOk, refl, subst, sym}
use Rattle.std.specs.Map.Iter.{deref}
use Rattle.std.specs.Option.{option_map}
use denote.Ref.{Bor}
use Rattle.ninja_asked.specs.Written.{PartsSome}
use Rattle.ninja_asked.proofs.written.part_some.Goals as goal

pub returns-in-Some-clause-parts : goal.returns-in-Some-clause-parts
returns-in-Some-clause-parts g c =
    subst (λ (o : Option (Bor (List ℕ))). OnOk c.part_path.result (PartsSome g.S.Texts.tells (g.S.Texts.world c.args.site.now) (g.S.Texts.world c.part_path.new.site) c.args.notes.now (option_map deref o) c.args.parted.now c.part_path.new.parted))
    (sym c.in-Some.is) c.part_path.ensures.parts

pub returns-in-None-clause-parts : goal.returns-in-None-clause-parts
returns-in-None-clause-parts g c =
    subst (λ (o : Option (Bor (List ℕ))). PartsSome g.S.Texts.tells (g.S.Texts.world c.args.site.now) (g.S.Texts.world c.args.site.now) c.args.notes.now (option_map deref o) c.args.parted.now c.args.parted.now) (sym c.in-None.is) refl
