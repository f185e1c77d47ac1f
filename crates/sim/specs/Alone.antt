-- What a toy command gives depends on the paths alone that it reads.
use Rattle.std.proofs.Common.{◌≡◌, ℕ, true, false, List, [], ◌∷◌, Option, Some, None, refl, ◌∙◌}
use Rattle.model.specs.declared.act.Act.{Act}
use Rattle.model.specs.World.{View}
use Rattle.model.specs.Calls.{AgreeOn}
use Rattle.sim.specs.declared.toy.Kind.{Kind}
use Rattle.sim.specs.declared.toy.Kind.TheVariants.{Cat, Keep, Both, Scan, Args, Fail}
use Rattle.sim.specs.Toy.{words, joined, contents, gathered, copied, halved, doubled, doubled_reads, gathered_from, told, named_in, all_named, scanned, scanned_reads, given, given_reads, does, does_read, kind_of, toy_outcome, toy_reads}

same_contents : (u v : View) (paths : List (List ℕ)) → AgreeOn paths u v → contents u paths ≡ contents v paths
same_contents u v [] same = refl
same_contents u v (path ∷ paths) same = λ i. joined (same.0 i) (same_contents u v paths same.1 i)

same_doubled : (u v : View) (out : List ℕ) (ws : List (List ℕ)) → AgreeOn (doubled_reads ws) u v → doubled out ws u ≡ doubled out ws v
same_doubled u v out [] same = refl
same_doubled u v out (other ∷ []) same = refl
same_doubled u v out (other ∷ from ∷ more) same = λ i. copied out other (same.0 i)

same_gathered : (u v : View) (out dep : List ℕ) (named : Option (List (List ℕ))) → AgreeOn (all_named named) u v → gathered_from out dep named u ≡ gathered_from out dep named v
same_gathered u v out dep None same = refl
same_gathered u v out dep (Some paths) same = λ i. told out dep paths (same_contents u v paths same i)

same_scanned : (u v : View) (out : List ℕ) (ws : List (List ℕ)) → AgreeOn (scanned_reads ws u) u v → scanned out ws u ≡ scanned out ws v
same_scanned u v out [] same = refl
same_scanned u v out (dep ∷ []) same = refl
same_scanned u v out (dep ∷ from ∷ more) same = same_gathered u v out dep (named_in (u from)) same.1 ∙ (λ i. gathered_from out dep (named_in (same.0 i)) v)

same_given : (u v : View) (kind : Option Kind) (response out : List ℕ) (ws : List (List ℕ)) → AgreeOn (given_reads kind ws u) u v → given kind response out ws u ≡ given kind response out ws v
same_given u v None response out ws same = refl
same_given u v (Some Cat) response out ws same = λ i. gathered false out (same_contents u v ws same i)
same_given u v (Some Keep) response out ws same = λ i. gathered true out (same_contents u v ws same i)
same_given u v (Some Both) response out ws same = same_doubled u v out ws same
same_given u v (Some Scan) response out ws same = same_scanned u v out ws same
same_given u v (Some Args) response out ws same = refl
same_given u v (Some Fail) response out ws same = λ i. halved out (same_contents u v ws same i)

same_does : (u v : View) (response : List ℕ) (ws : List (List ℕ)) → AgreeOn (does_read ws u) u v → does response ws u ≡ does response ws v
same_does u v response [] same = refl
same_does u v response (kind ∷ []) same = refl
same_does u v response (kind ∷ out ∷ ws) same = same_given u v (kind_of kind) response out ws same

pub toy_reads_alone : (act : Act) (u v : View) → AgreeOn (toy_reads act u) u v → toy_outcome act u ≡ toy_outcome act v
toy_reads_alone act u v same = same_does u v act.response_content (words act.command) same
