use Rattle.std.proofs.Common.{◌+◌, ◌<◌, ℕ, sym, ap₂, ◌∙◌, subst, bit_and, bit_or, arith}
use Rattle.std.proofs.lemmas.Simd.{zip2_splat, zip2_of_maps, length-chunk}
use lib.Lanes.{chunk, zip2}
use Rattle.lexer.proofs.Beginnings.{hit, nonzero, is_zero, faults_mask, fault_found, none_found}
use Rattle.lexer.proofs.path.has_fault.Goals as goal

pub returns-clause-some : goal.returns-clause-some
returns-clause-some c = λ yes-found.
    let xs = chunk c.args.at 16 c.args.parts.now in
    let ys = chunk (c.args.at + 1) 16 c.args.parts.now in
    let long = length-chunk c.args.at 16 c.args.parts.now (omega (arith, c.requires)) in
    let as_long = length-chunk (c.args.at + 1) 16 c.args.parts.now (omega (arith, c.requires)) in
    let mask = faults_mask xs ys _ long as_long (ap₂ (zip2 bit_and) (zip2_splat hit xs 16 47 long) (zip2_of_maps bit_or _ _ ys (zip2_splat hit ys 16 47 as_long) (zip2_splat hit ys 16 46 as_long))) in
    fault_found c.args.parts.now c.args.at c.requires (subst (λ (m : ℕ). 0 < m) mask (nonzero _ yes-found))

pub returns-clause-none : goal.returns-clause-none
returns-clause-none c = λ none-found.
    let xs = chunk c.args.at 16 c.args.parts.now in
    let ys = chunk (c.args.at + 1) 16 c.args.parts.now in
    let long = length-chunk c.args.at 16 c.args.parts.now (omega (arith, c.requires)) in
    let as_long = length-chunk (c.args.at + 1) 16 c.args.parts.now (omega (arith, c.requires)) in
    let mask = faults_mask xs ys _ long as_long (ap₂ (zip2 bit_and) (zip2_splat hit xs 16 47 long) (zip2_of_maps bit_or _ _ ys (zip2_splat hit ys 16 47 as_long) (zip2_splat hit ys 16 46 as_long))) in
    none_found c.args.parts.now c.args.at c.requires (sym mask ∙ is_zero _ none-found)
