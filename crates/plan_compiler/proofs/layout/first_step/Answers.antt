use Rattle.std.proofs.Common.{◌≡◌, ◌<◌, ◌∙◌, ◌+◌, ap, length, slice_index_or, arith}
use Rattle.std.proofs.lemmas.List.FromFn.{get_or-map-range_with_len, length-map-range_with_len}
use Rattle.plan_compiler.specs.Places.{first_step}
use Rattle.plan_compiler.proofs.LayoutLemmas.{first_small}
use Rattle.plan_compiler.proofs.layout.first_step.Goals as goal

pub bounds-firsts-c : goal.bounds-firsts-c
bounds-firsts-c c =
    let many = length-map-range_with_len (first_step c.args.tables.now) 0 (length c.args.tables.now.commodities + 1) in
    omega (arith, c.requires.among, many, ap length c.requires.firsts)

pub returns-clause-value : goal.returns-clause-value
returns-clause-value c =
    let n = length c.args.tables.now.commodities in
    let within : c.args.c < n + 1 = omega (arith, c.requires.among) in
    ap (λ firsts. slice_index_or firsts c.args.c 0) c.requires.firsts
    ∙ get_or-map-range_with_len (first_step c.args.tables.now) 0 (n + 1) c.args.c c.args.c 0 within (omega arith)

pub returns-clause-bound : goal.returns-clause-bound
returns-clause-bound c =
    let n = length c.args.tables.now.commodities in
    let limits = c.known.ensures in
    let few = limits.commodities in
    let small = first_small c.args.tables.now limits c.args.c in
    let within : c.args.c < n + 1 = omega (arith, c.requires.among) in
    let value : slice_index_or c.args.firsts.now c.args.c 0 ≡ first_step c.args.tables.now c.args.c =
    ap (λ firsts. slice_index_or firsts c.args.c 0) c.requires.firsts
    ∙ get_or-map-range_with_len (first_step c.args.tables.now) 0 (n + 1) c.args.c c.args.c 0 within (omega arith) in
    omega (arith, value, small, few, c.requires.among)
