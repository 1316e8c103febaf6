use Rattle.std.proofs.Common.{ℕ, ◌≡◌, ◌+◌, ◌-◌, ◌*◌, ◌/◌, ◌%◌, ◌<◌, ◌≤◌, length, arith, ap, refl, ◌∙◌}
use Rattle.def_chunks.specs.declared.rows.Gap.{Gap}
use Rattle.ct_chunks.specs.Multiples.{up}
use Rattle.ct_chunks.proofs.Walks.{known, comes, says, starts, found, goes_on, ended}
use Rattle.ct_chunks.proofs.finding.find.Goals as goal

pub overflow_add-at : goal.overflow_add-at
overflow_add-at g c =
    let k = known c.args.range.now (g.M.Memory.granules c.args.mem.now) c.args.unit c.args.length c.loop-link.before c.loop-link.before_size c.loop-link.link c.requires.tiled (comes c.args.range.now (g.M.Memory.granules c.args.mem.now) c.args.unit c.args.length c.loop-link.before c.loop-link.before_size c.loop-link.link c.loop-link.invariant c.loop-link-test.true) in
    let fits = k.fits in
    let ends = k.ends in
    omega (arith, fits, ends)

pub read_head-head-requires-clause-above : goal.read_head-head-requires-clause-above
read_head-head-requires-clause-above g c = let k = known c.args.range.now (g.M.Memory.granules c.args.mem.now) c.args.unit c.args.length c.loop-link.before c.loop-link.before_size c.loop-link.link c.requires.tiled (comes c.args.range.now (g.M.Memory.granules c.args.mem.now) c.args.unit c.args.length c.loop-link.before c.loop-link.before_size c.loop-link.link c.loop-link.invariant c.loop-link-test.true) in let above = k.above in omega (arith, above)

pub read_head-head-requires-clause-even : goal.read_head-head-requires-clause-even
read_head-head-requires-clause-even g c = let k = known c.args.range.now (g.M.Memory.granules c.args.mem.now) c.args.unit c.args.length c.loop-link.before c.loop-link.before_size c.loop-link.link c.requires.tiled (comes c.args.range.now (g.M.Memory.granules c.args.mem.now) c.args.unit c.args.length c.loop-link.before c.loop-link.before_size c.loop-link.link c.loop-link.invariant c.loop-link-test.true) in k.even

pub read_head-head-requires-clause-inside : goal.read_head-head-requires-clause-inside
read_head-head-requires-clause-inside g c = let k = known c.args.range.now (g.M.Memory.granules c.args.mem.now) c.args.unit c.args.length c.loop-link.before c.loop-link.before_size c.loop-link.link c.requires.tiled (comes c.args.range.now (g.M.Memory.granules c.args.mem.now) c.args.unit c.args.length c.loop-link.before c.loop-link.before_size c.loop-link.link c.loop-link.invariant c.loop-link-test.true) in k.inside

pub loop-link-init : goal.loop-link-init
loop-link-init g c = starts c.args.range.now (g.M.Memory.granules c.args.mem.now) c.args.unit c.args.length c.requires.tiled

pub loop-link-smaller : goal.loop-link-smaller
loop-link-smaller g c =
    let k = says c.args.range.now (g.M.Memory.granules c.args.mem.now) c.args.unit c.args.length c.loop-link.before c.loop-link.before_size c.loop-link.link c.read_head-head.result c.requires.tiled (comes c.args.range.now (g.M.Memory.granules c.args.mem.now) c.args.unit c.args.length c.loop-link.before c.loop-link.before_size c.loop-link.link c.loop-link.invariant c.loop-link-test.true) c.read_head-head.ensures in
    let a = k.further.0 in
    let b = k.further.1 in
    omega (arith, a, b)

pub returns-then-base-length : goal.returns-then-base-length
returns-then-base-length g c =
    let k = says c.args.range.now (g.M.Memory.granules c.args.mem.now) c.args.unit c.args.length c.loop-link.before c.loop-link.before_size c.loop-link.link c.read_head-head.result c.requires.tiled (comes c.args.range.now (g.M.Memory.granules c.args.mem.now) c.args.unit c.args.length c.loop-link.before c.loop-link.before_size c.loop-link.link c.loop-link.invariant c.loop-link-test.true) c.read_head-head.ensures in
    let fits : up c.args.unit (c.args.range.now.base + c.loop-link.link + 8) + c.args.length ≤ c.args.range.now.base + c.loop-link.link + c.read_head-head.result.size = rw c.up-base.ensures at c.if-base-length.true in
    found c.args.range.now (g.M.Memory.granules c.args.mem.now) c.args.unit c.args.length c.loop-link.before c.loop-link.before_size c.loop-link.link c.read_head-head.result (record { at = c.args.range.now.base + c.loop-link.link; size = c.read_head-head.result.size; base = c.up-base.result; before = c.loop-link.before; before_size = c.loop-link.before_size; next = c.read_head-head.result.rest }) c.requires.unit k fits
    (ap (λ n. let x : Gap = record { at = c.args.range.now.base + c.loop-link.link; size = c.read_head-head.result.size; base = n; before = c.loop-link.before; before_size = c.loop-link.before_size; next = c.read_head-head.result.rest } in x) c.up-base.ensures)

pub loop-link-preserved : goal.loop-link-preserved
loop-link-preserved g c =
    let k = says c.args.range.now (g.M.Memory.granules c.args.mem.now) c.args.unit c.args.length c.loop-link.before c.loop-link.before_size c.loop-link.link c.read_head-head.result c.requires.tiled (comes c.args.range.now (g.M.Memory.granules c.args.mem.now) c.args.unit c.args.length c.loop-link.before c.loop-link.before_size c.loop-link.link c.loop-link.invariant c.loop-link-test.true) c.read_head-head.ensures in
    let full : c.args.range.now.base + c.loop-link.link + c.read_head-head.result.size < up c.args.unit (c.args.range.now.base + c.loop-link.link + 8) + c.args.length = rw c.up-base.ensures at c.if-base-length.false in
    goes_on c.args.range.now (g.M.Memory.granules c.args.mem.now) c.args.unit c.args.length c.loop-link.before c.loop-link.before_size c.loop-link.link c.read_head-head.result c.requires.unit k full

pub returns : goal.returns
returns g c = ended c.args.range.now (g.M.Memory.granules c.args.mem.now) c.args.unit c.args.length c.loop-link.before c.loop-link.before_size c.loop-link.link c.requires.tiled c.loop-link.invariant c.loop-link-test.false

pub overflow_cast-result : goal.overflow_cast-result
overflow_cast-result g c =
    let k = says c.args.range.now (g.M.Memory.granules c.args.mem.now) c.args.unit c.args.length c.loop-link.before c.loop-link.before_size c.loop-link.link c.read_head-head.result c.requires.tiled (comes c.args.range.now (g.M.Memory.granules c.args.mem.now) c.args.unit c.args.length c.loop-link.before c.loop-link.before_size c.loop-link.link c.loop-link.invariant c.loop-link-test.true) c.read_head-head.ensures in
    let fits = k.fits in
    let small = c.requires.tiled.small in
    let some = c.requires.some in
    let room = c.if-base-length.true in
    omega (arith, fits, small, some, room)
