use Rattle.rl_line.proofs.Common.{ap, arith, length, length-append, take, ◌+◌, ◌≡◌}
use Rattle.rl_line.proofs.Lines.BlockLemmas.{length_all, one_more}
use Rattle.std.specs.List.{flat_map}
use Rattle.rl_line.proofs.blocks.total.Goals as goal

pub overflow_add-total : goal.overflow_add-total
overflow_add-total g c =
    let so_far : c.loop-part.total ≡ length (flat_map g.P.Part.text (take c.loop-part.part-index c.args.parts.now)) = c.loop-part.invariant in
    omega (arith, c.requires, c.size-total.ensures, length_all g.P.Part.text c.args.parts.now c.loop-part.part-index c.part-item.result c.loop-part-test.true c.part-item.is)

pub loop-part-preserved : goal.loop-part-preserved
loop-part-preserved g c =
    let so_far : c.loop-part.total ≡ length (flat_map g.P.Part.text (take c.loop-part.part-index c.args.parts.now)) = c.loop-part.invariant in
    let more : c.loop-part.total + c.size-total.result ≡ length (flat_map g.P.Part.text (take (c.loop-part.part-index + 1) c.args.parts.now)) =
    omega (arith, c.size-total.ensures, ap length (one_more g.P.Part.text c.args.parts.now c.loop-part.part-index c.part-item.result c.loop-part-test.true c.part-item.is), length-append (flat_map g.P.Part.text (take c.loop-part.part-index c.args.parts.now)) (g.P.Part.text c.part-item.result)) in
    more
