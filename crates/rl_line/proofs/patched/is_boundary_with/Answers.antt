use Rattle.rl_line.proofs.Common.{ap, arith, is_boundary, length, sym, ◌+◌, ◌-◌, ◌∙◌}
use Rattle.rl_line.proofs.Changes.PatchLemmas.{boundary-beyond, is_boundary-tested, patched-after, patched-before, patched-within}
use Rattle.rl_line.proofs.patched.is_boundary_with.Goals as goal

pub returns-then-at-from : goal.returns-then-at-from
returns-then-at-from c =
    is_boundary-tested c.args.text.now c.args.at c.is_char_boundary.result c.is_char_boundary.ensures.test
    ∙ sym (patched-before c.args.text.now c.args.from c.args.to c.args.part.now c.utf8.text c.utf8.part c.requires.1 c.requires.2 c.args.at c.if-at-from.true)

pub returns-then-past-part : goal.returns-then-past-part
returns-then-past-part c =
    is_boundary-tested c.args.part.now (c.args.at - c.args.from) c.is_char_boundary-then-past-part.result c.is_char_boundary-then-past-part.ensures.test
    ∙ sym (patched-within c.args.text.now c.args.from c.args.to c.args.part.now c.utf8.text c.utf8.part c.requires.1 c.requires.2 c.args.at (omega arith) c.if-past-part.true)

pub returns-in-Some : goal.returns-in-Some
returns-in-Some c =
    is_boundary-tested c.args.text.now c.in-Some.there c.is_char_boundary-in-Some.result c.is_char_boundary-in-Some.ensures.test ∙ ap (is_boundary c.args.text.now) c.in-Some.ensures.1
    ∙ sym (patched-after c.args.text.now c.args.from c.args.to c.args.part.now c.utf8.text c.utf8.part c.requires.1 c.requires.2 c.args.at (omega arith) (omega arith))

pub returns-in-None : goal.returns-in-None
returns-in-None c =
    sym (patched-after c.args.text.now c.args.from c.args.to c.args.part.now c.utf8.text c.utf8.part c.requires.1 c.requires.2 c.args.at (omega arith) (omega arith)
    ∙ boundary-beyond c.args.text.now ((c.args.at - c.args.from) - length c.args.part.now + c.args.to) (omega (arith, c.in-None.ensures)))
