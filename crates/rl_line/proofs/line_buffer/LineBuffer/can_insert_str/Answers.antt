use Rattle.rl_line.proofs.Common.{refl}
use Rattle.rl_base.proofs.Texts.TextLemmas.{IsCharBoundary-before}
use Rattle.rl_line.proofs.line_buffer.LineBuffer.can_insert_str.Goals as goal

pub returns-then-pos-idx-clause-yes : goal.returns-then-pos-idx-clause-yes
returns-then-pos-idx-clause-yes c = λ _. (
    let place = c.pos-pos.ensures.place in
    let start = rw c.as_str-old.ensures at (c.if-not-is_char_boundary.ensures.test.0 refl) in (
      start,
      IsCharBoundary-before c.args.self.now.text c.args.idx c.args.idx c.args.self.now.cursor c.args.text.now c.pos-pos.ensures.utf8 c.utf8.text start start
          (rw place at c.pos-pos.ensures.boundary) (rw place at c.if-pos-idx.true),
    )
    )
