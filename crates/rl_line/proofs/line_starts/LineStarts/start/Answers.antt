use Rattle.rl_line.proofs.Common.{arith, get_or_read, length, ◌<◌}
use Rattle.rl_line.proofs.Lines.LineStartLemmas.{read-from, read-within}
use Rattle.rl_line.proofs.line_starts.LineStarts.start.Goals as goal

pub overflow_sub-result : goal.overflow_sub-result
overflow_sub-result c =
    let places = c.args.self.now.places in
    let some : c.args.k < length places.items = omega (arith, c.requires.within, places.ok.0) in
    omega (arith, get_or_read places.items c.args.k _ some c.index-2.ensures 0, read-from places.items c.args.text.now c.args.self.now.border c.args.k c.requires.table some c.if-k-self.false)

pub returns : goal.returns
returns c =
    let places = c.args.self.now.places in
    let some : c.args.k < length places.items = omega (arith, c.requires.within, places.ok.0) in
    omega (
      arith,
      get_or_read places.items c.args.k _ some c.index-2.ensures 0,
      read-from places.items c.args.text.now c.args.self.now.border c.args.k c.requires.table some c.if-k-self.false,
      read-within places.items c.args.text.now c.args.self.now.border c.args.k c.requires.table some,
    )
