use Rattle.rl_line.proofs.Common.{length, remove_range, subst, sym, ◌+◌, ◌≡◌, ◌≤◌}
use Rattle.rl_line.proofs.Lines.BlockLemmas.{cut_part, within_part}
use Rattle.rl_line.proofs.blocks.cut_among.Goals as goal

pub returns-clause-within : goal.returns-clause-within
returns-clause-within g c =
    let lies = c.find-index.ensures.lies in
    let le = subst (λ y. c.find-index.result.1 + c.cut.result ≤ length (g.P.Part.text y)) (sym c.index-parts-index.is) c.cut.ensures.within in
    within_part g.P.Part.text c.args.parts.now c.find-index.result.0 c.index-parts-index.result lies.index c.index-parts-index.is c.args.at c.find-index.result.1 lies c.cut.result le

pub returns-clause-text : goal.returns-clause-text
returns-clause-text g c =
    let lies = c.find-index.ensures.lies in
    let le = subst (λ y. c.find-index.result.1 + c.cut.result ≤ length (g.P.Part.text y)) (sym c.index-parts-index.is) c.cut.ensures.within in
    let made = subst (λ y. g.P.Part.text c.cut.new.self ≡ remove_range (g.P.Part.text y) c.find-index.result.1 (c.find-index.result.1 + c.cut.result)) (sym c.index-parts-index.is) c.cut.ensures.text in
    cut_part g.P.Part.text c.args.parts.now c.find-index.result.0 c.index-parts-index.result lies.index c.index-parts-index.is c.args.at c.find-index.result.1 lies c.cut.result c.cut.new.self le made
