use Rattle.rl_line.proofs.Common.{[], ap, get_or, insert_slice, option_map_or, subst, sym, ◌++◌, ◌∙◌, ◌≡◌}
use Rattle.rl_line.proofs.Lines.BlockLemmas.{put_part, put_two}
use Rattle.rl_line.specs.Blocks.{LiesIn}
use Rattle.std.specs.List.{flat_map}
use Rattle.rl_line.proofs.blocks.put_among.Goals as goal

pub returns-in_default-clause-ok : goal.returns-in_default-clause-ok
returns-in_default-clause-ok g c =
    let f = g.P.Part.text in
    let k = c.find_end-index.result.0 in
    let x = c.index_mut.result.now in
    let lies = subst (λ l. LiesIn f l c.args.at k c.find_end-index.result.1) c.as_slice.ensures.value c.find_end-index.ensures.lies in
    let le = c.find_end-index.ensures.within x (c.index_mut.ensures.value ∙ ap (λ l. get_or l k x) (sym c.as_slice.ensures.value)) in
    let made = subst (λ o. f c.put.new.self ++ option_map_or f o [] ≡ insert_slice (f x) c.find_end-index.result.1 c.args.piece.now) c.in_default.is c.in_ok-more.ensures.ok in
    put_part f c.args.parts.now.items k x lies.index c.index_mut.ensures.value c.args.at c.find_end-index.result.1 lies c.args.piece.now c.put.new.self le made

pub returns-clause-ok : goal.returns-clause-ok
returns-clause-ok g c =
    let f = g.P.Part.text in
    let k = c.find_end-index.result.0 in
    let x = c.index_mut.result.now in
    let lies = subst (λ l. LiesIn f l c.args.at k c.find_end-index.result.1) c.as_slice.ensures.value c.find_end-index.ensures.lies in
    let le = c.find_end-index.ensures.within x (c.index_mut.ensures.value ∙ ap (λ l. get_or l k x) (sym c.as_slice.ensures.value)) in
    let made = subst (λ o. f c.put.new.self ++ option_map_or f o [] ≡ insert_slice (f x) c.find_end-index.result.1 c.args.piece.now) c.in-Some.is c.in_ok-more.ensures.ok in
    ap (flat_map f) c.in_ok-insert.ensures.items
    ∙ put_two f c.args.parts.now.items k x lies.index c.index_mut.ensures.value c.args.at c.find_end-index.result.1 lies c.args.piece.now c.put.new.self c.in-Some.more le made
