use Rattle.rl_line.proofs.Common.{after_newlines, ap, ap₂, arith, count_by, drop, drop-drop, is_newline, length, length-drop, sym, take, take_rest, ◌++◌, ◌+◌, ◌-◌, ◌∙◌, ◌≡◌, ◌≤◌}
use Rattle.rl_line.proofs.Lines.LineStartLemmas.{written-after}
use Rattle.rl_line.proofs.line_starts.put_starts.Goals as goal

pub returns-clause-places : goal.returns-clause-places
returns-clause-places c = λ yes.
    let part = c.args.part.now in
    let first = c.args.starts.now.border in
    let places = c.args.starts.now.places.items in
    let old = c.deref_mut.result.now in
    let rest = take_rest old first in
    let many : first ≤ c.open_gap.new.places.len = omega (arith, c.open_gap.ensures.count, c.reserve.ensures.len, c.requires.within) in
    let size = c.put_after_newlines.auto.places ∙ ap length rest ∙ length-drop first old ∙ ap (λ k. k - first) c.deref_mut.ensures.len in
    let front = ap (take first) c.deref_mut.ensures.value ∙ c.open_gap.ensures.before ∙ ap (take first) c.reserve.ensures.items in
    let back : drop (count_by is_newline part) (drop first old) ≡ drop (first + c.args.gone) places =
    drop-drop (count_by is_newline part) first old ∙ ap (λ k. drop (first + k) old) (sym c.requires.come) ∙ ap (drop (first + c.args.come)) c.deref_mut.ensures.value ∙ c.open_gap.ensures.after ∙ ap (drop (first + c.args.gone)) c.reserve.ensures.items in
    let is = ap (λ l. take first old ++ l) (c.put_after_newlines.ensures ∙ ap (λ l. after_newlines (c.args.at + 1) part ++ drop (count_by is_newline part) l) rest)
    ∙ ap₂ (λ l r. l ++ (after_newlines (c.args.at + 1) part ++ r)) front back in
    written-after first c.open_gap.new.places.len old c.put_after_newlines.new.places _ c.deref_mut.ensures.len many size ∙ is
