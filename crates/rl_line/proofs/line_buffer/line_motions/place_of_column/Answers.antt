use Rattle.rl_line.proofs.Common.{None, Some, ap, arith, bytes_in, clusters, nth_from_yields_List, slice_get, sym, take_all, ◌∙◌}
use Rattle.rl_base.proofs.Clusters.ClusterLemmas.{bytes_in-clusters}
use Rattle.rl_base.proofs.Texts.LineLemmas.{IsCharBoundary-nth, few-from_none, place-of_nth}
use Rattle.unicode_segmentation.proofs.SegmentsLemmas.{YieldsList-from_gives}
use Rattle.rl_line.proofs.line_buffer.line_motions.place_of_column.Goals as goal

pub returns-in-Some-clause-value : goal.returns-in-Some-clause-value
returns-in-Some-clause-value c =
    let item = nth_from_yields_List (Some (c.in-Some.place, c.in-Some.field-0-1)) c.nth.new.self c.args.column c.in-Some.ensures.ran (YieldsList-from_gives _ _ c.grapheme_indices.result) in
    place-of_nth 0 (clusters c.args.line.now) c.args.column (c.in-Some.place, c.in-Some.field-0-1.now) (ap (λ l. slice_get l c.args.column) (sym c.grapheme_indices.ensures.left) ∙ sym item) ∙ (omega arith)

pub returns-in-Some-clause-boundary : goal.returns-in-Some-clause-boundary
returns-in-Some-clause-boundary c =
    let item = nth_from_yields_List (Some (c.in-Some.place, c.in-Some.field-0-1)) c.nth.new.self c.args.column c.in-Some.ensures.ran (YieldsList-from_gives _ _ c.grapheme_indices.result) in
    IsCharBoundary-nth c.args.line.now c.args.column (c.in-Some.place, c.in-Some.field-0-1.now) c.utf8.line (ap (λ l. slice_get l c.args.column) (sym c.grapheme_indices.ensures.left) ∙ sym item)

pub returns-in-None-clause-value : goal.returns-in-None-clause-value
returns-in-None-clause-value c =
    let item = nth_from_yields_List None c.nth.new.self c.args.column c.in-None.ensures.ran (YieldsList-from_gives _ _ c.grapheme_indices.result) in
    let few = few-from_none 0 (clusters c.args.line.now) c.args.column (ap (λ l. slice_get l c.args.column) (sym c.grapheme_indices.ensures.left) ∙ sym item) in
    sym (ap bytes_in (take_all c.args.column (clusters c.args.line.now) few) ∙ bytes_in-clusters c.args.line.now c.utf8.line)
