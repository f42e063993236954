use Rattle.rl_base.proofs.Common.{◌<◌, Some, ap, sym, ◌∙◌, arith, grapheme_indices_left}
use Rattle.rl_base.proofs.Clusters.ClusterLemmas.{slice_range-front}
use Rattle.rl_base.proofs.Clusters.WordLemmas.{IsBefore-start_before, start_before-hit, start_before-more, start_before-miss, clusters_some, prev_word-some, prev_word-none}
use Rattle.rl_base.proofs.places.words.prev_word.Goals as goal

-- without a cluster the place is the start
pub returns-in_default-clause-value : goal.returns-in_default-clause-value
returns-in_default-clause-value c =
    let none = sym (ap grapheme_indices_left c.rev-clusters.ensures.source ∙ c.grapheme_indices.ensures.left) ∙ c.in_default.ensures.steps.0 in
    sym (prev_word-none c.args.text.now c.args.pos c.args.word c.args.n c.range.result.now (c.range.ensures.value ∙ slice_range-front c.args.pos c.args.text.now) (omega (arith, c.range.ensures.len)) c.range.utf8 none)

-- a word starts after the cluster that was read, at the place that was found
pub returns-then-wanted-eq1 : goal.returns-then-wanted-eq1
returns-then-wanted-eq1 c =
    let left = ap grapheme_indices_left c.rev-clusters.ensures.source ∙ c.grapheme_indices.ensures.left in
    let some = clusters_some c.range.result.now _ _ c.range.utf8 (sym left ∙ c.in-Some.ensures.steps) in
    let begun = sym (c.starts.ensures c.args.word _ _ c.class_of-last.ensures c.loop-start.invariant.class) ∙ c.if-starts.true in
    let found = sym (start_before-hit c.args.word _ _ _ _ c.in-Some-2.ensures.steps _ c.if-wanted-eq1.true begun) ∙ c.loop-start.invariant.found in
    let before = IsBefore-start_before c.args.text.now c.args.pos c.args.word c.args.n c.utf8.text c.requires in
    record {
      value = ap Some found ∙ sym (prev_word-some c.args.text.now c.args.pos c.args.word c.args.n (omega (arith, c.range.ensures.len, some)));
      before = rw found before.before;
      boundary = rw found before.boundary;
    }

pub loop-start-preserved-else-wanted-eq1 : goal.loop-start-preserved-else-wanted-eq1
loop-start-preserved-else-wanted-eq1 c =
    let i = c.loop-start.invariant in
    let several : 1 < c.loop-start.wanted = omega (arith, i.some) in
    record {
      cluster = c.in-Some-2.cluster.now;
      class = c.class_of-last.ensures;
      some = omega (arith, i.some);
      found = sym (start_before-more c.args.word _ _ _ _ c.in-Some-2.ensures.steps _ several (sym (c.starts.ensures c.args.word _ _ c.class_of-last.ensures i.class) ∙ c.if-starts.true)) ∙ i.found;
    }

pub loop-start-preserved : goal.loop-start-preserved
loop-start-preserved c =
    let i = c.loop-start.invariant in
    record {
      cluster = c.in-Some-2.cluster.now;
      class = c.class_of-last.ensures;
      some = i.some;
      found = sym (start_before-miss c.args.word _ _ _ _ c.in-Some-2.ensures.steps _ (sym (c.starts.ensures c.args.word _ _ c.class_of-last.ensures i.class) ∙ c.if-starts.false)) ∙ i.found;
    }
