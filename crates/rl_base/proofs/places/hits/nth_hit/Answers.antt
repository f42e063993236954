use Rattle.rl_base.proofs.Common.{◌<◌, ◌+◌, sym, ◌∙◌, arith, IsUtf8-past_char}
use Rattle.rl_base.proofs.Clusters.SearchLemmas.{left_within, char_places-first_at, search-hit, search-miss}
use Rattle.rl_base.proofs.places.hits.nth_hit.Goals as goal

pub loop-place-preserved-then-c-wanted : goal.loop-place-preserved-then-c-wanted
loop-place-preserved-then-c-wanted c =
    let i = c.loop-place.invariant in
    let step = c.in-Some.ensures.steps in
    let some : 0 < c.loop-place.left = omega arith in
    record {
      text = IsUtf8-past_char _ _ c.in-Some.c i.text step.1;
      within = left_within _ _ _ _ _ _ c.in-Some.c i.within step.1 step.2;
      found = sym (search-hit c.args.wanted (c.args.start + c.in-Some.place) c.in-Some.c c.loop-place.hit _ _ _
          (char_places-first_at _ _ _ _ _ c.in-Some.c i.text step.1 (omega (arith, step.2)) (omega (arith, step.0))) c.if-c-wanted.true some) ∙ i.found;
    }

pub loop-place-preserved : goal.loop-place-preserved
loop-place-preserved c =
    let i = c.loop-place.invariant in
    let step = c.in-Some.ensures.steps in
    record {
      text = IsUtf8-past_char _ _ c.in-Some.c i.text step.1;
      within = left_within _ _ _ _ _ _ c.in-Some.c i.within step.1 step.2;
      found = sym (search-miss c.args.wanted (c.args.start + c.in-Some.place) c.in-Some.c c.loop-place.hit _ _ _
          (char_places-first_at _ _ _ _ _ c.in-Some.c i.text step.1 (omega (arith, step.2)) (omega (arith, step.0))) c.if-c-wanted.false) ∙ i.found;
    }
