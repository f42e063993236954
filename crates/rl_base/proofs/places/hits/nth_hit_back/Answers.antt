use Rattle.rl_base.proofs.Common.{◌<◌, sym, ◌∙◌, arith, rules, IsUtf8-encode, encode_utf8, IsUtf8}
use Rattle.unicode_segmentation.proofs.TextLemmas.{IsUtf8-before}
use Rattle.rl_base.proofs.Clusters.SearchLemmas.{char_places-last_at, search_back-hit, search_back-miss}
use Rattle.rl_base.proofs.places.hits.nth_hit_back.Goals as goal

pub loop-place-preserved-then-c-wanted : goal.loop-place-preserved-then-c-wanted
loop-place-preserved-then-c-wanted c =
    let i = c.loop-place.invariant in
    let step = c.in-Some.ensures.steps in
    let some : 0 < c.loop-place.left = omega arith in
    let one : IsUtf8 (encode_utf8 c.in-Some.c) = IsUtf8-encode c.in-Some.c (search rules) in
    let rest = IsUtf8-before _ _ _ i.text one step.1.0 in
    record {
      text = rest;
      found = sym (search_back-hit c.args.wanted c.in-Some.place c.in-Some.c c.loop-place.hit _ _ _
          (char_places-last_at _ _ _ _ _ c.in-Some.c rest one step.1.0 step.0 step.1.1) c.if-c-wanted.true some) ∙ i.found;
    }

pub loop-place-preserved : goal.loop-place-preserved
loop-place-preserved c =
    let i = c.loop-place.invariant in
    let step = c.in-Some.ensures.steps in
    let one : IsUtf8 (encode_utf8 c.in-Some.c) = IsUtf8-encode c.in-Some.c (search rules) in
    let rest = IsUtf8-before _ _ _ i.text one step.1.0 in
    record {
      text = rest;
      found = sym (search_back-miss c.args.wanted c.in-Some.place c.in-Some.c c.loop-place.hit _ _ _
          (char_places-last_at _ _ _ _ _ c.in-Some.c rest one step.1.0 step.0 step.1.1) c.if-c-wanted.false) ∙ i.found;
    }
