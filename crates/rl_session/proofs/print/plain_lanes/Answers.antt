use Rattle.rl_session.proofs.Common.{◌≡◌, not, ap, ◌∙◌, arith, length-chunk, trailing_mask_l, none_from_empty_mask, run_in_chunk_le, run_in_chunk_fails, run_in_chunk_stops, prefix_len, is_special}
use lib.Count.{count_trailing_zeros}
use lib.Lanes.{chunk}
use Rattle.rl_session.proofs.print.plain_lanes.Goals as goal

pub returns-then-found-eq0-clause-plain : goal.returns-then-found-eq0-clause-plain
returns-then-found-eq0-clause-plain c =
    none_from_empty_mask (is_special c.args.spaces) c.args.text.now c.args.at 16 0 c.requires (omega (arith, c.specials-found.ensures))

pub returns : goal.returns
returns c =
    let p = is_special c.args.spaces in
    let v = chunk c.args.at 16 c.args.text.now in
    let found = c.specials-found.ensures in
    let counted : count_trailing_zeros 64 c.specials-found.result ≡ prefix_len (λ x. not (p x)) v =
    ap (count_trailing_zeros 64) found ∙ trailing_mask_l p 64 v (omega (arith, length-chunk c.args.at 16 c.args.text.now c.requires)) (omega (arith, found)) in
    record {
      within = run_in_chunk_le p c.args.text.now c.args.at 16 _ 0 c.requires counted;
      plain = run_in_chunk_fails p c.args.text.now c.args.at 16 _ 0 c.requires counted;
      stops = run_in_chunk_stops p c.args.text.now c.args.at 16 _ 0 c.requires counted;
    }
