use Rattle.rl_line.proofs.Common.{[], ap, append_assoc, arith, is_byte, length, length-append, length_push, places, sym, ◌++◌, ◌+◌, ◌<◌, ◌∙◌, ◌∷◌, ◌≡◌}
use Rattle.rl_line.proofs.Lines.LineStartLemmas.{length-found, put_more}
use Rattle.rl_line.proofs.line_starts.put_after_newlines.Goals.{In-Some}
use Rattle.rl_line.proofs.line_starts.put_after_newlines.Goals as goal

-- the newline that comes, between those that were put and those to come
split : (c : In-Some) → c.loop-newline.yielded ++ c.in-Some.newline ∷ c.next.new.self ≡ places (is_byte 10) c.args.part.now
split c = ap (λ l. c.loop-newline.yielded ++ l) (sym c.in-Some.ensures.steps) ∙ c.loop-newline.invariant.all

room : (c : In-Some) → c.loop-newline.n < length c.args.places.now
room c =
    omega (
      arith,
      c.loop-newline.invariant.count,
      c.requires.within,
      length-found c.args.part.now,
      ap length (split c),
      length-append c.loop-newline.yielded (c.in-Some.newline ∷ c.next.new.self),
    )

pub loop-newline-preserved : goal.loop-newline-preserved
loop-newline-preserved c =
    let d = (goal.at.loop-newline-preserved c).In-Some in
    let done = c.loop-newline.yielded in
    let at : c.args.at + c.in-Some.newline + 1 ≡ (c.args.at + 1) + c.in-Some.newline = omega arith in
    record {
      all = append_assoc done (c.in-Some.newline ∷ []) c.next.new.self ∙ split d;
      count = ap (λ k. k + 1) c.loop-newline.invariant.count ∙ sym (length_push done c.in-Some.newline);
      puts = put_more (c.args.at + 1) c.loop-newline.n _ c.in-Some.newline done c.args.places.now c.loop-newline.places c.loop-newline.invariant.count (room d) c.loop-newline.invariant.puts at;
    }
