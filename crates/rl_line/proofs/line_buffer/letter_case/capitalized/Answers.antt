use Rattle.rl_line.proofs.Common.{ap, string_bytes, ◌++◌, ◌∙◌}
use Rattle.rl_base.proofs.Clusters.ClusterLemmas.{slice_range-front}
use Rattle.rl_line.proofs.Plans.LetterCaseLemmas.{capitalized-ascii}
use Rattle.rl_line.proofs.line_buffer.letter_case.capitalized.Goals as goal

pub returns-clause-ascii : goal.returns-clause-ascii
returns-clause-ascii c = λ a.
    let word = c.args.word.now in
    let first = c.first_len-first.result in
    capitalized-ascii word c.range.result.now c.range_from.result.now (string_bytes c.in_ok-made.made) (string_bytes c.in_ok-rest.rest) _ first a (c.first_len-first.ensures.ascii a)
    (c.range.ensures.value ∙ slice_range-front first word) c.range_from.ensures.value c.in_ok-made.ensures.ok c.in_ok-rest.ensures.ok
    (c.in_ok-push_str.ensures.bytes ∙ ap (λ l. string_bytes c.in_ok-made.made ++ l) c.as_str.ensures.value)
