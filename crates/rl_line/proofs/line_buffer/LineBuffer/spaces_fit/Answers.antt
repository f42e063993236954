use Rattle.rl_line.proofs.Common.{ap, ap₂, arith, false, indent_plan, leb, length, lt-leb, nat_tests, sym, ℕ, ◌*◌, ◌+◌, ◌-◌, ◌<◌, ◌^◌, ◌∙◌, ◌≡◌, ◌≤◌}
use Rattle.rl_line.proofs.Plans.LimitLemmas.{spaces-longest}
use Rattle.rl_line.proofs.line_buffer.LineBuffer.spaces_fit.Goals.{After-from}
use Rattle.rl_line.specs.Plan.{longest_by}
use Rattle.rl_line.proofs.line_buffer.LineBuffer.spaces_fit.Goals as goal

grown : (c : After-from) → longest_by c.args.self.now (indent_plan c.args.self.now c.args.mvt.now c.args.amount false)
    ≡ length c.args.self.now.text + c.args.amount * (c.indented_lines-lines.result.end - c.indented_lines-lines.result.start)
grown c = spaces-longest c.args.self.now c.args.mvt.now c.args.amount c.indented_lines-lines.result c.indented_lines-lines.ensures.value c.indented_lines-lines.ensures.within

-- a number within what is left of another, and their sum within that
within_rest : (m n l : ℕ) → n ≤ l → leb m (l - n) ≡ leb (n + m) l
within_rest m n l le = grind (arith, nat_tests)

pub returns-in-Some : goal.returns-in-Some
returns-in-Some c =
    let count = c.indented_lines-lines.result.end - c.indented_lines-lines.result.start in
    let all = grown (goal.at.returns-in-Some c).After-from in
    let more : c.in-Some.more ≡ c.args.amount * count = c.in-Some.ensures.1 ∙ ap (λ k. k * count) c.from.ensures in
    within_rest c.in-Some.more c.len.result c.limit.result (omega (arith, c.limit.ensures.within, c.len.ensures.len))
    ∙ ap₂ leb (omega (arith, c.len.ensures.len, all, more)) c.limit.ensures.limit

pub returns-in-None : goal.returns-in-None
returns-in-None c =
    let count = c.indented_lines-lines.result.end - c.indented_lines-lines.result.start in
    let all = grown (goal.at.returns-in-None c).After-from in
    let past : ¬ (c.from.result * count < 2 ^ 64) = c.in-None.ensures in
    let more = ap (λ k. k * count) c.from.ensures in
    let small = c.limit.type_inv in
    let is = c.limit.ensures.limit in
    sym (lt-leb _ c.args.self.now.limit (grind (arith, nat_tests)))
