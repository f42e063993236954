use Rattle.rl_base.specs.Screen.{place_at, screen_from}
use Rattle.rl_line.proofs.Lines.RowLemmas.{within-height}
use Rattle.std.proofs.Common.{ap, ℕ, ◌+◌, ◌∙◌, ◌≡◌}
use Rattle.rl_line.proofs.line_buffer.LineBuffer.find_in_row.Goals as goal

pub returns-then-place-rest-clause-ok : goal.returns-then-place-rest-clause-ok
returns-then-place-rest-clause-ok c =
    let screen = c.args.screen.now in
    let text = c.args.self.now.text in
    let to : ℕ × ℕ = (c.args.row, c.args.column) in
    let found : c.in-Ok.place ≡ place_at (screen_from screen text c.args.from) c.rest_of_line-rest.result.now to =
    c.in-Ok.ensures.ok ∙ ap (λ on. place_at on c.rest_of_line-rest.result.now to) c.screen_from-on.ensures
    ∙ ap (λ t. place_at (screen_from screen t c.args.from) c.rest_of_line-rest.result.now to) c.as_str.ensures in (
      within-height screen text c.args.k c.args.from c.args.row c.args.column c.in-Ok.place c.rest_of_line-rest.result.now
          c.rest_of_line-rest.utf8 c.rest_of_line-rest.ensures.text found c.if-place-rest.true,
      ap (λ p. c.args.from + p) found ∙ ap (λ l. c.args.from + place_at (screen_from screen text c.args.from) l to) c.rest_of_line-rest.ensures.text,
    )
