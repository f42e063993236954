use Rattle.rl_line.proofs.Common.{IsUtf8, IsUtf8-string_bytes, RoomyLine, ap, arith, length, subst, ◌≤◌}
use Rattle.rl_line.proofs.going.RoomyLineSteppable.cursor.Goals as goal

pub returns-clause-utf8 : goal.returns-clause-utf8
returns-clause-utf8 c = subst IsUtf8 (ap (λ (r : RoomyLine). r.line.text) c.self.view_is) (IsUtf8-string_bytes c.self.inside.text)

pub returns-clause-fits : goal.returns-clause-fits
returns-clause-fits c =
    let text = c.self.inside.text in
    omega (arith, ap (λ (r : RoomyLine). length r.line.text) c.self.view_is, text.bytes.ok.0, text.bytes.ok.1, text.bytes.small)

pub returns-clause-within : goal.returns-clause-within
returns-clause-within c = subst (λ (r : RoomyLine). length r.line.text ≤ r.line.limit) c.self.view_is c.self.invariant.within
