use Rattle.rl_session.proofs.Common.{◌≡◌, ◌+◌, length, IsUtf8, Result, State}
use Rattle.std.specs.Str.{chars}
use Rattle.std.specs.Str.Iter.{chars_rest}
use Rattle.rl_session.specs.Typing.{Types, nothing_typed}
use Rattle.rl_session.specs.declared.session.typing.Typed.{Typed}
use Rattle.rl_session.specs.declared.session.typing.TypeFault.{TypeFault}
use Rattle.rl_session.proofs.session.Session.type_text.Given as goal

-- what typing the rest may lead to, typing the whole text may
abbrev pub invariant-loop-c : goal.invariant-loop-c
invariant-loop-c l =
    record {
      text : IsUtf8 (chars_rest l.c-iterator);
      within : l.typed.len + length (chars_rest l.c-iterator) ≡ length l.text;
      goes_on : (result : Result Typed TypeFault) (new : State) → Types l.fault (chars (chars_rest l.c-iterator)) l.typed l.self result new
          → Types l.fault (chars l.text) nothing_typed l.fn.self result new;
    }
