use Rattle.rl_session.proofs.Common.{arith, ap, encode_utf8, length, length-append, length-encode, rules}
use Rattle.std.proofs.lemmas.Str.{IsUtf8-past_char}
use Rattle.std.specs.Str.Iter.{chars_rest}
use Rattle.rl_session.proofs.Sessions.TypingLemmas.{types_more, types_none, types_refused}
use Rattle.rl_session.proofs.session.Session.type_text.Goals as goal

pub loop-c-preserved : goal.loop-c-preserved
loop-c-preserved c =
    let i = c.loop-c.invariant in
    let begins = c.in-Some.ensures.steps.0 in
    record {
      text = IsUtf8-past_char _ _ c.in-Some.c i.text begins;
      within = omega (arith, i.within, ap length begins, length-append (encode_utf8 c.in-Some.c) (chars_rest c.next.new.self), length-encode c.in-Some.c, c.len_utf8.ensures.value);
      goes_on = λ result new types.
          i.goes_on result new (types_more c.args.fault _ c.loop-c.typed c.loop-c.self result _ c.in-Some.c new i.text begins c.insert.result c.in-Ok.at_end _ c.insert.new.self c.insert.ensures (search rules) (search rules) types);
    }

pub returns-in-Err : goal.returns-in-Err
returns-in-Err c =
    let i = c.loop-c.invariant in
    i.goes_on c.until.result c.insert.new.self
    (types_refused c.args.fault _ c.loop-c.typed c.loop-c.self c.until.result _ c.in-Some.c c.insert.new.self i.text c.in-Some.ensures.steps.0 c.insert.result c.in-Err.refusal c.insert.ensures (search rules) c.until.ensures)

pub returns : goal.returns
returns c = c.loop-c.invariant.goes_on c.until-2.result c.loop-c.self (types_none c.args.fault _ c.loop-c.typed c.loop-c.self c.until-2.result (search rules) c.until-2.ensures)
