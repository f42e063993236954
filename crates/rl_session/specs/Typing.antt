-- What typing some bytes does: the characters that stand whole at their front are inserted, one after another.
use Rattle.std.specs.Prelude.{◌≡◌, ◌⊎◌, ◌+◌, ◌==◌, ℕ, Bool, false, List, [], ◌∷◌, drop, take, Option, Some, None, Result, Ok, Err, unwrap_or, if◌then◌else◌}
use Rattle.std.specs.Char.{len_utf8}
use Rattle.std.specs.Str.{chars}
use Rattle.std.specs.Str.Lossy.{utf8_error_len, utf8_valid_len}
use Rattle.rl_session.specs.Performing.{Performed}
use Rattle.rl_session.specs.State.{State}
use Rattle.rl_session.specs.declared.session.Command.TheVariants.{Insert}
use Rattle.rl_session.specs.declared.session.Fault.{Fault}
use Rattle.rl_session.specs.declared.session.Reply.TheVariants.{Inserted, Refused}
use Rattle.rl_session.specs.declared.session.typing.Typed.{Typed}
use Rattle.rl_session.specs.declared.session.typing.TypeFault.{TypeFault}
use Rattle.rl_session.specs.declared.session.typing.TypeFault.TheVariants as why

-- the characters of the longest front that is UTF-8
abbrev pub whole_chars : List ℕ → List ℕ
whole_chars bytes = chars (take (utf8_valid_len bytes) bytes)

-- nothing is wrong with what follows that front if the bytes end there, or within a character
abbrev pub fault_in : Option ℕ → Option TypeFault
fault_in None = None
fault_in (Some len) = Some why.NotUtf8

abbrev pub fault_after : List ℕ → Option TypeFault
fault_after bytes = fault_in (utf8_error_len (drop (utf8_valid_len bytes) bytes))

-- before anything was typed, and after one more character
abbrev pub nothing_typed : Typed
nothing_typed = record { len = 0; at_end = false }

abbrev pub typed_more : Typed → ℕ → Option Bool → Typed
typed_more typed c at_end = record { len = typed.len + len_utf8 c; at_end = unwrap_or at_end false }

-- what is returned once typing stopped: a fault counts only if nothing was typed
abbrev pub typed_until : Typed → Option TypeFault → Result Typed TypeFault
typed_until typed None = Ok typed
typed_until typed (Some fault) = if typed.len == 0 then Err fault else Ok typed

-- characters are typed: each is inserted once, up to the first whose insertion is refused, or to the last, after which there may be
-- a fault in the bytes
abbrev pub Types : Option TypeFault → List ℕ → Typed → State → Result Typed TypeFault → State → Type 0
Types fault [] typed old result new = (result ≡ typed_until typed fault) × (new ≡ old)
Types fault (c ∷ cs) typed old result new =
    ((refusal : Fault) × Performed old (Insert c 1) (Refused refusal) new × (result ≡ typed_until typed (Some (why.Refused refusal))))
    ⊎ ((at_end : Option Bool) × (mid : State) × Performed old (Insert c 1) (Inserted at_end) mid × Types fault cs (typed_more typed c at_end) mid result new)

-- the same of bytes
abbrev pub TypesBytes : List ℕ → State → Result Typed TypeFault → State → Type 0
TypesBytes bytes = Types (fault_after bytes) (whole_chars bytes) nothing_typed
