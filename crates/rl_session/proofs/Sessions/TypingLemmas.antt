-- What stands whole at the front of some bytes, and typing as performed commands.
use Rattle.rl_session.proofs.Common.{◌≡◌, ◌<◌, ℕ, Bool, List, [], ◌∷◌, ◌++◌, take, length, slice_index, Option, None, Some, Result, Ok, Err, replied, nil_from_length, refl, sym, ap, subst, ◌∙◌, arith, inl, inr, IsUtf8, encode_utf8, State}
use Rattle.std.proofs.lemmas.List.{take_all, drop_all}
use Rattle.std.proofs.lemmas.Str.{IsUtf8-from_ascii, chars-IsAscii, chars-nil, chars_past_char, utf8_valid_len-IsUtf8}
use Rattle.std.proofs.lemmas.Str.Ascii.{IsAscii-cons, IsAscii-nil}
use Rattle.std.specs.Str.{chars}
use Rattle.std.specs.Str.Lossy.{utf8_error_len, utf8_valid_len}
use Rattle.rl_session.specs.Performing.{Calls, Performed, call, no_call}
use Rattle.rl_session.specs.Typing.{Types, TypesBytes, fault_after, fault_in, nothing_typed, typed_more, typed_until, whole_chars}
use Rattle.rl_session.specs.declared.session.Command.TheVariants.{Insert}
use Rattle.rl_session.specs.declared.session.Fault.{Fault}
use Rattle.rl_session.specs.declared.session.Reply.TheVariants as says
use Rattle.rl_session.specs.declared.session.typing.Typed.{Typed}
use Rattle.rl_session.specs.declared.session.typing.TypeFault.{TypeFault}
use Rattle.rl_session.specs.declared.session.typing.TypeFault.TheVariants as why

error_len-nil : utf8_error_len [] ≡ None
unfolding utf8_error_len
error_len-nil = refl

-- bytes that are UTF-8 are whole
pub whole_front : (bytes : List ℕ) → IsUtf8 bytes → bytes ≡ take (utf8_valid_len bytes) bytes
whole_front bytes u = sym (take_all (utf8_valid_len bytes) bytes (omega (arith, utf8_valid_len-IsUtf8 bytes u)))

pub whole_faultless : (bytes : List ℕ) → IsUtf8 bytes → None ≡ fault_after bytes
whole_faultless bytes u =
    sym (ap (λ rest. fault_in (utf8_error_len rest)) (drop_all (utf8_valid_len bytes) bytes (omega (arith, utf8_valid_len-IsUtf8 bytes u))) ∙ ap fault_in error_len-nil)

types_ascii : (b : ℕ) (old new : State) (result : Result Typed TypeFault) → b < 128 → Types None (b ∷ []) nothing_typed old result new → TypesBytes (b ∷ []) old result new
types_ascii b old new result low types =
    let ascii = IsAscii-cons b [] low IsAscii-nil in
    let u = IsUtf8-from_ascii (b ∷ []) ascii in
    let whole : whole_chars (b ∷ []) ≡ b ∷ [] = ap chars (sym (whole_front (b ∷ []) u)) ∙ chars-IsAscii (b ∷ []) ascii in
    subst (λ cs. Types (fault_after (b ∷ [])) cs nothing_typed old result new) (sym whole)
    (subst (λ fault. Types fault (b ∷ []) nothing_typed old result new) (whole_faultless (b ∷ []) u) types)

-- a single byte that is ASCII
pub types_byte : (bytes : List ℕ) (b : ℕ) (old new : State) (result : Result Typed TypeFault) → 0 < length bytes → length bytes < 2 → b ≡ slice_index bytes 0 → b < 128
    → Types None (b ∷ []) nothing_typed old result new → TypesBytes bytes old result new
types_byte [] b old new result some short is low types = absurd (omega arith)
types_byte (x ∷ []) b old new result some short is low types = subst (λ x. TypesBytes (x ∷ []) old result new) is (types_ascii b old new result low types)
types_byte (x ∷ y ∷ more) b old new result some short is low types = absurd (omega arith)

-- ---- the characters of a text, one after another
module _ (fault : Option TypeFault) (text : List ℕ) (typed : Typed) (old : State) (result : Result Typed TypeFault) where
  pub types_none : length text ≡ 0 → result ≡ typed_until typed fault → Types fault (chars text) typed old result old
  types_none none is = subst (λ cs. Types fault cs typed old result old) (sym (ap chars (nil_from_length text none) ∙ chars-nil)) (is, refl)

  module _ (rest : List ℕ) (c : ℕ) (new : State) (u : IsUtf8 text) (begins : text ≡ encode_utf8 c ++ rest) where
    pub types_more : (done : Result (Option Bool) Fault) (at_end : Option Bool) (more : Typed) (mid : State) → Performed old (Insert c 1) (replied says.Inserted done) mid
        → done ≡ Ok at_end → more ≡ typed_more typed c at_end → Types fault (chars rest) more mid result new → Types fault (chars text) typed old result new
    types_more done at_end more mid performed ok is types =
        subst (λ cs. Types fault cs typed old result new) (sym (chars_past_char text rest c u begins))
        (inr (at_end, mid, subst (λ r. Performed old (Insert c 1) (replied says.Inserted r) mid) ok performed, subst (λ t. Types fault (chars rest) t mid result new) is types))

    pub types_refused : (done : Result (Option Bool) Fault) (refusal : Fault) → Performed old (Insert c 1) (replied says.Inserted done) new
        → done ≡ Err refusal → result ≡ typed_until typed (Some (why.Refused refusal)) → Types fault (chars text) typed old result new
    types_refused done refusal performed err is =
        subst (λ cs. Types fault cs typed old result new) (sym (chars_past_char text rest c u begins))
        (inl (refusal, subst (λ r. Performed old (Insert c 1) (replied says.Inserted r) new) err performed, is))

-- typing is a run of calls
types_calls : (fault : Option TypeFault) (cs : List ℕ) (typed : Typed) (old new : State) (result : Result Typed TypeFault) → Types fault cs typed old result new → Calls old new
types_calls fault [] typed old new result t = subst (λ s. Calls old s) (sym t.1) no_call
types_calls fault (c ∷ cs) typed old new result (inl stops) = call (Insert c 1) (says.Refused stops.0) stops.1 no_call
types_calls fault (c ∷ cs) typed old new result (inr goes) = call (Insert c 1) (says.Inserted goes.0) goes.2 (types_calls fault cs _ goes.1 new result goes.3)

pub typing_calls : (bytes : List ℕ) (old new : State) (result : Result Typed TypeFault) → TypesBytes bytes old result new → Calls old new
typing_calls bytes old new result t = types_calls (fault_after bytes) (whole_chars bytes) nothing_typed old new result t
