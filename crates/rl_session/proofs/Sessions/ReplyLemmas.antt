-- What a command did, by what is replied to the outcome of its call.
use Rattle.std.specs.Prelude.{IsErrAnd, MatchResult}
use Rattle.rl_session.proofs.Common.{err_from_is_err_and, refl, Outcome, ToldOutcome, Bool, true, false, ◌≡◌, subst, Result, Ok, Err, ℕ, Option, Start, Refusal, Movement, room_by_step, Told, is_by_characters, kill_plan, Does, lent_plan, pair_step, pair_refused, Pair, replied, State, Kill, Yank, YankPop, Reply, ap, arith}
use Rattle.rl_base.specs.KillRing.{yank, yank_pop, yank_size}
use Rattle.rl_session.specs.Commands.{StandsYanked, lent, popped, popped_plan}
use Rattle.rl_session.specs.declared.session.Fault.{Fault}
use Rattle.rl_session.specs.declared.session.Fault.TheVariants.{NoMemory}
use Rattle.rl_session.specs.declared.session.Reply.TheVariants as says
use Rattle.rl_session.proofs.Sessions.PairLemmas.{Halted-pair}

-- the outcome of an edit as its command returns it
abbrev pub returned : {A : Type 0} → Result A Refusal → Result A Fault
returned (Ok answer) = Ok answer
returned (Err _) = Err NoMemory

pub told-returned : {A : Type 0} (tell : A → Reply) (outcome : Result A Refusal) (result : Result A Fault) → MatchResult outcome (λ x. result ≡ Ok x) (λ _. IsErrAnd result (λ w. w ≡ NoMemory))
    → replied tell result ≡ replied tell (returned outcome)
told-returned tell (Ok a) result h = ap (replied tell) h
told-returned tell (Err w) result h = let p = err_from_is_err_and result h in rw (p.1, p.2) refl

-- what holds of a kill, told or not, with what follows from it
Told-each : (b : Bool) (P Q : Pair → Pair → Type 0) (p q : Pair) → ((before now : Pair) → P before now → Q before now) → Told pair_step b P p q → Told pair_step b Q p q
Told-each true P Q p q f t = f p q t
Told-each false P Q p q f t = record { last = t.last; inside = f (pair_step p Start) t.last t.inside; ended = t.ended }

pub Kill-replied : (m : Movement) {inside old : State} (new : State) (outcome : Result Bool Refusal) → inside ≡ old → new.options ≡ inside.options
    → ToldOutcome pair_step pair_refused (is_by_characters m) (kill_plan inside.line m) inside.line new.line inside.pair new.pair outcome → Does old (Kill m) (replied says.Answer (returned outcome)) new
Kill-replied m {inside} new (Ok a) v options d = subst (λ s. Does s (Kill m) (says.Answer a) new) v (grind (arith, Told-each))
Kill-replied m {inside} new (Err w) v options h = subst (λ s. Does s (Kill m) (says.Refused NoMemory) new) v (grind (arith, Told-each, Halted-pair))

-- a yank, or one of the text before it, which the ring lent
pub Yank-replied : (n : ℕ) (inside old new : State) (outcome : Result (Option Bool) Refusal) {reply : Reply} → lent old ≡ inside → reply ≡ replied says.Inserted (returned outcome) → new.options ≡ inside.options
    → Outcome pair_step pair_refused room_by_step (lent_plan old.line (yank old.pair.ring) n) inside.line new.line inside.pair new.pair outcome → Does old (Yank n) reply new
Yank-replied n inside old new (Ok a) l e options d = grind (arith)
Yank-replied n inside old new (Err w) l e options h = grind (arith, Halted-pair)

pub Pop-replied : (inside old new : State) (outcome : Result (Option Bool) Refusal) {reply : Reply} → popped old ≡ inside → StandsYanked (yank_size old.pair.ring) old.line → reply ≡ replied says.Inserted (returned outcome)
    → new.options ≡ inside.options → Outcome pair_step pair_refused room_by_step (popped_plan inside.line (yank_pop old.pair.ring)) inside.line new.line inside.pair new.pair outcome → Does old YankPop reply new
Pop-replied inside old new (Ok a) l s e options d = grind (arith)
Pop-replied inside old new (Err w) l s e options h = grind (arith, Halted-pair)
