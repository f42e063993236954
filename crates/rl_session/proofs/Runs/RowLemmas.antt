-- What each row of a session keeps, and how a run goes on.
use Rattle.rl_session.proofs.Common.{None, Some, Option, ap₂, cond_both, popped_ring, turned, yank_size, ring_step, Ring, Event, IsChange, Pair, Append, List, [], ◌∷◌, ◌++◌, ◌≡◌, ◌∙◌, ap, true, false, inl, inr, refl, subst, sym, append_assoc, map-append, ℕ, IsSome, IsUtf8, unwind, Command, Reply, State, Replays, origin, Start, Course, never, when, stays, goes, edits, lends, pops, tells, Came, popped, Effect, by_steps, takes_back, puts_again, Became, within_bound, no_bound, pair_step, Row, held, held_of, Leads, Run, AfterEach, commands_of, replies_of, steps_in, arith}
use Rattle.rl_base.proofs.Ring.BoundLemmas.{within-unbounded}
use Rattle.rl_base.proofs.Ring.KillGroupLemmas.{killed_as-lasts, lasts, lent-lasts, ring_step-lasts}
use Rattle.rl_base.specs.KillRing.{yank}
use Rattle.rl_base.specs.declared.kill_ring.NewKill.{NewKill}
use Rattle.rl_line.specs.Plan.{Step as PlanStep}
use Rattle.rl_record.proofs.Records.ForgettingLemmas.{fitting-stay}
use Rattle.rl_record.proofs.Records.RoundLemmas.{unwind-call}
use Rattle.rl_record.proofs.Records.MarkLemmas.{Kept-Redone}
use Rattle.rl_record.proofs.Records.OriginLemmas.{Kept, Kept-Taken, Kept-Undone}
use Rattle.rl_line.proofs.Changes.InverseLemmas.{unwind-replay, replay-unwind, replay-IsUtf8, value_of}
use Rattle.rl_session.specs.Commands.{stops, lent, Step, keeps, on_record, gives_up}
use Rattle.rl_session.proofs.Sessions.CommandLemmas.{Changes, EffectChanges, effect-changes}
use Rattle.rl_session.proofs.Sessions.CourseLemmas.{Heard, Heard-Came}
use Rattle.rl_session.proofs.Sessions.IdleLemmas.{ring-Done, ring-Halted}
use Rattle.rl_session.proofs.Sessions.PairLemmas.{Halted-own}
use Rattle.rl_session.specs.declared.options.Options.{Options}
use Rattle.rl_record.proofs.Records.AbandonLemmas.{Kept-Abandoned}

-- the record leads back to the same text
abbrev KeepsOrigin : State → State → Type 0
KeepsOrigin old new = Kept old.pair.changes new.pair.changes old.line new.line

Kept-Heard : (steps : List PlanStep) (old new : State) → IsUtf8 old.line.text → Heard steps old.line old.pair.changes new.line.text new.pair.changes → KeepsOrigin old new
Kept-Heard steps old new u h =
    let k = Kept-Taken steps old.pair.changes new.pair.changes old.line h.last u h.taken in
    record { origin_is = λ start e. ap (unwind new.pair.changes.recorded) h.text_is ∙ k.origin_is start e; utf8 = subst IsUtf8 (sym h.text_is) k.utf8 }

Kept-Became : (effect : Effect) (old new : State) → IsUtf8 old.line.text → Became effect old new → KeepsOrigin old new
Kept-Became (by_steps course) old new u d = Kept-Heard (steps_in course old new d) old new u (Heard-Came course old new d)
Kept-Became (keeps text) old new u d = subst (KeepsOrigin old) (sym d) (record { origin_is = λ start e. e; utf8 = u })
Kept-Became (on_record answered call) old new u d =
    subst (KeepsOrigin old) (sym d.1) (record { origin_is = λ start e. unwind-call call old.pair.changes old.line.text u d.0.1 ∙ e; utf8 = u })
Kept-Became (takes_back n a) old new u d = Kept-Undone _ old.pair.changes new.pair.changes old.line new.line a u d.0
Kept-Became (gives_up a) old new u d = Kept-Abandoned old.pair.changes new.pair.changes old.line new.line a u d.0
Kept-Became (puts_again a) old new u d = Kept-Redone old.pair.changes new.pair.changes old.line new.line a u d.0

-- each row keeps the text from which the record came: the ring's resets touch neither line nor record
Kept-Step : (old : State) (command : Command) (reply : Reply) (new : State) → Step old command reply new → IsUtf8 old.line.text → KeepsOrigin old new
Kept-Step old command reply new s u = grind (arith, Kept-Became)

-- so the origin stays, whatever the start was called
pub step_origin : (old : State) (command : Command) (reply : Reply) (new : State) → Step old command reply new → IsUtf8 old.line.text → IsSome (origin old) → origin new ≡ origin old
step_origin old command reply new s u f =
    let start = value_of (origin old) f in
    (Kept-Step old command reply new s u).origin_is start.0 start.1 ∙ sym start.1

-- so it keeps what the recorded changes lead to
pub step_replays : (start : List ℕ) (old : State) (command : Command) (reply : Reply) (new : State) → Step old command reply new → Replays start old → Replays start new
step_replays start old command reply new s h =
    let u = replay-IsUtf8 old.pair.changes.recorded start old.line.text h.is_text h.leads in
    let came = unwind-replay old.pair.changes.recorded start old.line.text h.is_text h.leads in
    let kept = Kept-Step old command reply new s u in
    record { is_text = h.is_text; leads = replay-unwind new.pair.changes.recorded new.line.text start kept.utf8 (kept.origin_is start came) }

-- ---- what no command changes: the options, how many texts the ring has room for, and where a new kill goes
abbrev lasting : State → Options × (ℕ × NewKill)
lasting s = (s.options, lasts s.pair.ring)

same-lasts : (k : ℕ × NewKill) (event : Event) (r : Ring) → IsChange event → lasts r ≡ k → lasts (ring_step r event) ≡ k
same-lasts k event r c h = ring_step-lasts r event ∙ h

popped-lasts : (o : Option ℕ) (r : Ring) → lasts (popped_ring o r) ≡ lasts r
popped-lasts None r = refl
popped-lasts (Some n) r = lent-lasts (yank (turned r)) (turned r)

Came-lasting : (course : Course) (old new : State) → Changes course → Came course old new → lasting new ≡ lasting old
Came-lasting never old new c d = absurd d
Came-lasting (when condition course) old new c d = Came-lasting course old new c d.1
Came-lasting stays old new c d = ap lasting d
Came-lasting (goes place a) old new c d = ap lasting d.1
Came-lasting (edits plan a) old new c d =
    let n = lasts old.pair.ring in
    ap₂ (λ (o : Options) (k : ℕ × NewKill). (o, k)) d.options (ring-Done (λ r. lasts r ≡ n) (same-lasts n) plan old.line new.line old.pair new.pair a c d.done refl)
Came-lasting (stops unbegun takes plan) old new c (inl e) = ap lasting e.1
Came-lasting (stops unbegun takes plan) old new c (inr cut) =
    let n = lasts old.pair.ring in
    let halted = Halted-own takes plan old.line new.line old.pair new.pair _ cut.halted in
    ap₂ (λ (o : Options) (k : ℕ × NewKill). (o, k)) cut.options (ring-Halted (λ r. lasts r ≡ n) (same-lasts n) plan old.line new.line old.pair new.pair _ c halted refl)
Came-lasting (lends course) old new c d = Came-lasting course (lent old) new c d ∙ ap (λ n. (old.options, n)) (lent-lasts (yank old.pair.ring) old.pair.ring)
Came-lasting (pops course) old new c d = Came-lasting course (popped old) new c d ∙ ap (λ n. (old.options, n)) (popped-lasts (yank_size old.pair.ring) old.pair.ring)
Came-lasting (tells true course) old new c d = Came-lasting course old new c d
Came-lasting (tells false course) old new c d =
    ap (λ (k : Pair). (new.options, lasts k.ring)) d.ended
    ∙ Came-lasting course (record old { pair = pair_step old.pair Start }) (record new { pair = d.last }) c d.inside

Became-lasting : (effect : Effect) (old new : State) → EffectChanges effect → Became effect old new → lasting new ≡ lasting old
Became-lasting (by_steps course) old new c d = Came-lasting course old new c d
Became-lasting (keeps text) old new c d =
    ap lasting d ∙ ap (λ n. (old.options, n)) (killed_as-lasts old.pair.ring.size old.pair.ring.last text Append old.pair.ring)
Became-lasting _ old new c d = ap lasting d.1

Step-lasting : (old new : State) (command : Command) (reply : Reply) → Step old command reply new → lasting new ≡ lasting old
Step-lasting old new command reply s = grind (arith, cond_both, Became-lasting, effect-changes)

pub Step-options : (old new : State) (command : Command) (reply : Reply) → Step old command reply new → new.options ≡ old.options
Step-options old new command reply s = ap (λ (p : Options × (ℕ × NewKill)). p.0) (Step-lasting old new command reply s)

pub Step-size : (old new : State) (command : Command) (reply : Reply) → Step old command reply new → new.pair.ring.size ≡ old.pair.ring.size
Step-size old new command reply s = ap (λ (p : Options × (ℕ × NewKill)). p.1.0) (Step-lasting old new command reply s)

pub Step-rule : (old new : State) (command : Command) (reply : Reply) → Step old command reply new → new.pair.ring.rule ≡ old.pair.ring.rule
Step-rule old new command reply s = ap (λ (p : Options × (ℕ × NewKill)). p.1.1) (Step-lasting old new command reply s)

-- with no bound among the options nothing is forgotten
pub within_bound-none : (s : State) → s.options.bound ≡ no_bound → within_bound s ≡ s
within_bound-none s none = grind (arith, fitting-stay, within-unbounded)

-- what a row keeps, rows keep
pub Leads-keeps : (Holds : State → Type 0) → ((row : Row) → Holds row.before → Holds row.after) → (rows : List Row) (old new : State) → Leads old rows new → Holds old → Holds new
Leads-keeps Holds next [] old new l k = subst Holds (sym l) k
Leads-keeps Holds next (row ∷ rows) old new l k = Leads-keeps Holds next rows row.after new l.1 (next row (subst Holds (sym l.0) k))

pub Leads-append : (xs ys : List Row) (old mid new : State) → Leads old xs mid → Leads mid ys new → Leads old (xs ++ ys) new
Leads-append [] ys old mid new l k = subst (λ s. Leads s ys new) l k
Leads-append (x ∷ xs) ys old mid new l k = (l.0, Leads-append xs ys x.after mid new l.1 k)

pub held_of-append : (xs ys : List Row) → held_of (xs ++ ys) ≡ held_of xs ++ held_of ys
held_of-append [] ys = refl
held_of-append (x ∷ xs) ys = ap (λ h. held x ++ h) (held_of-append xs ys) ∙ sym (append_assoc (held x) (held_of xs) (held_of ys))

-- two runs, one after the other, are one of the same rows, and hold their texts one after the other
pub Run-append : (old mid new : State) (cs ds : List Command) (rs ss : List Reply) (r : Run old cs rs mid) (s : Run mid ds ss new)
    → (t : Run old (cs ++ ds) (rs ++ ss) new) × (t.rows ≡ r.rows ++ s.rows) × (held_of t.rows ≡ held_of r.rows ++ held_of s.rows)
Run-append old mid new cs ds rs ss r s = (
  record {
    rows = r.rows ++ s.rows;
    leads = Leads-append r.rows s.rows old mid new r.leads s.leads;
    asked = map-append (λ (row : Row). row.command) r.rows s.rows ∙ ap (λ x. x ++ commands_of s.rows) r.asked ∙ ap (λ x. cs ++ x) s.asked;
    answered = map-append (λ (row : Row). row.reply) r.rows s.rows ∙ ap (λ x. x ++ replies_of s.rows) r.answered ∙ ap (λ x. rs ++ x) s.answered;
  },
  refl,
  held_of-append r.rows s.rows,
)

-- rows fall into two parts, with a state between
pub Leads-split : (xs ys : List Row) (old new : State) → Leads old (xs ++ ys) new → (mid : State) × Leads old xs mid × Leads mid ys new
Leads-split [] ys old new l = (old, refl, l)
Leads-split (x ∷ xs) ys old new l = let p = Leads-split xs ys x.after new l.1 in (p.0, (l.0, p.1), p.2)

-- so does a run
pub Run-parts : (old new : State) (cs : List Command) (rs : List Reply) (run : Run old cs rs new) (xs ys : List Row) → run.rows ≡ xs ++ ys
    → (mid : State) × (first : Run old (commands_of xs) (replies_of xs) mid) × (second : Run mid (commands_of ys) (replies_of ys) new) × (first.rows ≡ xs) × (second.rows ≡ ys)
Run-parts old new cs rs run xs ys e =
    let p = Leads-split xs ys old new (subst (λ rows. Leads old rows new) e run.leads) in (
      p.0,
      record { rows = xs; leads = p.1; asked = refl; answered = refl },
      record { rows = ys; leads = p.2; asked = refl; answered = refl },
      refl,
      refl,
    )

-- a row is a run
pub Run-row : (row : Row) → (t : Run row.before (row.command ∷ []) (row.reply ∷ []) row.after) × (t.rows ≡ row ∷ [])
Run-row row = (record { rows = row ∷ []; leads = (refl, refl); asked = refl; answered = refl }, refl)

-- a run, and then one row more
pub Run-more : (commands : List Command) (replies : List Reply) (command : Command) (reply : Reply) (old mid new : State)
    → Run old commands replies mid → Step mid command reply new → Run old (commands ++ command ∷ []) (replies ++ reply ∷ []) new
Run-more commands replies command reply old mid new run step =
    let row : Row = record { before = mid; command = command; reply = reply; after = new; step = step } in
    (Run-append old mid new commands (command ∷ []) replies (reply ∷ []) run (Run-row row).0).0

Leads-replays : (start : List ℕ) (rows : List Row) (old new : State) → Leads old rows new → Replays start old → AfterEach (Replays start) rows × Replays start new
Leads-replays start [] old new l h = (tt, subst (λ s. Replays start s) (sym l) h)
Leads-replays start (row ∷ rows) old new l h =
    let next = step_replays start row.before row.command row.reply row.after row.step (subst (λ s. Replays start s) (sym l.0) h) in
    let rest = Leads-replays start rows row.after new l.1 next in
    ((next, rest.0), rest.1)

pub each_row : (start : List ℕ) (old new : State) (commands : List Command) (replies : List Reply) (run : Run old commands replies new)
    → Replays start old → AfterEach (Replays start) run.rows
each_row start old new commands replies run h = (Leads-replays start run.rows old new run.leads h).0

pub run_replays : (start : List ℕ) (old new : State) (commands : List Command) (replies : List Reply) → Run old commands replies new → Replays start old → Replays start new
run_replays start old new commands replies run h = (Leads-replays start run.rows old new run.leads h).1
