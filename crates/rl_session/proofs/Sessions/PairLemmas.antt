-- What a pair of a ring and a record hears, as each of the two hears it, and the watch beside them.
use Rattle.rl_session.proofs.Common.{◌≡◌, ℕ, ◌∷◌, [], List, refl, ap, inl, inr, ◌∙◌, Event, ring_step, watch_step, Refusal, Line, Plan, listener_after, listener_after_step, Taken, Done, Halted, or_no_memory, Takes, room_by_step, refusal_of, Record, record_step, pair_step, pair_refused, Pair, rules}
use Rattle.rl_base.specs.declared.listeners.Refusal.TheVariants as why
use Rattle.rl_line.specs.Plan.{Step}
use Rattle.rl_line.proofs.Plans.PlanLemmas.{Halted-caused}

pub listener_after-changes : (cursor : ℕ) (steps : List Step) (p : Pair) → (listener_after pair_step cursor steps p).changes ≡ listener_after record_step cursor steps p.changes
listener_after-changes cursor [] p = refl
listener_after-changes cursor (s ∷ ss) p = listener_after-changes s.1 ss (listener_after_step pair_step cursor s p)

pub listener_after-ring : (cursor : ℕ) (steps : List Step) (p : Pair) → (listener_after pair_step cursor steps p).ring ≡ listener_after ring_step cursor steps p.ring
listener_after-ring cursor [] p = refl
listener_after-ring cursor (s ∷ ss) p = listener_after-ring s.1 ss (listener_after_step pair_step cursor s p)

pub listener_after-watch : (cursor : ℕ) (steps : List Step) (p : Pair) → (listener_after pair_step cursor steps p).watch ≡ listener_after watch_step cursor steps p.watch
listener_after-watch cursor [] p = refl
listener_after-watch cursor (s ∷ ss) p = listener_after-watch s.1 ss (listener_after_step pair_step cursor s p)

-- what a pair went through, its record went through
pub Taken-changes : (steps : List Step) (old new : Line) (p q : Pair) → Taken pair_step steps old new p q → Taken record_step steps old new p.changes q.changes
Taken-changes steps old new p q t = record { line = t.line; listener = ap (λ (k : Pair). k.changes) t.listener ∙ listener_after-changes old.cursor steps p }

pub Done-changes : {A : Type 0} (plan : Plan A) (old new : Line) (p q : Pair) (a : A) → Done pair_step plan old new p q a → Done record_step plan old new p.changes q.changes a
Done-changes plan old new p q a d = record { last = d.last; taken = Taken-changes plan.steps old d.last p q d.taken; line = d.line; answered = d.answered }

-- a refusal that leaves the record
abbrev pub keeps_changes : Record → Event → Refusal → Record → Type 0
keeps_changes r _ _ now = now ≡ r

-- whatever refused, a pair, or the line since memory is out: the record is as it was
pub cause-changes : (p q : Pair) (e : Event) (w : Refusal) → or_no_memory pair_refused p e w q → q.changes ≡ p.changes
cause-changes p q e w h = elim h [ inl c ↦ ap (λ (k : Pair). k.changes) c.1 | inr c ↦ c.1 ]

-- and so is the watch
pub cause-watch : (p q : Pair) (e : Event) (w : Refusal) → or_no_memory pair_refused p e w q → q.watch ≡ p.watch
cause-watch p q e w h = elim h [ inl c ↦ ap (λ (k : Pair). k.watch) c.1 | inr c ↦ c.2 ]

-- however the steps of an edit may be refused, it is since memory is out, or by the pair
pub own : (takes : Takes) (p q : Pair) (e : Event) (w : Refusal) → refusal_of pair_refused takes p e w q → or_no_memory pair_refused p e w q
own room_by_step p q e w h = h
own _ p q e w h = inr h

pub Halted-own : {A : Type 0} (takes : Takes) (plan : Plan A) (old new : Line) (p q : Pair) (w : Refusal) → Halted pair_step (refusal_of pair_refused takes) plan old new p q w
    → Halted pair_step (or_no_memory pair_refused) plan old new p q w
Halted-own takes plan old new p q w h =
    Halted-caused pair_step (refusal_of pair_refused takes) (or_no_memory pair_refused) plan old new p q w w h (own takes h.middle q h.next.0 w h.cause)

pub Halted-changes : {A : Type 0} (plan : Plan A) (old new : Line) (p q : Pair) (w : Refusal) → Halted pair_step (or_no_memory pair_refused) plan old new p q w
    → Halted record_step keeps_changes plan old new p.changes q.changes w
Halted-changes plan old new p q w h = search (rules, Taken-changes, cause-changes)

-- whichever refusal it was, memory is out
cause-memory : (takes : Takes) (p q : Pair) (e : Event) (w : Refusal) → refusal_of pair_refused takes p e w q → refusal_of pair_refused takes p e why.NoMemory q
cause-memory room_by_step p q e w h = elim h [ inl c ↦ inl (refl, c.1, c.2) | inr c ↦ inr (refl, c.1, c.2, c.3) ]
cause-memory _ p q e w h = (refl, h.1, h.2, h.3)

pub Halted-pair : {A : Type 0} (takes : Takes) (plan : Plan A) (old new : Line) (p q : Pair) (w : Refusal) → Halted pair_step (refusal_of pair_refused takes) plan old new p q w
    → Halted pair_step (refusal_of pair_refused takes) plan old new p q why.NoMemory
Halted-pair takes plan old new p q w h =
    Halted-caused pair_step (refusal_of pair_refused takes) (refusal_of pair_refused takes) plan old new p q w why.NoMemory h (cause-memory takes h.middle q h.next.0 w h.cause)
