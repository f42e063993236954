-- What holds whatever a call answered.
use Rattle.rl_session.proofs.Common.{OnOk, IfErr, ToldOutcome, Outcome, Entry, ◌∷◌, event_of, inverse, line_after, map, reverse, stepped, Cut, replay_entries, Bool, false, true, inr, List, [], Result, Ok, Err, ◌≡◌, ◌∙◌, ap, arith, refl, subst, sym, append-nil, inl, ◌≤◌, ℕ, length, take_all, IsCharBoundary-start, IsUtf8-nil, Option, None, max, IsSome, Some, IsUtf8, Event, Start, Stop, Refusal, Line, Moved, Plan, Done, Halted, or_no_memory, Takes, nothing_more, a_copy, insert_str_plan, Told, Record, agree, replays_to, unwind, AtRest, Follows, pair_step, pair_refused, Pair, IsCharBoundary, Walks, line_back, bytes_eq-Decides, same_Some}
use Rattle.rl_base.proofs.Ring.BoundLemmas.{killing-within}
use Rattle.rl_base.proofs.Texts.EventLemmas.{apply-InsertStr}
use Rattle.rl_record.proofs.Records.JoinLemmas.{record_step-Start, record_step-Stop}
use Rattle.rl_line.specs.Plan.{Step, after}
use Rattle.rl_record.specs.Undo.{Abandoned, Redone, Undone}
use Rattle.rl_record.specs.Units.{last_of, open_group, redo_of}
use Rattle.rl_line.proofs.Plans.PlanLemmas.{Fits-from, first_step}
use Rattle.rl_record.proofs.Records.ForgettingLemmas.{Walks-forgotten}
use Rattle.rl_line.proofs.Lines.LineReadLemmas.{range-before, range-some}
use Rattle.rl_session.proofs.Sessions.IdleLemmas.{NoneStarts, NoneStarts-edit_word, NoneStarts-insert, NoneStarts-kill, NoneStarts-removal, NoneStarts-transpose_chars, NoneStarts-yank, IsIdle, idle-step, idle-Told, ring-Done, ring-Halted}
use Rattle.rl_session.proofs.Sessions.PairLemmas.{Halted-own, Done-changes, Halted-changes, keeps_changes}
use Rattle.rl_line.proofs.Changes.InverseLemmas.{through, value_of}
use Rattle.rl_line.proofs.Changes.BackLemmas.{line_ahead-back, line_ahead-replay, line_back-unwind}
use Rattle.rl_record.proofs.Records.UnitingLemmas.{Walks-parted, Walks-united}
use Rattle.rl_record.proofs.Records.WaitingLemmas.{Walks-dropped, Walks-opened}
use Rattle.rl_record.proofs.Records.WalkLemmas.{Walks-truncated, Walks-Done, Walks-Halted, Walks-ahead, Walks-back, Walks-begun, Walks-closed, Walks-reopened}
use Rattle.rl_record.proofs.Records.RoundLemmas.{Walks-kept}

-- a text that goes into an empty line
pub put_first : {L : Type 0} (step : L → Event → L) (line new : Line) (limit : ℕ) (text : List ℕ) (b n : L) (a : Bool) → IsUtf8 text
    → line ≡ record { text = []; cursor = 0; limit = limit; grow = false } → Done step (insert_str_plan line 0 text) line new b n a
    → new ≡ record { text = text; cursor = 0; limit = max limit (length text); grow = false }
put_first step line new limit text b n a u e d = grind (arith, apply-InsertStr, IsCharBoundary-start, IsUtf8-nil, append-nil, first_step, same_Some)

Walks-Moved : (place : Option ℕ) (r : Record) (old new : Line) (a : Bool) → Moved place old new a → Walks r old.text → Walks r new.text
Walks-Moved None r old new a m w = subst (λ (l : Line). Walks r l.text) (sym m.1) w
Walks-Moved (Some place) r old new a m w = subst (λ (l : Line). Walks r l.text) (sym m.1) w

keeps : (m : Record) (e : Event) (w : Refusal) (k : Record) → keeps_changes m e w k → k ≡ m
keeps m e w k h = h

-- an edit of a line that a pair hears: the record leads to the text again
Walks-pair : {A : Type 0} (plan : Plan A) (p q : Pair) (old new : Line) (a : A) → IsCharBoundary old.text old.cursor → Done pair_step plan old new p q a → Walks p.changes old.text → Walks q.changes new.text
Walks-pair plan p q old new a at d = Walks-Done plan p.changes q.changes old new a at (Done-changes plan old new p q a d)

Walks-refused : {A : Type 0} (plan : Plan A) (p q : Pair) (old new : Line) (w : Refusal) → IsCharBoundary old.text old.cursor → Halted pair_step (or_no_memory pair_refused) plan old new p q w
    → Walks p.changes old.text → Walks q.changes new.text
Walks-refused plan p q old new w at h = Walks-Halted keeps_changes plan p.changes q.changes old new w keeps at (Halted-changes plan old new p q w h)

-- ---- whether the line may grow, which nothing changes
grow-after : (ss : List Step) (old new : Line) → after ss old ≡ Some new → new.grow ≡ old.grow
grow-after [] old new h = let same : new ≡ old = cc in ap (λ (l : Line). l.grow) same
grow-after (s ∷ ss) old new h = let b = first_step s ss old new h in grow-after ss (stepped old b.text s.1) new b.rest

grow-Done : {A : Type 0} (plan : Plan A) (p q : Pair) (old new : Line) (a : A) → Done pair_step plan old new p q a → new.grow ≡ old.grow
grow-Done plan p q old new a d = ap (λ (l : Line). l.grow) d.line ∙ grow-after plan.steps old d.last d.taken.line

grow-Halted : {A : Type 0} (plan : Plan A) (p q : Pair) (old new : Line) (w : Refusal) → Halted pair_step (or_no_memory pair_refused) plan old new p q w → new.grow ≡ old.grow
grow-Halted plan p q old new w h = grow-after h.first old new h.taken.line

grow-Moved : (place : Option ℕ) (old new : Line) (a : Bool) → Moved place old new a → new.grow ≡ old.grow
grow-Moved None old new a m = ap (λ (l : Line). l.grow) m.1
grow-Moved (Some place) old new a m = ap (λ (l : Line). l.grow) m.1

grow-Told : (b : Bool) (P : Pair → Pair → Type 0) (p q : Pair) (old new : Line) → ((before now : Pair) → P before now → new.grow ≡ old.grow) → Told pair_step b P p q → new.grow ≡ old.grow
grow-Told true P p q old new same t = same p q t
grow-Told false P p q old new same t = same (pair_step p Start) t.last t.inside

grow-back : (es : List Entry) (old new : Line) → line_back es old ≡ Some new → new.grow ≡ old.grow
grow-back [] old new h = let same : new ≡ old = cc in ap (λ (l : Line). l.grow) same
grow-back (e ∷ es) old new h =
    let p = through (line_after (inverse e)) (line_back es old) new h in
    ap (λ (l : Line). l.grow) (Fits-from (event_of (inverse e)) _ p.0 new p.2).is ∙ grow-back es old p.0 p.1

pub grow-Undone : (n : ℕ) (r now : Record) (old new : Line) (a : Bool) → Undone n r now old new a → new.grow ≡ old.grow
grow-Undone n r now old new a d = grow-back (last_of n r.recorded) old new d.line_is

pub grow-Abandoned : (r now : Record) (old new : Line) (a : Bool) → Abandoned r now old new a → new.grow ≡ old.grow
grow-Abandoned r now old new a d = grow-back (open_group r.recorded) old new d.line_is

pub grow-Redone : (r now : Record) (old new : Line) (a : Bool) → Redone r now old new a → new.grow ≡ old.grow
grow-Redone r now old new a d =
    let unit = redo_of r.pending in
    grow-back (map inverse (reverse unit)) old new (line_ahead-back unit old ∙ d.line_is)

-- ---- the session's invariant
pub AtRest-Moved : (place : Option ℕ) (p : Pair) (old new : Line) (a : Bool) → Moved place old new a → AtRest old p → AtRest new p
AtRest-Moved place p old new a m h = record { walks = Walks-Moved place p.changes old new a m h.walks; idle = h.idle; grows_not = grow-Moved place old new a m ∙ h.grows_not }

AtRest-pair : {A : Type 0} (plan : Plan A) (p q : Pair) (old new : Line) (a : A) → IsCharBoundary old.text old.cursor → NoneStarts plan.steps → Done pair_step plan old new p q a
    → AtRest old p → AtRest new q
AtRest-pair plan p q old new a at none d h = record {
  walks = Walks-pair plan p q old new a at d h.walks;
  idle = ring-Done IsIdle idle-step plan old new p q a none d h.idle;
  grows_not = grow-Done plan p q old new a d ∙ h.grows_not;
}

AtRest-refused : {A : Type 0} (plan : Plan A) (p q : Pair) (old new : Line) (w : Refusal) → IsCharBoundary old.text old.cursor → NoneStarts plan.steps → Halted pair_step (or_no_memory pair_refused) plan old new p q w
    → AtRest old p → AtRest new q
AtRest-refused plan p q old new w at none d h = record {
  walks = Walks-refused plan p q old new w at d h.walks;
  idle = ring-Halted IsIdle idle-step plan old new p q w none d h.idle;
  grows_not = grow-Halted plan p q old new w d ∙ h.grows_not;
}

-- an edit, which may copy what it moves
AtRest-same : (p q : Pair) (old new : Line) → new ≡ old → q ≡ p → AtRest old p → AtRest new q
AtRest-same p q old new e f h = subst (λ k. AtRest new k) (sym f) (subst (λ l. AtRest l p) (sym e) h)

AtRest-stopped : {A : Type 0} (takes : Takes) (plan : Plan A) (p q : Pair) (old new : Line) (w : Refusal) → IsCharBoundary old.text old.cursor → NoneStarts plan.steps → Cut pair_step pair_refused takes plan old new p q w
    → AtRest old p → AtRest new q
AtRest-stopped a_copy plan p q old new w at none (inr u) = AtRest-same p q old new u.1 u.2
AtRest-stopped a_copy plan p q old new w at none (inl h) = AtRest-refused plan p q old new w at none (Halted-own a_copy plan old new p q w h)
AtRest-stopped takes plan p q old new w at none h = AtRest-refused plan p q old new w at none (Halted-own takes plan old new p q w h)

pub AtRest-edit : {A : Type 0} (takes : Takes) (plan : Plan A) (p q : Pair) (old new : Line) (result : Result A Refusal) → IsCharBoundary old.text old.cursor → NoneStarts plan.steps
    → Outcome pair_step pair_refused takes plan old new p q result → AtRest old p → AtRest new q
AtRest-edit takes plan p q old new (Ok a) at none d = AtRest-pair plan p q old new a at none d
AtRest-edit takes plan p q old new (Err w) at none h = AtRest-stopped takes plan p q old new w at none h

-- the same in the forms that the search of the methods uses, which looks for what their first part says
pub AtRest-done : {A : Type 0} (plan : Plan A) (p q : Pair) (old new : Line) (a : A)
    → Done pair_step plan old new p q a → IsCharBoundary old.text old.cursor → NoneStarts plan.steps → AtRest old p
    → Done pair_step plan old new p q a × AtRest new q
AtRest-done plan p q old new a d at none h = (d, AtRest-pair plan p q old new a at none d h)

pub AtRest-halted : {A : Type 0} (plan : Plan A) (p q : Pair) (old new : Line) (w : Refusal)
    → Halted pair_step pair_refused plan old new p q w → IsCharBoundary old.text old.cursor → NoneStarts plan.steps → AtRest old p
    → Halted pair_step pair_refused plan old new p q w × AtRest new q
AtRest-halted plan p q old new w d at none h = (d, AtRest-refused plan p q old new w at none (Halted-own nothing_more plan old new p q w d) h)

pub AtRest-out_of_room : {A : Type 0} (plan : Plan A) (p q : Pair) (old new : Line) (w : Refusal)
    → Halted pair_step (or_no_memory pair_refused) plan old new p q w → IsCharBoundary old.text old.cursor → NoneStarts plan.steps → AtRest old p
    → Halted pair_step (or_no_memory pair_refused) plan old new p q w × AtRest new q
AtRest-out_of_room plan p q old new w d at none h = (d, AtRest-refused plan p q old new w at none d h)

-- the record hears nothing of the start and the end of a kill
pub past_telling : (P : Record → Record → Type 0) (before last now : Pair) → now ≡ pair_step last Stop → P (pair_step before Start).changes last.changes → P before.changes now.changes
past_telling P before last now e inside = grind (arith, record_step-Stop, record_step-Start)

Walks-Told : (b : Bool) (P : Pair → Pair → Type 0) (p q : Pair) (old new : Line)
    → ((before now : Pair) → P before now → Walks before.changes old.text → Walks now.changes new.text) → Told pair_step b P p q → Walks p.changes old.text → Walks q.changes new.text
Walks-Told true P p q old new keeps t = keeps p q t
Walks-Told false P p q old new keeps t =
    past_telling (λ r now. Walks r old.text → Walks now new.text) p t.last q t.ended (keeps (pair_step p Start) t.last t.inside)

pub AtRest-told : (b : Bool) (plan : Plan Bool) (p q : Pair) (old new : Line) (result : Result Bool Refusal) → IsCharBoundary old.text old.cursor → NoneStarts plan.steps
    → ToldOutcome pair_step pair_refused b plan old new p q result → AtRest old p → AtRest new q
AtRest-told b plan p q old new (Ok a) at none d r = record {
  walks = Walks-Told b _ p q old new (λ before now i. Walks-pair plan before now old new a at i) d r.walks;
  idle = idle-Told b _ p q (λ i. ring-Done IsIdle idle-step plan old new p q a none i r.idle) d;
  grows_not = grow-Told b _ p q old new (λ before now i. grow-Done plan before now old new a i) d ∙ r.grows_not;
}
AtRest-told b plan p q old new (Err w) at none h r = record {
  walks = Walks-Told b _ p q old new (λ before now i. Walks-refused plan before now old new w at (Halted-own nothing_more plan old new before now w i)) h r.walks;
  idle = idle-Told b _ p q (λ i. ring-Halted IsIdle idle-step plan old new p q w none (Halted-own nothing_more plan old new p q w i) r.idle) h;
  grows_not = grow-Told b _ p q old new (λ before now i. grow-Halted plan before now old new w (Halted-own nothing_more plan old new before now w i)) h ∙ r.grows_not;
}

-- all entries lead to the text
pub replays-all : (len : ℕ) (r : Record) (line : Line) → IsCharBoundary line.text line.cursor → length r.recorded ≤ len → Walks r line.text → replays_to len r line.text ≡ true
replays-all len r line at all w =
    let now = value_of (line_back r.recorded line) (Walks-back r line w at) in
    let back = line_back-unwind r.recorded line now.0 now.1 in
    ap (λ es. agree (unwind r.recorded line.text) (unwind es line.text)) (take_all len r.recorded all) ∙ ap (λ o. agree o o) back ∙ (bytes_eq-Decides now.0.text now.0.text).1 refl

-- a call of the record, after which it leads to the text still; or which may also have left it as it was
pub AtRest-changed : (line : Line) (p : Pair) (r now : Record) → now ≡ r → Walks r line.text → AtRest line p → AtRest line (record p { changes = now })
AtRest-changed line p r now e w h = record { walks = subst (λ (k : Record). Walks k line.text) (sym e) w; idle = h.idle; grows_not = h.grows_not }

pub AtRest-tried : (line : Line) (p : Pair) (r now : Record) (done : Bool) → (done ≡ true → now ≡ r) → (done ≡ false → now ≡ p.changes) → Walks r line.text → AtRest line p
    → AtRest line (record p { changes = now })
AtRest-tried line p r now true is _ w h = AtRest-changed line p r now (is refl) w h
AtRest-tried line p r now false _ is w h = AtRest-changed line p p.changes now (is refl) h.walks h

pub AtRest-kept : {A : Type 0} (P : Refusal → Type 0) (line : Line) (p : Pair) (r now : Record) (o : Result A Refusal) → OnOk o (now ≡ r) → IfErr o P → ((w : Refusal) → P w → now ≡ p.changes) → Walks r line.text
    → AtRest line p → AtRest line (record p { changes = now })
AtRest-kept P line p r now (Ok x) is _ _ w h = AtRest-changed line p r now is w h
AtRest-kept P line p r now (Err x) _ e same w h = AtRest-changed line p p.changes now (same x e) h.walks h

-- the line can go back then, and ahead
pub Follows-Walks : (r : Record) (line : Line) → IsCharBoundary line.text line.cursor → Walks r line.text → Follows line r
Follows-Walks r line at w = record { back = Walks-back r line w at; ahead = Walks-ahead r line w at }

-- so the recorded changes can be unwound
pub follows_unwind : (r : Record) (line : Line) → Follows line r → IsSome (unwind r.recorded line.text)
follows_unwind r line f = grind (arith, value_of, line_back-unwind)

-- and what was undone can be redone
pub follows_replay : (r : Record) (line : Line) → Follows line r → IsSome (replay_entries r.pending line.text)
follows_replay r line f = grind (arith, value_of, line_ahead-replay)

pub ruleset resting = (Walks-parted, Walks-united, Walks-kept, Walks-forgotten, killing-within, Walks-begun, Walks-closed, Walks-reopened, Walks-opened, Walks-dropped, Walks-truncated, replays-all)

pub ruleset places = (range-before, range-some)

pub ruleset edits = (AtRest-done, AtRest-halted, AtRest-out_of_room, NoneStarts-insert, NoneStarts-yank, NoneStarts-removal, NoneStarts-kill, NoneStarts-transpose_chars, NoneStarts-edit_word)
