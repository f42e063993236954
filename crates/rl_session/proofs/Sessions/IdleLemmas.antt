-- No kill is on between the commands of a session: only a kill tells its start, and it tells its end too.
use Rattle.rl_session.proofs.Common.{sym, cond_both, ◌≡◌, ℕ, ◌+◌, ◌-◌, ◌*◌, ◌==◌, ◌||◌, Bool, true, false, List, [], ◌∷◌, ◌++◌, length, Option, Some, None, ap, subst, ◌∙◌, inl, inr, remove_range, Range, Event, InsertChar, InsertStr, Replace, IsChange, Ring, after_deletion, popped_ring, ring_step, turned, yank_popped, yank_size, yanked, Direction, Refusal, Movement, insert_plan, too_long, yank_plan, yank_pop_plan, indent_plan, line_plan, lines_plan, parts, pushed, put_spaces, Told, kill_plan, removal, side_of, WordAction, edit_word_plan, respell, word_ahead, Line, stepped, Plan, listener_after, lent_plan, popped_plan, Taken, Done, Halted, or_no_memory, room_by_step, Outcome, listener_after_step, Result, Ok, Err, refl, Entry, Begin, End, Changed, cursor_after, steps_ahead, are_two, first_word, pulled_back, second_word, transpose_chars_plan, transpose_words_plan, pair_step, pair_refused, Pair, arith}
use Rattle.rl_base.specs.Event.{Delete}
use Rattle.rl_base.specs.KillRing.{KeepsText, lent, yank}
use Rattle.rl_line.specs.Plan.{Step}
use Rattle.rl_line.specs.Ranges.{killed}
use Rattle.rl_line.proofs.Plans.HearingLemmas.{AreChanges}
use Rattle.rl_session.proofs.Sessions.PairLemmas.{listener_after-ring}

-- each step changes the text, so none tells the start of a kill
abbrev pub NoneStarts : List Step → Type 0
NoneStarts steps = AreChanges steps

pub NoneStarts-first : (first : List Step) (next : Step) (others : List Step) → NoneStarts (first ++ next ∷ others) → NoneStarts first × IsChange next.0
NoneStarts-first [] next others n = (tt, n.0)
NoneStarts-first (s ∷ ss) next others n = let rest = NoneStarts-first ss next others n.1 in ((n.0, rest.0), rest.1)

-- ---- what a ring keeps at each change, it keeps over an edit
module _ (Keeps : Ring → Type 0) (heard : (event : Event) (r : Ring) → IsChange event → Keeps r → Keeps (ring_step r event)) where
  ring-steps : (cursor : ℕ) (steps : List Step) (r : Ring) → NoneStarts steps → Keeps r → Keeps (listener_after ring_step cursor steps r)
  ring-steps cursor [] r n h = h
  ring-steps cursor (s ∷ ss) r n h = ring-steps s.1 ss (ring_step r s.0) n.1 (heard s.0 r n.0 h)

  ring-taken : (cursor : ℕ) (steps : List Step) (p q : Pair) → q ≡ listener_after pair_step cursor steps p → NoneStarts steps → Keeps p.ring → Keeps q.ring
  ring-taken cursor steps p q e n h =
      subst Keeps (sym (ap (λ (k : Pair). k.ring) e ∙ listener_after-ring cursor steps p)) (ring-steps cursor steps p.ring n h)

  pub ring-Done : {A : Type 0} (plan : Plan A) (old new : Line) (p q : Pair) (a : A) → NoneStarts plan.steps → Done pair_step plan old new p q a → Keeps p.ring → Keeps q.ring
  ring-Done plan old new p q a n d h = ring-taken old.cursor plan.steps p q d.taken.listener n h

  -- a refused event leaves the ring, or the ring heard it
  ring-cause : (p q : Pair) (e : Event) (w : Refusal) → IsChange e → Keeps p.ring → or_no_memory pair_refused p e w q → Keeps q.ring
  ring-cause p q e w n h (inl same) = subst (λ (k : Pair). Keeps k.ring) (sym same.1) h
  ring-cause p q e w n h (inr c) = elim c.3 [ inl same ↦ subst Keeps (sym same.0) h | inr step ↦ subst Keeps (sym step.0) (heard e p.ring n h) ]

  pub ring-Halted : {A : Type 0} (plan : Plan A) (old new : Line) (p q : Pair) (w : Refusal) → NoneStarts plan.steps
      → Halted pair_step (or_no_memory pair_refused) plan old new p q w → Keeps p.ring → Keeps q.ring
  ring-Halted plan old new p q w n d h =
      let parts = NoneStarts-first d.first d.next d.others (subst NoneStarts d.split n) in
      ring-cause d.middle q d.next.0 w parts.1 (ring-taken old.cursor d.first p d.middle d.taken.listener parts.0 h) d.cause

-- ---- a ring that hears of no start
abbrev pub IsIdle : Ring → Type 0
IsIdle r = r.killing ≡ false

-- it stays as it is at each change
pub idle-stays : (event : Event) (r : Ring) → IsChange event → IsIdle r → ring_step r event ≡ r
idle-stays (InsertChar i c) r n h = refl
idle-stays (InsertStr i s) r n h = refl
idle-stays (Delete i s side) r n h = ap (λ b. after_deletion b s side r) h
idle-stays (Replace i s t) r n h = refl
idle-stays _ r n h = absurd n

pub idle-step : (event : Event) (r : Ring) → IsChange event → IsIdle r → IsIdle (ring_step r event)
idle-step event r n h = ap (λ (k : Ring). k.killing) (idle-stays event r n h) ∙ h

-- and it needs no room
idle-keeps : (event : Event) (r : Ring) → IsIdle r → ¬ (KeepsText r event)
idle-keeps (Delete i s side) r h k = cc
idle-keeps _ r h k = absurd k

-- ---- an edit that a pair heard with an idle ring is one that it hears with another such ring
module _ (r : Ring) (idle : IsIdle r) where
  abbrev beside : Pair → Pair
  beside p = record p { ring = r }

  listener_after-beside : (cursor : ℕ) (steps : List Step) (p : Pair) → NoneStarts steps → listener_after pair_step cursor steps (beside p) ≡ beside (listener_after pair_step cursor steps p)
  listener_after-beside cursor [] p n = refl
  listener_after-beside cursor (s ∷ ss) p n =
      let after = listener_after_step pair_step cursor s p in
      ap (λ k. listener_after pair_step s.1 ss (record after { ring = k })) (idle-stays s.0 r n.0 idle) ∙ listener_after-beside s.1 ss after n.1

  Taken-beside : (steps : List Step) (old new : Line) (p q : Pair) → NoneStarts steps → Taken pair_step steps old new p q → Taken pair_step steps old new (beside p) (beside q)
  Taken-beside steps old new p q n t = record { line = t.line; listener = ap beside t.listener ∙ sym (listener_after-beside old.cursor steps p n) }

  cause-beside : (p q : Pair) (e : Event) (w : Refusal) → IsChange e → IsIdle p.ring → or_no_memory pair_refused p e w q → or_no_memory pair_refused (beside p) e w (beside q)
  cause-beside p q e w n h (inl c) = inl (c.0, ap beside c.1, c.2)
  cause-beside p q e w n h (inr c) =
      inr (c.0, c.1, c.2, elim c.3 [ inl k ↦ absurd (idle-keeps e p.ring h k.1) | inr k ↦ inr (sym (idle-stays e r n idle), k.1) ])

  pub Outcome-beside : {A : Type 0} (plan : Plan A) (old new : Line) (p q : Pair) (result : Result A Refusal) → NoneStarts plan.steps → IsIdle p.ring
      → Outcome pair_step pair_refused room_by_step plan old new p q result → Outcome pair_step pair_refused room_by_step plan old new (beside p) (beside q) result
  Outcome-beside plan old new p q (Ok a) n h d = record { last = d.last; taken = Taken-beside plan.steps old d.last p q n d.taken; line = d.line; answered = d.answered }
  Outcome-beside plan old new p q (Err w) n h d =
      let parts = NoneStarts-first d.first d.next d.others (subst NoneStarts d.split n) in
      let still = ring-taken IsIdle idle-step old.cursor d.first p d.middle d.taken.listener parts.0 h in
      record {
        first = d.first;
        next = d.next;
        others = d.others;
        split = d.split;
        middle = beside d.middle;
        taken = Taken-beside d.first old new p d.middle parts.0 d.taken;
        cause = cause-beside d.middle q d.next.0 w parts.1 still d.cause;
      }

-- the end of a kill was told, whatever was heard in it
pub idle-Told : (b : Bool) (P : Pair → Pair → Type 0) (p q : Pair) → (P p q → q.ring.killing ≡ false) → Told pair_step b P p q → q.ring.killing ≡ false
idle-Told true P p q alone t = alone t
idle-Told false P p q alone t = ap (λ (k : Pair). k.ring.killing) t.ended

-- a ring that lends a text stays idle
idle-lent : (slot : Option (List ℕ)) (r : Ring) → r.killing ≡ false → (lent slot r).killing ≡ false
idle-lent None r h = h
idle-lent (Some text) r h = h

pub idle-yanked : (r now : Ring) → now ≡ yanked r → r.killing ≡ false → now.killing ≡ false
idle-yanked r now e h = ap (λ (k : Ring). k.killing) e ∙ idle-lent (yank r) r h

idle-popped_ring : (size : Option ℕ) (r : Ring) → r.killing ≡ false → (popped_ring size r).killing ≡ false
idle-popped_ring None r h = h
idle-popped_ring (Some size) r h = idle-lent (yank (turned r)) (turned r) h

pub idle-popped : (r now : Ring) → now ≡ yank_popped r → r.killing ≡ false → now.killing ≡ false
idle-popped r now e h = ap (λ (k : Ring). k.killing) e ∙ idle-popped_ring (yank_size r) r h

-- ---- no plan tells the start of a kill: each step is a change
pub NoneStarts-insert : (line : Line) (c n : ℕ) → NoneStarts (insert_plan line c n).steps
NoneStarts-insert line c n = grind (arith, cond_both)

pub NoneStarts-yank : (line : Line) (s : List ℕ) (n : ℕ) → NoneStarts (yank_plan line s n).steps
NoneStarts-yank line s n =
    cond_both ((length s == 0) || too_long line (length line.text + length s * n)) _ _ (λ (p : Plan (Option Bool)). NoneStarts p.steps) (λ e. tt) (λ e. (tt, tt))

pub NoneStarts-yank_pop : (line : Line) (z : ℕ) (s : List ℕ) → NoneStarts (yank_pop_plan line z s).steps
NoneStarts-yank_pop line z s = (tt, NoneStarts-yank (stepped line (remove_range line.text (line.cursor - z) line.cursor) (line.cursor - z)) s 1)

pub NoneStarts-lent : (line : Line) (slot : Option (List ℕ)) (n : ℕ) → NoneStarts (lent_plan line slot n).steps
NoneStarts-lent line None n = tt
NoneStarts-lent line (Some s) n = NoneStarts-yank line s n

pub NoneStarts-popped : (line : Line) (slot : Option (ℕ × List ℕ)) → NoneStarts (popped_plan line slot).steps
NoneStarts-popped line None = tt
NoneStarts-popped line (Some p) = NoneStarts-yank_pop line p.0 p.1

pub NoneStarts-removal : (line : Line) (range : Option (Range ℕ)) (side : Direction) → NoneStarts (removal line range side).steps
NoneStarts-removal line None side = tt
NoneStarts-removal line (Some range) side = (tt, tt)

pub NoneStarts-kill : (line : Line) (m : Movement) → NoneStarts (kill_plan line m).steps
NoneStarts-kill line m = NoneStarts-removal line (killed line m) (side_of line m)

NoneStarts-pulled_back : (line : Line) (around : Option (ℕ × Range ℕ)) → NoneStarts (pulled_back line around).steps
NoneStarts-pulled_back line None = tt
NoneStarts-pulled_back line (Some p) = (tt, (tt, tt))

pub NoneStarts-transpose_chars : (line : Line) → NoneStarts (transpose_chars_plan line).steps
NoneStarts-transpose_chars line = NoneStarts-pulled_back line _

pub NoneStarts-transpose_words : (line : Line) (n : ℕ) → NoneStarts (transpose_words_plan line n).steps
NoneStarts-transpose_words line n =
    cond_both (are_two (first_word line n) (second_word line n)) _ _ (λ (p : Plan Bool). NoneStarts p.steps) (λ e. (tt, (tt, (tt, (tt, tt))))) (λ e. tt)

NoneStarts-respell : (line : Line) (action : WordAction) (word : Option (Range ℕ)) → NoneStarts (respell line action word).steps
NoneStarts-respell line action None = tt
NoneStarts-respell line action (Some word) = (tt, (tt, tt))

pub NoneStarts-edit_word : (line : Line) (action : WordAction) → NoneStarts (edit_word_plan line action).steps
NoneStarts-edit_word line action = NoneStarts-respell line action (word_ahead line)

NoneStarts-append : (ss ts : List Step) → NoneStarts ss → NoneStarts ts → NoneStarts (ss ++ ts)
NoneStarts-append [] ts n m = m
NoneStarts-append (s ∷ ss) ts n m = (n.0, NoneStarts-append ss ts n.1 m)

NoneStarts-put_spaces : (sizes : List ℕ) (i cursor : ℕ) → NoneStarts (put_spaces sizes i cursor)
NoneStarts-put_spaces [] i cursor = tt
NoneStarts-put_spaces (n ∷ more) i cursor = (tt, NoneStarts-put_spaces more i (pushed i n cursor))

NoneStarts-line : (dedent : Bool) (n : ℕ) (text : List ℕ) (i cursor : ℕ) → NoneStarts (line_plan dedent n text i cursor).steps
NoneStarts-line false n text i cursor = NoneStarts-put_spaces (parts n) i cursor
NoneStarts-line true n text i cursor = (tt, tt)

NoneStarts-lines : (dedent : Bool) (n : ℕ) (texts : List (List ℕ)) (i cursor : ℕ) → NoneStarts (lines_plan dedent n texts i cursor).steps
NoneStarts-lines dedent n [] i cursor = tt
NoneStarts-lines dedent n (text ∷ more) i cursor =
    let one = line_plan dedent n text i cursor in
    NoneStarts-append one.steps _ (NoneStarts-line dedent n text i cursor) (NoneStarts-lines dedent n more (one.answer + 1) one.cursor)

pub NoneStarts-indent : (line : Line) (m : Movement) (n : ℕ) (dedent : Bool) → NoneStarts (indent_plan line m n dedent).steps
NoneStarts-indent line m n dedent = NoneStarts-lines dedent n _ _ _

pub NoneStarts-ahead : (es : List Entry) (cursor : ℕ) → NoneStarts (steps_ahead cursor es)
NoneStarts-ahead [] cursor = tt
NoneStarts-ahead (Begin ∷ es) cursor = NoneStarts-ahead es cursor
NoneStarts-ahead (End ∷ es) cursor = NoneStarts-ahead es cursor
NoneStarts-ahead (Changed kind swap ∷ es) cursor = (tt, NoneStarts-ahead es (cursor_after cursor (Changed kind swap)))
