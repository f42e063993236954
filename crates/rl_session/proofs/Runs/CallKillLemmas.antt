-- Directed kills that are performed, each of which may forget texts of the ring: a yank gives back what they took too.
use Rattle.rl_session.proofs.Common.{take, ◌≡◌, ℕ, ◌+◌, ◌<◌, ◌≤◌, ◌⊎◌, inl, inr, zero, suc, Bool, true, false, cond, List, [], ◌∷◌, ◌++◌, length, Option, Some, None, refl, sym, ap, subst, ◌∙◌, arith, length-append, cond_both, same_Some, ◌==◌, slice_get, Ring, IsRing, killed_as, yanked, side_mode, Action, Forward, Backward, Line, State, Stands, is_vain_yank, lent_plan, IsNoKill, AnyTook, NoneRefused, GivenBack, IsDirectedKill, Command, Yank, Kill, KillRange, Reply, ap₂, reverse-append, ring_step, Event, IsChange, Record, WasRefused, ◌-◌, nat_le, nat_lt, reverse, within_bound}
use Rattle.rl_base.specs.KillRing.{yank, lent, back_from, behind, cut_to, fitting, left_with, newest_first, with_newest, within_bytes}
use Rattle.rl_base.specs.declared.kill_ring.Action.TheVariants as did
use Rattle.rl_base.specs.declared.kill_ring.Mode.{Mode}
use Rattle.rl_base.proofs.Texts.SwapLemmas.{Swaps-Delete}
use Rattle.rl_session.specs.Commands.{Step, lent as lent_state, with_changes}
use Rattle.rl_session.specs.declared.session.Command.TheVariants as asks
use Rattle.rl_session.specs.declared.session.Reply.TheVariants as says
use Rattle.rl_session.proofs.Runs.RowLemmas.{Step-options}
use Rattle.rl_base.proofs.Ring.SlotLemmas.{yank-back}
use Rattle.rl_session.specs.Performing.{AllKilled, Calls, Obeyed, call, no_call, replies_in, Performed, is_one_unit}
use Rattle.rl_session.specs.declared.options.Options.{Options}
use Rattle.std.proofs.lemmas.Bool.{le-leb, lt-ltb}
use Rattle.rl_base.proofs.Common.{cond-true, length-reverse, ◌^◌}
use Rattle.rl_session.proofs.Sessions.PerformLemmas.{uncounted}
use Rattle.rl_session.proofs.Sessions.IdleLemmas.{IsIdle, NoneStarts-lent, idle-stays, ring-Done}
use Rattle.rl_session.proofs.Runs.CallLemmas.{Calls-options, DoneAfter, Stands-changes, Stands-forgets, done_after, is_plain}
use Rattle.rl_session.proofs.Runs.KillRunLemmas.{get-after, Newest, Roomy, Roomy-Step, Outcome, Kill-outcome, Missing, Missing-directed, GivenBack-Yank, Missing-first, AnyTook-append}

-- a text that was just killed is in the newest slot
abbrev IsAtop : Ring → Type 0
IsAtop r = r.last ≡ did.Kill → r.index ≡ r.newest

atop-no_kill : (r : Ring) → IsNoKill r.last → IsAtop r
atop-no_kill r calm = λ e. absurd (subst IsNoKill e calm)

atop-killed : (size : ℕ) (last : Action) (text : List ℕ) (mode : Mode) (r : Ring) → 0 < size → (last ≡ did.Kill → r.index ≡ r.newest) → IsAtop (killed_as size last text mode r)
atop-killed zero last text mode r some h = absurd (omega arith)
atop-killed (suc n) did.Kill text mode r some h = λ e. h refl
atop-killed (suc n) _ text mode r some h = λ e. refl

atop-outcome : (a : Bool) (old new : State) → 0 < old.pair.ring.size → Outcome a old new → IsAtop old.pair.ring → IsAtop new.pair.ring
atop-outcome true old new some t h =
    subst IsAtop (sym t.ring_is) (atop-killed old.pair.ring.size old.pair.ring.last t.taken (side_mode t.side) (record old.pair.ring { killing = true }) some h)
atop-outcome false old new some t h = subst IsAtop (sym t.ring_is) h

-- a bound that has room for it leaves it there
within-cases : (P : Ring → Type 0) (bytes : ℕ) (r : Ring) → P r → P (with_newest (length (fitting bytes (newest_first r))) r) → P (within_bytes bytes r)
within-cases P bytes r stays left =
    cond_both (nat_le (2 ^ 64 - 1) bytes) r (cut_to bytes r) P (λ e. stays)
    (λ e. cond_both (length (fitting bytes (newest_first r)) == length r.slots) r (with_newest (length (fitting bytes (newest_first r))) r) P (λ e. stays) (λ e. left))

record StillNewest (slot : List ℕ) (r now : Ring) : Type 0 where
  slot_is : yank now ≡ Some slot
  atop : now.index ≡ now.newest
  last_is : now.last ≡ r.last

left-newest : (slot : List ℕ) (older : List (List ℕ)) (bytes : ℕ) (r : Ring) → length slot ≤ bytes → StillNewest slot r (left_with (take (length (fitting bytes (slot ∷ older))) (slot ∷ older)) 0 r)
left-newest slot older bytes r fits = by (nat_le (length slot) bytes) (le-leb (length slot) bytes fits)
  where
    by : (b : Bool) → b ≡ true → StillNewest slot r (left_with (take (length (cond b (slot ∷ fitting (bytes - length slot) older) [])) (slot ∷ older)) 0 r)
    by false is = cc
    by true is =
        let rest = take (length (fitting (bytes - length slot) older)) older in
        let all = slot ∷ rest in
        let kept : Ring = record r { slots = reverse all; index = length all - 1 - 0; newest = length all - 1 } in
        let at_end : length all - 1 - 0 ≡ length (reverse rest) = omega (arith, length-reverse rest) in
        let last : StillNewest slot r kept =
        record { slot_is = ap₂ slice_get (reverse-append (slot ∷ []) rest) at_end ∙ get-after (reverse rest) slot; atop = omega arith; last_is = refl } in
        subst (StillNewest slot r) (sym (cond-true (nat_lt 0 (length all)) _ _ (lt-ltb 0 (length all) (omega arith)))) last

within-newest : (slot : List ℕ) (bytes : ℕ) (r : Ring) → IsRing r → yank r ≡ Some slot → r.index ≡ r.newest → length slot ≤ bytes → StillNewest slot r (within_bytes bytes r)
within-newest slot bytes r ring slot_is atop fits =
    within-cases (StillNewest slot r) bytes r (record { slot_is = slot_is; atop = atop; last_is = refl }) (from (newest_first r) refl)
  where
    first : slice_get (newest_first r) 0 ≡ Some slot
    first = ap (λ i. slice_get (back_from i r.slots) 0) (sym atop) ∙ yank-back r ring ∙ slot_is

    none_behind : 0 ≡ behind r.newest r.index (length r.slots)
    none_behind = sym (ap (λ i. behind i r.index (length r.slots)) (sym atop) ∙ cond-true (nat_le r.index r.index) _ _ (le-leb r.index r.index (omega arith)) ∙ (omega arith))

    from : (all : List (List ℕ)) → newest_first r ≡ all → StillNewest slot r (with_newest (length (fitting bytes (newest_first r))) r)
    from [] e = let at : slice_get [] 0 ≡ Some slot = ap (λ l. slice_get l 0) (sym e) ∙ first in cc
    from (s ∷ older) e =
        let same : s ≡ slot = same_Some s slot (ap (λ l. slice_get l 0) (sym e) ∙ first) in
        subst (λ all. StillNewest slot r (left_with (take (length (fitting bytes all)) all) (behind r.newest r.index (length r.slots)) r)) (sym (e ∙ ap (λ t. t ∷ older) same))
        (subst (λ back. StillNewest slot r (left_with (take (length (fitting bytes (slot ∷ older))) (slot ∷ older)) back r)) none_behind (left-newest slot older bytes r fits))

-- the rest that a bound leaves of a ring
within-still : (bytes : ℕ) (r : Ring) → (IsNoKill r.last → IsNoKill (within_bytes bytes r).last) × ((within_bytes bytes r).size ≡ r.size)
within-still bytes r =
    within-cases (λ k. (IsNoKill r.last → IsNoKill k.last) × (k.size ≡ r.size)) bytes r (λ calm. calm, refl)
    (let ts = take (length (fitting bytes (newest_first r))) (newest_first r) in
    cond_both (nat_lt (behind r.newest r.index (length r.slots)) (length ts)) _ _ (λ (k : Ring). (IsNoKill r.last → IsNoKill k.last) × (k.size ≡ r.size)) (λ e. (λ calm. calm, refl)) (λ e. (λ calm. tt, refl)))

Roomy-forgets : (s : State) → Roomy s → Roomy (within_bound s)
Roomy-forgets s h = record { stands = Stands-forgets s h.stands; some = omega (arith, (within-still s.options.bound.ring_bytes s.pair.ring).1, h.some) }

-- so the slot that is missing stays
Missing-forgets : (start : List ℕ) (s : State) (replies : List Reply) → length start ≤ length s.line.text + s.options.bound.ring_bytes → IsAtop s.pair.ring → Missing start s replies
    → Missing start (within_bound s) replies × IsAtop (within_bound s).pair.ring
Missing-forgets start s replies room atop m =
    let long = simp length-append at (ap length m.swaps.text_is) in
    let short = simp length-append at (ap length m.swaps.after_is) in
    elim m.held [
      | inl n ↦
          let w = within-newest m.slot s.options.bound.ring_bytes s.pair.ring m.roomy.stands.ring n.slot_is (atop n.last_is) (omega (arith, room, long, short)) in
          after (inl (record { slot_is = w.slot_is; last_is = w.last_is ∙ n.last_is })) (λ e. w.atop)
      | inr e ↦ let calm = (within-still s.options.bound.ring_bytes s.pair.ring).0 e.1 in after (inr (e.0, calm, e.2)) (atop-no_kill (within_bound s).pair.ring calm)
    ]
  where
    after : Newest (within_bound s).pair.ring m.slot ⊎ ((m.slot ≡ []) × IsNoKill (within_bound s).pair.ring.last × AnyTook replies) → IsAtop (within_bound s).pair.ring
        → Missing start (within_bound s) replies × IsAtop (within_bound s).pair.ring
    after held still = (record { slot = m.slot; held = held; swaps = m.swaps; within = m.within; roomy = Roomy-forgets s m.roomy }, still)

-- a kill that was not refused says whether it took something
kill_outcome : (old new : State) (command : Command) (reply : Reply) → IsDirectedKill old.line command → Stands old → ¬ (WasRefused reply) → Step old command reply new → (a : Bool) × Outcome a old new
kill_outcome old new command (says.Answer a) directed h allowed s = (a, Kill-outcome old new command a directed h s)
kill_outcome old new command (says.Refused f) directed h allowed s = absurd (allowed tt)
kill_outcome old new (Kill _) _ directed h allowed s = absurd s.does
kill_outcome old new (KillRange _ _ _) _ directed h allowed s = absurd s.does
kill_outcome old new _ _ directed h allowed s = absurd directed

-- and makes the text no longer
outcome-shrinks : (a : Bool) (old new : State) → Stands old → Outcome a old new → length new.line.text ≤ length old.line.text
outcome-shrinks true old new h t =
    let swaps = Swaps-Delete old.line.text new.line.text new.line.cursor t.taken t.side h.utf8 t.text_is in
    omega (arith, simp length-append at (ap length swaps.text_is), simp length-append at (ap length swaps.after_is))
outcome-shrinks false old new h t = omega (arith, ap (λ (l : Line). length l.text) t.line_is)

-- a performed kill: what was undone may have been kept first, and the ring forgets afterwards
record KillDone (old : State) (command : Command) (reply : Reply) (new : State) : Type 0 where
  done : DoneAfter old command reply new
  roomy : Roomy new
  shrinks : length new.line.text ≤ length old.line.text
  atop : IsAtop old.pair.ring → IsAtop done.left.pair.ring

Missing-changes : (start : List ℕ) (changes : Record) (s : State) (replies : List Reply) → Missing start s replies → Missing start (with_changes changes s) replies
Missing-changes start changes s replies m =
    record { slot = m.slot; held = m.held; swaps = m.swaps; within = m.within; roomy = record { stands = Stands-changes changes s m.roomy.stands; some = m.roomy.some } }

directed-plain : (command : Command) (line : Line) → IsDirectedKill line command → is_plain command ≡ true
directed-plain (asks.Kill m) line directed = refl
directed-plain (asks.KillRange i j Forward) line directed = refl
directed-plain (asks.KillRange i j Backward) line directed = refl
directed-plain _ line directed = absurd directed

directed-single : (command : Command) (line : Line) → IsDirectedKill line command → is_one_unit command ≡ false
directed-single (asks.Kill m) line directed = refl
directed-single (asks.KillRange i j Forward) line directed = refl
directed-single (asks.KillRange i j Backward) line directed = refl
directed-single _ line directed = absurd directed

kill_done : (old new : State) (command : Command) (reply : Reply) → IsDirectedKill old.line command → ¬ (WasRefused reply) → Roomy old → Performed old command reply new → KillDone old command reply new
kill_done old new command reply directed allowed roomy p =
    let own = uncounted command old new reply (directed-single command old.line directed) p in
    let done = done_after command old new reply (directed-plain command old.line directed) allowed own in
    let begun = with_changes done.changes old in
    let h = Stands-changes done.changes old roomy.stands in
    let (a, outcome) = kill_outcome begun done.left command reply directed h allowed done.step in
    record {
      done = done;
      roomy = subst Roomy (sym done.forgets) (Roomy-forgets done.left (Roomy-Step begun command reply done.left roomy.some done.step));
      shrinks = subst (λ (s : State). length s.line.text ≤ length old.line.text) (sym done.forgets) (outcome-shrinks a begun done.left h outcome);
      atop = atop-outcome a begun done.left roomy.some outcome;
    }

none_refused : (reply : Reply) (more : List Reply) → NoneRefused (reply ∷ more) → ¬ (WasRefused reply) × NoneRefused more
none_refused (says.Refused f) more none = absurd none
none_refused _ more none = (λ w. w, none)

Missing-performed : (start : List ℕ) (old new : State) (command : Command) (reply : Reply) (more : List Reply) → IsDirectedKill old.line command → NoneRefused (reply ∷ more) → KillDone old command reply new
    → length start ≤ length new.line.text + new.options.bound.ring_bytes → IsAtop old.pair.ring → Missing start old (reply ∷ more) → Missing start new more × IsAtop new.pair.ring
Missing-performed start old new command reply more directed none k room atop m =
    let left = k.done.left in
    let on = Missing-directed start (with_changes k.done.changes old) left command reply more directed k.done.step none (Missing-changes start k.done.changes old (reply ∷ more) m) in
    subst (λ (s : State). Missing start s more × IsAtop s.pair.ring) (sym k.done.forgets)
    (Missing-forgets start left more (subst (λ (s : State). length start ≤ length s.line.text + s.options.bound.ring_bytes) k.done.forgets room) (k.atop atop) on.0)

-- performed kills, one after another, each of which makes the text no longer
Calls-shrink : (old new : State) (kills : Calls old new) (last : List Reply) → AllKilled kills → NoneRefused (replies_in kills ++ last) → Roomy old → length new.line.text ≤ length old.line.text
Calls-shrink old new no_call last all allowed roomy = omega arith
Calls-shrink old new (call {mid = mid} command reply p kills) last all allowed roomy =
    let first = none_refused reply (replies_in kills ++ last) allowed in
    let k = kill_done old mid command reply all.0 first.0 roomy p in
    omega (arith, k.shrinks, Calls-shrink mid new kills last all.1 first.1 k.roomy)

Missing-Calls : (start : List ℕ) (old new : State) (kills : Calls old new) (last : List Reply) → AllKilled kills → NoneRefused (replies_in kills ++ last) → length start ≤ length new.line.text + new.options.bound.ring_bytes
    → IsAtop old.pair.ring → Missing start old (replies_in kills ++ last) → Missing start new last × IsAtop new.pair.ring × NoneRefused last
Missing-Calls start old new no_call last all allowed room atop m = (m, atop, allowed)
Missing-Calls start old new (call {mid = mid} command reply p kills) last all allowed room atop m =
    let first = none_refused reply (replies_in kills ++ last) allowed in
    let k = kill_done old mid command reply all.0 first.0 m.roomy p in
    let there = Missing-performed start old mid command reply (replies_in kills ++ last) all.0 allowed k
    (omega (arith, room, Calls-shrink mid new kills last all.1 first.1 k.roomy, ap (λ (o : Options). o.bound.ring_bytes) (Calls-options mid new kills))) atop m in
    Missing-Calls start mid new kills last all.1 first.1 room there.1 there.0

-- a yank leaves the newest slot current
abbrev IdleAtop : Ring → Type 0
IdleAtop r = IsIdle r × (r.index ≡ r.newest)

heard-atop : (event : Event) (r : Ring) → IsChange event → IdleAtop r → IdleAtop (ring_step r event)
heard-atop event r change k = subst IdleAtop (sym (idle-stays event r change k.0)) k

lent-atop : (slot : Option (List ℕ)) (r : Ring) → IdleAtop r → IdleAtop (lent slot r)
lent-atop None r k = k
lent-atop (Some text) r k = k

Yank-atop : (old new : State) (reply : Reply) → Stands old → ¬ (WasRefused reply) → Step old (Yank 1) reply new → old.pair.ring.index ≡ old.pair.ring.newest → new.pair.ring.index ≡ new.pair.ring.newest
Yank-atop old new (says.Inserted a) h allowed s atop =
    let left = ring-Done IdleAtop heard-atop (lent_plan old.line (yank old.pair.ring) 1) old.line s.left.line (lent_state old).pair s.left.pair a (NoneStarts-lent old.line (yank old.pair.ring) 1) s.does.done
    (lent-atop (yank old.pair.ring) old.pair.ring (h.idle, atop)) in
    subst (λ (t : State). t.pair.ring.index ≡ t.pair.ring.newest) (sym s.settles)
    (cond_both (is_vain_yank (Yank 1) (says.Inserted a)) _ _ (λ (r : Ring). r.index ≡ r.newest) (λ e. left.1) (λ e. left.1))
Yank-atop old new (says.Refused f) h allowed s atop = absurd (allowed tt)
Yank-atop old new _ h allowed s atop = absurd s.does

-- what was yanked is as long as what the kills took, so the bound has room for it then, too
GivenBack-forgets : (old mid left : State) (changes : Record) → length old.line.text ≤ length mid.line.text + left.options.bound.ring_bytes → IsRing left.pair.ring → left.pair.ring.index ≡ left.pair.ring.newest
    → GivenBack old (with_changes changes mid) left → GivenBack old mid (within_bound left)
GivenBack-forgets old mid left changes room ring atop g =
    let long = simp length-append at (ap length g.stands) in
    let short = simp length-append at (ap length g.left) in
    let same = ap length g.text_is in
    record {
      text_is = g.text_is;
      yanked = g.yanked;
      slot_is = (within-newest g.yanked left.options.bound.ring_bytes left.pair.ring ring g.slot_is atop (omega (arith, room, long, short, same))).slot_is;
      front = g.front;
      after = g.after;
      left = g.left;
      place = g.place;
      stands = g.stands;
      cursor_is = g.cursor_is;
    }

Yank-performed : (old mid new : State) (reply : Reply) → length old.line.text ≤ length mid.line.text + mid.options.bound.ring_bytes → IsAtop mid.pair.ring → Missing old.line.text mid (reply ∷ [])
    → ¬ (WasRefused reply) → DoneAfter mid (Yank 1) reply new → GivenBack old mid new
Yank-performed old mid new (says.Inserted a) room atop m allowed d =
    let begun = with_changes d.changes mid in
    let newest : Newest mid.pair.ring m.slot = elim m.held [ inl n ↦ n | inr e ↦ absurd e.2 ] in
    let back = GivenBack-Yank old begun d.left (says.Inserted a) (Missing-changes old.line.text d.changes mid (says.Inserted a ∷ []) m) tt d.step in
    let top = Yank-atop begun d.left (says.Inserted a) (Stands-changes d.changes mid m.roomy.stands) allowed d.step (atop newest.last_is) in
    let bytes = ap (λ (o : Options). o.bound.ring_bytes) (Step-options begun d.left (Yank 1) (says.Inserted a) d.step) in
    subst (GivenBack old mid) (sym d.forgets) (GivenBack-forgets old mid d.left d.changes (omega (arith, room, bytes)) d.step.stands.ring top back)
Yank-performed old mid new (says.Refused f) room atop m allowed d = absurd (allowed tt)
Yank-performed old mid new _ room atop m allowed d = absurd d.step.does

pub performed-yank : (old mid new : State) (kills : Calls old mid) (reply : Reply) → Stands old → 0 < old.pair.ring.size → IsNoKill old.pair.ring.last → AllKilled kills → AnyTook (replies_in kills)
    → NoneRefused (replies_in kills ++ (reply ∷ [])) → length old.line.text ≤ length mid.line.text + mid.options.bound.ring_bytes → Obeyed mid (Yank 1) reply new → GivenBack old mid new
performed-yank old mid new kills reply stands some no_kill all took allowed room p =
    let first = Missing-first old (replies_in kills ++ (reply ∷ [])) (record { stands = stands; some = some }) no_kill (AnyTook-append (replies_in kills) (reply ∷ []) took) in
    let m = Missing-Calls old.line.text old mid kills (reply ∷ []) all allowed room (atop-no_kill old.pair.ring no_kill) first in
    let last = (none_refused reply [] m.2).0 in
    Yank-performed old mid new reply room m.1 m.0 last (done_after (Yank 1) mid new reply refl last p)
