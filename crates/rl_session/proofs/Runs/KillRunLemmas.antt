-- Directed kills of a session take one part of its text, which the newest slot holds, so that a yank gives it back.
use Rattle.rl_session.proofs.Common.{insert_slice, take, drop, take-append-drop, IsUtf8-nil, ◌≡◌, ℕ, ◌+◌, ◌<◌, ◌≤◌, ◌⊎◌, inl, inr, zero, suc, Bool, true, false, not, cond, List, [], ◌∷◌, ◌++◌, map, length, Option, Some, None, refl, sym, ap, subst, ◌∙◌, arith, rules, length-append, append-nil, and-false, cond_both, eqb-true, eqb-false, le-ltb, map-append, length-between, same_Some, ◌==◌, slice_get, slice_set, slice_range, IfSome, repeat, IsCharBoundary, IsUtf8, Range, InsertStr, apply, Ring, IsRing, put_at, join_at, in_new_slot, killed_as, reset, yanked, side_mode, Action, Direction, Forward, Backward, Movement, BeginningOfLine, EndOfLine, FirstNonBlank, BackwardWord, ForwardWord, ViCharSearch, BeginningOfBuffer, EndOfBuffer, Line, between, single, Done, too_long, yank_plan, Between, Told, removal, side_of, is_by_characters, unless_empty, pair_step, State, Stands, with_ring, Edited, is_vain_yank, lent_plan, IsDirected, AllDirected, IsNoKill, AnyTook, NoneRefused, GivenBack, IsDirectedKill, AllKill, Row, Leads, Run, before_last, commands_of, replies_of, Pair, Command, Yank, Kill, KillRange, Reply}
use Rattle.std.proofs.lemmas.List.{get_or-set_same}
use Rattle.std.proofs.lemmas.Option.{slice_get-get_or}
use Rattle.std.proofs.Math.ListN.{length-set}
use Rattle.rl_base.specs.Event.{Delete}
use Rattle.rl_base.specs.KillRing.{joined, killed, yank, lent}
use Rattle.rl_base.specs.declared.kill_ring.Action.TheVariants as did
use Rattle.rl_base.specs.declared.kill_ring.Mode.{Mode}
use Rattle.rl_base.proofs.Ring.RingLemmas.{new_index-is}
use Rattle.rl_base.proofs.Texts.EventLemmas.{apply-InsertStr}
use Rattle.rl_base.proofs.Texts.SwapLemmas.{Swaps, Swaps-back, Swaps-Delete, Swaps-InsertStr, Swaps-after, Swaps-before, Swaps-nothing, apply-InsertStr-Swaps}
use Rattle.rl_line.specs.Plan.{nothing}
use Rattle.rl_line.specs.Ranges.{killed as killed_range}
use Rattle.rl_line.proofs.Plans.EditLemmas.{yank_plan-nothing, yank_plan-some}
use Rattle.rl_line.proofs.Plans.SideLemmas.{LiesOn, BeginningOfLine-side, EndOfLine-side, FirstNonBlank-side, BackwardWord-side, ForwardWord-side, ViCharSearch-side, BeginningOfBuffer-side, EndOfBuffer-side}
use Rattle.rl_session.specs.Commands.{Step, lent as lent_state}
use Rattle.rl_session.specs.declared.session.Reply.TheVariants as says
use Rattle.rl_session.proofs.Runs.RowLemmas.{Leads-keeps, Step-size}
use Rattle.rl_line.proofs.Plans.PlanLemmas.{first_step}
use Rattle.std.proofs.lemmas.Grind.{common_steps}

-- ---- the newest slot
pub get-after : (slots : List (List ℕ)) (text : List ℕ) → slice_get (slots ++ text ∷ []) (length slots) ≡ Some text
get-after [] text = refl
get-after (s ∷ ss) text = get-after ss text

get-set : (slots : List (List ℕ)) (i : ℕ) (text : List ℕ) → i < length slots → slice_get (slice_set slots i text) i ≡ Some text
get-set slots i text h = slice_get-get_or (slice_set slots i text) i [] (rw length-set h) ∙ ap Some (get_or-set_same slots i text [] h)

get-put : (slots : List (List ℕ)) (i : ℕ) (text : List ℕ) → i ≤ length slots → slice_get (put_at i text slots) i ≡ Some text
get-put slots i text h = grind (arith, eqb-true, get-after, eqb-false, get-set)

get-join : (slots : List (List ℕ)) (i : ℕ) (mode : Mode) (old text : List ℕ) → slice_get slots i ≡ Some old
    → slice_get (join_at i mode text slots) i ≡ Some (joined mode old text)
get-join [] i mode old text h = cc
get-join (s ∷ ss) zero mode old text h = let e : s ≡ old = cc in ap (λ x. Some (joined mode x text)) e
get-join (s ∷ ss) (suc i) mode old text h = get-join ss i mode old text h

-- the current slot, after a kill
pub record Newest (r : Ring) (text : List ℕ) : Type 0 where
  pub slot_is : yank r ≡ Some text
  pub last_is : r.last ≡ did.Kill

put-newest : (text : List ℕ) (r : Ring) → 0 < r.size → IsRing r → Newest (in_new_slot text r) text
put-newest text r some h = grind (arith, new_index-is, get-put)

first_as : (size : ℕ) (last : Action) (text : List ℕ) (mode : Mode) (r : Ring) → size ≡ r.size → 0 < size → IsRing r → IsNoKill last
    → Newest (killed_as size last text mode r) text
first_as zero last text mode r e some h k = absurd (omega arith)
first_as (suc n) did.Kill text mode r e some h k = absurd k
first_as (suc n) (did.Yank m) text mode r e some h k = put-newest text r (omega arith) h
first_as (suc n) did.Other text mode r e some h k = put-newest text r (omega arith) h

more_as : (size : ℕ) (last : Action) (old text : List ℕ) (mode : Mode) (r : Ring) → 0 < size → last ≡ did.Kill → Newest r old
    → Newest (killed_as size last text mode r) (joined mode old text)
more_as zero last old text mode r some e n = absurd (omega arith)
more_as (suc m) did.Kill old text mode r some e n = record { slot_is = get-join r.slots r.index mode old text n.slot_is; last_is = refl }
more_as (suc m) (did.Yank k) old text mode r some e n = cc
more_as (suc m) did.Other old text mode r some e n = cc

-- the ring after a kill that took a text, which heard its start, the deletion and its end
abbrev after_kill : List ℕ → Direction → Ring → Ring
after_kill taken side r = record (killed taken (side_mode side) (record r { killing = true })) { killing = false }

flag-newest : (r : Ring) (b : Bool) (text : List ℕ) → Newest r text → Newest (record r { killing = b }) text
flag-newest r b text n = record { slot_is = n.slot_is; last_is = n.last_is }

-- the first kill after another action, and one after a kill
newest-first : (taken : List ℕ) (side : Direction) (r : Ring) → 0 < r.size → IsRing r → IsNoKill r.last → Newest (after_kill taken side r) taken
newest-first taken side r some h k =
    flag-newest _ false taken (first_as r.size r.last taken (side_mode side) (record r { killing = true }) refl some (record { within = h.within; at_slot = h.at_slot; newest_at_slot = h.newest_at_slot; last_fits = h.last_fits }) k)

newest-more : (old taken : List ℕ) (side : Direction) (r : Ring) → 0 < r.size → Newest r old → Newest (after_kill taken side r) (joined (side_mode side) old taken)
newest-more old taken side r some n = grind (arith, flag-newest, more_as)

-- a state of a session whose ring has room
pub record Roomy (s : State) : Type 0 where
  pub stands : Stands s
  pub some : 0 < s.pair.ring.size

pub Roomy-Step : (old : State) (command : Command) (reply : Reply) (new : State) → 0 < old.pair.ring.size → Step old command reply new → Roomy new
Roomy-Step old command reply new some s = record { stands = s.stands; some = omega (arith, Step-size old new command reply s) }

Roomy-Leads : (rows : List Row) (old new : State) → Leads old rows new → Roomy old → Roomy new
Roomy-Leads rows old new l h = Leads-keeps Roomy (λ row r. Roomy-Step row.before row.command row.reply row.after r.some row.step) rows old new l h

-- ---- a kill by a directed movement
killed-side : (line : Line) (m : Movement) → IsDirected m → IsUtf8 line.text → IsCharBoundary line.text line.cursor → IfSome (killed_range line m) (LiesOn (side_of line m) line.cursor)
killed-side line BeginningOfLine h u at = BeginningOfLine-side line at.0
killed-side line EndOfLine h u at = EndOfLine-side line
killed-side line FirstNonBlank h u at = FirstNonBlank-side line
killed-side line (BackwardWord n word) h u at = BackwardWord-side line n word u at
killed-side line (ForwardWord n stop word) h u at = ForwardWord-side line n stop word
killed-side line (ViCharSearch n cs) h u at = ViCharSearch-side line n cs u at
killed-side line BeginningOfBuffer h u at = BeginningOfBuffer-side line
killed-side line EndOfBuffer h u at = EndOfBuffer-side line
killed-side line _ h u at = absurd h

not_by_characters : (m : Movement) → IsDirected m → is_by_characters m ≡ false
not_by_characters BeginningOfLine h = refl
not_by_characters _ h = search rules

-- so many bytes went on that side of the cursor
abbrev Touches : Direction → ℕ → ℕ → ℕ → Type 0
Touches Forward size old new = new ≡ old
Touches Backward size old new = new + size ≡ old

-- it took a text, from where the cursor is then
pub record Took (old new : State) : Type 0 where
  pub side : Direction
  pub taken : List ℕ
  pub text_is : apply (Delete new.line.cursor taken side) old.line.text ≡ Some new.line.text
  pub touches : Touches side (length taken) old.line.cursor new.line.cursor
  pub limit_is : old.line.limit ≤ new.line.limit
  pub ring_is : new.pair.ring ≡ after_kill taken side old.pair.ring

pub record TookNothing (old new : State) : Type 0 where
  pub line_is : new.line ≡ old.line
  pub ring_is : new.pair.ring ≡ record old.pair.ring { killing = false }

abbrev pub Outcome : Bool → State → State → Type 0
Outcome true old new = Took old new
Outcome false old new = TookNothing old new

touches-range : (side : Direction) (text : List ℕ) (r : Range ℕ) (pos new : ℕ) → pos ≤ length text → new ≡ r.start → LiesOn side pos r
    → Touches side (length (slice_range text r.start r.end)) pos new
touches-range Forward text r pos new within e h = e ∙ h
touches-range Backward text r pos new within e h = omega (arith, e, h.0, h.1, length-between text r.start r.end (omega (arith, h.0)))

-- what a removal between the start and the end of a kill did
removed : (old new : State) (o : Option (Range ℕ)) (side : Direction) (a : Bool) → old.line.cursor ≤ length old.line.text → IfSome o (LiesOn side old.line.cursor)
    → Between pair_step (λ before now. Edited (removal old.line o side) (record old { pair = before }) (record new { pair = now }) a) old.pair new.pair → Outcome a old new
removed old new None side a within h t = grind (arith, same_Some)
removed old new (Some r) side a within h t = grind (arith, first_step, same_Some, touches-range)

-- a kill by a directed movement leaves what the ring did last, and is told from its start to its end
told_whole : (b : Bool) (P : Pair → Pair → Type 0) (old : State) (new : Pair) → b ≡ false
    → Told pair_step b P (with_ring (cond (not b) old.pair.ring (reset old.pair.ring)) old).pair new → Between pair_step P old.pair new
told_whole true P old new e t = cc
told_whole false P old new e t = t

-- of a kill of a range that begins or ends at the cursor
lies-between : (line : Line) (i j : ℕ) (side : Direction) → i ≤ j → IsDirectedKill line (KillRange i j side) → LiesOn side line.cursor (between i j)
lies-between line i j Forward le at = at
lies-between line i j Backward le at = (at, omega (arith, le, at))

range-side : (line : Line) (i j : ℕ) (side : Direction) → i ≤ j → IsDirectedKill line (KillRange i j side) → IfSome (unless_empty i j) (LiesOn side line.cursor)
range-side line i j side le at = cond_both (i == j) _ _ (λ range. IfSome range (LiesOn side line.cursor)) (λ e. tt) (λ e. lies-between line i j side le at)

pub Kill-outcome : (old new : State) (command : Command) (a : Bool) → IsDirectedKill old.line command → Stands old → Step old command (says.Answer a) new → Outcome a old new
Kill-outcome old new (Kill m) a directed h s =
    let told = told_whole (is_by_characters m) _ old s.left.pair (not_by_characters m directed) s.does in
    subst (Outcome a old) (sym s.settles)
    (removed old s.left (killed_range old.line m) (side_of old.line m) a h.cursor.0 (killed-side old.line m directed h.utf8 h.cursor) told)
Kill-outcome old new (KillRange i j side) a directed h s =
    subst (Outcome a old) (sym s.settles)
    (removed old s.left (unless_empty i j) side a h.cursor.0 (range-side old.line i j side s.does.0.0 directed) s.does.1)
Kill-outcome old new _ a directed h s = absurd directed

-- ---- the rows of a run: the newest slot is what is missing of the start at the cursor, or nothing is, and a text will be taken
pub record Missing (start : List ℕ) (now : State) (replies : List Reply) : Type 0 where
  pub slot : List ℕ
  pub held : Newest now.pair.ring slot ⊎ ((slot ≡ []) × IsNoKill now.pair.ring.last × AnyTook replies)
  pub swaps : Swaps start now.line.text now.line.cursor slot []
  pub within : length start ≤ now.line.limit
  pub roomy : Roomy now

took-joins : (side : Direction) (start old new slot taken : List ℕ) (i j : ℕ) → Swaps start old i slot [] → Swaps old new j taken []
    → Touches side (length taken) i j → Swaps start new j (joined (side_mode side) slot taken) []
took-joins Forward start old new slot taken i j p q t =
    subst (λ k. Swaps start new k (slot ++ taken) []) (sym t) (Swaps-after start old new i j slot [] taken [] p q (omega arith))
took-joins Backward start old new slot taken i j p q t = Swaps-before start old new i j slot [] taken p q t

joined-first : (side : Direction) (taken : List ℕ) → joined (side_mode side) [] taken ≡ taken
joined-first Forward taken = refl
joined-first Backward taken = append-nil taken

Missing-took : (start : List ℕ) (old new : State) (more : List Reply) → Roomy new → Took old new → Missing start old (says.Answer true ∷ more) → Missing start new more
Missing-took start old new more roomy t m = record {
  slot = joined (side_mode t.side) m.slot t.taken;
  held = inl (subst (λ k. Newest k (joined (side_mode t.side) m.slot t.taken)) (sym t.ring_is) (newest m.held));
  swaps = took-joins t.side start old.line.text new.line.text m.slot t.taken old.line.cursor new.line.cursor m.swaps
      (Swaps-Delete old.line.text new.line.text new.line.cursor t.taken t.side m.roomy.stands.utf8 t.text_is) t.touches;
  within = omega (arith, m.within, t.limit_is);
  roomy = roomy;
}
  where
    newest : Newest old.pair.ring m.slot ⊎ ((m.slot ≡ []) × IsNoKill old.pair.ring.last × Unit {0}) → Newest (after_kill t.taken t.side old.pair.ring) (joined (side_mode t.side) m.slot t.taken)
    newest (inl n) = newest-more m.slot t.taken t.side old.pair.ring m.roomy.some n
    newest (inr e) =
        subst (Newest (after_kill t.taken t.side old.pair.ring)) (sym (ap (λ s. joined (side_mode t.side) s t.taken) e.0 ∙ joined-first t.side t.taken))
        (newest-first t.taken t.side old.pair.ring m.roomy.some m.roomy.stands.ring e.1)

Missing-nothing : (start : List ℕ) (old new : State) (more : List Reply) → Roomy new → TookNothing old new → Missing start old (says.Answer false ∷ more) → Missing start new more
Missing-nothing start old new more roomy t m = grind (arith, flag-newest)

pub Missing-directed : (start : List ℕ) (old new : State) (command : Command) (reply : Reply) (more : List Reply) → IsDirectedKill old.line command → Step old command reply new
    → NoneRefused (reply ∷ more) → Missing start old (reply ∷ more) → Missing start new more × NoneRefused more
Missing-directed start old new command (says.Answer true) more directed s none m =
    (Missing-took start old new more (Roomy-Step old command _ new m.roomy.some s) (Kill-outcome old new command true directed m.roomy.stands s) m, none)
Missing-directed start old new command (says.Answer false) more directed s none m =
    (Missing-nothing start old new more (Roomy-Step old command _ new m.roomy.some s) (Kill-outcome old new command false directed m.roomy.stands s) m, none)
Missing-directed start old new command (says.Refused f) more directed s none m = absurd none
Missing-directed start old new (Kill _) _ more directed s none m = absurd s.does
Missing-directed start old new (KillRange _ _ _) _ more directed s none m = absurd s.does
Missing-directed start old new _ _ more directed s none m = absurd directed

-- ---- the yank
-- what a yank of a slot that has room made of the line and the ring
record Yanked (slot : List ℕ) (old new : Line) (before now : Ring) : Type 0 where
  text_is : (length slot ≡ 0) × (new.text ≡ old.text) ⊎ (apply (InsertStr old.cursor slot) old.text ≡ Some new.text)
  cursor_is : new.cursor ≡ old.cursor + length slot
  slot_is : yank now ≡ yank before

yanked_nothing : (slot : List ℕ) (old new : Line) (p q : Pair) (a : Option Bool) → length slot ≡ 0 → Done pair_step (nothing old None) old new p q a → Yanked slot old new p.ring q.ring
yanked_nothing slot old new p q a empty d = grind (arith, same_Some)

yanked_once : (slot : List ℕ) (old new : Line) (p q : Pair) (a c : Option Bool) (at : ℕ) → at ≡ old.cursor + length slot
    → Done pair_step (single (InsertStr old.cursor (repeat 1 slot)) at c) old new p q a → Yanked slot old new p.ring q.ring
yanked_once slot old new p q a c at e d = grind (arith, first_step, same_Some, append-nil)

fits-within : (line : Line) (n : ℕ) → n ≤ line.limit → too_long line n ≡ false
fits-within line n h = rw (le-ltb line.limit n h) (and-false (not line.grow))

yank_plan-done : (slot : List ℕ) (old new : Line) (p q : Pair) (a : Option Bool) → length old.text + length slot ≤ old.limit
    → Done pair_step (yank_plan old slot 1) old new p q a → Yanked slot old new p.ring q.ring
yank_plan-done slot old new p q a room d = grind (arith, common_steps, yanked_nothing, eqb-true, yank_plan-nothing, fits-within, yanked_once, yank_plan-some)

yank-lent : (o : Option (List ℕ)) (r : Ring) → yank (lent o r) ≡ yank r
yank-lent None r = refl
yank-lent (Some s) r = refl

back-text : (start : List ℕ) (line : Line) (slot text : List ℕ) → Swaps start line.text line.cursor slot []
    → (length slot ≡ 0) × (text ≡ line.text) ⊎ (apply (InsertStr line.cursor slot) line.text ≡ Some text) → text ≡ start
back-text start line slot text s (inl e) = e.1 ∙ Swaps-nothing start line.text line.cursor slot [] e.0 refl s
back-text start line slot text s (inr e) =
    same_Some _ _ (sym e ∙ apply-InsertStr-Swaps line.text start line.cursor slot (Swaps-back start line.text line.cursor slot [] s))

GivenBack-yanked : (old now left new : State) (slot : List ℕ) (reset_after : Bool) → yank now.pair.ring ≡ Some slot → Swaps old.line.text now.line.text now.line.cursor slot []
    → new ≡ with_ring (cond reset_after (reset left.pair.ring) left.pair.ring) left → Yanked slot now.line left.line (yanked now.pair.ring) left.pair.ring → GivenBack old now new
GivenBack-yanked old now left new slot reset_after newest swaps settles y =
    let line : new.line ≡ left.line = ap (λ (s : State). s.line) settles in
    let text : new.line.text ≡ old.line.text = ap (λ (l : Line). l.text) line ∙ back-text old.line.text now.line slot left.line.text swaps y.text_is in
    record {
      text_is = text;
      yanked = slot;
      slot_is = ap (λ (s : State). yank s.pair.ring) settles ∙ cond_both reset_after _ _ (λ (r : Ring). yank r ≡ yank left.pair.ring) (λ e. refl) (λ e. refl) ∙ y.slot_is
          ∙ yank-lent (yank now.pair.ring) now.pair.ring ∙ newest;
      front = swaps.front;
      after = swaps.rest;
      left = swaps.after_is;
      place = sym swaps.place;
      stands = text ∙ swaps.text_is;
      cursor_is = omega (arith, ap (λ (l : Line). l.cursor) line, y.cursor_is, swaps.place);
    }

-- with its slot the text is as long as at the start, so it is not too long
pub GivenBack-Yank : (old now new : State) (reply : Reply) → Missing old.line.text now (reply ∷ []) → NoneRefused (reply ∷ []) → Step now (Yank 1) reply new → GivenBack old now new
GivenBack-Yank old now new (says.Inserted a) m none s =
    let newest : Newest now.pair.ring m.slot = elim m.held [ inl n ↦ n | inr e ↦ absurd e.2 ] in
    let long = simp length-append at (ap length m.swaps.text_is) in
    let short = simp length-append at (ap length m.swaps.after_is) in
    let room : length now.line.text + length m.slot ≤ now.line.limit = omega (arith, long, short, m.within) in
    let done = subst (λ o. Done pair_step (lent_plan now.line o 1) now.line s.left.line (lent_state now).pair s.left.pair a) newest.slot_is s.does.done in
    GivenBack-yanked old now s.left new m.slot (is_vain_yank (Yank 1) (says.Inserted a)) newest.slot_is m.swaps s.settles
    (yank_plan-done m.slot now.line s.left.line (lent_state now).pair s.left.pair a room done)
GivenBack-Yank old now new (says.Refused f) m none s = absurd none
GivenBack-Yank old now new _ m none s = absurd s.does

-- ---- row after row
Missing-row : (start : List ℕ) (now : State) (row : Row) (more : List Reply) → row.before ≡ now → IsDirectedKill row.before.line row.command
    → NoneRefused (row.reply ∷ more) → Missing start now (row.reply ∷ more) → Missing start row.after more × NoneRefused more
Missing-row start now row more e directed none m =
    Missing-directed start row.before row.after row.command row.reply more directed row.step none (subst (λ s. Missing start s (row.reply ∷ more)) (sym e) m)

GivenBack-last : (old now new : State) (row : Row) → Leads now (row ∷ []) new → row.command ≡ Yank 1 → NoneRefused (row.reply ∷ []) → Missing old.line.text now (row.reply ∷ []) → GivenBack old row.before new
GivenBack-last old now new row l asked none m =
    let step = subst (λ (c : Command). Step row.before c row.reply row.after) asked row.step in
    subst (GivenBack old row.before) (sym l.1) (GivenBack-Yank old row.before row.after row.reply (subst (λ s. Missing old.line.text s (row.reply ∷ [])) (sym l.0) m) none step)

GivenBack-rows : (kills : List Row) (back : Row) (old now new : State) → AllKill kills → Leads now (kills ++ (back ∷ [])) new → back.command ≡ Yank 1
    → NoneRefused (replies_of (kills ++ (back ∷ []))) → Missing old.line.text now (replies_of (kills ++ (back ∷ []))) → GivenBack old back.before new
GivenBack-rows [] back old now new all l asked none m = GivenBack-last old now new back l asked none m
GivenBack-rows (row ∷ rows) back old now new all l asked none m =
    let on = Missing-row old.line.text now row (replies_of (rows ++ (back ∷ []))) l.0 all.0 none m in
    GivenBack-rows rows back old row.after new all.1 l.1 asked on.1 on.0

-- the same of kills by movements
no_row : (movements : List Movement) → [] ≡ map Kill movements ++ (Yank 1 ∷ []) → ⊥
no_row [] e = cc
no_row (m ∷ ms) e = cc

GivenBack-kills : (movements : List Movement) (rows : List Row) (old now new s : State) → AllDirected movements → Leads now rows new → commands_of rows ≡ map Kill movements ++ (Yank 1 ∷ [])
    → NoneRefused (replies_of rows) → Missing old.line.text now (replies_of rows) → GivenBack old (before_last s rows) new
GivenBack-kills [] [] old now new s directed l asked none k = cc
GivenBack-kills [] (row ∷ []) old now new s directed l asked none k = GivenBack-last old now new row l (cc asked) none k
GivenBack-kills [] (row ∷ (next ∷ rows)) old now new s directed l asked none k = cc
GivenBack-kills (m ∷ ms) [] old now new s directed l asked none k = cc
GivenBack-kills (m ∷ ms) (row ∷ []) old now new s directed l asked none k = let rest : [] ≡ map Kill ms ++ (Yank 1 ∷ []) = cc in absurd (no_row ms rest)
GivenBack-kills (m ∷ ms) (row ∷ (next ∷ rows)) old now new s directed l asked none k =
    let command : row.command ≡ Kill m = cc in
    let rest : commands_of (next ∷ rows) ≡ map Kill ms ++ (Yank 1 ∷ []) = cc in
    let on = Missing-row old.line.text now row (replies_of (next ∷ rows)) l.0 (subst (IsDirectedKill row.before.line) (sym command) directed.0) none k in
    GivenBack-kills ms (next ∷ rows) old row.after new s directed.1 l.1 rest on.1 on.0

-- at first nothing is missing
pub Missing-first : (now : State) (replies : List Reply) → Roomy now → IsNoKill now.pair.ring.last → AnyTook replies → Missing now.line.text now replies
Missing-first now replies roomy no_kill took =
    let h = roomy.stands in
    let same : insert_slice now.line.text now.line.cursor [] ≡ now.line.text =
    ap (λ x. x ++ drop now.line.cursor now.line.text) (append-nil (take now.line.cursor now.line.text)) ∙ take-append-drop now.line.cursor now.line.text in
    record {
      slot = [];
      held = inr (refl, no_kill, took);
      swaps = Swaps-InsertStr now.line.text now.line.text now.line.cursor [] h.utf8 (apply-InsertStr now.line.text now.line.cursor [] IsUtf8-nil h.cursor ∙ ap Some same);
      within = h.within;
      roomy = roomy;
    }

pub AnyTook-append : (xs ys : List Reply) → AnyTook xs → AnyTook (xs ++ ys)
AnyTook-append [] ys h = absurd h
AnyTook-append (says.Answer true ∷ xs) ys h = tt
AnyTook-append (_ ∷ xs) ys h = AnyTook-append xs ys h

-- in every session
pub kills-yank : (first old new : State) (earlier : List Command) (said : List Reply) (movements : List Movement) (replies : List Reply) (last : Reply)
    → Stands first → 0 < first.pair.ring.size → Run first earlier said old → (run : Run old (map Kill movements ++ (Yank 1 ∷ [])) (replies ++ (last ∷ [])) new)
    → IsNoKill old.pair.ring.last → AllDirected movements → AnyTook replies → NoneRefused (replies ++ (last ∷ [])) → GivenBack old (before_last old run.rows) new
kills-yank first old new earlier said movements replies last stands some before run no_kill directed took none =
    let roomy = Roomy-Leads before.rows first old before.leads (record { stands = stands; some = some }) in
    GivenBack-kills movements run.rows old old new old directed run.leads run.asked (subst NoneRefused (sym run.answered) none)
    (Missing-first old _ roomy no_kill (subst AnyTook (sym run.answered) (AnyTook-append replies (last ∷ []) took)))

pub directed-yank : (first old new : State) (earlier commands : List Command) (said replies : List Reply) (kills : List Row) (back : Row)
    → Stands first → 0 < first.pair.ring.size → Run first earlier said old → (run : Run old commands replies new) → run.rows ≡ kills ++ (back ∷ []) → back.command ≡ Yank 1
    → IsNoKill old.pair.ring.last → AllKill kills → AnyTook (replies_of kills) → NoneRefused replies → GivenBack old back.before new
directed-yank first old new earlier commands said replies kills back stands some before run is asked no_kill all took none =
    let roomy = Roomy-Leads before.rows first old before.leads (record { stands = stands; some = some }) in
    let any = subst AnyTook (sym (map-append (λ (r : Row). r.reply) kills (back ∷ []))) (AnyTook-append (replies_of kills) (back.reply ∷ []) took) in
    GivenBack-rows kills back old old new all (subst (λ rows. Leads old rows new) is run.leads) asked
    (subst (λ rows. NoneRefused (replies_of rows)) is (subst NoneRefused (sym run.answered) none)) (Missing-first old _ roomy no_kill any)
