-- A record is placed among the texts that were held, whatever it hears.
use Rattle.rl_session.proofs.Common.{RecordCall, MayCome, after_call, keeps_undone, parts_next, puts_begin, puts_end, puts_ends, reopens, shortens, texts_of_call, ◌≡◌, ◌≤◌, ℕ, List, [], ◌∷◌, ◌++◌, length, length-append, cond_both, ◌-◌, take, drop, map, reverse, Some, refl, sym, ap, subst, ◌∙◌, inl, inr, append-nil, append_assoc, arith, same_Some, take-append-drop, reverse-append, reverse-reverse, map-append, option_and_then, IsSome, IsUtf8, Event, Freshness, Cursors, replay, Line, stepped, listener_after, listener_after_step, Entry, Begin, End, Changed, Record, entries_of, entries_after, replay_entries, unwind, event_of, entries_told, last_told, level, last_of, kept_of, redo_of, end_one, end_times, min, undone, redone, truncated, with_closed, kept_within, HoldsOn, gone, StandsAfter, WasHeld, PlacedBack, Placed, History, Holds, State, texts_of_steps, Option, None, ◌||◌, not, true, false, zero, suc, rules}
use Rattle.rl_base.specs.Event.{apply}
use Rattle.rl_base.proofs.Texts.SwapLemmas.{apply-IsUtf8}
use Rattle.rl_line.specs.Plan.{Step, after}
use Rattle.rl_record.specs.Record.{record_step}
use Rattle.rl_record.specs.Units.{BothMatched, ends_in_end, grouped_from, redo_dropped, there_and_back, united, IsMatched, adds_end, ends_in_begin, still_waiting}
use Rattle.rl_record.specs.declared.changeset.groups.UnitStart.{UnitStart}
use Rattle.rl_record.proofs.Records.WaitingLemmas.{MarksMoved}
use Rattle.rl_record.proofs.Records.UnitingLemmas.{BothMatched-united, replay-united, united-cases}
use Rattle.rl_record.proofs.Records.MarkLemmas.{replay-begin, replay-end, replay-end_one}
use Rattle.rl_record.proofs.Records.JoinLemmas.{heard, step-cases}
use Rattle.rl_line.proofs.Changes.InverseLemmas.{map-reverse, through, replay-append, replay-IsUtf8, replay-unwind, unwind-replay}
use Rattle.rl_record.proofs.Records.LastLemmas.{after-cases, end_one-cases, ends-past, end_times-keeps}
use Rattle.rl_record.proofs.Records.MatchLemmas.{IsMatched-after, BothMatched-begun, BothMatched-closed, BothMatched-undone, BothMatched-redone, BothMatched-truncated, Redoes-of, BothMatched-step}
use Rattle.rl_record.proofs.Records.RecordLemmas.{none_or_one, entries_after-unwind}
use Rattle.rl_record.proofs.Records.UnitLemmas.{kept-last}
use Rattle.rl_record.proofs.Records.ForgettingLemmas.{IsMatched-kept, gone-kept}
use Rattle.rl_line.proofs.Changes.RoomLemmas.{texts_after-more}
use Rattle.rl_line.proofs.Plans.PlanLemmas.{first_step}
use Rattle.rl_record.proofs.Records.ToldLemmas.{same-event, told-cases}
use Rattle.std.proofs.lemmas.Grind.{common_steps}
use Rattle.rl_line.specs.Going.{texts_ahead}
use Rattle.rl_record.proofs.Records.RoundLemmas.{BothMatched-round, kept-either, replays-round, unwind-call}

extend : (start : List ℕ) (es : List Entry) (held more : List (List ℕ)) → PlacedBack start es held → PlacedBack start es (held ++ more)
extend start [] held more p = grind (arith, append_assoc)
extend start (e ∷ es) held more p = grind (arith, append_assoc)

but_first : (start : List ℕ) (e : Entry) (es : List Entry) (held : List (List ℕ)) → PlacedBack start (e ∷ es) held → PlacedBack start es held
but_first start e es held p =
    subst (PlacedBack start es) (append_assoc p.0 (p.1 ∷ []) p.2.rest ∙ sym p.2.is) (extend start es (p.0 ++ (p.1 ∷ [])) p.2.rest p.4)

but_front : (start : List ℕ) (xs es : List Entry) (held : List (List ℕ)) → PlacedBack start (xs ++ es) held → PlacedBack start es held
but_front start [] es held p = p
but_front start (x ∷ xs) es held p = but_front start xs es held (but_first start x (xs ++ es) held p)

-- more texts are held
pub Placed-more : (start : List ℕ) (es : List Entry) (held more : List (List ℕ)) → Placed start es held → Placed start es (held ++ more)
Placed-more start es held more p = extend start (reverse es) held more p

-- the first entries are placed where all are
pub Placed-front : (start : List ℕ) (xs ys : List Entry) (held : List (List ℕ)) → Placed start (xs ++ ys) held → Placed start xs held
Placed-front start xs ys held p = but_front start (reverse ys) (reverse xs) held (subst (λ r. PlacedBack start r held) (reverse-append xs ys) p)

-- the text of the last place, and the beginning that ends with it
record Lands (start : List ℕ) (es : List Entry) (held : List (List ℕ)) : Type 0 where
  before : List (List ℕ)
  text : List ℕ
  stands : StandsAfter before text held
  leads : replay_entries (reverse es) start ≡ Some text
  placed : PlacedBack start es (before ++ (text ∷ []))

lands : (start : List ℕ) (es : List Entry) (held : List (List ℕ)) → PlacedBack start es held → Lands start es held
lands start [] held p = record { before = p.0; text = start; stands = p.1; leads = refl; placed = (p.0, record { rest = []; is = refl }) }
lands start (e ∷ es) held p =
    record { before = p.0; text = p.1; stands = p.2; leads = p.3; placed = (p.0, p.1, record { rest = []; is = refl }, p.3, p.4) }

back_again : (es : List Entry) (start : List ℕ) → replay_entries (reverse (reverse es)) start ≡ replay_entries es start
back_again es start = ap (λ x. replay_entries x start) (reverse-reverse es)

-- entries that are placed lead to a held text
pub Placed-held : (start : List ℕ) (es : List Entry) (held : List (List ℕ)) (text : List ℕ) → Placed start es held → replay_entries es start ≡ Some text → WasHeld text held
Placed-held start es held text p h = grind (arith, common_steps, lands, back_again)

pub Placed-leads : (start : List ℕ) (es : List Entry) (held : List (List ℕ)) → Placed start es held → (text : List ℕ) × (replay_entries es start ≡ Some text)
Placed-leads start es held p = let l = lands start (reverse es) held p in (l.text, sym (back_again es start) ∙ l.leads)

with_last_first : (es : List Entry) (e : Entry) (start : List ℕ) → replay_entries (reverse (e ∷ reverse es)) start ≡ replay_entries (es ++ (e ∷ [])) start
with_last_first es e start = ap (λ x. replay_entries (reverse x) start) (sym (reverse-append es (e ∷ []))) ∙ back_again (es ++ (e ∷ [])) start

-- one entry more, with its text after all held texts
Placed-add : (start : List ℕ) (es : List Entry) (e : Entry) (held : List (List ℕ)) (text : List ℕ) → Placed start es held
    → replay_entries (es ++ (e ∷ [])) start ≡ Some text → Placed start (es ++ (e ∷ [])) (held ++ (text ∷ []))
Placed-add start es e held text p h = grind (arith, reverse-append, with_last_first, extend)

-- one entry more that leaves the text: at the place of the entries before
pub Placed-mark : (start : List ℕ) (es : List Entry) (e : Entry) (held : List (List ℕ)) → Placed start es held
    → replay_entries (es ++ (e ∷ [])) start ≡ replay_entries es start → Placed start (es ++ (e ∷ [])) held
Placed-mark start es e held p h = grind (arith, common_steps, lands, reverse-append, with_last_first, back_again)

-- ---- marks of groups
Placed-end_one : (es : List Entry) (start : List ℕ) (held : List (List ℕ)) → Placed start es held → Placed start (end_one es) held
Placed-end_one es start held p =
    elim (end_one-cases es) [
      | inl c ↦ subst (λ x. Placed start x held) (sym c.after_is) (Placed-front start c.front (Begin ∷ []) held (subst (λ x. Placed start x held) c.list_is p))
      | inr c ↦ subst (λ x. Placed start x held) (sym c.after_is) (Placed-mark start es End held p (replay-end es start))
    ]

-- a mark inside the entries: nothing else is made of a text, and they are placed alike
reverse-inside : (xs ys : List Entry) (e : Entry) → reverse (xs ++ e ∷ ys) ≡ reverse ys ++ e ∷ reverse xs
reverse-inside xs ys e = reverse-append xs (e ∷ ys) ∙ ap (λ l. l ++ reverse xs) (reverse-append (e ∷ []) ys) ∙ append_assoc (reverse ys) (e ∷ []) (reverse xs)

replay-inside : (start : List ℕ) (zs ms : List Entry) (e : Entry) → ((es : List Entry) → replay_entries (es ++ e ∷ []) start ≡ replay_entries es start)
    → replay_entries (reverse (zs ++ e ∷ ms)) start ≡ replay_entries (reverse (zs ++ ms)) start
replay-inside start zs ms e still =
    ap (λ l. replay_entries l start) (reverse-append zs (e ∷ ms)) ∙ replay-append (reverse (e ∷ ms)) (reverse zs) start
    ∙ ap (option_and_then (replay_entries (reverse zs))) (ap (λ l. replay_entries l start) (reverse-append (e ∷ []) ms) ∙ still (reverse ms))
    ∙ sym (replay-append (reverse ms) (reverse zs) start) ∙ ap (λ l. replay_entries l start) (sym (reverse-append zs ms))

PlacedBack-inside : (start : List ℕ) (zs ms : List Entry) (e : Entry) (held : List (List ℕ)) → ((es : List Entry) → replay_entries (es ++ e ∷ []) start ≡ replay_entries es start)
    → PlacedBack start (zs ++ ms) held → PlacedBack start (zs ++ e ∷ ms) held
PlacedBack-inside start [] ms e held still p =
    let l = lands start ms held p in
    (l.before, l.text, l.stands, replay-inside start [] ms e still ∙ l.leads, l.placed)
PlacedBack-inside start (z ∷ zs) ms e held still (before, text, stands, leads, rest) =
    (before, text, stands, replay-inside start (z ∷ zs) ms e still ∙ leads, PlacedBack-inside start zs ms e (before ++ text ∷ []) still rest)

-- a mark inside is taken off
PlacedBack-without : (start : List ℕ) (zs ms : List Entry) (e : Entry) (held : List (List ℕ)) → ((es : List Entry) → replay_entries (es ++ e ∷ []) start ≡ replay_entries es start)
    → PlacedBack start (zs ++ e ∷ ms) held → PlacedBack start (zs ++ ms) held
PlacedBack-without start [] ms e held still p = but_first start e ms held p
PlacedBack-without start (z ∷ zs) ms e held still (before, text, stands, leads, rest) =
    (before, text, stands, sym (replay-inside start (z ∷ zs) ms e still) ∙ leads, PlacedBack-without start zs ms e (before ++ text ∷ []) still rest)

Placed-opened : (start : List ℕ) (xs ys : List Entry) (held : List (List ℕ)) → Placed start (xs ++ ys) held → Placed start ((xs ++ Begin ∷ []) ++ ys) held
Placed-opened start xs ys held p =
    let parts = subst (λ l. PlacedBack start l held) (reverse-append xs ys) p in
    subst (λ l. Placed start l held) (sym (append_assoc xs (Begin ∷ []) ys))
    (subst (λ l. PlacedBack start l held) (sym (reverse-inside xs ys Begin)) (PlacedBack-inside start (reverse ys) (reverse xs) Begin held (λ l. replay-begin l start) parts))

Placed-closed : (n : ℕ) (start : List ℕ) (xs ys : List Entry) (held : List (List ℕ)) → adds_end n xs ≡ false → Placed start (xs ++ ys) held → Placed start (end_times n xs ++ ys) held
Placed-closed zero start xs ys held empty p = p
Placed-closed (suc n) start xs ys held empty p =
    elim (end_one-cases xs) [
      | inl c ↦
          let rest : adds_end n (end_one xs) ≡ false = ap (λ b. not b || adds_end n (end_one xs)) (sym (ap ends_in_begin c.list_is ∙ ends-past c.front Begin [])) ∙ empty in
          let all = ap (λ l. l ++ ys) c.list_is ∙ append_assoc c.front (Begin ∷ []) ys in
          let parts = subst (λ l. PlacedBack start l held) (ap reverse all ∙ reverse-inside c.front ys Begin) p in
          let without = PlacedBack-without start (reverse ys) (reverse c.front) Begin held (λ l. replay-begin l start) parts in
          Placed-closed n start (end_one xs) ys held rest
          (subst (λ l. Placed start (l ++ ys) held) (sym c.after_is) (subst (λ l. PlacedBack start l held) (sym (reverse-append c.front ys)) without))
      | inr c ↦ let wrong : true ≡ false = ap (λ b. not b || adds_end n (end_one xs)) (sym c.other) ∙ empty in cc
    ]

Placed-grouped : (k : ℕ) (es : List Entry) (start : List ℕ) (held : List (List ℕ)) → Placed start es held → Placed start (grouped_from k es) held
Placed-grouped k es start held p =
    let first = take k es in
    let inner = drop k es in
    let parts : PlacedBack start (reverse inner ++ reverse first) held = subst (λ l. PlacedBack start l held) (ap reverse (sym (take-append-drop k es)) ∙ reverse-append first inner) p in
    let begun : Placed start (first ++ Begin ∷ inner) held =
    subst (λ l. PlacedBack start l held) (sym (reverse-inside first inner Begin)) (PlacedBack-inside start (reverse inner) (reverse first) Begin held (λ l. replay-begin l start) parts) in
    subst (λ l. Placed start l held) (append_assoc first (Begin ∷ inner) (End ∷ []))
    (Placed-mark start (first ++ Begin ∷ inner) End held begun (replay-end (first ++ Begin ∷ inner) start))

-- ---- an event
after-leads : (was : Freshness) (event : Event) (es : List Entry) (start x y : List ℕ) → IsUtf8 start → replay_entries es start ≡ Some x → apply event x ≡ Some y
    → replay_entries (entries_after was event es) start ≡ Some y
after-leads was event es start x y u h k = search (rules, replay-IsUtf8, replay-unwind, apply-IsUtf8, entries_after-unwind, unwind-replay)

-- the entries after an event are placed among the texts held before and the one after it
Placed-after : (was : Freshness) (event : Event) (es : List Entry) (start y : List ℕ) (held : List (List ℕ)) → Placed start es held
    → replay_entries (entries_after was event es) start ≡ Some y → Placed start (entries_after was event es) (held ++ (y ∷ []))
Placed-after was event es start y held =
    after-cases was event (λ xs ys _. Placed start xs held → replay_entries ys start ≡ Some y → Placed start ys (held ++ (y ∷ []))) adds
    (λ front e joint h p leads. Placed-add start front joint held y (Placed-front start front (e ∷ []) held p) leads) es
  where
    adds : (xs : List Entry) → Placed start xs held → replay_entries (xs ++ entries_of event) start ≡ Some y → Placed start (xs ++ entries_of event) (held ++ (y ∷ []))
    adds xs p leads =
        elim (none_or_one event) [
          | inl n ↦ subst (λ l. Placed start l (held ++ (y ∷ []))) (sym (ap (λ l. xs ++ l) n ∙ append-nil xs)) (Placed-more start xs held (y ∷ []) p)
          | inr (k, c, one) ↦
              let is = ap (λ l. xs ++ l) one in
              subst (λ l. Placed start l (held ++ (y ∷ []))) (sym is) (Placed-add start xs (Changed k c) held y p (ap (λ l. replay_entries l start) (sym is) ∙ leads))
        ]

-- ---- the history
pub History-more : (start : List ℕ) (held more : List (List ℕ)) (text : List ℕ) (r : Record) → History start held text r → History start (held ++ more) text r
History-more start held more text r h =
    record { is_text = h.is_text; leads = h.leads; placed = Placed-more start (r.recorded ++ r.pending) held more h.placed; matched = h.matched }

pub recorded-placed : (start : List ℕ) (held : List (List ℕ)) (text : List ℕ) (r : Record) → History start held text r → Placed start r.recorded held
recorded-placed start held text r h = Placed-front start r.recorded r.pending held h.placed

alone : (start : List ℕ) (es : List Entry) (held : List (List ℕ)) → Placed start es held → Placed start (es ++ []) held
alone start es held p = subst (λ l. Placed start l held) (sym (append-nil es)) p

-- an event that drops what was undone
History-change : (event : Event) (start : List ℕ) (held : List (List ℕ)) (text next : List ℕ) (r : Record) → History start held text r → apply event text ≡ Some next
    → History start (held ++ (next ∷ [])) next (heard event r)
History-change event start held text next r h k = search (rules, after-leads, alone, Placed-after, recorded-placed, IsMatched-after)

-- entries that make the same of a text are placed alike
PlacedBack-same : (start : List ℕ) (es ks : List Entry) (held : List (List ℕ)) → map event_of es ≡ map event_of ks → PlacedBack start es held → PlacedBack start ks held
PlacedBack-same start [] [] held same p = p
PlacedBack-same start [] (k ∷ ks) held same p = cc
PlacedBack-same start (e ∷ es) [] held same p = cc
PlacedBack-same start (e ∷ es) (k ∷ ks) held same p =
    let rest : map event_of es ≡ map event_of ks = cc in
    let events : map event_of (reverse (k ∷ ks)) ≡ map event_of (reverse (e ∷ es)) = map-reverse event_of (k ∷ ks) ∙ ap reverse (sym same) ∙ sym (map-reverse event_of (e ∷ es)) in
    (p.0, p.1, p.2, ap (λ l. replay l start) events ∙ p.3, PlacedBack-same start es ks (p.0 ++ (p.1 ∷ [])) rest p.4)

last_told-events : (cursors : ℕ × ℕ) (es : List Entry) → map event_of (last_told cursors es) ≡ map event_of es
last_told-events cursors [] = refl
last_told-events cursors (e ∷ []) = ap (λ event. event ∷ []) (same-event cursors e)
last_told-events cursors (e ∷ (d ∷ ds)) = ap (λ l. event_of e ∷ l) (last_told-events cursors (d ∷ ds))

-- the last change is told its cursors
History-told : (b a : ℕ) (start : List ℕ) (held : List (List ℕ)) (text : List ℕ) (r : Record) → History start held text r → History start held text (record_step r (Cursors b a))
unfolding record_step
History-told b a start held text r h =
    let now = entries_told r.fresh b a r.recorded in
    let same : map event_of now ≡ map event_of r.recorded =
    told-cases (λ es. map event_of es ≡ map event_of r.recorded) r.fresh b a r.recorded refl (λ cursors. last_told-events cursors r.recorded) in
    let all : map event_of (r.recorded ++ r.pending) ≡ map event_of (now ++ r.pending) =
    map-append event_of r.recorded r.pending ∙ ap (λ l. l ++ map event_of r.pending) (sym same) ∙ sym (map-append event_of now r.pending) in
    let turned : map event_of (reverse (r.recorded ++ r.pending)) ≡ map event_of (reverse (now ++ r.pending)) =
    map-reverse event_of (r.recorded ++ r.pending) ∙ ap reverse all ∙ sym (map-reverse event_of (now ++ r.pending)) in
    record {
      is_text = h.is_text;
      leads = ap (λ l. replay l start) same ∙ h.leads;
      placed = PlacedBack-same start (reverse (r.recorded ++ r.pending)) (reverse (now ++ r.pending)) held turned h.placed;
      matched = BothMatched-step r (Cursors b a) h.matched;
    }

History-event : (event : Event) (start : List ℕ) (held : List (List ℕ)) (text next : List ℕ) (r : Record) → History start held text r → apply event text ≡ Some next
    → History start (held ++ (next ∷ [])) next (record_step r event)
unfolding apply
History-event event start held text next r h =
    step-cases r (λ event k. apply event text ≡ Some next → History start (held ++ (next ∷ [])) next k) (λ event k. History-change event start held text next r h k)
    (λ event stays k. still r (sym (stays text) ∙ k) h) (λ b a k. still (record_step r (Cursors b a)) k (History-told b a start held text r h)) event
  where
    still : (now : Record) → Some text ≡ Some next → History start held text now → History start (held ++ (next ∷ [])) next now
    still now same i = subst (λ t. History start (held ++ (next ∷ [])) t now) (same_Some text next same) (History-more start held (next ∷ []) text now i)

-- the steps of an edit
pub History-steps : (steps : List Step) (start : List ℕ) (held : List (List ℕ)) (old new : Line) (r : Record) → History start held old.text r → after steps old ≡ Some new
    → History start (held ++ texts_of_steps steps old.text) new.text (listener_after record_step old.cursor steps r)
History-steps [] start held old new r h e =
    let same : old ≡ new = cc in
    subst (λ k. History start k new.text r) (sym (append-nil held)) (subst (λ (l : Line). History start held l.text r) same h)
History-steps (s ∷ ss) start held old new r h e =
    let b = first_step s ss old new e in
    let told : History start (held ++ (b.text ∷ [])) b.text (listener_after_step record_step old.cursor s r) =
    History-told old.cursor s.1 start (held ++ (b.text ∷ [])) b.text (record_step r s.0) (History-event s.0 start held old.text b.text r h b.makes) in
    let rest = History-steps ss start (held ++ (b.text ∷ [])) (stepped old b.text s.1) new (listener_after_step record_step old.cursor s r) told b.rest in
    subst (λ k. History start k new.text (listener_after record_step s.1 ss (listener_after_step record_step old.cursor s r)))
    (append_assoc held (b.text ∷ []) (texts_of_steps ss b.text) ∙ ap (λ k. held ++ k) (sym (texts_after-more s.0 (map (λ (x : Step). x.0) ss) old.text b.text b.makes))) rest

-- a replay of two lists goes through a text
pub replay-split : (xs ys : List Entry) (x y : List ℕ) → replay_entries (xs ++ ys) x ≡ Some y
    → (mid : List ℕ) × (replay_entries xs x ≡ Some mid) × (replay_entries ys mid ≡ Some y)
replay-split xs ys x y h = through (replay_entries ys) (replay_entries xs x) y (sym (replay-append xs ys x) ∙ h)

-- what an undo keeps leads to the text that it leaves
pub kept-leads : (n : ℕ) (es : List Entry) (start x y : List ℕ) → IsUtf8 start → replay_entries es start ≡ Some x → unwind (last_of n es) x ≡ Some y
    → replay_entries (kept_of n es) start ≡ Some y
kept-leads n es start x y u h k =
    let p = replay-split (kept_of n es) (last_of n es) start x (ap (λ l. replay_entries l start) (kept-last n es) ∙ h) in
    let both : Some p.0 ≡ Some y = sym (unwind-replay (last_of n es) p.0 x (replay-IsUtf8 (kept_of n es) start p.0 u p.1) p.2) ∙ k in
    p.1 ∙ both

pub History-undone : (n : ℕ) (start : List ℕ) (held : List (List ℕ)) (text next : List ℕ) (r : Record) → History start held text r
    → unwind (last_of n r.recorded) text ≡ Some next → History start held next (undone n r)
History-undone n start held text next r h k =
    let es = r.recorded in
    record {
      is_text = h.is_text;
      leads = kept-leads n es start text next h.is_text h.leads k;
      placed = subst (λ l. Placed start l held) (ap (λ l. l ++ r.pending) (sym (kept-last n es)) ∙ append_assoc (kept_of n es) (last_of n es) r.pending) h.placed;
      matched = BothMatched-undone n r h.matched;
    }

-- and that text was held before
pub undo-held : (n : ℕ) (start : List ℕ) (held : List (List ℕ)) (text next : List ℕ) (r : Record) → History start held text r
    → unwind (last_of n r.recorded) text ≡ Some next → WasHeld next held
undo-held n start held text next r h k =
    let es = r.recorded in
    let placed = subst (λ l. Placed start l held) (sym (kept-last n es)) (recorded-placed start held text r h) in
    Placed-held start (kept_of n es) held next (Placed-front start (kept_of n es) (last_of n es) held placed) (kept-leads n es start text next h.is_text h.leads k)

pub History-redone : (start : List ℕ) (held : List (List ℕ)) (text next : List ℕ) (r : Record) → History start held text r
    → replay_entries (redo_of r.pending) text ≡ Some next → History start held next (redone r)
History-redone start held text next r h k =
    let unit = redo_of r.pending in
    let rest = drop (length unit) r.pending in
    let d = Redoes-of r.pending h.matched.pending in
    record {
      is_text = h.is_text;
      leads = replay-append r.recorded unit start ∙ ap (option_and_then (replay_entries unit)) h.leads ∙ k;
      placed = subst (λ l. Placed start l held) (ap (λ l. r.recorded ++ l) (sym d.list_is) ∙ sym (append_assoc r.recorded unit rest)) h.placed;
      matched = BothMatched-redone r h.matched;
    }

pub History-dropped : (start : List ℕ) (held : List (List ℕ)) (text : List ℕ) (r : Record) → History start held text r → History start held text (redo_dropped r)
History-dropped start held text r h = record {
  is_text = h.is_text;
  leads = h.leads;
  placed = alone start r.recorded held (recorded-placed start held text r h);
  matched = record { recorded = h.matched.recorded; pending = refl };
}

-- with another freshness, and with marks around a unit
pub History-fresh : (start : List ℕ) (held : List (List ℕ)) (text : List ℕ) (r : Record) (fresh : Freshness) → History start held text r → History start held text (record r { fresh = fresh })
History-fresh start held text r fresh h =
    record { is_text = h.is_text; leads = h.leads; placed = h.placed; matched = record { recorded = h.matched.recorded; pending = h.matched.pending } }

pub History-united : (start : List ℕ) (held : List (List ℕ)) (text : List ℕ) (r : Record) (begin : UnitStart) → History start held text r → History start held text (united begin r)
History-united start held text r begin h =
    let matched = BothMatched-united begin r h.matched in
    let grouped = Placed-grouped begin.from r.recorded start held (recorded-placed start held text r h) in
    record {
      is_text = h.is_text;
      leads = replay-united begin r start ∙ h.leads;
      placed = united-cases begin r (λ k. Placed start (k.recorded ++ k.pending) held) (λ e. h.placed) (λ m. alone start (grouped_from begin.from r.recorded) held grouped) h.placed;
      matched = matched;
    }

-- entries that lead on from the text are placed among the texts on their way
pub Placed-ahead : (start : List ℕ) (xs ys : List Entry) (held : List (List ℕ)) (text end : List ℕ) → Placed start xs held → replay_entries xs start ≡ Some text
    → replay_entries ys text ≡ Some end → Placed start (xs ++ ys) (held ++ texts_ahead ys text)
Placed-ahead start xs [] held text end p h k = subst (λ l. Placed start l (held ++ [])) (sym (append-nil xs)) (Placed-more start xs held [] p)
Placed-ahead start xs (y ∷ ys) held text end p h k =
    let (mid, made, on) = through (replay_entries ys) (apply (event_of y) text) end k in
    let leads = replay-append xs (y ∷ []) start ∙ ap (option_and_then (replay_entries (y ∷ []))) h ∙ ap (option_and_then (λ t. Some t)) made in
    let more : held ++ texts_ahead (y ∷ ys) text ≡ (held ++ mid ∷ []) ++ texts_ahead ys mid =
    ap (λ (o : Option (List ℕ)). held ++ elim o [ None ↦ [] | Some next ↦ next ∷ texts_ahead ys next ]) made ∙ sym (append_assoc held (mid ∷ []) (texts_ahead ys mid)) in
    subst (λ l. Placed start l (held ++ texts_ahead (y ∷ ys) text)) (append_assoc xs (y ∷ []) ys)
    (subst (Placed start ((xs ++ y ∷ []) ++ ys)) (sym more) (Placed-ahead start (xs ++ y ∷ []) ys (held ++ mid ∷ []) mid end (Placed-add start xs y held mid p leads) leads on))

-- ---- a call that touches no line
abbrev IsPlaced : List ℕ → List (List ℕ) → Record → Type 0
IsPlaced start held r = Placed start (r.recorded ++ r.pending) held × BothMatched r

placed-closed : (n : ℕ) (start : List ℕ) (held : List (List ℕ)) (r : Record) → n ≤ level r.recorded → Placed start r.recorded held → BothMatched r → IsPlaced start (held ++ []) (with_closed n r)
placed-closed n start held r few p m =
    let placed = end_times-keeps (λ es. Placed start es held) (λ es q. Placed-end_one es start held q) n r.recorded p in
    (Placed-more start (end_times n r.recorded ++ []) held [] (alone start (end_times n r.recorded) held placed), BothMatched-closed n r few m)

placed-cut : (len : ℕ) (start : List ℕ) (held : List (List ℕ)) (r : Record) → Placed start r.recorded held → BothMatched r → IsPlaced start (held ++ []) (truncated len r)
placed-cut len start held r p m =
    let placed = Placed-front start (take len r.recorded) (drop len r.recorded) held (subst (λ l. Placed start l held) (sym (take-append-drop len r.recorded)) p) in
    (Placed-more start (take len r.recorded ++ []) held [] (alone start (take len r.recorded) held placed), BothMatched-truncated len r m)

-- the entries after it are placed, and their marks match
placed-call : (call : RecordCall) (start : List ℕ) (held : List (List ℕ)) (text : List ℕ) (r : Record) → History start held text r → MayCome call r text → Placed start r.recorded held
    → IsPlaced start (held ++ texts_of_call call r text) (after_call call r)
placed-call parts_next start held text r h m p = (Placed-more start (r.recorded ++ r.pending) held [] h.placed, record { recorded = h.matched.recorded; pending = h.matched.pending })
placed-call puts_begin start held text r h m p =
    let es = r.recorded ++ Begin ∷ [] in
    (Placed-more start (es ++ []) held [] (alone start es held (Placed-mark start r.recorded Begin held p (replay-begin r.recorded start))), BothMatched-begun r h.matched)
placed-call puts_ends start held text r h m p = placed-closed (level r.recorded) start held r (omega arith) p h.matched
placed-call puts_end start held text r h m p = placed-closed (min 1 (level r.recorded)) start held r (omega arith) p h.matched
placed-call reopens start held text r h m p =
    cond_both (ends_in_end r.recorded) _ _ (IsPlaced start (held ++ [])) (λ _. placed-cut (length r.recorded - 1) start held r p h.matched)
    (λ _. (Placed-more start (r.recorded ++ r.pending) held [] h.placed, h.matched))
placed-call keeps_undone start held text r h m p =
    let es = there_and_back r.pending in
    let more = held ++ texts_ahead es text in
    let back = replays-round r.pending text (replay-IsUtf8 r.recorded start text h.is_text h.leads) m.1 in
    kept-either (IsPlaced start more) r (Placed-more start (r.recorded ++ r.pending) held (texts_ahead es text) h.placed, h.matched)
    (alone start (r.recorded ++ es) more (Placed-ahead start r.recorded es held text text p h.leads back), BothMatched-round r h.matched)
placed-call (shortens len) start held text r h m p = placed-cut len start held r p h.matched

pub History-call : (call : RecordCall) (start : List ℕ) (held : List (List ℕ)) (text : List ℕ) (r : Record) → History start held text r → MayCome call r text
    → History start (held ++ texts_of_call call r text) text (after_call call r)
History-call call start held text r h m =
    let u = replay-IsUtf8 r.recorded start text h.is_text h.leads in
    let leads = replay-unwind (after_call call r).recorded text start u (unwind-call call r text u m ∙ unwind-replay r.recorded start text h.is_text h.leads) in
    let (placed, matched) = placed-call call start held text r h m (recorded-placed start held text r h) in
    record { is_text = h.is_text; leads = leads; placed = placed; matched = matched }

-- the undone entries can be made again
pub pending-leads : (start : List ℕ) (held : List (List ℕ)) (text : List ℕ) (r : Record) → History start held text r → IsSome (replay_entries r.pending text)
pending-leads start held text r h = grind (arith, Placed-leads, replay-split)

-- a Begin was put before what waits to be redone, or those of empty groups were taken off there
pub History-waiting : (start : List ℕ) (held : List (List ℕ)) (text : List ℕ) (r : Record) (now : List Entry) → MarksMoved r.recorded now → IsMatched now → History start held text r
    → History start held text (still_waiting now r)
History-waiting start held text r now (inl is) matched h = record {
  is_text = h.is_text;
  leads = ap (λ l. replay_entries l start) is ∙ replay-begin r.recorded start ∙ h.leads;
  placed = subst (λ l. Placed start (l ++ r.pending) held) (sym is) (Placed-opened start r.recorded r.pending held h.placed);
  matched = record { recorded = matched; pending = h.matched.pending };
}
History-waiting start held text r now (inr (n, empty, is)) matched h = record {
  is_text = h.is_text;
  leads = ap (λ l. replay_entries l start) is
      ∙ end_times-keeps (λ l. replay_entries l start ≡ Some text) (λ l e. replay-end_one l start ∙ e) n r.recorded h.leads;
  placed = subst (λ l. Placed start (l ++ r.pending) held) (sym is) (Placed-closed n start r.recorded r.pending held empty h.placed);
  matched = record { recorded = matched; pending = h.matched.pending };
}

-- ---- once the first entries went
-- the last text of a list is the last one of each end of it
last_of_end : (xs bs rs : List (List ℕ)) (x y : List ℕ) → xs ++ x ∷ [] ≡ bs ++ y ∷ rs → (front : List (List ℕ)) × (front ++ x ∷ [] ≡ y ∷ rs)
last_of_end xs [] rs x y e = (xs, e)
last_of_end [] (b ∷ bs) rs x y e = absurd (omega (arith, ap length e, length-append bs (y ∷ rs)))
last_of_end (c ∷ xs) (b ∷ bs) rs x y e = let rest : xs ++ x ∷ [] ≡ bs ++ y ∷ rs = cc in last_of_end xs bs rs x y rest

-- entries, the last first, that are placed after others are placed among the texts from the one on to which those lead
goes_on : (start : List ℕ) (first es : List Entry) (held : List (List ℕ)) → PlacedBack start (es ++ first) held
    → (before : List (List ℕ)) × (begin : List ℕ) × (s : StandsAfter before begin held) × (replay_entries (reverse first) start ≡ Some begin) × PlacedBack begin es (begin ∷ s.rest)
goes_on start first [] held p = let l = lands start first held p in (l.before, l.text, l.stands, l.leads, ([], record { rest = l.stands.rest; is = refl }))
goes_on start first (e ∷ es) held (before, text, s, leads, placed) =
    let (b, begin, t, made, on) = goes_on start first es (before ++ text ∷ []) placed in
    let (front, last) = last_of_end before b t.rest text begin t.is in
    let makes : replay_entries (reverse (e ∷ es)) begin ≡ Some text =
    sym (ap (option_and_then (replay_entries (reverse (e ∷ es)))) made) ∙ sym (replay-append (reverse first) (reverse (e ∷ es)) start)
    ∙ sym (ap (λ l. replay_entries l start) (reverse-append (e ∷ es) first)) ∙ leads in
    let is = s.is ∙ sym (append_assoc before (text ∷ []) s.rest) ∙ ap (λ h. h ++ s.rest) t.is ∙ append_assoc b (begin ∷ t.rest) s.rest in
    let within = ap (λ h. h ++ s.rest) (sym last) ∙ append_assoc front (text ∷ []) s.rest in
    (b, begin, record { rest = t.rest ++ s.rest; is = is }, made, (front, text, record { rest = s.rest; is = within }, makes, subst (PlacedBack begin es) (sym last) on))

-- the session forgets its first entries
pub holds_forgotten : (start : List ℕ) (held : List (List ℕ)) (s : State) → Holds start held s → HoldsOn start held s
holds_forgotten start held s h =
    let r = s.pair.changes in
    let bound = s.options.bound in
    let kept = kept_within bound.entries bound.bytes r.recorded in
    let all : gone s ++ kept ≡ r.recorded = gone-kept bound.entries bound.bytes r.recorded in
    let turned : reverse (r.recorded ++ r.pending) ≡ reverse (kept ++ r.pending) ++ reverse (gone s) =
    ap reverse (ap (λ l. l ++ r.pending) (sym all) ∙ append_assoc (gone s) kept r.pending) ∙ reverse-append (gone s) (kept ++ r.pending) in
    let (before, begin, stands, leads, placed) = goes_on start (reverse (gone s)) (reverse (kept ++ r.pending)) held (subst (λ l. PlacedBack start l held) turned h.placed) in
    let made = sym (back_again (gone s) start) ∙ leads in
    record {
      begin = begin;
      made = made;
      before = before;
      stands = stands;
      holds = record {
        is_text = replay-IsUtf8 (gone s) start begin h.is_text made;
        leads = sym (ap (option_and_then (replay_entries kept)) made) ∙ sym (replay-append (gone s) kept start) ∙ ap (λ l. replay_entries l start) all ∙ h.leads;
        placed = placed;
        matched = record { recorded = IsMatched-kept bound.entries bound.bytes r.recorded h.matched.recorded; pending = h.matched.pending };
      };
    }
