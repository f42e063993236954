-- A record that walks to a text and on from it, whatever is done; and a line that has a way over entries where its text has one.
use Rattle.rl_record.proofs.Common.{Ahead, Back, Begin, Bool, Changed, Cursors, Done, End, Entry, Event, Freshness, Halted, IsCharBoundary, IsSome, IsUtf8, Kind, LeadsTo, Line, List, None, Option, Plan, Record, Redone, Refusal, Some, StandAfter, StandBefore, Step, Swap, Taken, Undone, Walk, Walks, [], after, agree, ap, apply, arith, begun, bytes_eq-Decides, change_count, cond_both, cursor_after, cursor_stands, cursor_told, cursors_of, drop, end_one, end_times, ends_in_end, entries_after, entries_of, entries_told, event_of, false, freshness_added, freshness_joined, freshness_of, freshness_told, has_change, inl, inr, inverse, is_boundary, joined, kept_of, kept_point, last_of, length, line_after, line_ahead, line_back, listener_after, listener_after_step, option_and_then, option_map_or, place_after, point_kept, redo_of, refl, reopened, replay_entries, replays_to, same_Some, stepped, subst, sym, take, take-append-drop, text_after, text_back, true, truncated, unwind, unwrap_or, with_closed, with_cursors, ℕ, ◌++◌, ◌-◌, ◌↔◌, ◌∙◌, ◌∷◌, ◌≡◌, ◌⊎◌}
use Rattle.rl_base.proofs.Texts.SwapLemmas.{apply-IsUtf8}
use Rattle.rl_base.proofs.Texts.TextLemmas.{is_boundary-means, is_boundary-true}
use Rattle.rl_base.specs.Event.{apply}
use Rattle.rl_line.proofs.Changes.BackLemmas.{line_after-is, line_ahead-append, line_ahead-replay, line_back-IsSome, line_back-append, line_back-text_back, line_back-unwind, marks-take, marks-unwind}
use Rattle.rl_line.proofs.Changes.ChangeLemmas.{text_back-unwind}
use Rattle.rl_line.proofs.Changes.InverseLemmas.{IsSome-through, replay-append, replay-unwind, then_some, through, undoes-inverse, unwind-replay, value_of}
use Rattle.rl_line.proofs.Changes.RoomLemmas.{bytes_back-first}
use Rattle.rl_line.proofs.Changes.WalkLemmas.{Walk-IsUtf8, Walk-append, Walk-back, Walk-line_ahead, Walk-line_back, Walk-replay, Walk-split, stands-on}
use Rattle.rl_line.proofs.Plans.PlanLemmas.{Fits-from, first_step}
use Rattle.rl_line.specs.Walk.{WalksOver}
use Rattle.rl_record.proofs.Records.JoinLemmas.{step-cases}
use Rattle.rl_record.proofs.Records.LastLemmas.{after-cases, end-last, end_times-keeps, told-added, told-none, told-past, told-twice}
use Rattle.rl_record.proofs.Records.MarkLemmas.{unwind-truncated}
use Rattle.rl_record.proofs.Records.MatchLemmas.{redo-front}
use Rattle.rl_record.proofs.Records.RecordLemmas.{entries_of-undo, joins, none_or_one, redone-joined}
use Rattle.rl_record.proofs.Records.SavePointLemmas.{told-at}
use Rattle.rl_record.proofs.Records.UnitLemmas.{kept-last}
use Rattle.rl_record.specs.Record.{record_step}

-- and the first entries lead to the text as all do
pub marks-replay : (len : ℕ) (es : List Entry) (text : List ℕ) → has_change es ≡ false → agree (unwind es text) (unwind (take len es) text) ≡ true
marks-replay len es text none = grind (arith, marks-unwind, marks-take, bytes_eq-Decides)

-- a cursor that was told is where the cursor goes
told-goes : (e : Entry) (cursor place : ℕ) → cursor_told e ≡ Some place → cursor_after cursor e ≡ place
told-goes e cursor place h = ap (λ o. unwrap_or o (place_after cursor e)) h

stands-where : (e : Entry) (text : List ℕ) → ((place : ℕ) → cursor_told e ≡ Some place → IsCharBoundary text place) → cursor_stands true e text ≡ true
stands-where e text h = by (cursor_told e) h
  where
    by : (o : Option ℕ) → ((place : ℕ) → o ≡ Some place → IsCharBoundary text place) → option_map_or (is_boundary text) o true ≡ true
    by None h = refl
    by (Some place) h = is_boundary-true text place (h place refl)

-- a line that goes over an entry whose cursor was told
stands-over : (e : Entry) (line next : Line) (place : ℕ) (text : List ℕ) → line_after e line ≡ Some next → cursor_told e ≡ Some place → apply (event_of e) line.text ≡ Some text
    → IsCharBoundary text place
stands-over e line next place text h told makes =
    let f = Fits-from (event_of e) (cursor_after line.cursor e) line next h in
    let same : f.text ≡ text = same_Some f.text text (sym f.makes ∙ makes) in
    subst (λ t. IsCharBoundary t place) same (subst (IsCharBoundary f.text) (told-goes e line.cursor place told) f.stands)

back-stands : (es : List Entry) (line : Line) → IsSome (line_back es line) → StandBefore es line.text
back-stands es line h first others e place now is told unwound =
    let parts = subst IsSome (ap (λ l. line_back l line) is ∙ line_back-append first (e ∷ others) line) h in
    let mid = value_of (line_back (e ∷ others) line) (IsSome-through (line_back first) (line_back (e ∷ others) line) parts) in
    let p = through (line_after (inverse e)) (line_back others line) mid.0 mid.1 in
    stands-over (inverse e) p.0 mid.0 place now p.2 told (sym (ap (option_and_then (apply (event_of (inverse e)))) (line_back-unwind others line p.0 p.1)) ∙ unwound)

back-goes : (es : List Entry) (text now : List ℕ) → unwind es text ≡ Some now → StandBefore es text → text_back true es text ≡ Some now
back-goes [] text now h stand = h
back-goes (e ∷ es) text now h stand =
    let p = through (apply (event_of (inverse e))) (unwind es text) now h in
    ap (option_and_then (text_after true (inverse e)))
    (back-goes es text p.0 p.1 (λ first others d place t is told unwound. stand (e ∷ first) others d place t (ap (λ l. e ∷ l) is) told unwound))
    ∙ stands-on (inverse e) p.0 now p.2 (stands-where (inverse e) now (λ place told. stand [] es e place now refl told h))

pub ways-back : (es : List Entry) (line : Line) → IsUtf8 line.text → IsCharBoundary line.text line.cursor → IsSome (line_back es line) ↔ (IsSome (unwind es line.text) × StandBefore es line.text)
ways-back es line u at = (
  (λ h.
      let now = value_of (line_back es line) h in
      (subst IsSome (sym (line_back-unwind es line now.0 now.1)) refl, back-stands es line h)),
  (λ h.
      let now = value_of (unwind es line.text) h.0 in
      line_back-IsSome es line u at (subst IsSome (sym (back-goes es line.text now.0 now.1 h.1)) refl)),
)

ahead-stands : (es : List Entry) (line : Line) → IsSome (line_ahead es line) → StandAfter es line.text
ahead-stands es line h first others e place now is told replayed =
    let parts = subst IsSome (ap (λ l. line_ahead l line) is ∙ line_ahead-append first (e ∷ others) line) h in
    let mid = value_of (line_ahead first line) (IsSome-through (line_ahead (e ∷ others)) (line_ahead first line) parts) in
    let rest = subst (λ o. IsSome (option_and_then (line_ahead (e ∷ others)) o)) mid.1 parts in
    let next = value_of (line_after e mid.0) (IsSome-through (line_ahead others) (line_after e mid.0) rest) in
    let one : replay_entries (e ∷ []) mid.0.text ≡ Some now =
    sym (replay-append first (e ∷ []) line.text ∙ ap (option_and_then (replay_entries (e ∷ []))) (line_ahead-replay first line mid.0 mid.1)) ∙ replayed in
    stands-over e mid.0 next.0 place now next.1 told (sym (then_some (apply (event_of e) mid.0.text)) ∙ one)

ahead-goes : (es : List Entry) (line : Line) (now : List ℕ) → IsUtf8 line.text → IsCharBoundary line.text line.cursor → replay_entries es line.text ≡ Some now → StandAfter es line.text
    → IsSome (line_ahead es line)
ahead-goes [] line now u at h stand = refl
ahead-goes (e ∷ es) line now u at h stand =
    let p = through (replay_entries es) (apply (event_of e) line.text) now h in
    let one : replay_entries (e ∷ []) line.text ≡ Some p.0 = ap (option_and_then (λ t. Some t)) p.1 in
    let over = stands-on e line.text p.0 p.1 (stands-where e p.0 (λ place told. stand [] es e place p.0 refl told one)) in
    let l = line_after-is e line p.0 u at over in
    let next = stepped line p.0 (cursor_after line.cursor e) in
    subst (λ o. IsSome (option_and_then (line_ahead es) o)) (sym l.0)
    (ahead-goes es next now (apply-IsUtf8 (event_of e) line.text p.0 u p.1) l.1 p.2
    (λ first others d place t is told replayed. stand (e ∷ first) others d place t (ap (λ k. e ∷ k) is) told (ap (option_and_then (replay_entries (first ++ d ∷ []))) p.1 ∙ replayed)))

pub ways-ahead : (es : List Entry) (line : Line) → IsUtf8 line.text → IsCharBoundary line.text line.cursor
    → IsSome (line_ahead es line) ↔ (IsSome (replay_entries es line.text) × StandAfter es line.text)
ways-ahead es line u at = (
  (λ h.
      let now = value_of (line_ahead es line) h in
      (subst IsSome (sym (line_ahead-replay es line now.0 now.1)) refl, ahead-stands es line h)),
  (λ h.
      let now = value_of (replay_entries es line.text) h.0 in
      ahead-goes es line now.0 u at now.1 h.1),
)

pub ruleset led_back = (text_back-unwind, bytes_back-first, marks-replay)

-- ---- an event, and the cursors that are told after it
-- an entry that was told no cursors
untold : (e : Entry) (x y : List ℕ) → apply (event_of e) x ≡ Some y → cursors_of e ≡ None → LeadsTo e x y
untold (Changed k c) x y makes none = record { makes = makes; before = rw none refl; after = rw none refl }
untold mark x y makes none = record { makes = makes; before = refl; after = refl }

-- one that was told them
told : (e : Entry) (x y : List ℕ) (p : ℕ × ℕ) → apply (event_of e) x ≡ Some y → IsCharBoundary x p.0 → IsCharBoundary y p.1 → LeadsTo (with_cursors p e) x y
told (Changed k c) x y p makes b a = record { makes = makes; before = is_boundary-true x p.0 b; after = is_boundary-true y p.1 a }
told mark x y p makes b a = record { makes = makes; before = refl; after = refl }

-- an event whose entry is added
added : (was : Freshness) (event : Event) (x y : List ℕ) (b a : ℕ) → IsUtf8 x → apply event x ≡ Some y → IsCharBoundary x b → IsCharBoundary y a
    → Walk (entries_told (freshness_added was (entries_of event)) b a (entries_of event)) x y
added was event x y b a u h before after = from (entries_of event) (entries_of-undo event x y u h) (none_or_one event)
  where
    from : (es : List Entry) → unwind es y ≡ Some x → (es ≡ []) ⊎ ((k : Kind) × (c : Swap) × (es ≡ Changed k c ∷ [])) → Walk (entries_told (freshness_added was es) b a es) x y
    from es back (inl none) =
        subst (λ ks. Walk (entries_told (freshness_added was ks) b a ks) x y) (sym none)
        (subst (λ ks. Walk ks x y) (sym (told-none was b a [])) (same_Some _ _ (sym (ap (λ ks. unwind ks y) (sym none) ∙ back))))
    from es back (inr (k, c, one)) =
        let makes = undoes-inverse (Changed k c) x y (apply-IsUtf8 event x y u h) (ap (λ ks. unwind ks y) (sym one) ∙ back) in
        subst (λ ks. Walk (entries_told (freshness_added was ks) b a ks) x y) (sym one) (y, told (Changed k c) x y (b, a) makes before after, refl)

-- the one entry that stands for two was told no cursors
joint-untold : (event : Event) (e joint : Entry) → joined event e ≡ Some joint → cursors_of joint ≡ None
joint-untold event e joint h = let j = joins event e joint h in ap cursors_of (sym j.is) ∙ j.none

-- the cursor before an entry, where it was told
pub cursor_told-back : (e : Entry) (p : ℕ × ℕ) → cursors_of e ≡ Some p → cursor_told (inverse e) ≡ Some p.0
cursor_told-back (Changed k s) p c = rw c refl
cursor_told-back mark p c = cc

-- it stands in the text before it
before-stands : (e : Entry) (x : List ℕ) (p : ℕ × ℕ) → cursors_of e ≡ Some p → cursor_stands true (inverse e) x ≡ true → IsCharBoundary x p.0
before-stands e x p c h = is_boundary-means x p.0 (ap (λ o. option_map_or (is_boundary x) o true) (sym (cursor_told-back e p c)) ∙ h)

-- an event that joined an entry, which keeps the cursor before it
merged : (e joint : Entry) (x y z : List ℕ) (b a : ℕ) → apply (event_of joint) x ≡ Some z → cursors_of joint ≡ None → LeadsTo e x y → IsCharBoundary z a
    → Walk (entries_told (freshness_joined (cursors_of e)) b a (joint ∷ [])) x z
merged e joint x y z b a makes none lead after = from (cursors_of e) refl
  where
    from : (o : Option (ℕ × ℕ)) → cursors_of e ≡ o → Walk (entries_told (freshness_joined o) b a (joint ∷ [])) x z
    from None c = (z, untold joint x z makes none, refl)
    from (Some p) c = (z, told joint x z (p.0, a) makes (before-stands e x p c lead.before) after, refl)

-- an event of a text, and the cursors after it
walked : (was : Freshness) (event : Event) (es : List Entry) (x text now : List ℕ) (b a : ℕ) → IsUtf8 x → Walk es x text → apply event text ≡ Some now → IsCharBoundary text b → IsCharBoundary now a
    → Walk (entries_told (freshness_of was event es) b a (entries_after was event es)) x now
walked was event es x text now b a u w h before after =
    after-cases was event (λ xs ys fresh. Walk xs x text → Walk (entries_told fresh b a ys) x now)
    (λ xs v. subst (λ l. Walk l x now) (sym (told-added was xs (entries_of event) b a))
    (Walk-append xs (entries_told (freshness_added was (entries_of event)) b a (entries_of event)) x text now v (added was event text now b a (Walk-IsUtf8 xs x text u v) h before after)))
    joins es w
  where
    joins : (front : List Entry) (e joint : Entry) → joined event e ≡ Some joint → Walk (front ++ e ∷ []) x text → Walk (entries_told (freshness_joined (cursors_of e)) b a (front ++ joint ∷ [])) x now
    joins front e joint j v =
        let (mid, first, last) = Walk-split front (e ∷ []) x text v in
        let lead : LeadsTo e mid text = subst (LeadsTo e mid) last.2 last.1 in
        let makes = redone-joined event e joint mid text now j (Walk-IsUtf8 front x mid u first) lead.makes h in
        let fresh = freshness_joined (cursors_of e) in
        subst (λ l. Walk l x now) (sym (told-past fresh b a front joint []))
        (Walk-append front (entries_told fresh b a (joint ∷ [])) x mid now first (merged e joint mid text now b a makes (joint-untold event e joint j) lead after))

-- ---- a record
pub Walks-told : (r : Record) (text : List ℕ) (b a : ℕ) → Walks r text → Walks (record_step r (Cursors b a)) text
unfolding record_step
Walks-told r text b a w = record {
  start = w.start;
  is_text = w.is_text;
  back = subst (λ es. Walk es w.start text) (sym (ap (λ f. entries_told f b a r.recorded) (sym w.stale) ∙ told-none r.fresh b a r.recorded)) w.back;
  end = w.end;
  ahead = w.ahead;
  stale = told-twice r.fresh;
}

-- a step that a line took, and its record heard
Walks-step : (event : Event) (b a : ℕ) (r : Record) (text now : List ℕ) → Walks r text → apply event text ≡ Some now → IsCharBoundary text b → IsCharBoundary now a
    → Walks (listener_after_step record_step b (event, a) r) now
unfolding apply record_step
Walks-step event b a r text now w =
    step-cases r (λ event k. apply event text ≡ Some now → IsCharBoundary text b → IsCharBoundary now a → Walks (record_step k (Cursors b a)) now)
    (λ event h before after.
    record { start = w.start; is_text = w.is_text; back = walked r.fresh event r.recorded w.start text now b a w.is_text w.back h before after; end = now; ahead = refl; stale = told-twice (freshness_of r.fresh event r.recorded) })
    (λ event stays h before after. still r (sym (stays text) ∙ h) w)
    (λ b' a' h before after. still (record_step r (Cursors b' a')) h (Walks-told r text b' a' w)) event
  where
    still : (k : Record) → Some text ≡ Some now → Walks k text → Walks (record_step k (Cursors b a)) now
    still k same v = subst (Walks (record_step k (Cursors b a))) (same_Some text now same) (Walks-told k text b a v)

Walks-after : (steps : List Step) (r : Record) (old new : Line) → IsCharBoundary old.text old.cursor → after steps old ≡ Some new → Walks r old.text → Walks (listener_after record_step old.cursor steps r) new.text
Walks-after [] r old new at h w = let e : old ≡ new = cc in subst (λ (l : Line). Walks r l.text) e w
Walks-after (s ∷ ss) r old new at h w =
    let b = first_step s ss old new h in
    Walks-after ss (listener_after_step record_step old.cursor s r) (stepped old b.text s.1) new b.stands b.rest (Walks-step s.0 old.cursor s.1 r old.text b.text w b.makes at b.stands)

Walks-Taken : (steps : List Step) (r now : Record) (old new : Line) → IsCharBoundary old.text old.cursor → Taken record_step steps old new r now → Walks r old.text → Walks now new.text
Walks-Taken steps r now old new at t w = subst (λ (k : Record). Walks k new.text) (sym t.listener) (Walks-after steps r old new at t.line w)

pub Walks-Done : {A : Type 0} (plan : Plan A) (r now : Record) (old new : Line) (x : A) → IsCharBoundary old.text old.cursor → Done record_step plan old new r now x → Walks r old.text → Walks now new.text
Walks-Done plan r now old new x at d w = subst (λ (l : Line). Walks now l.text) (sym d.line) (Walks-Taken plan.steps r now old d.last at d.taken w)

-- where a refusal leaves the record as it was
pub Walks-Halted : {A : Type 0} (refused : Record → Event → Refusal → Record → Type 0) (plan : Plan A) (r now : Record) (old new : Line) (why : Refusal)
    → ((m : Record) (e : Event) (v : Refusal) (k : Record) → refused m e v k → k ≡ m) → IsCharBoundary old.text old.cursor
    → Halted record_step refused plan old new r now why → Walks r old.text → Walks now new.text
Walks-Halted refused plan r now old new why stays at h w =
    subst (λ (k : Record). Walks k new.text) (sym (stays h.middle h.next.0 why now h.cause)) (Walks-Taken h.first r h.middle old new at h.taken w)

pub Walks-Undone : (n : ℕ) (r now : Record) (old new : Line) (a : Bool) → Undone n r now old new a → Walks r old.text → Walks now new.text
Walks-Undone n r now old new a d w =
    let kept = kept_of n r.recorded in
    let last = last_of n r.recorded in
    let (mid, first, after) = Walk-split kept last w.start old.text (subst (λ es. Walk es w.start old.text) (sym (kept-last n r.recorded)) w.back) in
    let there : mid ≡ new.text =
    same_Some _ _ (sym (Walk-back last mid old.text (Walk-IsUtf8 kept w.start mid w.is_text first) after) ∙ line_back-text_back last old new d.line_is) in
    subst (λ (k : Record). Walks k new.text) (sym d.record_is) (record {
      start = w.start;
      is_text = w.is_text;
      back = subst (Walk kept w.start) there first;
      end = w.end;
      ahead = Walk-append last r.pending new.text old.text w.end (subst (λ t. Walk last t old.text) there after) w.ahead;
      stale = told-at (change_count kept) r.saved;
    })

pub Walks-Redone : (r now : Record) (old new : Line) (a : Bool) → Redone r now old new a → Walks r old.text → Walks now new.text
Walks-Redone r now old new a d w =
    let unit = redo_of r.pending in
    let rest = drop (length unit) r.pending in
    let (mid, first, after) = Walk-split unit rest old.text w.end (subst (λ es. Walk es old.text w.end) (sym (redo-front r.pending)) w.ahead) in
    let there : mid ≡ new.text = same_Some _ _ (sym (Walk-replay unit old.text mid first) ∙ line_ahead-replay unit old new d.line_is) in
    subst (λ (k : Record). Walks k new.text) (sym d.record_is) (record {
      start = w.start;
      is_text = w.is_text;
      back = Walk-append r.recorded unit w.start old.text new.text w.back (subst (Walk unit old.text) there first);
      end = w.end;
      ahead = subst (λ t. Walk rest t w.end) there after;
      stale = told-at (change_count (r.recorded ++ unit)) r.saved;
    })

-- ---- marks
pub mark-leads : (text : List ℕ) → LeadsTo Begin text text × LeadsTo End text text
unfolding apply
mark-leads text = (record { makes = refl; before = refl; after = refl }, record { makes = refl; before = refl; after = refl })

pub Walks-begun : (r : Record) (text : List ℕ) → Walks r text → Walks (begun r) text
Walks-begun r text w = record {
  start = w.start;
  is_text = w.is_text;
  back = Walk-append r.recorded (Begin ∷ []) w.start text text w.back (text, (mark-leads text).0, refl);
  end = text;
  ahead = refl;
  stale = told-at (change_count (r.recorded ++ Begin ∷ [])) (point_kept r);
}

pub Walk-end_one : (es : List Entry) (x y : List ℕ) → Walk es x y → Walk (end_one es) x y
unfolding apply
Walk-end_one [] x y e = (x, (mark-leads x).1, e)
Walk-end_one (Begin ∷ []) x y w = same_Some _ _ w.1.makes ∙ w.2
Walk-end_one (e ∷ []) x y w = (w.0, w.1, (w.0, (mark-leads w.0).1, w.2))
Walk-end_one (e ∷ (d ∷ ds)) x y w = (w.0, w.1, Walk-end_one (d ∷ ds) w.0 y w.2)

pub Walks-closed : (n : ℕ) (r : Record) (text : List ℕ) → Walks r text → Walks (with_closed n r) text
Walks-closed n r text w =
    let back = end_times-keeps (λ es. Walk es w.start text) (λ es v. Walk-end_one es w.start text v) n r.recorded w.back in
    record { start = w.start; is_text = w.is_text; back = back; end = text; ahead = refl; stale = told-at (change_count (end_times n r.recorded)) (point_kept r) }

pub Walks-reopened : (r : Record) (text : List ℕ) → Walks r text → Walks (reopened r) text
unfolding apply
Walks-reopened r text w =
    cond_both (ends_in_end r.recorded) _ _ (λ (k : Record). Walks k text)
    (λ h.
    let e = end-last r.recorded h in
    let (mid, first, last) = Walk-split e.front (End ∷ []) w.start text (subst (λ es. Walk es w.start text) e.is w.back) in
    let same : mid ≡ text = same_Some _ _ last.1.makes ∙ last.2 in
    record { start = w.start; is_text = w.is_text; back = subst (λ es. Walk es w.start text) (sym e.cut) (subst (Walk e.front w.start) same first); end = text; ahead = refl; stale = told-at (change_count (take (length r.recorded - 1) r.recorded)) (kept_point (change_count (take (length r.recorded - 1) r.recorded)) r.saved) })
    (λ _. w)

-- entries that lead to the text by themselves pass through the same texts
pub Walks-truncated : (len : ℕ) (r : Record) (text : List ℕ) → replays_to len r text ≡ true → Walks r text → Walks (truncated len r) text
Walks-truncated len r text h w =
    let front = take len r.recorded in
    let (mid, first, after) = Walk-split front (drop len r.recorded) w.start text (subst (λ es. Walk es w.start text) (sym (take-append-drop len r.recorded)) w.back) in
    let u = Walk-IsUtf8 r.recorded w.start text w.is_text w.back in
    let all : unwind r.recorded text ≡ Some w.start = unwind-replay r.recorded w.start text w.is_text (Walk-replay r.recorded w.start text w.back) in
    let there : mid ≡ text =
    same_Some _ _ (sym (Walk-replay front w.start mid first) ∙ replay-unwind front text w.start u (unwind-truncated len r text h ∙ all)) in
    record { start = w.start; is_text = w.is_text; back = subst (Walk front w.start) there first; end = text; ahead = refl; stale = told-at (change_count front) (kept_point (change_count front) r.saved) }

-- so the line can go back over all that was recorded, and ahead over all that was undone
pub Walks-back : (r : Record) (line : Line) → Walks r line.text → IsCharBoundary line.text line.cursor → IsSome (line_back r.recorded line)
Walks-back r line w at = Walk-line_back r.recorded w.start line w.is_text w.back at

pub Walks-ahead : (r : Record) (line : Line) → Walks r line.text → IsCharBoundary line.text line.cursor → IsSome (line_ahead r.pending line)
Walks-ahead r line w at = Walk-line_ahead r.pending line w.end (Walk-IsUtf8 r.recorded w.start line.text w.is_text w.back) w.ahead at

pub Walks-parts : (r : Record) (text : List ℕ) → Walks r text ↔ ((freshness_told r.fresh ≡ r.fresh) × WalksOver Back r.recorded text × WalksOver Ahead r.pending text)
Walks-parts r text = (
  λ w. (w.stale, (w.start, w.is_text, w.back), (w.end, w.ahead)),
  λ p. record { start = p.1.0; is_text = p.1.1; back = p.1.2; end = p.2.0; ahead = p.2.1; stale = p.0 },
)

pub ruleset walking = (Walks-parts)
