-- Going over what was undone there and back: it ends where it began, and undos lead where redos led. And what each call keeps
-- that touches no line.
use Rattle.rl_record.proofs.Common.{AtLevel, Begin, Bool, BothMatched, Changed, End, Entry, IsMatched, IsSome, IsUtf8, LeadsTo, List, None, Open, Option, Record, Some, StaysSaved, UndoUnit, Walk, Walks, Whole, [], ap, append-nil, append_assoc, ap₂, arith, arrived, closed_all, cond, cond_both, cursor_stands, cut_more, drop, drop_at, end_times, ends_in_end, event_of, flipped, inverse, kept_of, kept_undone, last_of, length, length-map, length-reverse, level, map, marks, max, min, next_of, opens, option_and_then, refl, replay_entries, reverse, reverse-append, subst, sym, take, take-append-add, take-append-drop, take-append-le, take-map, there_and_back, together, touched, true, turned_all, units, unwind, waits, ℕ, ◌++◌, ◌+◌, ◌<◌, ◌∙◌, ◌∷◌, ◌≡◌, ◌≤◌}
use Rattle.rl_base.proofs.Texts.SwapLemmas.{apply-IsUtf8}
use Rattle.rl_base.specs.Event.{apply}
use Rattle.rl_line.proofs.Changes.InverseLemmas.{inverse-inverse, inverse-undoes, map-reverse, replay-append, replay-unwind, unwind-append, unwind-replay, value_of}
use Rattle.rl_line.proofs.Changes.WalkLemmas.{Walk-IsUtf8, Walk-append}
use Rattle.rl_record.proofs.Records.GroupLemmas.{Inside}
use Rattle.rl_record.proofs.Records.LastLemmas.{end_times-keeps}
use Rattle.rl_record.proofs.Records.LevelLemmas.{level-append}
use Rattle.rl_record.proofs.Records.MarkLemmas.{replay-end_one, unwind-cut, unwind-end_one, unwind-truncated}
use Rattle.rl_record.proofs.Records.MatchLemmas.{Lower-end_times}
use Rattle.rl_record.proofs.Records.SavePointLemmas.{saved-begun, saved-closed, saved-parted, saved-reopened, saved-there_and_back, saved-truncated}
use Rattle.rl_record.proofs.Records.UnitLemmas.{AllGood, IsMatched-append, cut_more-append, marks-append, on, opens-append, opens-reverse, together-append, together-reverse, together-units, turned-append, units-append, units-good}
use Rattle.rl_record.proofs.Records.WalkLemmas.{Walk-end_one}
use Rattle.rl_record.specs.Calls.{MayCome, RecordCall, after_call, keeps_undone, parts_next, puts_begin, puts_end, puts_ends, reopens, shortens}
use Rattle.rl_record.specs.Record.{parted}

-- ---- its marks match, and it leaves no group open
marks_turned : (us : List UndoUnit) → AllGood us → opens us ≡ 0 → (fs : List Bool) → IsSome (marks (turned_all (together us)) fs)
marks_turned [] g o fs = refl
marks_turned (Open ∷ us) g o fs = absurd (omega (arith, o))
marks_turned (Whole es ∷ us) g o fs =
    subst IsSome
    (sym (ap (λ x. marks x fs) (turned-append (together us) es) ∙ marks-append (turned_all es) (turned_all (together us)) fs
    ∙ ap (option_and_then (marks (turned_all (together us)))) (g.0.flags_turned fs)))
    (marks_turned us g.1 o (touched fs))

-- a unit the other way round
abbrev pub unit_turned : UndoUnit → UndoUnit
unit_turned Open = Open
unit_turned (Whole es) = Whole (turned_all es)

cuts_turned : (us vs : List UndoUnit) → AllGood us → opens us ≡ 0 → cut_more vs (turned_all (together us)) ≡ reverse (map unit_turned us) ++ vs
cuts_turned [] vs g o = refl
cuts_turned (Open ∷ us) vs g o = absurd (omega (arith, o))
cuts_turned (Whole es ∷ us) vs g o =
    ap (cut_more vs) (turned-append (together us) es) ∙ cut_more-append vs (turned_all es) (turned_all (together us))
    ∙ ap (λ x. cut_more x (turned_all (together us))) (g.0.cuts_turned vs) ∙ cuts_turned us (Whole (turned_all es) ∷ vs) g.1 o
    ∙ sym (append_assoc (reverse (map unit_turned us)) (Whole (turned_all es) ∷ []) vs)
    ∙ ap (λ x. x ++ vs) (sym (reverse-append (Whole (turned_all es) ∷ []) (map unit_turned us)))

-- entries of which all groups are closed
pub record Closed (es : List Entry) : Type 0 where
  pub matched : IsMatched es
  pub closed : level es ≡ 0
  pub turned_matched : IsMatched (turned_all es)
  pub turned_units : units (turned_all es) ≡ reverse (map unit_turned (units es))

opens-turned : (us : List UndoUnit) → opens us ≡ 0 → opens (map unit_turned us) ≡ 0
opens-turned [] o = refl
opens-turned (Open ∷ us) o = absurd (omega (arith, o))
opens-turned (Whole es ∷ us) o = opens-turned us o

pub Closed-all : (es : List Entry) → IsMatched es → Closed (closed_all es)
Closed-all es m =
    let low = Lower-end_times (level es) 0 es m (omega arith) in
    let c = closed_all es in
    let g = units-good c low.matched in
    let is : turned_all (together (units c)) ≡ turned_all c = ap turned_all (together-units c) in
    record {
      matched = low.matched;
      closed = low.level_is;
      turned_matched = subst IsMatched is (marks_turned (units c) g low.level_is []);
      turned_units = ap units (sym is) ∙ cuts_turned (units c) [] g low.level_is ∙ append-nil (reverse (map unit_turned (units c)));
    }

round_units : (es : List Entry) → IsMatched es → units (there_and_back es) ≡ reverse (map unit_turned (units (closed_all es))) ++ units (closed_all es)
round_units es m =
    let c = Closed-all es m in
    units-append (closed_all es) (turned_all (closed_all es)) c.turned_matched ∙ ap (λ us. us ++ units (closed_all es)) c.turned_units

pub IsMatched-round : (es : List Entry) → IsMatched es → IsMatched (there_and_back es)
IsMatched-round es m = let c = Closed-all es m in IsMatched-append (closed_all es) (turned_all (closed_all es)) c.matched c.turned_matched

level-round : (es : List Entry) → IsMatched es → level (there_and_back es) ≡ 0
level-round es m =
    let c = Closed-all es m in
    ap opens (round_units es m) ∙ opens-append (reverse (map unit_turned (units (closed_all es)))) (units (closed_all es))
    ∙ omega (arith, c.closed, opens-reverse (map unit_turned (units (closed_all es))), opens-turned (units (closed_all es)) c.closed)

-- the record that goes there and back
abbrev pub round : Record → Record
round r = parted (arrived (r.recorded ++ there_and_back r.pending) [] r.saved)

pub BothMatched-round : (r : Record) → BothMatched r → BothMatched (round r)
BothMatched-round r b = record { recorded = IsMatched-append r.recorded (there_and_back r.pending) b.recorded (IsMatched-round r.pending b.pending); pending = refl }

pub AtLevel-round : (n : ℕ) (r : Record) → AtLevel n r → AtLevel n (round r)
AtLevel-round n r a = record {
  matched = BothMatched-round r a.matched;
  level = omega (arith, a.level, level-append r.recorded (there_and_back r.pending) (IsMatched-round r.pending a.matched.pending), level-round r.pending a.matched.pending);
}

-- a fact of a record that holds of it and of the one that goes there and back
pub kept-either : (P : Record → Type 0) (r : Record) → P r → P (round r) → P (kept_undone r)
kept-either P r h k = cond_both (waits r.pending) (round r) r P (λ _. k) (λ _. h)

-- ---- the text ends where it began
lead_turned : (e : Entry) (x y : List ℕ) → IsUtf8 x → LeadsTo e x y → LeadsTo (flipped (inverse e)) y x
unfolding apply
lead_turned Begin x y u l = record { makes = sym l.makes; before = refl; after = refl }
lead_turned End x y u l = record { makes = sym l.makes; before = refl; after = refl }
lead_turned (Changed k s) x y u l = record {
  makes = inverse-undoes (Changed k s) x y u l.makes;
  before = ap (λ e. cursor_stands true e y) (inverse-inverse (Changed k s)) ∙ l.after;
  after = l.before;
}

pub Walk-turned : (es : List Entry) (x y : List ℕ) → IsUtf8 x → Walk es x y → Walk (turned_all es) y x
Walk-turned [] x y u w = sym w
Walk-turned (e ∷ es) x y u w =
    subst (λ l. Walk l y x) (sym (turned-append (e ∷ []) es))
    (Walk-append (turned_all es) (flipped (inverse e) ∷ []) y w.0 x (Walk-turned es w.0 y (apply-IsUtf8 (event_of e) x w.0 u w.1.makes) w.2) (x, lead_turned e x w.0 u w.1, refl))

Walks-round : (r : Record) (text : List ℕ) → Walks r text → Walks (round r) text
Walks-round r text w =
    let closed = end_times-keeps (λ es. Walk es text w.end) (λ es v. Walk-end_one es text w.end v) (level r.pending) r.pending w.ahead in
    let u = Walk-IsUtf8 r.recorded w.start text w.is_text w.back in
    let there = Walk-append (closed_all r.pending) (turned_all (closed_all r.pending)) text w.end text closed (Walk-turned (closed_all r.pending) text w.end u closed) in
    record {
      start = w.start;
      is_text = w.is_text;
      back = Walk-append r.recorded (there_and_back r.pending) w.start text text w.back there;
      end = text;
      ahead = refl;
      stale = refl;
    }

pub Walks-kept : (r : Record) (text : List ℕ) → Walks r text → Walks (kept_undone r) text
Walks-kept r text w = kept-either (λ k. Walks k text) r w (Walks-round r text w)

-- ---- where undos lead
same_then : (f g : List ℕ → Option (List ℕ)) → ((t : List ℕ) → f t ≡ g t) → (o : Option (List ℕ)) → option_and_then f o ≡ option_and_then g o
same_then f g h None = refl
same_then f g h (Some t) = h t

back_and_ahead : (e : Entry) (text : List ℕ) → apply (event_of (inverse (flipped (inverse e)))) text ≡ apply (event_of e) text
unfolding apply
back_and_ahead Begin text = refl
back_and_ahead End text = refl
back_and_ahead (Changed k s) text = ap (λ e. apply (event_of e) text) (inverse-inverse (Changed k s))

-- taking entries back that were turned round is making them again
pub unwind-turned : (es : List Entry) (text : List ℕ) → unwind (turned_all es) text ≡ replay_entries es text
unwind-turned [] text = refl
unwind-turned (e ∷ es) text =
    ap (λ l. unwind l text) (turned-append (e ∷ []) es) ∙ unwind-append (turned_all es) (flipped (inverse e) ∷ []) text
    ∙ ap (option_and_then (unwind (turned_all es))) (back_and_ahead e text)
    ∙ same_then (unwind (turned_all es)) (replay_entries es) (unwind-turned es) (apply (event_of e) text)

turned-together : (us : List UndoUnit) → opens us ≡ 0 → together (map unit_turned us) ≡ turned_all (on us)
turned-together [] o = refl
turned-together (Open ∷ us) o = absurd (omega (arith, o))
turned-together (Whole es ∷ us) o = ap (λ l. l ++ turned_all es) (turned-together us o) ∙ sym (turned-append es (on us))

opens-first : (n : ℕ) (us : List UndoUnit) → opens us ≡ 0 → opens (take n us) ≡ 0
opens-first n us o = omega (arith, o, ap opens (take-append-drop n us), opens-append (take n us) (drop n us))

-- the last units of a record that went there and back are the next ones the other way round
last-round : (n : ℕ) (front es : List Entry) → IsMatched es → 0 < n → n ≤ length (units (closed_all es))
    → last_of n (front ++ there_and_back es) ≡ turned_all (next_of n (closed_all es))
last-round n front es m some few =
    let c = Closed-all es m in
    let us = units (closed_all es) in
    let vs = reverse us in
    let turned : units (front ++ there_and_back es) ≡ map unit_turned vs ++ (us ++ units front) =
    units-append front (there_and_back es) (IsMatched-round es m) ∙ ap (λ l. l ++ units front) (round_units es m)
    ∙ append_assoc (reverse (map unit_turned us)) us (units front) ∙ ap (λ l. l ++ (us ++ units front)) (sym (map-reverse unit_turned us)) in
    let one : max n 1 ≡ n = omega (arith, some) in
    let long : n ≤ length (map unit_turned vs) = omega (arith, few, length-map vs unit_turned, length-reverse us) in
    let none : opens vs ≡ 0 = opens-reverse us ∙ c.closed in
    ap (λ k. together (take k (units (front ++ there_and_back es)))) one ∙ ap (λ l. together (take n l)) turned
    ∙ ap together (take-append-le n (map unit_turned vs) (us ++ units front) long) ∙ ap together (take-map unit_turned n vs)
    ∙ turned-together (take n vs) (opens-first n vs none) ∙ ap turned_all (sym (together-reverse (take n vs)))
    ∙ ap (λ k. turned_all (together (reverse (take k vs)))) (sym one)

-- an undo of n units then leads where the next n units led
pub undos-lead : (n : ℕ) (r : Record) (text : List ℕ) → IsMatched r.pending → waits r.pending ≡ true → 0 < n → n ≤ length (units (closed_all r.pending))
    → unwind (last_of n (kept_undone r).recorded) text ≡ replay_entries (next_of n (closed_all r.pending)) text
undos-lead n r text m some pos few =
    ap (λ b. unwind (last_of n (cond b (round r) r).recorded) text) some ∙ ap (λ l. unwind l text) (last-round n r.recorded r.pending m pos few)
    ∙ unwind-turned (next_of n (closed_all r.pending)) text

-- later units stand above what was recorded
last-above : (n : ℕ) (xs es : List Entry) → IsMatched es → 0 < n → last_of (length (units es) + n) (xs ++ es) ≡ last_of n xs ++ es
last-above n xs es m some =
    let us = units es in
    let one : max n 1 ≡ n = omega (arith, some) in
    let all : max (length us + n) 1 ≡ length us + n = omega (arith, some) in
    ap (λ k. together (take k (units (xs ++ es)))) all ∙ ap (λ l. together (take (length us + n) l)) (units-append xs es m)
    ∙ ap together (take-append-add us (units xs) n) ∙ together-append us (take n (units xs))
    ∙ ap₂ (λ k l. together (take k (units xs)) ++ l) (sym one) (together-units es)

-- so an undo that goes on past them leads where it led without them
pub undos-lead_above : (n : ℕ) (r : Record) (es : List Entry) (text now : List ℕ) → IsMatched r.pending → waits r.pending ≡ true → 0 < n → n ≤ length (units (closed_all r.pending))
    → IsMatched es → IsUtf8 text → replay_entries es text ≡ Some now
    → unwind (last_of (length (units es) + n) ((kept_undone r).recorded ++ es)) now ≡ replay_entries (next_of n (closed_all r.pending)) text
undos-lead_above n r es text now m some pos few above u h =
    let kept = (kept_undone r).recorded in
    ap (λ l. unwind l now) (last-above n kept es above pos) ∙ unwind-append (last_of n kept) es now
    ∙ ap (option_and_then (unwind (last_of n kept))) (unwind-replay es text now u h) ∙ undos-lead n r text m some pos few

-- and as many as it has units come to what was recorded before
pub undos-pass : (r : Record) → IsMatched r.pending → waits r.pending ≡ true → 0 < length (units (there_and_back r.pending))
    → kept_of (length (units (there_and_back r.pending))) (kept_undone r).recorded ≡ r.recorded
undos-pass r m some pos =
    let us = units (there_and_back r.pending) in
    let one : max (length us) 1 ≡ length us = omega (arith, pos) in
    ap (λ b. kept_of (length us) (cond b (round r) r).recorded) some
    ∙ ap (λ k. together (drop k (units (r.recorded ++ there_and_back r.pending)))) one
    ∙ ap (λ l. together (drop (length us) l)) (units-append r.recorded (there_and_back r.pending) (IsMatched-round r.pending m))
    ∙ ap together (drop_at us (units r.recorded) (length us) refl) ∙ together-units r.recorded

-- ---- what it keeps
-- what waits fits the text
replays-closed : (es : List Entry) (text end : List ℕ) → replay_entries es text ≡ Some end → replay_entries (closed_all es) text ≡ Some end
replays-closed es text end h = end_times-keeps (λ l. replay_entries l text ≡ Some end) (λ l k. replay-end_one l text ∙ k) (level es) es h

pub unwind-round : (r : Record) (text : List ℕ) → IsUtf8 text → IsSome (replay_entries r.pending text) → unwind (round r).recorded text ≡ unwind r.recorded text
unwind-round r text u h =
    let c = closed_all r.pending in
    let (end, ahead) = value_of (replay_entries r.pending text) h in
    let there = replays-closed r.pending text end ahead in
    unwind-append r.recorded (there_and_back r.pending) text
    ∙ ap (option_and_then (unwind r.recorded)) (unwind-append c (turned_all c) text ∙ ap (option_and_then (unwind c)) (unwind-turned c text ∙ there) ∙ unwind-replay c text end u there)

-- so what goes there and back leads to the text
pub replays-round : (es : List Entry) (text : List ℕ) → IsUtf8 text → IsSome (replay_entries es text) → replay_entries (there_and_back es) text ≡ Some text
replays-round es text u h =
    let c = closed_all es in
    let (end, ahead) = value_of (replay_entries es text) h in
    let there = replays-closed es text end ahead in
    replay-append c (turned_all c) text ∙ ap (option_and_then (replay_entries (turned_all c))) there
    ∙ replay-unwind (turned_all c) text end u (unwind-turned c text ∙ there)

pub saved-kept : (es : List Entry) (r : Record) → StaysSaved es r → StaysSaved es (kept_undone r)
saved-kept es r s = kept-either (StaysSaved es) r s (saved-parted es (arrived (r.recorded ++ there_and_back r.pending) [] r.saved) (saved-there_and_back es r s))

pub Inside-kept : (front : List Entry) (r : Record) → IsMatched r.pending → Inside front r → Inside front (kept_undone r)
Inside-kept front r m k = kept-either (Inside front) r k (record {
  inner = k.inner ++ there_and_back r.pending;
  is = ap (λ l. l ++ there_and_back r.pending) k.is ∙ append_assoc front (Begin ∷ k.inner) (there_and_back r.pending);
  matched = IsMatched-append k.inner (there_and_back r.pending) k.matched (IsMatched-round r.pending m);
})

-- ---- what each call keeps that touches no line
unwind-closed : (n : ℕ) (es : List Entry) (text : List ℕ) → unwind (end_times n es) text ≡ unwind es text
unwind-closed n es text = end_times-keeps (λ ks. unwind ks text ≡ unwind es text) (λ ks k. unwind-end_one ks text ∙ k) n es refl

-- that the record leads back to the same text
pub unwind-call : (call : RecordCall) (r : Record) (text : List ℕ) → IsUtf8 text → MayCome call r text → unwind (after_call call r).recorded text ≡ unwind r.recorded text
unfolding apply
unwind-call parts_next r text u m = refl
unwind-call puts_begin r text u m = unwind-append r.recorded (Begin ∷ []) text
unwind-call puts_ends r text u m = unwind-closed (level r.recorded) r.recorded text
unwind-call puts_end r text u m = unwind-closed (min 1 (level r.recorded)) r.recorded text
unwind-call reopens r text u m =
    cond_both (ends_in_end r.recorded) _ _ (λ (k : Record). unwind k.recorded text ≡ unwind r.recorded text) (λ h. unwind-cut r.recorded text h) (λ _. refl)
unwind-call keeps_undone r text u m = kept-either (λ k. unwind k.recorded text ≡ unwind r.recorded text) r refl (unwind-round r text u m.1)
unwind-call (shortens len) r text u m = unwind-truncated len r text m

-- its save point
pub saved-call : (es : List Entry) (call : RecordCall) (r : Record) (text : List ℕ) → MayCome call r text → StaysSaved es r → StaysSaved es (after_call call r)
saved-call es parts_next r text m s = saved-parted es r s
saved-call es puts_begin r text m s = saved-begun es r s
saved-call es puts_ends r text m s = saved-closed es r (level r.recorded) s
saved-call es puts_end r text m s = saved-closed es r (min 1 (level r.recorded)) s
saved-call es reopens r text m s = saved-reopened es r s
saved-call es keeps_undone r text m s = saved-kept es r s
saved-call es (shortens len) r text m s = saved-truncated es r len s
