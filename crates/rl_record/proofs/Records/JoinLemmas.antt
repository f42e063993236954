-- The last recorded entry, where an event joins it and where it does not.
use Rattle.rl_record.proofs.Common.{Added, Bool, Change, Changed, Cursors, Delete, Deletion, Direction, Entry, Event, Forward, Freshness, InsertChar, InsertStr, Insertion, Joined, Joins, List, None, Option, Parted, Record, Replace, Replacement, Some, Stale, StandsAt, Start, Stop, TakesIn, [], added, after, ap, append-nil, arith, change_count, common_steps, cursors_of, cut_at, drop, drop-map, drop-set-lt, drop_all, encode_utf8, entries_after, entries_told, entry_of, false, freshness_added, freshness_joined, freshness_of, freshness_told, get_or, if◌then◌else◌, is_parted, joined, joined_in, kept_point, last_told, length, length-map, length-take, map, map-append, map-set_same, nil_from_length, option_map_or, point_kept, refl, set, settled, subst, sym, take, take-map, take_all, take_at_read, take_more_set, true, untold, with_cursors, ℕ, ◌++◌, ◌+◌, ◌-◌, ◌<◌, ◌==◌, ◌∙◌, ◌∷◌, ◌≡◌, ◌≤◌}
use Rattle.rl_base.specs.Event.{apply}
use Rattle.rl_record.proofs.Records.LastLemmas.{ends_in, joined_in-as, joins_nothing, last_told-past, parted-apart, told-none}
use Rattle.rl_record.proofs.Records.PointLemmas.{count-last, joined-kind}
use Rattle.rl_record.specs.Record.{entries_of, record_step}
use Rattle.std.specs.Str.{chars}
use Rattle.unicode_segmentation.specs.Segments.{cut, segments}

-- the entry that stands last among the first n of a list, and the list with another in its place
record LastOf (xs : List Change) (n k : ℕ) (x y : Change) : Type 0 where
  front : List Entry
  was : take n (map entry_of xs) ≡ front ++ entry_of x ∷ []
  now : take n (map entry_of (set xs k y)) ≡ front ++ entry_of y ∷ []

LastOf-at : (xs : List Change) (n k : ℕ) (x y : Change) → n ≤ length xs → 0 < n → k ≡ n - 1 → x ≡ get_or xs k x → LastOf xs n k x y
LastOf-at xs n k x y le some at is =
    let last : n ≡ k + 1 = omega arith in
    let within : k < length xs = omega arith in
    let read = ap (λ m. take m xs) last ∙ (take_at_read xs k x within).1 ∙ ap (λ z. take k xs ++ z ∷ []) (sym is) in
    let written = ap (λ m. take m (set xs k y)) last ∙ take_more_set xs k y within in
    record {
      front = map entry_of (take k xs);
      was = take-map entry_of n xs ∙ ap (map entry_of) read ∙ map-append entry_of (take k xs) (x ∷ []);
      now = take-map entry_of n (set xs k y) ∙ ap (map entry_of) written ∙ map-append entry_of (take k xs) (y ∷ []);
    }

pub told-last-of : (cursors : ℕ × ℕ) (xs : List Change) (n : ℕ) (x y : Change) → n ≤ length xs → 0 < n → x ≡ get_or xs (n - 1) x → entry_of y ≡ with_cursors cursors (entry_of x)
    → take n (map entry_of (set xs (n - 1) y)) ≡ last_told cursors (take n (map entry_of xs))
told-last-of cursors xs n x y le some is e =
    let l = LastOf-at xs n (n - 1) x y le some refl is in
    l.now ∙ ap (λ z. l.front ++ z ∷ []) e ∙ sym (ap (last_told cursors) l.was ∙ last_told-past cursors l.front (entry_of x) [])

pub told-others : (xs : List Change) (n : ℕ) (y : Change) → 0 < n → drop n (map entry_of (set xs (n - 1) y)) ≡ drop n (map entry_of xs)
told-others xs n y some = grind (arith, drop-map, drop-set-lt)

-- one that stands for the same entry
same-at : (xs : List Change) (k : ℕ) (x y : Change) → x ≡ get_or xs k x → entry_of y ≡ entry_of x → map entry_of (set xs k y) ≡ map entry_of xs
same-at xs k x y is e = map-set_same entry_of xs k y x (e ∙ ap entry_of is)

-- ---- a record after an event of a text
abbrev pub heard : Event → Record → Record
heard event r = record { recorded = entries_after r.fresh event r.recorded; pending = []; fresh = freshness_of r.fresh event r.recorded; saved = point_kept r }

pub step-InsertChar : (r : Record) (i c : ℕ) → record_step r (InsertChar i c) ≡ heard (InsertChar i c) r
unfolding record_step
step-InsertChar r i c = refl

pub step-InsertStr : (r : Record) (i : ℕ) (s : List ℕ) → record_step r (InsertStr i s) ≡ heard (InsertStr i s) r
unfolding record_step
step-InsertStr r i s = refl

pub step-Delete : (r : Record) (i : ℕ) (s : List ℕ) (side : Direction) → record_step r (Delete i s side) ≡ heard (Delete i s side) r
unfolding record_step
step-Delete r i s side = refl

pub step-Replace : (r : Record) (i : ℕ) (s t : List ℕ) → record_step r (Replace i s t) ≡ heard (Replace i s t) r
unfolding record_step
step-Replace r i s t = refl

heard-is : (event : Event) (r : Record) (es : List Entry) (fresh : Freshness) → record_step r event ≡ heard event r → entries_after r.fresh event r.recorded ≡ es → freshness_of r.fresh event r.recorded ≡ fresh
    → record_step r event ≡ record { recorded = es; pending = []; fresh = fresh; saved = point_kept r }
heard-is event r es fresh step e f = grind arith

-- in a record that is not parted what joins an entry is the same as alone
joined-as : (event : Event) (r : Record) (es : List Entry) (n : ℕ) (fresh : Freshness) (saved : Option ℕ) (e : Entry) (o : Option Entry) → cut_at n es fresh saved ≡ r → is_parted fresh ≡ false
    → joined event e ≡ o → joined_in r.fresh event e ≡ o
joined-as event r es n fresh saved e o v h j = subst (λ was. joined_in was event e ≡ o) (ap (λ (s : Record). s.fresh) v) (joined_in-as fresh event e h ∙ j)

pub joins : (event : Event) (r : Record) (xs : List Change) (n : ℕ) (fresh : Freshness) (saved : Option ℕ) (told : Freshness) (x y : Change) → record_step r event ≡ heard event r → n ≤ length xs → cut_at n (map entry_of xs) fresh saved ≡ r
    → is_parted fresh ≡ false → 0 < n → x ≡ get_or xs (n - 1) x → TakesIn event (entry_of x) (entry_of y) (Some told) → settled told (cut_at n (map entry_of (set xs (n - 1) y)) fresh saved) ≡ record_step r event
joins event r xs n fresh saved told x y step le v loose some is t =
    let l = LastOf-at xs n (n - 1) x y le some refl is in
    let was : r.recorded ≡ l.front ++ entry_of x ∷ [] = ap (λ (s : Record). s.recorded) (sym v) ∙ l.was in
    let ends = ends_in r.fresh event r.recorded l.front (entry_of x) (Some (entry_of y)) was (joined-as event r (map entry_of xs) n fresh saved (entry_of x) (Some (entry_of y)) v loose t.0) in
    let same : change_count (take n (map entry_of (set xs (n - 1) y))) ≡ change_count r.recorded =
    ap change_count l.now ∙ count-last l.front (entry_of x) (entry_of y) (joined-kind event (entry_of x) (entry_of y) t.0) ∙ sym (ap change_count was) in
    let point : point_kept (cut_at n (map entry_of (set xs (n - 1) y)) fresh saved) ≡ point_kept r = ap (λ k. kept_point k saved) same ∙ ap (λ (s : Record). kept_point (change_count r.recorded) s.saved) v in
    ap (λ p. record (settled told (cut_at n (map entry_of (set xs (n - 1) y)) fresh saved)) { saved = p }) point
    ∙ sym (heard-is event r (take n (map entry_of (set xs (n - 1) y))) told step (ends.0 ∙ sym l.now) (ends.1 ∙ sym t.1))

pub joins-not : (event : Event) (r : Record) (xs : List Change) (n : ℕ) (fresh : Freshness) (saved : Option ℕ) (x y : Change) → record_step r event ≡ heard event r → n ≤ length xs → cut_at n (map entry_of xs) fresh saved ≡ r
    → is_parted fresh ≡ false → 0 < n → x ≡ get_or xs (n - 1) x → TakesIn event (entry_of x) (entry_of y) None → Joins event r (cut_at n (map entry_of (set xs (n - 1) y)) fresh saved) false
joins-not event r xs n fresh saved x y step le v loose some is t =
    let l = LastOf-at xs n (n - 1) x y le some refl is in
    let apart = ends_in r.fresh event r.recorded l.front (entry_of x) None (ap (λ (s : Record). s.recorded) (sym v) ∙ l.was) (joined-as event r (map entry_of xs) n fresh saved (entry_of x) None v loose t.0) in
    (ap (λ es. cut_at n es fresh saved) (same-at xs (n - 1) x y is t.1) ∙ v, heard-is event r _ _ step apart.0 apart.1)

pub joins-nothing : (event : Event) (r : Record) (es : List Entry) (n : ℕ) (fresh : Freshness) (saved : Option ℕ) → record_step r event ≡ heard event r → cut_at n es fresh saved ≡ r → n ≡ 0 → Joins event r r false
joins-nothing event r es n fresh saved step v none = grind arith

pub joins-none : (event : Event) (r : Record) (es : List Entry) (n : ℕ) (fresh : Freshness) (saved : Option ℕ) → record_step r event ≡ heard event r → cut_at n es fresh saved ≡ r → is_parted fresh ≡ true → Joins event r r false
joins-none event r es n fresh saved step v apart =
    let p = parted-apart r.fresh event r.recorded (ap (λ (s : Record). is_parted s.fresh) (sym v) ∙ apart) in
    (refl, heard-is event r _ _ step p.0 p.1)

pub stays-err : (xs : List Change) (n : ℕ) (fresh : Freshness) (saved : Option ℕ) (r : Record) (x y : Change) → cut_at n (map entry_of xs) fresh saved ≡ r → x ≡ get_or xs (n - 1) x → entry_of y ≡ entry_of x
    → cut_at n (map entry_of (set xs (n - 1) y)) fresh saved ≡ r
stays-err xs n fresh saved r x y v is e = ap (λ es. cut_at n es fresh saved) (same-at xs (n - 1) x y is e) ∙ v

-- cursors that are told
pub step-Cursors : (r : Record) (before after : ℕ)
    → record_step r (Cursors before after) ≡ record { recorded = entries_told r.fresh before after r.recorded; pending = r.pending; fresh = freshness_told r.fresh; saved = r.saved }
unfolding record_step
step-Cursors r before after = refl

pub told-stale : (r : Record) (before after : ℕ) → freshness_told r.fresh ≡ r.fresh → r ≡ record_step r (Cursors before after)
told-stale r before after e =
    let same : entries_told r.fresh before after r.recorded ≡ r.recorded = ap (λ f. entries_told f before after r.recorded) (sym e) ∙ told-none r.fresh before after r.recorded in
    sym (step-Cursors r before after ∙ ap (λ es. record r { recorded = es; fresh = freshness_told r.fresh }) same ∙ ap (λ f. record r { fresh = f }) e)

pub told-nothing : (r : Record) (es : List Entry) (n before after : ℕ) (fresh : Freshness) (saved : Option ℕ) → cut_at n es fresh saved ≡ r → n ≡ 0 → freshness_told fresh ≡ Stale
    → cut_at n es Stale saved ≡ record_step r (Cursors before after)
told-nothing r es n before after fresh saved v none told = grind (arith, step-Cursors)

pub told-last : (r : Record) (xs : List Change) (n before after first : ℕ) (fresh : Freshness) (saved : Option ℕ) (x y : Change) → n ≤ length xs → cut_at n (map entry_of xs) fresh saved ≡ r → 0 < n
    → x ≡ get_or xs (n - 1) x → entry_of y ≡ with_cursors (first, after) (entry_of x) → ((es : List Entry) → last_told (first, after) es ≡ entries_told fresh before after es) → freshness_told fresh ≡ Stale
    → cut_at n (map entry_of (set xs (n - 1) y)) Stale saved ≡ record_step r (Cursors before after)
told-last r xs n before after first fresh saved x y le v some is e told stale = grind (arith, told-last-of, told-others, step-Cursors)

-- an entry that is added, and none
pub added-entry : (xs now : List Change) (n k : ℕ) (e : Change) (fresh : Freshness) (saved : Option ℕ) (told : Freshness) (r : Record) → n ≤ length xs → cut_at n (map entry_of xs) fresh saved ≡ r
    → now ≡ take n xs ++ e ∷ [] → k ≡ n + 1 → (k ≤ length now) × (cut_at k (map entry_of now) told (kept_point (change_count r.recorded) saved) ≡ added (entry_of e) told r)
added-entry xs now n k e fresh saved told r le v is at = grind (arith, common_steps, length-map, length-take, take-map)

-- where nothing waits, the save point stays
pub added-last : (xs now : List Change) (n k count : ℕ) (e : Change) (fresh : Freshness) (saved : Option ℕ) (told : Freshness) (r : Record) → n ≤ length xs → length xs ≤ n → cut_at n (map entry_of xs) fresh saved ≡ r
    → StandsAt count r → now ≡ xs ++ e ∷ [] → k ≡ n + 1 → cut_at k (map entry_of now) told saved ≡ added (entry_of e) told r
added-last xs now n k count e fresh saved told r le all v s is at =
    let one : now ≡ take n xs ++ e ∷ [] = is ∙ ap (λ l. l ++ e ∷ []) (sym (take_all n xs all)) in
    let none : r.pending ≡ [] = ap (λ (q : Record). q.pending) (sym v) ∙ drop_all n (map entry_of xs) (omega (arith, all, length-map xs entry_of)) in
    let kept : saved ≡ kept_point (change_count r.recorded) saved =
    ap (λ (q : Record). q.saved) v ∙ sym s.point ∙ ap (λ l. kept_point (change_count l) r.saved) (ap (λ ps. r.recorded ++ ps) none ∙ append-nil r.recorded) ∙ ap (λ (q : Record). kept_point (change_count r.recorded) q.saved) (sym v) in
    ap (cut_at k (map entry_of now) told) kept ∙ (added-entry xs now n k e fresh saved told r le v one at).1

-- ---- events that join nothing
pub record_step-Start : (r : Record) → record_step r Start ≡ r
unfolding record_step entries_of
record_step-Start r = ap (λ es. record r { recorded = es }) ((joins_nothing r.fresh Start (λ e. refl) r.recorded).0 ∙ append-nil r.recorded)

pub record_step-Stop : (r : Record) → record_step r Stop ≡ r
unfolding record_step entries_of
record_step-Stop r = ap (λ es. record r { recorded = es }) ((joins_nothing r.fresh Stop (λ e. refl) r.recorded).0 ∙ append-nil r.recorded)

-- what holds where an event of a text is recorded, where a record stays, and where its last change is told cursors, holds after any event
pub step-cases : (r : Record) (P : Event → Record → Type 0)
    → ((event : Event) → P event (heard event r))
    → ((event : Event) → ((text : List ℕ) → apply event text ≡ Some text) → P event r) → ((b a : ℕ) → P (Cursors b a) (record_step r (Cursors b a)))
    → (event : Event) → P event (record_step r event)
unfolding apply record_step
step-cases r P changes stays told Start = subst (P Start) (sym (record_step-Start r)) (stays Start (λ text. refl))
step-cases r P changes stays told Stop = subst (P Stop) (sym (record_step-Stop r)) (stays Stop (λ text. refl))
step-cases r P changes stays told (Cursors b a) = told b a
step-cases r P changes stays told event = changes event

pub after-InsertStr-nothing : (was : Freshness) (es : List Entry) (i : ℕ) (s : List ℕ) → length s ≡ 0 → entries_after was (InsertStr i s) es ≡ es
unfolding entries_of
after-InsertStr-nothing was es i s e =
    ap (λ (t : List ℕ). entries_after was (InsertStr i t) es) (nil_from_length s e) ∙ (joins_nothing was (InsertStr i []) (λ e. refl) es).0 ∙ append-nil es

pub fresh-InsertStr-nothing : (was : Freshness) (es : List Entry) (i : ℕ) (s : List ℕ) → length s ≡ 0 → freshness_of was (InsertStr i s) es ≡ freshness_told was
unfolding entries_of
fresh-InsertStr-nothing was es i s e =
    ap (λ (t : List ℕ). freshness_of was (InsertStr i t) es) (nil_from_length s e) ∙ (joins_nothing was (InsertStr i []) (λ e. refl) es).1

pub inserts-nothing : (r : Record) (i : ℕ) (s : List ℕ) → (length s == 0) ≡ true → settled (freshness_told r.fresh) r ≡ record_step r (InsertStr i s)
inserts-nothing r i s e = grind (arith, step-InsertStr, after-InsertStr-nothing, fresh-InsertStr-nothing)

text-Entry : (s : List ℕ) (e : Entry) → (length s == 0) ≡ false → (if length s == 0 then [] else e ∷ []) ≡ e ∷ []
text-Entry s e some = ap (λ (b : Bool). if b then [] else e ∷ []) some

pub inserts : (r : Record) (i : ℕ) (s t : List ℕ) → (length s == 0) ≡ false → t ≡ s → added (Changed Insertion (untold i [] t)) Added r ≡ record_step r (InsertStr i s)
unfolding entries_of
inserts r i s t some e =
    let none = joins_nothing r.fresh (InsertStr i s) (λ e. refl) r.recorded in
    let one = text-Entry s (Changed Insertion (untold i [] s)) some in
    ap (λ u. added (Changed Insertion (untold i [] u)) Added r) e
    ∙ sym (heard-is (InsertStr i s) r _ Added (step-InsertStr r i s) (none.0 ∙ ap (λ l. r.recorded ++ l) one) (none.1 ∙ ap (freshness_added r.fresh) one))

joined-nothing : (i : ℕ) (side : Direction) (e : Entry) → joined (Delete i [] side) e ≡ None
unfolding segments cut chars
joined-nothing i side (Changed Deletion c) = refl
joined-nothing i side _ = refl

pub after-Delete-nothing : (was : Freshness) (es : List Entry) (i : ℕ) (s : List ℕ) (side : Direction) → length s ≡ 0 → entries_after was (Delete i s side) es ≡ es
unfolding entries_of
after-Delete-nothing was es i s side e =
    ap (λ (t : List ℕ). entries_after was (Delete i t side) es) (nil_from_length s e) ∙ (joins_nothing was (Delete i [] side) (joined-nothing i side) es).0 ∙ append-nil es

pub fresh-Delete-nothing : (was : Freshness) (es : List Entry) (i : ℕ) (s : List ℕ) (side : Direction) → length s ≡ 0 → freshness_of was (Delete i s side) es ≡ freshness_told was
unfolding entries_of
fresh-Delete-nothing was es i s side e =
    ap (λ (t : List ℕ). freshness_of was (Delete i t side) es) (nil_from_length s e) ∙ (joins_nothing was (Delete i [] side) (joined-nothing i side) es).1

pub deletes-nothing : (r : Record) (i : ℕ) (s : List ℕ) (side : Direction) → (length s == 0) ≡ true → settled (freshness_told r.fresh) r ≡ record_step r (Delete i s side)
deletes-nothing r i s side e = grind (arith, step-Delete, after-Delete-nothing, fresh-Delete-nothing)

-- an event that did not join adds its entry
pub adds-InsertChar : (r now : Record) (i c : ℕ) → Joins (InsertChar i c) r now false → added (Changed Insertion (untold i [] (encode_utf8 c))) Added now ≡ record_step r (InsertChar i c)
unfolding entries_of
adds-InsertChar r now i c j = ap (added (Changed Insertion (untold i [] (encode_utf8 c))) Added) j.0 ∙ sym j.1

pub adds-Delete : (r now : Record) (i : ℕ) (s t : List ℕ) (side : Direction) → (length s == 0) ≡ false → t ≡ s → Joins (Delete i s side) r now false
    → added (Changed Deletion (untold i t [])) Added now ≡ record_step r (Delete i s side)
unfolding entries_of
adds-Delete r now i s t side some e j = grind arith

pub adds-Replace : (r now : Record) (i : ℕ) (s t a b : List ℕ) → a ≡ s → b ≡ t → Joins (Replace i s t) r now false
    → added (Changed Replacement (untold i a b)) Added now ≡ record_step r (Replace i s t)
unfolding entries_of
adds-Replace r now i s t a b e f j = grind arith

-- ---- the side from which a text is taken is not recorded
same-joined : (was : Freshness) (i : ℕ) (s : List ℕ) (side : Direction) (e : Entry) → joined_in was (Delete i s Forward) e ≡ joined_in was (Delete i s side) e
same-joined Parted i s side e = refl
same-joined Stale i s side e = refl
same-joined Added i s side e = refl
same-joined (Joined p) i s side e = refl

same-side : (was : Freshness) (i : ℕ) (s : List ℕ) (side : Direction) (es : List Entry)
    → (entries_after was (Delete i s Forward) es ≡ entries_after was (Delete i s side) es) × (freshness_of was (Delete i s Forward) es ≡ freshness_of was (Delete i s side) es)
unfolding entries_of
same-side was i s side [] = (refl, refl)
same-side was i s side (e ∷ []) =
    let same = same-joined was i s side e in (
      ap (λ o. option_map_or (λ joint. joint ∷ []) o (e ∷ entries_of (Delete i s side))) same,
      ap (λ o. option_map_or (λ _. freshness_joined (cursors_of e)) o (freshness_added was (entries_of (Delete i s side)))) same,
    )
same-side was i s side (e ∷ (d ∷ ds)) = let rest = same-side was i s side (d ∷ ds) in (ap (λ es. e ∷ es) rest.0, rest.1)

pub record_step-side : (i : ℕ) (s : List ℕ) (side : Direction) (r : Record) → record_step r (Delete i s Forward) ≡ record_step r (Delete i s side)
unfolding record_step
record_step-side i s side r = grind (arith, same-side)

pub ruleset alone = (record_step-Start, record_step-Stop, record_step-side)

pub ruleset adds = (adds-Delete, adds-InsertChar, adds-Replace, deletes-nothing, inserts, inserts-nothing)
