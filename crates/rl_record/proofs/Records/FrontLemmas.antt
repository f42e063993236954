-- Entries in front that are forgotten, and are Ends: what each call makes of a record is the same with them and without.
use Rattle.rl_record.proofs.Common.{Added, Begin, Bool, Change, Cursors, Delete, Direction, End, Entry, Event, Freshness, InsertChar, InsertStr, IsApart, Joined, List, None, Option, Parted, Record, Replace, Some, Stale, Start, Stop, [], added, adds_end, ap, arith, arrived, begun, blanked, change_count, cond, cursors_of, cut_to, drop, drop-append-le, drop-cons, drop-drop, drop-map, drop-set-lt, drop-take, drop_at, end_one, end_times, ends_in_begin, entries_after, entries_of, entries_told, entry_of, false, freshness_added, freshness_at, freshness_joined, freshness_of, freshness_told, get_or, gone_on, is_at, is_saved, joined, joined_in, kept_point, last_told, le-leb, leb-false, leb-true, length, length-replicate, length-take, map, min, nat_le, not, option_map_or, parted, past_front, point_kept, point_past, record_step, refl, replicate, saved_here, subst, suc, sym, take, take-append-drop, take-append-le, take-take, take_at, take_min, take_rest, true, truncated, with_closed, without_first, zero, ℕ, ◌++◌, ◌+◌, ◌-◌, ◌<◌, ◌||◌, ◌∙◌, ◌∷◌, ◌≡◌, ◌≤◌}
use Rattle.rl_record.proofs.Records.JoinLemmas.{heard, step-Cursors, step-Delete, step-InsertChar, step-InsertStr, step-Replace}
use Rattle.rl_record.proofs.Records.PointLemmas.{count-parts}
use Rattle.rl_record.specs.Units.{grouped_from, still_waiting}

-- the first k are Ends
abbrev pub Ends : ℕ → List Entry → Type 0
Ends k es = take k es ≡ replicate k End

pub Ends-within : (k : ℕ) (es : List Entry) → Ends k es → k ≤ length es
Ends-within k es e = omega (arith, ap length e, length-take k es, length-replicate k End)

whole : (k : ℕ) (es : List Entry) → Ends k es → replicate k End ++ drop k es ≡ es
whole k es e = ap (λ l. l ++ drop k es) (sym e) ∙ take-append-drop k es

-- entries that have these in front
pub record Behind (k : ℕ) (es left : List Entry) : Type 0 where
  pub ends : Ends k es
  pub rest : drop k es ≡ left

behind : (k : ℕ) (rest : List Entry) → Behind k (replicate k End ++ rest) rest
behind k rest = record {
  ends = take_at (replicate k End) rest k (length-replicate k End);
  rest = drop_at (replicate k End) rest k (length-replicate k End);
}

-- a function that passes an End in front passes all of them, and one that skips it skips them
passes-Ends : (f : List Entry → List Entry) → ((es : List Entry) → f (End ∷ es) ≡ End ∷ f es) → (k : ℕ) (es : List Entry)
    → f (replicate k End ++ es) ≡ replicate k End ++ f es
passes-Ends f pass zero es = refl
passes-Ends f pass (suc k) es = pass (replicate k End ++ es) ∙ ap (λ l. End ∷ l) (passes-Ends f pass k es)

skips-Ends : {A : Type 0} (f : List Entry → A) → ((es : List Entry) → f (End ∷ es) ≡ f es) → (k : ℕ) (es : List Entry) → f (replicate k End ++ es) ≡ f es
skips-Ends f skip zero es = refl
skips-Ends f skip (suc k) es = skip (replicate k End ++ es) ∙ skips-Ends f skip k es

passed : (f : List Entry → List Entry) → ((es : List Entry) → f (End ∷ es) ≡ End ∷ f es) → (k : ℕ) (es : List Entry) → Ends k es → Behind k (f es) (f (drop k es))
passed f pass k es e =
    subst (λ l. Behind k l (f (drop k es))) (sym (passes-Ends f pass k (drop k es)) ∙ ap f (whole k es e)) (behind k (f (drop k es)))

skipped : {A : Type 0} (f : List Entry → A) → ((es : List Entry) → f (End ∷ es) ≡ f es) → (k : ℕ) (es : List Entry) → Ends k es → f es ≡ f (drop k es)
skipped f skip k es e = ap f (sym (whole k es e)) ∙ skips-Ends f skip k (drop k es)

-- entries that come after them
longer : (k : ℕ) (es more : List Entry) → Ends k es → Behind k (es ++ more) (drop k es ++ more)
longer k es more e =
    let within = Ends-within k es e in record { ends = take-append-le k es more within ∙ e; rest = drop-append-le k es more within }

-- ---- a save point
pub count-front : (k : ℕ) (es : List Entry) → Ends k es → change_count es ≡ change_count (drop k es)
count-front k es e = skipped change_count (λ _. refl) k es e

count-behind : (k : ℕ) (es rest : List Entry) → Behind k es rest → change_count es ≡ change_count rest
count-behind k es rest b = count-front k es b.ends ∙ ap change_count b.rest

pub past-more : (k n : ℕ) (point : Option ℕ) → point_past n (point_past k point) ≡ point_past (k + n) point
past-more k n None = refl
past-more k n (Some p) = from (nat_le k p) (nat_le n (p - k)) (nat_le (k + n) p) refl refl refl
  where
    same : (p - k) - n ≡ p - (k + n)
    same = omega arith

    from : (a b c : Bool) → nat_le k p ≡ a → nat_le n (p - k) ≡ b → nat_le (k + n) p ≡ c
        → point_past n (cond a (Some (p - k)) None) ≡ cond c (Some (p - (k + n))) None
    from true true true q r s = ap (λ (x : Bool). cond x (Some ((p - k) - n)) None) r ∙ ap (λ m. Some m) same
    from true true false q r s = absurd (omega (arith, leb-true k p q, leb-true n (p - k) r, leb-false (k + n) p s))
    from true false true q r s = absurd (omega (arith, leb-true k p q, leb-false n (p - k) r, leb-true (k + n) p s))
    from true false false q r s = ap (λ (x : Bool). cond x (Some ((p - k) - n)) None) r
    from false b true q r s = absurd (omega (arith, leb-false k p q, leb-true (k + n) p s))
    from false b false q r s = refl

pub saved-front : (k : ℕ) (r : Record) → Ends k r.recorded → is_saved r ≡ is_saved (past_front k r)
saved-front k r e = ap (λ n. is_at n r.saved) (count-front k r.recorded e)

pub point-within : (k : ℕ) (r : Record) → Ends k r.recorded → kept_point (change_count (r.recorded ++ r.pending)) r.saved ≡ r.saved
    → kept_point (change_count (drop k r.recorded ++ r.pending)) r.saved ≡ r.saved
point-within k r e h =
    let b = longer k r.recorded r.pending e in
    ap (λ n. kept_point n r.saved) (sym (count-behind k (r.recorded ++ r.pending) (drop k r.recorded ++ r.pending) b)) ∙ h

pub apart-front : (k : ℕ) (r : Record) → Ends k r.recorded → IsApart r → IsApart (past_front k r)
apart-front k r e apart h = apart (saved-front k r e ∙ h)

-- ---- a record with k Ends in front, and the same without
pub record Fronted (k : ℕ) (r left : Record) : Type 0 where
  pub ends : Ends k r.recorded
  pub rest : past_front k r ≡ left

made : (k : ℕ) (es rest pending : List Entry) (fresh fresh' : Freshness) (point point' : Option ℕ) → Behind k es rest → fresh ≡ fresh' → point ≡ point'
    → Fronted k (record { recorded = es; pending = pending; fresh = fresh; saved = point }) (record { recorded = rest; pending = pending; fresh = fresh'; saved = point' })
made k es rest pending fresh fresh' point point' b f p = record {
  ends = b.ends;
  rest = ap (λ l. record { recorded = l; pending = pending; fresh = fresh; saved = point }) b.rest
      ∙ ap (λ x. record { recorded = rest; pending = pending; fresh = x; saved = point }) f
      ∙ ap (λ x. record { recorded = rest; pending = pending; fresh = fresh'; saved = x }) p;
}

arrived-front : (k : ℕ) (es rest pending : List Entry) (point point' : Option ℕ) → Behind k es rest → point ≡ point' → Fronted k (arrived es pending point) (arrived rest pending point')
arrived-front k es rest pending point point' b p =
    made k es rest pending (freshness_at (change_count es) point) (freshness_at (change_count rest) point') point point' b
    (ap (λ n. freshness_at n point) (count-behind k es rest b) ∙ ap (freshness_at (change_count rest)) p) p

-- the save point that is kept of them
kept-front : (k : ℕ) (r : Record) → Ends k r.recorded → point_kept r ≡ point_kept (past_front k r)
kept-front k r e = ap (λ n. kept_point n r.saved) (count-front k r.recorded e)

-- ---- an event
alone-End : (event : Event) → joined event End ≡ None
alone-End (InsertChar i c) = refl
alone-End (InsertStr i s) = refl
alone-End (Delete i s side) = refl
alone-End (Replace i s t) = refl
alone-End Start = refl
alone-End Stop = refl
alone-End (Cursors b a) = refl

no-End : (fresh : Freshness) (event : Event) → joined_in fresh event End ≡ None
no-End Parted event = refl
no-End Stale event = alone-End event
no-End Added event = alone-End event
no-End (Joined p) event = alone-End event

after-End : (fresh : Freshness) (event : Event) (es : List Entry) → entries_after fresh event (End ∷ es) ≡ End ∷ entries_after fresh event es
after-End fresh event [] = ap (λ o. option_map_or (λ joint. joint ∷ []) o (End ∷ entries_of event)) (no-End fresh event)
after-End fresh event (e ∷ es) = refl

fresh-End : (fresh : Freshness) (event : Event) (es : List Entry) → freshness_of fresh event (End ∷ es) ≡ freshness_of fresh event es
fresh-End fresh event [] = ap (λ o. option_map_or (λ _. freshness_joined (cursors_of End)) o (freshness_added fresh (entries_of event))) (no-End fresh event)
fresh-End fresh event (e ∷ es) = refl

last-End : (cursors : ℕ × ℕ) (es : List Entry) → last_told cursors (End ∷ es) ≡ End ∷ last_told cursors es
last-End cursors [] = refl
last-End cursors (e ∷ es) = refl

told-End : (fresh : Freshness) (before after : ℕ) (es : List Entry) → entries_told fresh before after (End ∷ es) ≡ End ∷ entries_told fresh before after es
told-End Stale before after es = refl
told-End Parted before after es = refl
told-End Added before after es = last-End (before, after) es
told-End (Joined first) before after es = last-End (first, after) es

heard-front : (event : Event) (k : ℕ) (r : Record) → Ends k r.recorded → Fronted k (heard event r) (heard event (past_front k r))
heard-front event k r e =
    made k (entries_after r.fresh event r.recorded) (entries_after r.fresh event (drop k r.recorded)) [] (freshness_of r.fresh event r.recorded) (freshness_of r.fresh event (drop k r.recorded))
    (point_kept r) (point_kept (past_front k r)) (passed (entries_after r.fresh event) (after-End r.fresh event) k r.recorded e)
    (skipped (freshness_of r.fresh event) (fresh-End r.fresh event) k r.recorded e) (kept-front k r e)

by-step : (event : Event) (k : ℕ) (r : Record) → ((s : Record) → record_step s event ≡ heard event s) → Ends k r.recorded → Fronted k (record_step r event) (record_step (past_front k r) event)
by-step event k r step e =
    subst (λ s. Fronted k s (record_step (past_front k r) event)) (sym (step r)) (subst (λ s. Fronted k (heard event r) s) (sym (step (past_front k r))) (heard-front event k r e))

pub InsertChar-front : (k i c : ℕ) (r : Record) → Ends k r.recorded → Fronted k (record_step r (InsertChar i c)) (record_step (past_front k r) (InsertChar i c))
InsertChar-front k i c r e = by-step (InsertChar i c) k r (λ s. step-InsertChar s i c) e

pub InsertStr-front : (k i : ℕ) (text : List ℕ) (r : Record) → Ends k r.recorded → Fronted k (record_step r (InsertStr i text)) (record_step (past_front k r) (InsertStr i text))
InsertStr-front k i text r e = by-step (InsertStr i text) k r (λ s. step-InsertStr s i text) e

pub Delete-front : (k i : ℕ) (text : List ℕ) (side : Direction) (r : Record) → Ends k r.recorded → Fronted k (record_step r (Delete i text side)) (record_step (past_front k r) (Delete i text side))
Delete-front k i text side r e = by-step (Delete i text side) k r (λ s. step-Delete s i text side) e

pub Replace-front : (k i : ℕ) (old new : List ℕ) (r : Record) → Ends k r.recorded → Fronted k (record_step r (Replace i old new)) (record_step (past_front k r) (Replace i old new))
Replace-front k i old new r e = by-step (Replace i old new) k r (λ s. step-Replace s i old new) e

pub Cursors-front : (k before after : ℕ) (r : Record) → Ends k r.recorded → Fronted k (record_step r (Cursors before after)) (record_step (past_front k r) (Cursors before after))
Cursors-front k before after r e =
    subst (λ s. Fronted k s (record_step (past_front k r) (Cursors before after))) (sym (step-Cursors r before after))
    (subst (λ s. Fronted k (record r { recorded = entries_told r.fresh before after r.recorded; fresh = freshness_told r.fresh }) s) (sym (step-Cursors (past_front k r) before after))
    (made k (entries_told r.fresh before after r.recorded) (entries_told r.fresh before after (drop k r.recorded)) r.pending (freshness_told r.fresh) (freshness_told r.fresh) r.saved r.saved
    (passed (entries_told r.fresh before after) (told-End r.fresh before after) k r.recorded e) refl refl))

-- ---- entries that come after them
pub added-front : (k : ℕ) (e : Entry) (fresh : Freshness) (r : Record) → Ends k r.recorded → Fronted k (added e fresh r) (added e fresh (past_front k r))
added-front k e fresh r h =
    made k (r.recorded ++ e ∷ []) (drop k r.recorded ++ e ∷ []) [] fresh fresh (point_kept r) (point_kept (past_front k r)) (longer k r.recorded (e ∷ []) h) refl (kept-front k r h)

pub begun-front : (k : ℕ) (r : Record) → Ends k r.recorded → Fronted k (begun r) (begun (past_front k r))
begun-front k r h =
    arrived-front k (r.recorded ++ Begin ∷ []) (drop k r.recorded ++ Begin ∷ []) [] (point_kept r) (point_kept (past_front k r)) (longer k r.recorded (Begin ∷ []) h) (kept-front k r h)

-- ---- the ends of groups
one-End : (es : List Entry) → end_one (End ∷ es) ≡ End ∷ end_one es
one-End [] = refl
one-End (e ∷ es) = refl

times-End : (n : ℕ) (es : List Entry) → end_times n (End ∷ es) ≡ End ∷ end_times n es
times-End zero es = refl
times-End (suc n) es = ap (end_times n) (one-End es) ∙ times-End n (end_one es)

adds-End : (n : ℕ) (es : List Entry) → adds_end n (End ∷ es) ≡ adds_end n es
adds-End zero es = refl
adds-End (suc n) [] = refl
adds-End (suc n) (e ∷ es) = ap (λ b. not (ends_in_begin (e ∷ es)) || b) (adds-End n (end_one (e ∷ es)))

pub adds-front : (k n : ℕ) (es : List Entry) → Ends k es → adds_end n es ≡ adds_end n (drop k es)
adds-front k n es e = skipped (adds_end n) (adds-End n) k es e

pub with_closed-front : (k n : ℕ) (r : Record) → Ends k r.recorded → Fronted k (with_closed n r) (with_closed n (past_front k r))
with_closed-front k n r e =
    arrived-front k (end_times n r.recorded) (end_times n (drop k r.recorded)) [] (point_kept r) (point_kept (past_front k r)) (passed (end_times n) (times-End n) k r.recorded e) (kept-front k r e)

pub kept-undone-front : (k : ℕ) (more : List Entry) (r : Record) → Ends k r.recorded
    → Fronted k (parted (arrived (r.recorded ++ more) [] r.saved)) (parted (arrived (drop k r.recorded ++ more) [] r.saved))
kept-undone-front k more r e = made k (r.recorded ++ more) (drop k r.recorded ++ more) [] Parted Parted r.saved r.saved (longer k r.recorded more e) refl refl

-- ---- what waits stays
waiting-front : (k : ℕ) (es rest : List Entry) (r : Record) → Behind k es rest → Fronted k (still_waiting es r) (still_waiting rest (past_front k r))
waiting-front k es rest r b = arrived-front k es rest r.pending r.saved r.saved b refl

pub opened-front : (k : ℕ) (r : Record) → Ends k r.recorded → Fronted k (still_waiting (r.recorded ++ Begin ∷ []) r) (still_waiting (drop k r.recorded ++ Begin ∷ []) (past_front k r))
opened-front k r e = waiting-front k (r.recorded ++ Begin ∷ []) (drop k r.recorded ++ Begin ∷ []) r (longer k r.recorded (Begin ∷ []) e)

pub dropped-front : (k n : ℕ) (r : Record) → Ends k r.recorded → Fronted k (still_waiting (end_times n r.recorded) r) (still_waiting (end_times n (drop k r.recorded)) (past_front k r))
dropped-front k n r e = waiting-front k (end_times n r.recorded) (end_times n (drop k r.recorded)) r (passed (end_times n) (times-End n) k r.recorded e)

-- ---- the list cut at another place
shorter : (k n : ℕ) (es : List Entry) → Ends k es → Behind k (take (k + n) es) (take n (drop k es))
shorter k n es e = record { ends = take-take k (k + n) es (omega arith) ∙ e; rest = drop-take k n es }

pub cut-count : (k n : ℕ) (r : Record) → Ends k r.recorded → change_count (take (k + n) (r.recorded ++ r.pending)) ≡ change_count (take n (drop k r.recorded ++ r.pending))
cut-count k n r e =
    let all = longer k r.recorded r.pending e in
    let s = shorter k n (r.recorded ++ r.pending) all.ends in
    count-behind k (take (k + n) (r.recorded ++ r.pending)) (take n (drop k r.recorded ++ r.pending)) (record { ends = s.ends; rest = s.rest ∙ ap (take n) all.rest })

pub cut-front : (k n : ℕ) (r : Record) → Ends k r.recorded → Fronted k (cut_to (k + n) (r.recorded ++ r.pending) r.saved) (cut_to n (drop k r.recorded ++ r.pending) r.saved)
cut-front k n r e =
    let es = r.recorded ++ r.pending in
    let all = longer k r.recorded r.pending e in
    let s = shorter k n es all.ends in
    let b : Behind k (take (k + n) es) (take n (drop k r.recorded ++ r.pending)) = record { ends = s.ends; rest = s.rest ∙ ap (take n) all.rest } in
    subst (λ l. Fronted k (cut_to (k + n) es r.saved) (arrived (take n (drop k r.recorded ++ r.pending)) l r.saved)) (sym (drop-drop n k es) ∙ ap (drop n) all.rest)
    (arrived-front k (take (k + n) es) (take n (drop k r.recorded ++ r.pending)) (drop (k + n) es) r.saved r.saved b refl)

pub truncated-front : (k n : ℕ) (r : Record) → Ends k r.recorded → Fronted k (truncated (k + n) r) (truncated n (past_front k r))
truncated-front k n r e =
    let b = shorter k n r.recorded e in
    arrived-front k (take (k + n) r.recorded) (take n (drop k r.recorded)) [] (kept_point (change_count (take (k + n) r.recorded)) r.saved) (kept_point (change_count (take n (drop k r.recorded))) r.saved) b
    (ap (λ m. kept_point m r.saved) (count-behind k (take (k + n) r.recorded) (take n (drop k r.recorded)) b))

pub truncated-all : (n : ℕ) (r : Record) → truncated (min n (length r.recorded)) r ≡ truncated n r
truncated-all n r = ap (λ l. arrived l [] (kept_point (change_count l) r.saved)) (take_min n r.recorded)

pub grouped-front : (k from : ℕ) (r : Record) → Ends k r.recorded → from ≤ length (drop k r.recorded)
    → Fronted k (arrived (grouped_from (k + from) r.recorded) [] r.saved) (arrived (grouped_from from (drop k r.recorded)) [] r.saved)
grouped-front k from r e few =
    let b = shorter k from r.recorded e in
    let all = longer k (take (k + from) r.recorded) (Begin ∷ (drop (k + from) r.recorded ++ End ∷ [])) b.ends in
    arrived-front k (grouped_from (k + from) r.recorded) (grouped_from from (drop k r.recorded)) [] r.saved r.saved
    (record {
      ends = all.ends;
      rest = all.rest ∙ ap (λ l. l ++ Begin ∷ (drop (k + from) r.recorded ++ End ∷ [])) b.rest ∙ ap (λ l. take from (drop k r.recorded) ++ Begin ∷ (l ++ End ∷ [])) (sym (drop-drop from k r.recorded));
    }) refl

pub set-saved-front : (k : ℕ) (r : Record) → Ends k r.recorded → Fronted k (saved_here r) (saved_here (past_front k r))
set-saved-front k r e = record { ends = e; rest = ap (λ n. record { recorded = drop k r.recorded; pending = r.pending; fresh = Parted; saved = Some n }) (count-front k r.recorded e) }

pub gone-on-front : (k : ℕ) (fresh : Freshness) (r : Record) → Ends k r.recorded → Fronted k (gone_on fresh r) (gone_on fresh (past_front k r))
gone-on-front k fresh r e = record { ends = e; rest = ap (λ (b : Bool). record { recorded = drop k r.recorded; pending = r.pending; fresh = cond b Parted (freshness_told fresh); saved = r.saved }) (saved-front k r e) }

-- ---- what is in front goes out of the list, and more comes into it
pub past-none : (point : Option ℕ) → point_past 0 point ≡ point
past-none None = refl
past-none (Some n) =
    let all : n - 0 ≡ n = omega arith in
    ap (λ (x : Bool). cond x (Some (n - 0)) None) (le-leb 0 n (omega arith)) ∙ ap (λ k. Some k) all

pub none-first : (r : Record) → past_front 0 r ≡ r
none-first r = refl

-- one entry more
pub first-more : (k : ℕ) (r : Record) → k < length r.recorded → past_front (k + 1) (blanked k r) ≡ without_first 1 (past_front k r)
first-more k r lt =
    let one : take 1 (drop k r.recorded) ≡ get_or r.recorded k End ∷ [] = ap (take 1) (drop-cons r.recorded k End lt) in
    ap (λ l. record { recorded = l; pending = r.pending; fresh = r.fresh; saved = point_past (change_count (get_or r.recorded k End ∷ [])) r.saved }) (drop-set-lt (k + 1) r.recorded k End (omega arith) ∙ sym (drop-drop 1 k r.recorded))
    ∙ ap (λ l. record { recorded = drop 1 (drop k r.recorded); pending = r.pending; fresh = r.fresh; saved = point_past (change_count l) r.saved }) (sym one)

pub without-more : (n : ℕ) (r : Record) → without_first 1 (without_first n r) ≡ without_first (n + 1) r
without-more n r =
    let rest = drop n r.recorded in
    let parts : change_count (take n r.recorded) + change_count (take 1 rest) ≡ change_count (take (n + 1) r.recorded) =
    omega (arith, count-parts n (take (n + 1) r.recorded), ap change_count (take-take n (n + 1) r.recorded (omega arith)), ap change_count (drop-take n 1 r.recorded)) in
    ap (λ l. record { recorded = l; pending = r.pending; fresh = r.fresh; saved = point_past (change_count (take 1 rest)) (point_past (change_count (take n r.recorded)) r.saved) }) (drop-drop 1 n r.recorded)
    ∙ ap (λ p. record { recorded = drop (n + 1) r.recorded; pending = r.pending; fresh = r.fresh; saved = p })
    (past-more (change_count (take n r.recorded)) (change_count (take 1 rest)) r.saved ∙ ap (λ k. point_past k r.saved) parts)

-- ---- in the list of the code
pub rest-part : (n : ℕ) (xs : List Change) (es : List Entry) → map entry_of xs ≡ es → map entry_of (take (length xs - n) (drop n xs)) ≡ drop n es
rest-part n xs es e = ap (map entry_of) (take_rest xs n) ∙ sym (drop-map entry_of n xs) ∙ ap (drop n) e
