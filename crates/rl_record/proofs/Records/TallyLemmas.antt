-- What is counted of recorded entries, the bytes that they hold and an open group in front of them, and what keeps it.
use Rattle.rl_record.proofs.Common.{Added, All, All-drop, Begin, Change, Changed, Counts, End, Entry, Event, Freshness, FrontGone, IsApart, IsMatched, IsOfKind, Joined, List, Option, Parted, Record, Stale, [], adds_end, ap, arith, blanked, bytes_held, cases_lt, change_count, cut_at, deep, drop, drop-append-le, drop-set-lt, drop-take, drop_all, end_one, end_times, entries_after, entries_of, entries_told, entry_of, false, fits, get_or, inl, inr, is_saved, is_within, kept_point, last_told, le-leb, length, length-append, length-drop, length-map, length-take, length-take-le, level, lt-leb, map, min, nat_le, new_text, old_text, oldest_is_open, or-true, past_front, point_past, refl, replicate, set, subst, suc, sym, take, take-append-drop, take-append-le, take-map, take-take, take_all, take_at_read, take_more_set, true, unbounded, units, with_cursors, without_first, zero, ℕ, ◌&&◌, ◌++◌, ◌+◌, ◌-◌, ◌<◌, ◌^◌, ◌||◌, ◌∙◌, ◌∷◌, ◌≡◌, ◌≤◌}
use Rattle.rl_record.proofs.Records.CountLemmas.{level-counted}
use Rattle.rl_record.proofs.Records.EntryLemmas.{deep-next}
use Rattle.rl_record.proofs.Records.ForgettingLemmas.{open-front, open-on}
use Rattle.rl_record.proofs.Records.FrontLemmas.{Ends, Ends-within, adds-front, apart-front, count-front, cut-count, first-more, none-first, point-within, rest-part, saved-front}
use Rattle.rl_record.proofs.Records.LastLemmas.{after-cases, but_last, by_last, end_one-cases, last_told-past, read-last}
use Rattle.rl_record.proofs.Records.LevelLemmas.{front-matched, level-within}
use Rattle.rl_record.proofs.Records.WaitingLemmas.{ended-empty}
use Rattle.rl_record.specs.declared.forgetting.Tally.{Tally}
use Rattle.std.proofs.Math.Seq.{take-set-lt}
use Rattle.std.proofs.lemmas.List.{get_or-map, get_or-take, length-set, map-set, replicate_more, take-replicate, take-set-le}
use Rattle.rl_line.specs.declared.change.Change.TheVariants as made

-- ---- the bytes that entries hold
pub held-append : (xs ys : List Entry) → bytes_held (xs ++ ys) ≡ bytes_held xs + bytes_held ys
held-append [] ys = omega arith
held-append (x ∷ xs) ys = omega (arith, held-append xs ys)

held-Ends : (k : ℕ) → bytes_held (replicate k End) ≡ 0
held-Ends zero = refl
held-Ends (suc k) = let one : bytes_held (replicate (suc k) End) ≡ 0 + bytes_held (replicate k End) = refl in omega (arith, one, held-Ends k)

held-parts : (n : ℕ) (es : List Entry) → bytes_held es ≡ bytes_held (take n es) + bytes_held (drop n es)
held-parts n es = ap bytes_held (sym (take-append-drop n es)) ∙ held-append (take n es) (drop n es)

pub held-front : (k : ℕ) (es : List Entry) → Ends k es → bytes_held es ≡ bytes_held (drop k es)
held-front k es e = let none : bytes_held (take k es) ≡ 0 = ap bytes_held e ∙ held-Ends k in omega (arith, none, held-parts k es)

pub held-within : (n : ℕ) (es : List Entry) → bytes_held (take n es) ≤ bytes_held es
held-within n es = omega (arith, held-parts n es)

-- with the entry at i
pub held-next : (xs : List Change) (i size : ℕ) (x : Change) → i < length xs → x ≡ get_or xs i x → size ≡ length (old_text (entry_of x)) + length (new_text (entry_of x))
    → bytes_held (take (i + 1) (map entry_of xs)) ≡ bytes_held (take i (map entry_of xs)) + size
held-next xs i size x lt is s =
    ap bytes_held (take-map entry_of (i + 1) xs ∙ read-last entry_of xs i x x lt (sym is) ∙ ap (λ l. l ++ entry_of x ∷ []) (sym (take-map entry_of i xs)))
    ∙ held-append (take i (map entry_of xs)) (entry_of x ∷ []) ∙ ap (λ n. bytes_held (take i (map entry_of xs)) + n) one
  where
    one : bytes_held (entry_of x ∷ []) ≡ size
    one = omega (arith, s)

-- the same of the entry before a place
pub held-before : (xs : List Change) (i size : ℕ) (x : Change) → 0 < i → i ≤ length xs → x ≡ get_or xs (i - 1) x → size ≡ length (old_text (entry_of x)) + length (new_text (entry_of x))
    → bytes_held (take i (map entry_of xs)) ≡ bytes_held (take (i - 1) (map entry_of xs)) + size
held-before xs i size x some within is s =
    let same : (i - 1) + 1 ≡ i = omega (arith, some) in
    ap (λ n. bytes_held (take n (map entry_of xs))) (sym same) ∙ held-next xs (i - 1) size x (omega (arith, some, within)) is s

-- an End in the place of an entry
held-set : (es : List Entry) (i : ℕ) → i < length es → bytes_held es ≡ bytes_held (get_or es i End ∷ []) + bytes_held (set es i End)
held-set [] i lt = absurd (omega (arith, lt))
held-set (e ∷ es) zero lt = omega arith
held-set (e ∷ es) (suc i) lt = omega (arith, held-set es i (omega (arith, lt)))

-- the code counts on: so many are counted, which hold so many bytes
pub record CountedOn (xs : List Change) (bytes at sum : ℕ) (tally : Tally) : Type 0 where
  pub within : at ≤ length xs
  pub held : bytes_held (take at (map entry_of xs)) ≡ sum
  pub few : sum ≤ bytes
  pub counted : tally.counted ≤ length xs - 1
  pub tally_held : bytes_held (take tally.counted (map entry_of xs)) ≡ tally.held

pub CountedOn-next : (xs : List Change) (bytes at held size : ℕ) (x : Change) (was : Tally) → at < length xs → x ≡ get_or xs at x → size ≡ length (old_text (entry_of x)) + length (new_text (entry_of x))
    → size ≤ bytes - held → (opened : ℕ) → CountedOn xs bytes at held was → CountedOn xs bytes (at + 1) (held + size) (record { counted = at; held = held; opened = opened })
CountedOn-next xs bytes at held size x was lt is s fits opened c = record {
  within = omega (arith, lt);
  held = held-next xs at size x lt is s ∙ ap (λ n. n + size) c.held;
  few = omega (arith, fits, c.few);
  counted = omega (arith, lt);
  tally_held = c.held;
}

-- it stops where the next entry does not fit
pub CountedOn-stopped : (xs : List Change) (bytes at held size : ℕ) (x : Change) (was : Tally) → at < length xs → x ≡ get_or xs at x → size ≡ length (old_text (entry_of x)) + length (new_text (entry_of x))
    → bytes - held < size → CountedOn xs bytes at held was → nat_le (bytes_held (map entry_of xs)) bytes ≡ false
CountedOn-stopped xs bytes at held size x was lt is s over c =
    lt-leb (bytes_held (map entry_of xs)) bytes (omega (arith, over, c.few, c.held, held-next xs at size x lt is s, held-within (at + 1) (map entry_of xs)))

pub CountedOn-all : (xs : List Change) (bytes at held : ℕ) (was : Tally) → length xs ≤ at → CountedOn xs bytes at held was → nat_le (bytes_held (map entry_of xs)) bytes ≡ true
CountedOn-all xs bytes at held was past c =
    le-leb (bytes_held (map entry_of xs)) bytes (omega (arith, c.few, c.held, ap bytes_held (take_all at (map entry_of xs) (omega (arith, past, length-map xs entry_of)))))

pub CountedOn-over : (xs : List Change) (bytes n held : ℕ) → bytes_held (take n (map entry_of xs)) ≡ held → bytes < held → nat_le (bytes_held (map entry_of xs)) bytes ≡ false
CountedOn-over xs bytes n held is over = lt-leb (bytes_held (map entry_of xs)) bytes (omega (arith, is, over, held-within n (map entry_of xs)))

-- the last entry alone is not counted
pub last-fits : (xs : List Change) (bytes at held size : ℕ) (x : Change) → bytes_held (take at (map entry_of xs)) ≡ held → at + 1 ≡ length xs → x ≡ get_or xs at x
    → size ≡ length (old_text (entry_of x)) + length (new_text (entry_of x)) → held ≤ bytes → size ≤ bytes - held → bytes_held (map entry_of xs) ≤ bytes
last-fits xs bytes at held size x h long is s few fits =
    let all : bytes_held (take (at + 1) (map entry_of xs)) ≡ bytes_held (map entry_of xs) = ap bytes_held (take_all (at + 1) (map entry_of xs) (omega (arith, long, length-map xs entry_of))) in
    omega (arith, h, few, fits, all, held-next xs at size x (omega (arith, long)) is s)

-- ---- whether what is left fits
pub fits-many : (most bytes : ℕ) (es : List Entry) → most < length es → length es < 2 ^ 63 → fits most bytes es ≡ false
fits-many most bytes es many small = rw (lt-leb (length es) most many, lt-leb unbounded most (omega (arith, many, small))) refl

pub fits-bytes : (most bytes k : ℕ) (es : List Entry) → Ends k es → length (drop k es) ≤ most → bytes < unbounded → fits most bytes (drop k es) ≡ nat_le (bytes_held es) bytes
fits-bytes most bytes k es e few bound =
    ap (λ b. (nat_le unbounded most || b) && is_within bytes (bytes_held (drop k es))) (le-leb (length (drop k es)) most few)
    ∙ rw (or-true (nat_le unbounded most), lt-leb unbounded bytes bound) (ap (λ n. nat_le n bytes) (sym (held-front k es e)))

-- ---- what keeps a tally
pub same-front : (a b : ℕ) (es now : List Entry) → a ≤ b → take b now ≡ take b es → take a now ≡ take a es
same-front a b es now le e = sym (take-take a b now le) ∙ ap (take a) e ∙ take-take a b es le

pub Counts-kept : (k m n : ℕ) (t : Tally) (es now : List Entry) → Counts k t m es → take m now ≡ take m es → m ≤ n → Counts k t n now
Counts-kept k m n t es now c e le = record {
  counted = omega (arith, c.counted, le);
  held = ap bytes_held (same-front t.counted m es now c.counted e) ∙ c.held;
  looked = omega (arith, c.looked, le);
  opened = λ lt. ap (λ l. oldest_is_open (units (drop k l))) (same-front t.opened m es now c.looked e) ∙ c.opened lt;
}

-- of fewer entries
open-fewer : (k a b : ℕ) (es : List Entry) → k < a → a ≤ b → oldest_is_open (units (drop k (take b es))) ≡ true → oldest_is_open (units (drop k (take a es))) ≡ true
open-fewer k a b es lt le h =
    let l = take b es in
    let xs = drop k (take a es) in
    let parts : l ≡ take a es ++ drop a l = sym (take-append-drop a l) ∙ ap (λ x. x ++ drop a l) (take-take a b es le) in
    let some : k < length l = elim (cases_lt k (length l)) [
      | inl some ↦ some
      | inr none ↦ let empty : drop k l ≡ [] = drop_all k l none in let wrong : false ≡ true = sym (ap (λ x. oldest_is_open (units x)) empty) ∙ h in cc
    ] in
    let long : k < length (take a es) = omega (arith, lt, some, length-take a es, length-take b es) in
    open-front xs (drop a l) (omega (arith, long, length-drop k (take a es)))
    (ap (λ x. oldest_is_open (units x)) (sym (drop-append-le k (take a es) (drop a l) (omega (arith, long))) ∙ ap (drop k) (sym parts)) ∙ h)

pub Counts-within : (k m l : ℕ) (t now : Tally) (es : List Entry) → Counts k t m es → now.counted ≡ min t.counted l → bytes_held (take now.counted es) ≡ now.held → now.opened ≡ min t.opened l
    → Counts k now (min l m) es
Counts-within k m l t now es c n h o = record {
  counted = omega (arith, n, c.counted);
  held = h;
  looked = omega (arith, o, c.looked);
  opened = λ lt. open-fewer k now.opened t.opened es lt (omega (arith, o)) (c.opened (omega (arith, lt, o)));
}

-- entries that stay as they are, but for the last one
pub record GoesOn (es now : List Entry) : Type 0 where
  pub same : take (length es - 1) now ≡ take (length es - 1) es
  pub more : length es ≤ length now

pub Front-on : (k : ℕ) (t : Tally) (es now : List Entry) → FrontGone k t es → GoesOn es now → Ends k now → FrontGone k t now
Front-on k t es now f g e = record { ends = e; counts = Counts-kept k (length es - 1) (length now - 1) t es now f.counts g.same (omega (arith, g.more)) }

pub on-more : (es more : List Entry) → GoesOn es (es ++ more)
on-more es more = record { same = take-append-le (length es - 1) es more (omega arith); more = omega (arith, length-append es more) }

on-last : (front : List Entry) (e joint : Entry) → GoesOn (front ++ e ∷ []) (front ++ joint ∷ [])
on-last front e joint =
    let long : length (front ++ e ∷ []) ≡ length (front ++ joint ∷ []) = omega (arith, length-append front (e ∷ []), length-append front (joint ∷ [])) in
    record {
      same = ap (λ n. take (n - 1) (front ++ joint ∷ [])) long ∙ but_last front joint ∙ sym (but_last front e);
      more = omega (arith, long);
    }

pub on-after : (was : Freshness) (event : Event) (es : List Entry) → GoesOn es (entries_after was event es)
on-after was event es = after-cases was event (λ xs ys _. GoesOn xs ys) (λ xs. on-more xs (entries_of event)) (λ front e joint _. on-last front e joint) es

on-told : (cursors : ℕ × ℕ) (es : List Entry) → GoesOn es (last_told cursors es)
on-told cursors = by_last (λ es. GoesOn es (last_told cursors es)) (record { same = refl; more = omega arith })
    (λ front e. subst (GoesOn (front ++ e ∷ [])) (sym (last_told-past cursors front e [])) (on-last front e (with_cursors cursors e)))

pub on-all : (es : List Entry) → GoesOn es es
on-all es = record { same = refl; more = omega arith }

pub on-entries_told : (fresh : Freshness) (before after : ℕ) (es : List Entry) → GoesOn es (entries_told fresh before after es)
on-entries_told Stale before after es = on-all es
on-entries_told Parted before after es = on-all es
on-entries_told Added before after es = on-told (before, after) es
on-entries_told (Joined first) before after es = on-told (first, after) es

-- of which some go
pub Front-cut : (k l : ℕ) (t now : Tally) (es left : List Entry) → FrontGone k t es → now.counted ≡ min t.counted l → bytes_held (take now.counted es) ≡ now.held → now.opened ≡ min t.opened l
    → take (min l (length es - 1)) left ≡ take (min l (length es - 1)) es → min l (length es - 1) ≤ length left - 1 → Ends k left → FrontGone k now left
Front-cut k l t now es left f n h o same few e = record {
  ends = e;
  counts = Counts-kept k (min l (length es - 1)) (length left - 1) now es left (Counts-within k (length es - 1) l t now es f.counts n h o) same few;
}

-- what the functions on a tally ask for
pub asks-within : (k : ℕ) (t : Tally) (xs : List Change) (es : List Entry) → map entry_of xs ≡ es → FrontGone k t es → t.counted ≤ length xs
asks-within k t xs es e f = omega (arith, f.counts.counted, ap length e, length-map xs entry_of)

pub asks-few : (k : ℕ) (t : Tally) (xs : List Change) (es : List Entry) → map entry_of xs ≡ es → FrontGone k t es → t.counted ≤ length xs - 1
asks-few k t xs es e f = omega (arith, f.counts.counted, ap length e, length-map xs entry_of)

pub asks-held : (k : ℕ) (t : Tally) (xs : List Change) (es : List Entry) → map entry_of xs ≡ es → FrontGone k t es → bytes_held (take t.counted (map entry_of xs)) ≡ t.held
asks-held k t xs es e f = ap (λ l. bytes_held (take t.counted l)) e ∙ f.counts.held

-- ---- each way in which entries go
one-front : (es : List Entry) → (take (length es - 1) (end_one es) ≡ take (length es - 1) es) × (length es - 1 ≤ length (end_one es))
one-front es =
    elim (end_one-cases es) [
      | inl c ↦
          let long : length es - 1 ≡ length c.front = omega (arith, ap length c.list_is, length-append c.front (Begin ∷ [])) in (
            ap (take (length es - 1)) c.after_is ∙ sym (take-append-le (length es - 1) c.front (Begin ∷ []) (omega (arith, long))) ∙ ap (take (length es - 1)) (sym c.list_is),
            omega (arith, long, ap length c.after_is),
          )
      | inr c ↦ (
        ap (take (length es - 1)) c.after_is ∙ take-append-le (length es - 1) es (End ∷ []) (omega arith),
        omega (arith, ap length c.after_is, length-append es (End ∷ [])),
      )
    ]

pub times-front : (n j : ℕ) (es : List Entry) → (0 < j → j + n ≤ length es) → (take j (end_times n es) ≡ take j es) × (j ≤ length (end_times n es))
times-front n zero es h = (refl, omega arith)
times-front zero (suc j) es h = (refl, omega (arith, h (omega arith)))
times-front (suc n) (suc j) es h =
    let few = h (omega arith) in
    let one = one-front es in
    let rest = times-front n (suc j) (end_one es) (λ some. omega (arith, few, one.1)) in
    (rest.0 ∙ same-front (suc j) (length es - 1) es (end_one es) (omega (arith, few)) one.0, rest.1)

-- ---- the first entry that is left is forgotten
-- in the list of the code
pub blank-view : (xs : List Change) (n at : ℕ) (fresh : Freshness) (saved point : Option ℕ) (r : Record) → cut_at n (map entry_of xs) fresh saved ≡ r → at < length r.recorded
    → point ≡ point_past (change_count (get_or r.recorded at End ∷ [])) r.saved → cut_at n (map entry_of (set xs at made.End)) fresh point ≡ blanked at r
blank-view xs n at fresh saved point r v lt p =
    let es = map entry_of xs in
    let first : take n es ≡ r.recorded = ap (λ (q : Record). q.recorded) v in
    let before : at < n = omega (arith, lt, ap length first, length-take n es) in
    let list : map entry_of (set xs at made.End) ≡ set es at End = map-set entry_of xs at made.End in
    ap (λ l. cut_at n l fresh point) list ∙ ap (λ l. record { recorded = l; pending = drop n (set es at End); fresh = fresh; saved = point }) (take-set-lt n es at End before)
    ∙ ap (λ l. record { recorded = set (take n es) at End; pending = l; fresh = fresh; saved = point }) (drop-set-lt n es at End before)
    ∙ ap (λ (q : Record). record { recorded = set q.recorded at End; pending = q.pending; fresh = q.fresh; saved = point }) v ∙ ap (λ x. record r { recorded = set r.recorded at End; saved = x }) p

gone-held : (c k size : ℕ) (xs : List Change) (x : Change) (es : List Entry) → map entry_of xs ≡ es → k < c → c ≤ length es → x ≡ get_or xs k x → size ≡ length (old_text (entry_of x)) + length (new_text (entry_of x))
    → bytes_held (take c es) ≡ size + bytes_held (take c (set es k End))
gone-held c k size xs x es e lt le is s =
    let long : k < length (take c es) = omega (arith, lt, length-take-le c es le) in
    let read : get_or (take c es) k End ≡ entry_of x =
    get_or-take c es k End lt ∙ ap (λ l. get_or l k End) (sym e) ∙ get_or-map entry_of xs k x End (omega (arith, lt, le, ap length e, length-map xs entry_of)) ∙ ap entry_of (sym is) in
    let one : bytes_held (entry_of x ∷ []) ≡ size = omega (arith, s) in
    held-set (take c es) k long ∙ ap (λ y. bytes_held (y ∷ []) + bytes_held (set (take c es) k End)) read ∙ ap (λ n. n + bytes_held (set (take c es) k End)) one
    ∙ ap (λ l. size + bytes_held l) (sym (take-set-lt c es k End lt))

pub gone-next : (k : ℕ) (t now : Tally) (es : List Entry) → FrontGone k t es → k < length es → now.counted ≡ t.counted → now.opened ≡ 0 → bytes_held (take t.counted (set es k End)) ≡ now.held
    → FrontGone (k + 1) now (set es k End)
gone-next k t now es f lt n o h = record {
  ends = take_more_set es k End lt ∙ ap (λ l. l ++ End ∷ []) f.ends ∙ replicate_more k End;
  counts = record {
    counted = omega (arith, n, f.counts.counted, length-set es k End);
    held = ap (λ m. bytes_held (take m (set es k End))) n ∙ h;
    looked = omega (arith, o);
    opened = λ some. absurd (omega (arith, some, o));
  };
}

-- what the code takes off
pub taken-size : (n k size : ℕ) (t : Tally) (xs : List Change) (x : Change) → n ≡ t.counted → t.counted ≤ length xs → bytes_held (take t.counted (map entry_of xs)) ≡ t.held → k < n → x ≡ get_or xs k x
    → size ≡ length (old_text (entry_of x)) + length (new_text (entry_of x)) → t.held ≡ size + bytes_held (take n (set (map entry_of xs) k End))
taken-size n k size t xs x e within h lt is s =
    sym h ∙ ap (λ m. bytes_held (take m (map entry_of xs))) (sym e) ∙ gone-held n k size xs x (map entry_of xs) refl lt (omega (arith, e, within, length-map xs entry_of)) is s

pub taken-none : (k : ℕ) (t : Tally) (xs : List Change) → bytes_held (take t.counted (map entry_of xs)) ≡ t.held → t.counted ≤ k → bytes_held (take t.counted (set (map entry_of xs) k End)) ≡ t.held
taken-none k t xs h le = ap bytes_held (take-set-le t.counted (map entry_of xs) k End le) ∙ h

pub gone-view : (k : ℕ) (r now s : Record) → past_front k r ≡ s → k < length r.recorded → now ≡ blanked k r → past_front (k + 1) now ≡ without_first 1 s
gone-view k r now s v lt e = ap (past_front (k + 1)) e ∙ first-more k r lt ∙ ap (without_first 1) v

-- what is forgotten goes out of the list
pub gone-up : (k : ℕ) (t now : Tally) (es : List Entry) → FrontGone k t es → now.counted ≡ t.counted - k → now.held ≡ t.held → now.opened ≡ 0 → FrontGone 0 now (drop k es)
gone-up k t now es f n h o = record {
  ends = refl;
  counts = record {
    counted = omega (arith, n, f.counts.counted, length-drop k es);
    held = ap (λ m. bytes_held (take m (drop k es))) n ∙ held ∙ f.counts.held ∙ sym h;
    looked = omega (arith, o);
    opened = λ some. absurd (omega (arith, some, o));
  };
}
  where
    c : ℕ
    c = t.counted

    held : bytes_held (take (c - k) (drop k es)) ≡ bytes_held (take c es)
    held = elim (cases_lt k c) [
      | inl lt ↦
          let sum : k + (c - k) ≡ c = omega (arith, lt) in
          let ends : Ends k (take c es) = take-take k c es (omega (arith, lt)) ∙ f.ends in
          ap bytes_held (sym (drop-take k (c - k) es) ∙ ap (λ m. drop k (take m es)) sum) ∙ sym (held-front k (take c es) ends)
      | inr le ↦
          let none : c - k ≡ 0 = omega (arith, le) in
          let ends : take c es ≡ replicate c End = sym (take-take c k es le) ∙ ap (take c) f.ends ∙ take-replicate c k End le in
          ap (λ m. bytes_held (take m (drop k es))) none ∙ sym (ap bytes_held ends ∙ held-Ends c)
    ]

-- ---- more is counted
pub tally-counted : (k : ℕ) (t now : Tally) (xs : List Change) (es : List Entry) → map entry_of xs ≡ es → FrontGone k t es → now.counted ≤ length xs - 1
    → bytes_held (take now.counted (map entry_of xs)) ≡ now.held → now.opened ≡ t.opened → FrontGone k now es
tally-counted k t now xs es e f n h o = record {
  ends = f.ends;
  counts = record {
    counted = omega (arith, n, ap length e, length-map xs entry_of);
    held = ap (λ l. bytes_held (take now.counted l)) (sym e) ∙ h;
    looked = omega (arith, o, f.counts.looked);
    opened = λ some. ap (λ m. oldest_is_open (units (drop k (take m es)))) o ∙ f.counts.opened (omega (arith, some, o));
  };
}

pub tally-open : (k : ℕ) (t now : Tally) (es : List Entry) → FrontGone k t es → now.counted ≡ t.counted → now.held ≡ t.held → now.opened ≡ length es - 1 → oldest_is_open (units (drop k es)) ≡ true
    → FrontGone k now es
tally-open k t now es f n h o opened = record {
  ends = f.ends;
  counts = record {
    counted = omega (arith, n, f.counts.counted);
    held = ap (λ m. bytes_held (take m es)) n ∙ f.counts.held ∙ sym h;
    looked = omega (arith, o);
    opened = λ some.
        open-fewer k now.opened (length es) es some (omega (arith, o)) (ap (λ l. oldest_is_open (units (drop k l))) (take_all (length es) es (omega arith)) ∙ opened);
  };
}

-- nothing is counted at first
pub none-counted : (t : Tally) (es : List Entry) → t.counted ≡ 0 → t.held ≡ 0 → t.opened ≡ 0 → FrontGone 0 t es
none-counted t es n h o = record {
  ends = refl;
  counts = record {
    counted = omega (arith, n);
    held = ap (λ m. bytes_held (take m es)) n ∙ sym h;
    looked = omega (arith, o);
    opened = λ some. absurd (omega (arith, some, o));
  };
}

-- ---- the open group in front, over the entries that came
-- n groups are open after the first `at` entries, and one with which they begin is open after all
pub record OpenAt (xs : List Change) (at n : ℕ) : Type 0 where
  pub within : at ≤ length xs
  pub level : n ≡ level (map entry_of (take at xs))
  pub stays : oldest_is_open (units (take at (map entry_of xs))) ≡ true → oldest_is_open (units (map entry_of xs)) ≡ true

pub OpenAt-first : (xs : List Change) (n : ℕ) → n ≡ level (map entry_of xs) → OpenAt xs (length xs) n
OpenAt-first xs n e = record {
  within = omega arith;
  level = e ∙ ap (λ l. level (map entry_of l)) (sym (take_all (length xs) xs (omega arith)));
  stays = λ h. ap (λ l. oldest_is_open (units l)) (sym (take_all (length xs) (map entry_of xs) (omega (arith, length-map xs entry_of)))) ∙ h;
}

same-before : (e : Entry) (a b n : ℕ) → 0 < n → deep a (e ∷ []) ≡ n → deep b (e ∷ []) ≡ n → a ≡ b
same-before Begin a b n some p q = omega (arith, p, q)
same-before End a b n some p q = omega (arith, some, p, q)
same-before (Changed kind swap) a b n some p q = p ∙ sym q

-- the entry before
pub OpenAt-before : (xs : List Change) (at n before : ℕ) (x : Change) → IsMatched (map entry_of xs) → 0 < at → 0 < n → x ≡ get_or xs (at - 1) x → deep before (entry_of x ∷ []) ≡ n → OpenAt xs at n
    → OpenAt xs (at - 1) before
OpenAt-before xs at n before x m some open-groups is e o =
    let es = map entry_of xs in
    let one : (at - 1) + 1 ≡ at = omega (arith, some) in
    let lt : at - 1 < length xs = omega (arith, some, o.within) in
    let front = front-matched xs (at - 1) m in
    let read : take at es ≡ take (at - 1) es ++ entry_of x ∷ [] =
    ap (λ k. take k es) (sym one) ∙ take-map entry_of ((at - 1) + 1) xs ∙ read-last entry_of xs (at - 1) x x lt (sym is) ∙ ap (λ l. l ++ entry_of x ∷ []) (sym (take-map entry_of (at - 1) xs)) in
    let after : n ≡ level (take (at - 1) es ++ entry_of x ∷ []) = o.level ∙ ap level (sym (take-map entry_of at xs) ∙ read) in
    let deep-after : deep (level (map entry_of (take (at - 1) xs))) (entry_of x ∷ []) ≡ n =
    sym (deep-next xs (at - 1) (level (map entry_of (take (at - 1) xs))) x lt is (level-counted (map entry_of (take (at - 1) xs)) front)) ∙ ap (λ k. deep 0 (map entry_of (take k xs))) one
    ∙ sym (level-counted (map entry_of (take at xs)) (front-matched xs at m)) ∙ sym o.level in
    record {
      within = omega (arith, o.within);
      level = same-before (entry_of x) before (level (map entry_of (take (at - 1) xs))) n open-groups e deep-after;
      stays = λ h. o.stays (ap (λ l. oldest_is_open (units l)) read ∙ open-on (take (at - 1) es) (entry_of x) h (omega (arith, open-groups, after)));
    }

pub OpenAt-done : (xs : List Change) (len at n : ℕ) → at ≤ len → length xs - at ≤ length xs - len → OpenAt xs at n → oldest_is_open (units (take len (map entry_of xs))) ≡ true
    → oldest_is_open (units (map entry_of xs)) ≡ true
OpenAt-done xs len at n le cut o h = elim (cases_lt len (length xs)) [
  | inl lt ↦ let e : at ≡ len = omega (arith, le, cut, lt, o.within) in o.stays (ap (λ k. oldest_is_open (units (take k (map entry_of xs)))) e ∙ h)
  | inr past ↦ sym (ap (λ l. oldest_is_open (units l)) (take_all len (map entry_of xs) (omega (arith, past, length-map xs entry_of)))) ∙ h
]

pub OpenAt-small : (xs : List Change) (at n : ℕ) → IsMatched (map entry_of xs) → OpenAt xs at n → n ≤ at
OpenAt-small xs at n m o = omega (arith, o.level, level-within (map entry_of (take at xs)) (front-matched xs at m), length-map (take at xs) entry_of, length-take at xs)

-- from what is kept of an open group
pub open-kept : (k : ℕ) (t : Tally) (r s : Record) → FrontGone k t r.recorded → past_front k r ≡ s → k < t.opened → oldest_is_open (units (take (t.opened - k) s.recorded)) ≡ true
open-kept k t r s f v some =
    let sum : k + (t.opened - k) ≡ t.opened = omega (arith, some) in
    subst (λ (q : Record). oldest_is_open (units (take (t.opened - k) q.recorded)) ≡ true) v
    (ap (λ l. oldest_is_open (units l)) (sym (drop-take k (t.opened - k) r.recorded) ∙ ap (λ n. drop k (take n r.recorded)) sum) ∙ f.counts.opened some)

-- over the last entry
pub open-last : (es : List Entry) (n : ℕ) → n + 1 ≡ length es → oldest_is_open (units (take n es)) ≡ true → 0 < level es → oldest_is_open (units es) ≡ true
open-last es n long h some =
    let read : es ≡ take n es ++ get_or es n End ∷ [] = sym (take_all (n + 1) es (omega (arith, long))) ∙ (take_at_read es n End (omega (arith, long))).1 in
    ap (λ l. oldest_is_open (units l)) read ∙ open-on (take n es) (get_or es n End) h (subst (λ l. 0 < level l) read some)

-- the groups that are given up are among those that are left
pub adds-none : (k n : ℕ) (t : Tally) (r s : Record) → FrontGone k t r.recorded → past_front k r ≡ s → adds_end n s.recorded ≡ false → adds_end n r.recorded ≡ false
adds-none k n t r s f v h = adds-front k n r.recorded f.ends ∙ ap (λ (q : Record). adds_end n q.recorded) v ∙ h

pub adds-same : (k n : ℕ) (t : Tally) (r s : Record) → FrontGone k t r.recorded → past_front k r ≡ s → adds_end n r.recorded ≡ adds_end n s.recorded
adds-same k n t r s f v = adds-front k n r.recorded f.ends ∙ ap (λ (q : Record). adds_end n q.recorded) v

pub few-none : (k n : ℕ) (t : Tally) (r s : Record) → FrontGone k t r.recorded → past_front k r ≡ s → adds_end n s.recorded ≡ false → n ≤ length r.recorded
few-none k n t r s f v h = (ended-empty n r.recorded (adds-none k n t r s f v h)).0

-- ---- what the code reads
pub front-len : (k n : ℕ) (r s : Record) → past_front k r ≡ s → n ≡ length r.recorded → n - k ≡ length s.recorded
front-len k n r s v e = omega (arith, e, length-drop k r.recorded, ap (λ (q : Record). length q.recorded) v)

pub front-small : (k : ℕ) (r s : Record) → past_front k r ≡ s → length r.recorded + length r.pending < 2 ^ 63 → length s.recorded + length s.pending < 2 ^ 63
front-small k r s v small = omega (arith, small, length-drop k r.recorded, ap (λ (q : Record). length q.recorded) v, ap (λ (q : Record). length q.pending) v)

pub front-few : (k : ℕ) (t : Tally) (es : List Entry) → FrontGone k t es → k ≤ length es
front-few k t es f = Ends-within k es f.ends

pub front-recorded : (k : ℕ) (xs : List Change) (r s : Record) → past_front k r ≡ s → map entry_of xs ≡ r.recorded → map entry_of (take (length xs - k) (drop k xs)) ≡ s.recorded
front-recorded k xs r s v e = rest-part k xs r.recorded e ∙ ap (λ (q : Record). q.recorded) v

pub front-all : (k : ℕ) (t : Tally) (xs : List Change) (r s : Record) → FrontGone k t r.recorded → past_front k r ≡ s → map entry_of xs ≡ r.recorded ++ r.pending
    → map entry_of (take (length xs - k) (drop k xs)) ≡ s.recorded ++ s.pending
front-all k t xs r s f v e =
    rest-part k xs (r.recorded ++ r.pending) e ∙ drop-append-le k r.recorded r.pending (Ends-within k r.recorded f.ends) ∙ ap (λ (q : Record). q.recorded ++ q.pending) v

pub front-kinds : (k : ℕ) (r s : Record) → past_front k r ≡ s → All IsOfKind r.recorded × All IsOfKind r.pending → All IsOfKind s.recorded × All IsOfKind s.pending
front-kinds k r s v h = subst (λ (q : Record). All IsOfKind q.recorded × All IsOfKind q.pending) v (All-drop IsOfKind k r.recorded h.0, h.1)

pub front-within : (k : ℕ) (t : Tally) (r s : Record) → FrontGone k t r.recorded → past_front k r ≡ s → kept_point (change_count (r.recorded ++ r.pending)) r.saved ≡ r.saved
    → kept_point (change_count (s.recorded ++ s.pending)) s.saved ≡ s.saved
front-within k t r s f v h = subst (λ (q : Record). kept_point (change_count (q.recorded ++ q.pending)) q.saved ≡ q.saved) v (point-within k r f.ends h)

pub front-apart : (k : ℕ) (t : Tally) (r s : Record) → FrontGone k t r.recorded → past_front k r ≡ s → IsApart r → IsApart s
front-apart k t r s f v h = subst IsApart v (apart-front k r f.ends h)

pub front-count : (k n : ℕ) (t : Tally) (r s : Record) → FrontGone k t r.recorded → past_front k r ≡ s → n ≡ change_count r.recorded → n ≡ change_count s.recorded
front-count k n t r s f v e = e ∙ count-front k r.recorded f.ends ∙ ap (λ (q : Record). change_count q.recorded) v

pub front-counted : (k n count : ℕ) (t : Tally) (r s : Record) → FrontGone k t r.recorded → past_front k r ≡ s → count ≡ change_count (take n (s.recorded ++ s.pending))
    → count ≡ change_count (take (k + n) (r.recorded ++ r.pending))
front-counted k n count t r s f v e = e ∙ ap (λ (q : Record). change_count (take n (q.recorded ++ q.pending))) (sym v) ∙ sym (cut-count k n r f.ends)

pub front-saved : (k : ℕ) (t : Tally) (r s : Record) → FrontGone k t r.recorded → past_front k r ≡ s → is_saved r ≡ is_saved s
front-saved k t r s f v = saved-front k r f.ends ∙ ap is_saved v

pub ruleset opens_at = (OpenAt-before, OpenAt-done, OpenAt-first, OpenAt-small)

pub ruleset fronts = (adds-none, adds-same, asks-few, asks-held, asks-within, few-none, front-all, front-apart, front-count, front-counted, front-few, front-kinds, front-len, front-recorded, front-saved, front-small, front-within, none-counted, none-first)
