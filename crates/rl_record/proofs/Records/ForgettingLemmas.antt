-- Forgetting the oldest units: which units go, and what is left.
use Rattle.rl_record.proofs.Common.{AtLevel, Begin, Bool, Change, Changed, End, Entry, Freshness, IsMatched, List, None, Open, Option, Record, SavedAt, Some, StaysSaved, UndoUnit, Walk, Walks, Whole, [], add_entry, after, ap, append-nil, append_assoc, arith, bytes_held, change_count, changes_of, close, common_steps, cond, cut_at, cut_more, drop, drop-map, drop-take, drop_at, entry_of, false, fits, forgotten, gone_within, inl, inr, is_within, kept_within, le-leb, leb, leb-true, length, length-append, length-drop, level, map, nat_le, oldest_is_open, opens, or-true, past_front, point_past, redo_from, redo_of, refl, remove_range, replay_entries, reverse, reverse-append, reverse-reverse, subst, sym, take, take-append-add, take_at, together, true, unbounded, units, units_kept, without_first, ℕ, ◌++◌, ◌+◌, ◌-◌, ◌<◌, ◌∙◌, ◌∷◌, ◌≡◌, ◌≤◌, ◌⊎◌}
use Rattle.rl_line.proofs.Changes.InverseLemmas.{replay-append, through}
use Rattle.rl_line.proofs.Changes.WalkLemmas.{Walk-IsUtf8, Walk-split}
use Rattle.rl_record.proofs.Records.FrontLemmas.{past-more, past-none}
use Rattle.rl_record.proofs.Records.LevelLemmas.{level-append}
use Rattle.rl_record.proofs.Records.MatchLemmas.{Redoes-of}
use Rattle.rl_record.proofs.Records.PointLemmas.{changes-append, count-append, count-parts}
use Rattle.rl_record.proofs.Records.UnitLemmas.{AllGood, AllGood-left, AllGood-reverse, AllGood-right, IsMatched-together, Settles, cut_more-append, good_cuts, oldest, oldest-first, opens-reverse, together-append, together-units, units-append, units-good}

-- ---- where entries fit
within-none : (bound n : ℕ) → unbounded ≤ bound → is_within bound n ≡ true
within-none bound n free = rw (le-leb unbounded bound free) refl

within-few : (bound n : ℕ) → n ≤ bound → is_within bound n ≡ true
within-few bound n few = rw (le-leb n bound few) (or-true (leb unbounded bound))

pub fits-any : (most bytes : ℕ) (es : List Entry) → length es ≤ most → unbounded ≤ bytes → fits most bytes es ≡ true
fits-any most bytes es few free = rw (within-few most (length es) few, within-none bytes (bytes_held es) free) refl

pub fits-counted : (most bytes : ℕ) (es : List Entry) → length es ≤ most → bytes_held es ≤ bytes → fits most bytes es ≡ true
fits-counted most bytes es few light = rw (within-few most (length es) few, within-few bytes (bytes_held es) light) refl

-- ---- which units go
-- what a list is, from its units, the oldest first
whole-list : (es : List Entry) (rs : List UndoUnit) → reverse (units es) ≡ rs → together (reverse rs) ≡ es
whole-list es rs e = ap together (sym (oldest-first es rs e)) ∙ together-units es

-- how many groups are open, from the units, the oldest first
level-of : (es : List Entry) (rs : List UndoUnit) → reverse (units es) ≡ rs → level es ≡ opens rs
level-of es rs e = sym (opens-reverse (units es)) ∙ ap opens e

level-whole : (inner : List Entry) → Settles inner → level inner ≡ 0
level-whole inner s = ap opens (s.cuts [])

whole-some : (inner : List Entry) → Settles inner → 0 < length inner
whole-some [] s = let h = s.flags (false ∷ []) in cc
whole-some (e ∷ es) s = omega arith

-- the unit that is redone first is the oldest, and it is whole where it opens no group
pub record OldestIsWhole (es : List Entry) : Type 0 where
  pub some : 0 < length (redo_of es)
  pub first : reverse (units es) ≡ Whole (redo_of es) ∷ reverse (units (drop (length (redo_of es)) es))

pub oldest-whole : (es : List Entry) → IsMatched es → 0 < length es → level (redo_of es) ≡ 0 → OldestIsWhole es
oldest-whole es m long none = go (reverse (units es)) refl none
  where
    go : (rs : List UndoUnit) → reverse (units es) ≡ rs → level (redo_from es rs) ≡ 0 → OldestIsWhole es
    go [] e n = absurd (omega (arith, long, ap length (whole-list es [] e)))
    go (Open ∷ rs) e n = absurd (omega (arith, n, level-of es (Open ∷ rs) e))
    go (Whole inner ∷ rs) e n =
        let o = oldest es inner rs e in
        let good = subst AllGood o.units_are (units-good es m) in
        let is : redo_of es ≡ inner = ap (redo_from es) e in
        let others : rs ≡ reverse (units (drop (length inner) es)) =
        sym (ap (λ l. reverse (units l)) o.rest_is ∙ ap reverse (good_cuts (reverse rs) [] (AllGood-left (reverse rs) (Whole inner ∷ []) good) ∙ append-nil (reverse rs)) ∙ reverse-reverse rs) in
        record {
          some = subst (λ l. 0 < length l) (sym is) (whole-some inner (AllGood-right (reverse rs) (Whole inner ∷ []) good).0);
          first = e ∙ ap (λ l. Whole inner ∷ l) others ∙ ap (λ l. Whole l ∷ reverse (units (drop (length l) es))) (sym is);
        }

-- entries that fit stay
pub fitting-stay : (most bytes : ℕ) (es : List Entry) → fits most bytes es ≡ true → kept_within most bytes es ≡ es
fitting-stay most bytes es h = go (reverse (units es)) refl
  where
    go : (rs : List UndoUnit) → reverse (units es) ≡ rs → together (reverse (units_kept most bytes rs)) ≡ es
    go [] e = whole-list es [] e
    go (Open ∷ rs) e = whole-list es (Open ∷ rs) e
    go (Whole inner ∷ rs) e =
        let all = whole-list es (Whole inner ∷ rs) e in
        ap (λ b. together (reverse (cond b (Whole inner ∷ rs) (units_kept most bytes rs)))) (ap (fits most bytes) all ∙ h) ∙ all

-- a whole unit goes where it and what comes after it do not fit
pub whole-goes : (most bytes : ℕ) (es : List Entry) → fits most bytes es ≡ false → OldestIsWhole es
    → kept_within most bytes es ≡ kept_within most bytes (drop (length (redo_of es)) es)
whole-goes most bytes es h o = grind (arith, whole-list)

-- ---- what is left
units_kept-good : (most bytes : ℕ) (us : List UndoUnit) → AllGood us → AllGood (units_kept most bytes us)
units_kept-good most bytes [] g = g
units_kept-good most bytes (Open ∷ us) g = g
units_kept-good most bytes (Whole es ∷ us) g = from (fits most bytes (together (reverse (Whole es ∷ us)))) (units_kept-good most bytes us g.1)
  where
    from : (b : Bool) → AllGood (units_kept most bytes us) → AllGood (cond b (Whole es ∷ us) (units_kept most bytes us))
    from true rest = g
    from false rest = rest

units_kept-opens : (most bytes : ℕ) (us : List UndoUnit) → opens (units_kept most bytes us) ≡ opens us
units_kept-opens most bytes [] = refl
units_kept-opens most bytes (Open ∷ us) = refl
units_kept-opens most bytes (Whole es ∷ us) = from (fits most bytes (together (reverse (Whole es ∷ us)))) (units_kept-opens most bytes us)
  where
    from : (b : Bool) → opens (units_kept most bytes us) ≡ opens us → opens (cond b (Whole es ∷ us) (units_kept most bytes us)) ≡ opens us
    from true rest = refl
    from false rest = rest

kept-good : (most bytes : ℕ) (es : List Entry) → IsMatched es → AllGood (reverse (units_kept most bytes (reverse (units es))))
kept-good most bytes es m = grind (arith, AllGood-reverse, units_kept-good, units-good)

-- the marks match, and as many groups are open
pub IsMatched-kept : (most bytes : ℕ) (es : List Entry) → IsMatched es → IsMatched (kept_within most bytes es)
IsMatched-kept most bytes es m = IsMatched-together (reverse (units_kept most bytes (reverse (units es)))) (kept-good most bytes es m)

pub level-kept : (most bytes : ℕ) (es : List Entry) → IsMatched es → level (kept_within most bytes es) ≡ level es
level-kept most bytes es m = grind (arith, common_steps, good_cuts, kept-good, opens-reverse, units_kept-opens)

-- from the Begin of an open group on all stays
kept-from_open : (most bytes : ℕ) (us vs : List UndoUnit) → (stay : List UndoUnit) × (units_kept most bytes (us ++ Open ∷ vs) ≡ stay ++ Open ∷ vs)
kept-from_open most bytes [] vs = ([], refl)
kept-from_open most bytes (Open ∷ us) vs = (Open ∷ us, refl)
kept-from_open most bytes (Whole es ∷ us) vs = from (fits most bytes (together (reverse (Whole es ∷ (us ++ Open ∷ vs))))) (kept-from_open most bytes us vs)
  where
    from : (b : Bool) → (stay : List UndoUnit) × (units_kept most bytes (us ++ Open ∷ vs) ≡ stay ++ Open ∷ vs)
        → (stay : List UndoUnit) × (cond b (Whole es ∷ (us ++ Open ∷ vs)) (units_kept most bytes (us ++ Open ∷ vs)) ≡ stay ++ Open ∷ vs)
    from true rest = (Whole es ∷ us, refl)
    from false rest = rest

pub group-stays : (most bytes : ℕ) (front inside : List Entry) → IsMatched inside
    → (stay : List Entry) × (kept_within most bytes (front ++ Begin ∷ inside) ≡ stay ++ Begin ∷ inside)
group-stays most bytes front inside m =
    let us = units front in
    let vs = units inside in
    let cut : units (front ++ Begin ∷ inside) ≡ vs ++ Open ∷ us =
    ap units (sym (append_assoc front (Begin ∷ []) inside)) ∙ units-append (front ++ Begin ∷ []) inside m ∙ ap (λ ws. vs ++ ws) (units-append front (Begin ∷ []) refl) in
    let turned : reverse (units (front ++ Begin ∷ inside)) ≡ reverse us ++ Open ∷ reverse vs =
    ap reverse cut ∙ reverse-append vs (Open ∷ us) ∙ ap (λ ws. ws ++ reverse vs) (reverse-append (Open ∷ []) us) ∙ append_assoc (reverse us) (Open ∷ []) (reverse vs) in
    let k = kept-from_open most bytes (reverse us) (reverse vs) in
    let back : reverse (k.0 ++ Open ∷ reverse vs) ≡ (vs ++ Open ∷ []) ++ reverse k.0 =
    reverse-append k.0 (Open ∷ reverse vs) ∙ ap (λ ws. ws ++ reverse k.0) (reverse-append (Open ∷ []) (reverse vs) ∙ ap (λ ws. ws ++ Open ∷ []) (reverse-reverse vs)) in (
      together (reverse k.0),
      ap (λ ws. together (reverse (units_kept most bytes ws))) turned ∙ ap (λ ws. together (reverse ws)) k.1 ∙ ap together back
          ∙ together-append (vs ++ Open ∷ []) (reverse k.0)
          ∙ ap (λ l. together (reverse k.0) ++ l) (together-append vs (Open ∷ []) ∙ ap (λ l. Begin ∷ l) (together-units inside)),
    )

pub AtLevel-forgotten : (most bytes n : ℕ) (r : Record) → AtLevel n r → AtLevel n (forgotten most bytes r)
AtLevel-forgotten most bytes n r a = grind (arith, IsMatched-kept, level-kept)

-- a list that lost its first entries
pub removed-front : (n : ℕ) (xs ys : List Change) → ys ≡ remove_range xs 0 n → map entry_of ys ≡ drop n (map entry_of xs)
removed-front n xs ys e = ap (map entry_of) e ∙ sym (drop-map entry_of n xs)

-- where the record is cut then
pub dropped-first : (n count : ℕ) (r : Record) (es now : List Entry) (fresh : Freshness) (saved : Option ℕ) → n ≤ length es → cut_at n es fresh saved ≡ r → count ≤ length r.recorded → now ≡ drop count es
    → (n - count ≤ length now) × (cut_at (n - count) now fresh saved ≡ past_front count r)
dropped-first n count r es now fresh saved within v few e = grind (arith, common_steps, drop-take)

-- where all stays, so does the record
pub forgotten-stays : (most bytes : ℕ) (r : Record) → kept_within most bytes r.recorded ≡ r.recorded → forgotten most bytes r ≡ r
forgotten-stays most bytes r all =
    let none : length r.recorded - length (kept_within most bytes r.recorded) ≡ 0 = omega (arith, ap length all) in
    ap (λ es. record r { recorded = es; saved = point_past (change_count (gone_within most bytes r.recorded)) r.saved }) all
    ∙ ap (λ p. record r { saved = p }) (ap (λ k. point_past (change_count (take k r.recorded)) r.saved) none ∙ past-none r.saved)

pub forgotten-fits : (most bytes : ℕ) (r : Record) → fits most bytes r.recorded ≡ true → forgotten most bytes r ≡ r
forgotten-fits most bytes r h = forgotten-stays most bytes r (fitting-stay most bytes r.recorded h)

-- within the bound nothing goes
pub forgotten-same : (most bytes : ℕ) (r : Record) → length r.recorded ≤ most → unbounded ≤ bytes → forgotten most bytes r ≡ r
forgotten-same most bytes r few free = forgotten-stays most bytes r (fitting-stay most bytes r.recorded (fits-any most bytes r.recorded few free))

-- ---- the oldest unit is an open group
last-open : (us : List UndoUnit) → oldest_is_open us ≡ true → (rs : List UndoUnit) × (us ≡ rs ++ Open ∷ [])
last-open [] h = cc
last-open (Open ∷ []) h = ([], refl)
last-open (Whole es ∷ []) h = cc
last-open (Open ∷ (v ∷ vs)) h = let r = last-open (v ∷ vs) h in (Open ∷ r.0, ap (λ l. Open ∷ l) r.1)
last-open (Whole es ∷ (v ∷ vs)) h = let r = last-open (v ∷ vs) h in (Whole es ∷ r.0, ap (λ l. Whole es ∷ l) r.1)

ends-open : (us : List UndoUnit) → oldest_is_open (us ++ Open ∷ []) ≡ true
ends-open [] = refl
ends-open (Open ∷ []) = refl
ends-open (Whole es ∷ []) = refl
ends-open (Open ∷ (v ∷ vs)) = ends-open (v ∷ vs)
ends-open (Whole es ∷ (v ∷ vs)) = ends-open (v ∷ vs)

-- then all stays
pub open-all_stays : (es : List Entry) → oldest_is_open (units es) ≡ true → (most bytes : ℕ) → kept_within most bytes es ≡ es
open-all_stays es h most bytes =
    let r = last-open (units es) h in
    let turned : reverse (units es) ≡ Open ∷ reverse r.0 = ap reverse r.1 ∙ reverse-append r.0 (Open ∷ []) in
    ap (λ rs. together (reverse (units_kept most bytes rs))) turned ∙ whole-list es (Open ∷ reverse r.0) turned

-- so it is where the unit that is redone first opens a group
pub open-found : (es : List Entry) → IsMatched es → 0 < level (redo_of es) → oldest_is_open (units es) ≡ true
open-found es m h = go (reverse (units es)) refl h
  where
    go : (rs : List UndoUnit) → reverse (units es) ≡ rs → 0 < level (redo_from es rs) → oldest_is_open (units es) ≡ true
    go [] e n = absurd (omega (arith, n, level-of es [] e))
    go (Open ∷ rs) e n = ap oldest_is_open (oldest-first es (Open ∷ rs) e ∙ reverse-append (Open ∷ []) rs) ∙ ends-open (reverse rs)
    go (Whole inner ∷ rs) e n =
        let good = AllGood-right (reverse rs) (Whole inner ∷ []) (subst AllGood (oldest es inner rs e).units_are (units-good es m)) in
        absurd (omega (arith, n, level-whole inner good.0))

-- where the unit that is redone first has no entries, there are none
pub none-goes : (es : List Entry) → IsMatched es → length (redo_of es) ≡ 0 → level (redo_of es) ≡ 0 → (most bytes : ℕ) → kept_within most bytes es ≡ es
none-goes [] m none flat most bytes = refl
none-goes (e ∷ es) m none flat most bytes = absurd (omega (arith, (oldest-whole (e ∷ es) m (omega arith) flat).some, none))

-- more entries after its begin: it is open as long as some group is
some-closed : (inner : List Entry) (us : List UndoUnit) → 0 < length (close inner us)
some-closed inner [] = omega arith
some-closed inner (Open ∷ us) = omega arith
some-closed inner (Whole es ∷ us) = some-closed (es ++ inner) us

some-added : (e : Entry) (us : List UndoUnit) → 0 < length (add_entry e us)
some-added Begin us = omega arith
some-added End us = some-closed [] us
some-added (Changed kind swap) us = omega arith

close-back : (inner : List Entry) (us : List UndoUnit) → 0 < length us → oldest_is_open (close inner us) ≡ true → oldest_is_open us ≡ true
close-back inner [] some h = cc
close-back inner (Open ∷ []) some h = cc
close-back inner (Open ∷ (v ∷ vs)) some h = h
close-back inner (Whole es ∷ []) some h = cc
close-back inner (Whole es ∷ (v ∷ vs)) some h = close-back (es ++ inner) (v ∷ vs) (omega arith) h

add-back : (e : Entry) (us : List UndoUnit) → 0 < length us → oldest_is_open (add_entry e us) ≡ true → oldest_is_open us ≡ true
add-back e [] some h = absurd (omega (arith, some))
add-back Begin (u ∷ us) some h = h
add-back End (u ∷ us) some h = close-back [] (u ∷ us) some h
add-back (Changed kind swap) (u ∷ us) some h = h

cut-back : (es : List Entry) (us : List UndoUnit) → 0 < length us → oldest_is_open (cut_more us es) ≡ true → oldest_is_open us ≡ true
cut-back [] us some h = h
cut-back (e ∷ es) us some h = add-back e us some (cut-back es (add_entry e us) (some-added e us) h)

-- of fewer entries the oldest unit is open too
pub open-front : (xs ys : List Entry) → 0 < length xs → oldest_is_open (units (xs ++ ys)) ≡ true → oldest_is_open (units xs) ≡ true
open-front [] ys some h = absurd (omega (arith, some))
open-front (x ∷ xs) ys some h = cut-back ys (units (x ∷ xs)) (some-units xs (add_entry x []) (some-added x [])) (sym (ap oldest_is_open (cut_more-append [] (x ∷ xs) ys)) ∙ h)
  where
    some-units : (es : List Entry) (us : List UndoUnit) → 0 < length us → 0 < length (cut_more us es)
    some-units [] us some = some
    some-units (e ∷ es) us some = some-units es (add_entry e us) (some-added e us)

close-on : (inner : List Entry) (us : List UndoUnit) → oldest_is_open us ≡ true → 0 < opens (close inner us) → oldest_is_open (close inner us) ≡ true
close-on inner [] h some = cc
close-on inner (Open ∷ []) h some = absurd (omega (arith, some))
close-on inner (Open ∷ (v ∷ vs)) h some = h
close-on inner (Whole es ∷ []) h some = cc
close-on inner (Whole es ∷ (v ∷ vs)) h some = close-on (es ++ inner) (v ∷ vs) h some

add-on : (e : Entry) (us : List UndoUnit) → oldest_is_open us ≡ true → 0 < opens (add_entry e us) → oldest_is_open (add_entry e us) ≡ true
add-on e [] h some = cc
add-on Begin (u ∷ us) h some = h
add-on End (u ∷ us) h some = close-on [] (u ∷ us) h some
add-on (Changed kind swap) (u ∷ us) h some = h

pub open-on : (es : List Entry) (e : Entry) → oldest_is_open (units es) ≡ true → 0 < level (es ++ e ∷ []) → oldest_is_open (units (es ++ e ∷ [])) ≡ true
open-on es e h some =
    let us = cut_more-append [] es (e ∷ []) in
    ap oldest_is_open us ∙ add-on e (units es) h (subst (λ vs. 0 < opens vs) us some)

-- ---- what went, and what that led to
-- whole units went, the oldest ones
pub went : (most bytes : ℕ) (us : List UndoUnit) → (front : List UndoUnit) × (front ++ units_kept most bytes us ≡ us) × (opens front ≡ 0)
went most bytes [] = ([], refl, refl)
went most bytes (Open ∷ us) = ([], refl, refl)
went most bytes (Whole es ∷ us) = from (fits most bytes (together (reverse (Whole es ∷ us)))) (went most bytes us)
  where
    from : (b : Bool) → (front : List UndoUnit) × (front ++ units_kept most bytes us ≡ us) × (opens front ≡ 0)
        → (front : List UndoUnit) × (front ++ cond b (Whole es ∷ us) (units_kept most bytes us) ≡ Whole es ∷ us) × (opens front ≡ 0)
    from true rest = ([], refl, refl)
    from false rest = (Whole es ∷ rest.0, ap (λ vs. Whole es ∷ vs) rest.1, rest.2)

-- their entries, and those that are left
went-list : (most bytes : ℕ) (es : List Entry) → together (reverse (went most bytes (reverse (units es))).0) ++ kept_within most bytes es ≡ es
went-list most bytes es =
    let w = went most bytes (reverse (units es)) in
    let ks = units_kept most bytes (reverse (units es)) in
    sym (together-append (reverse ks) (reverse w.0)) ∙ ap together (sym (reverse-append w.0 ks)) ∙ ap (λ us. together (reverse us)) w.1
    ∙ whole-list es (reverse (units es)) refl

gone-is : (most bytes : ℕ) (es : List Entry) → gone_within most bytes es ≡ together (reverse (went most bytes (reverse (units es))).0)
gone-is most bytes es =
    let gone = together (reverse (went most bytes (reverse (units es))).0) in
    let kept = kept_within most bytes es in
    let all = went-list most bytes es in
    let n : length es - length kept ≡ length gone = omega (arith, ap length all, length-append gone kept) in
    ap (λ k. take k es) n ∙ ap (take (length gone)) (sym all) ∙ take_at gone kept (length gone) refl

pub gone-kept : (most bytes : ℕ) (es : List Entry) → gone_within most bytes es ++ kept_within most bytes es ≡ es
gone-kept most bytes es = ap (λ gone. gone ++ kept_within most bytes es) (gone-is most bytes es) ∙ went-list most bytes es

count-gone : (most bytes : ℕ) (es : List Entry) → change_count es ≡ change_count (gone_within most bytes es) + change_count (kept_within most bytes es)
count-gone most bytes es = ap change_count (sym (gone-kept most bytes es)) ∙ count-append (gone_within most bytes es) (kept_within most bytes es)

-- the oldest unit goes, where it is whole and the entries do not fit
pub record GoesFirst (most bytes n : ℕ) (r : Record) : Type 0 where
  pub within : n ≤ length r.recorded
  pub kept : forgotten most bytes (without_first n r) ≡ forgotten most bytes r
  pub matched : IsMatched (drop n r.recorded)
  pub level : level (drop n r.recorded) ≡ level r.recorded

pub goes-first : (most bytes n : ℕ) (r : Record) → IsMatched r.recorded → fits most bytes r.recorded ≡ false → 0 < n → n ≡ length (redo_of r.recorded) → level (redo_of r.recorded) ≡ 0
    → GoesFirst most bytes n r
goes-first most bytes n r m over some e none =
    let es = r.recorded in
    let d = Redoes-of es m in
    let rest : drop (length (redo_of es)) es ≡ drop n es = ap (λ k. drop k es) (sym e) in
    let few : n ≤ length es = omega (arith, e, ap length d.list_is, length-append (redo_of es) (drop (length (redo_of es)) es)) in
    let kept : kept_within most bytes (drop n es) ≡ kept_within most bytes es =
    ap (kept_within most bytes) (sym rest) ∙ sym (whole-goes most bytes es over (oldest-whole es m (omega (arith, some, few)) none)) in
    let gone = gone_within most bytes (drop n es) in
    let sum : change_count (take n es) + change_count gone ≡ change_count (gone_within most bytes es) =
    omega (arith, count-parts n es, ap change_count kept, count-gone most bytes es, count-gone most bytes (drop n es)) in
    record {
      within = few;
      kept = ap (λ l. record r { recorded = l; saved = point_past (change_count gone) (point_past (change_count (take n es)) r.saved) }) kept
          ∙ ap (λ p. record r { recorded = kept_within most bytes es; saved = p }) (past-more (change_count (take n es)) (change_count gone) r.saved ∙ ap (λ k. point_past k r.saved) sum);
      matched = subst IsMatched rest d.rest_matched;
      level = sym (ap level (sym d.list_is) ∙ level-append (redo_of es) (drop (length (redo_of es)) es) d.rest_matched ∙ ap (λ l. level l + level (redo_of es)) rest ∙ ap (λ k. level (drop n es) + k) none ∙ plus (level (drop n es)));
    }
  where
    plus : (a : ℕ) → a + 0 ≡ a
    plus a = omega arith

-- what went is matched by itself, and leaves no group open
gone-good : (most bytes : ℕ) (es : List Entry) → IsMatched es → AllGood (reverse (went most bytes (reverse (units es))).0)
gone-good most bytes es m = grind (arith, AllGood-reverse, AllGood-left, units-good)

pub gone-matched : (most bytes : ℕ) (es : List Entry) → IsMatched es → IsMatched (gone_within most bytes es)
gone-matched most bytes es m = grind (arith, gone-is, IsMatched-together, gone-good)

pub gone-level : (most bytes : ℕ) (es : List Entry) → IsMatched es → level (gone_within most bytes es) ≡ 0
gone-level most bytes es m = grind (arith, common_steps, gone-is, good_cuts, gone-good, opens-reverse)

-- what is left fits, or begins with the Begin of an open group
pub kept-fits : (most bytes : ℕ) (us : List UndoUnit) → (fits most bytes (together (reverse (units_kept most bytes us))) ≡ true) ⊎ (0 < opens us)
kept-fits most bytes [] = inl (fits-counted most bytes [] (omega arith) (omega arith))
kept-fits most bytes (Open ∷ us) = inr (omega arith)
kept-fits most bytes (Whole es ∷ us) = from (fits most bytes (together (reverse (Whole es ∷ us)))) refl (kept-fits most bytes us)
  where
    from : (b : Bool) → fits most bytes (together (reverse (Whole es ∷ us))) ≡ b → (fits most bytes (together (reverse (units_kept most bytes us))) ≡ true) ⊎ (0 < opens us)
        → (fits most bytes (together (reverse (cond b (Whole es ∷ us) (units_kept most bytes us)))) ≡ true) ⊎ (0 < opens us)
    from true h rest = inl h
    from false h rest = rest

pub left-fits : (most bytes : ℕ) (es : List Entry) → level es ≡ 0 → fits most bytes (kept_within most bytes es) ≡ true
left-fits most bytes es none = grind (arith, kept-fits, opens-reverse)

-- what is left replays from the text that what went led to
pub left-replays : (most bytes : ℕ) (es : List Entry) (start text : List ℕ) → replay_entries es start ≡ Some text
    → (begin : List ℕ) × (replay_entries (gone_within most bytes es) start ≡ Some begin) × (replay_entries (kept_within most bytes es) begin ≡ Some text)
left-replays most bytes es start text h =
    let gone = gone_within most bytes es in
    let kept = kept_within most bytes es in
    let all = sym (replay-append gone kept start) ∙ ap (λ l. replay_entries l start) (gone-kept most bytes es) ∙ h in
    let mid = through (replay_entries kept) (replay_entries gone start) text all in
    (mid.0, mid.1, mid.2)

pub Walks-forgotten : (most bytes : ℕ) (r : Record) (text : List ℕ) → Walks r text → Walks (forgotten most bytes r) text
Walks-forgotten most bytes r text w =
    let gone = gone_within most bytes r.recorded in
    let kept = kept_within most bytes r.recorded in
    let (mid, first, after) = Walk-split gone kept w.start text (subst (λ es. Walk es w.start text) (sym (gone-kept most bytes r.recorded)) w.back) in
    record { start = mid; is_text = Walk-IsUtf8 gone w.start mid w.is_text first; back = after; end = w.end; ahead = w.ahead; stale = w.stale }

-- the save point goes with the changes before it
pub saved-forgotten : (most bytes : ℕ) (cs : List Entry) (r : Record) → StaysSaved cs r → StaysSaved (drop (change_count (gone_within most bytes r.recorded)) cs) (forgotten most bytes r)
saved-forgotten most bytes cs r s = elim s [ inl none ↦ inl (ap (point_past k) none) | inr x ↦ from (nat_le k (length cs)) refl x ]
  where
    gone : List Entry
    gone = gone_within most bytes r.recorded

    kept : List Entry
    kept = kept_within most bytes r.recorded

    k : ℕ
    k = change_count gone

    from : (y : Bool) → nat_le k (length cs) ≡ y → SavedAt cs r → StaysSaved (drop k cs) (forgotten most bytes r)
    from true h x =
        let n = length cs - k in
        let sum : change_count r.recorded ≡ k + change_count kept = count-gone most bytes r.recorded in
        let whole : k + n ≡ length cs = omega (arith, leb-true k (length cs) h) in
        let parts : changes_of (r.recorded ++ r.pending) ≡ changes_of gone ++ changes_of (kept ++ r.pending) =
        ap (λ l. changes_of (l ++ r.pending)) (sym (gone-kept most bytes r.recorded)) ∙ ap changes_of (append_assoc gone kept r.pending) ∙ changes-append gone (kept ++ r.pending) in
        let begins : changes_of gone ++ take n (changes_of (kept ++ r.pending)) ≡ cs = sym (take-append-add (changes_of gone) (changes_of (kept ++ r.pending)) n)
        ∙ ap (λ m. take m (changes_of gone ++ changes_of (kept ++ r.pending))) whole ∙ ap (take (length cs)) (sym parts) ∙ x.begins in
        let left : length (drop k cs) ≡ n = length-drop k cs in
        inr (record {
          point = ap (point_past k) x.point ∙ ap (λ (y : Bool). cond y (Some n) None) h ∙ ap (λ m. Some m) (sym left);
          begins = ap (λ m. take m (changes_of (kept ++ r.pending))) left ∙ sym (drop_at (changes_of gone) (take n (changes_of (kept ++ r.pending))) k refl) ∙ ap (drop k) begins;
          apart = λ same. x.apart (omega (arith, same, left, whole, sum));
          told = λ few. x.told (omega (arith, few, left, whole, sum));
        })
    from false h x = inl (ap (point_past k) x.point ∙ ap (λ (y : Bool). cond y (Some (length cs - k)) None) h)

pub ruleset none_forgotten = (forgotten-same)
