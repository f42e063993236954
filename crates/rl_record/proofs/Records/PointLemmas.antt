-- The changes among entries, and where a record stands beside its save point: marks of groups do not count.
use Rattle.rl_record.proofs.Common.{Added, Begin, Bool, Change, Changed, End, Entry, Event, Freshness, IsApart, Joined, List, None, Option, Parted, Record, Some, Stale, StandsAt, [], added, ap, append-nil, arith, arrived, blanked, change_count, changes_of, cond, cut_at, cut_to, drop, drop-cons, drop-map, drop-set-lt, drop-take, end_one, end_times, entry_of, eqb-true, false, freshness_told, get_or, get_or-map, gone_on, has_change, inl, inr, is_at, is_change, is_parted, joined, kept_point, le-leb, leb-false, leb-true, length, length-append, length-map, length-take, lt-ltb, ltb, map, nat_le, ne_eqb, parted, past_front, point_kept, point_past, refl, saved_here, set, settled, subst, suc, sym, take, take-append-drop, take-map, take-take, take_all, true, truncated, turned_all, unwrap_or, with_cursors, zero, ℕ, ◌++◌, ◌+◌, ◌-◌, ◌<◌, ◌==◌, ◌∙◌, ◌∷◌, ◌≡◌, ◌≤◌}
use Rattle.rl_record.proofs.Records.LastLemmas.{end_one-cases, read-last}
use Rattle.rl_record.proofs.Records.RecordLemmas.{joins}
use Rattle.rl_record.proofs.Records.UnitLemmas.{turned-append}
use Rattle.rl_record.specs.Units.{grouped_from, still_waiting}
use Rattle.std.proofs.Math.Seq.{take-set-lt}
use Rattle.std.proofs.lemmas.Bool.{eq-eqb}
use Rattle.std.proofs.lemmas.List.{get_or-take, length-set, map-set}
use Rattle.std.proofs.lemmas.List.Elements.{filter-append}
use Rattle.unicode_segmentation.proofs.SegmentsLemmas.{length-filter-le}

-- ---- the changes
pub changes-append : (xs ys : List Entry) → changes_of (xs ++ ys) ≡ changes_of xs ++ changes_of ys
changes-append xs ys = filter-append is_change xs ys

pub count-append : (xs ys : List Entry) → change_count (xs ++ ys) ≡ change_count xs + change_count ys
count-append xs ys = ap length (changes-append xs ys) ∙ length-append (changes_of xs) (changes_of ys)

pub count-within : (es : List Entry) → change_count es ≤ length es
count-within es = length-filter-le is_change es

pub count-parts : (n : ℕ) (es : List Entry) → change_count es ≡ change_count (take n es) + change_count (drop n es)
count-parts n es = ap change_count (sym (take-append-drop n es)) ∙ count-append (take n es) (drop n es)

pub count-first : (n : ℕ) (es : List Entry) → change_count (take n es) ≤ change_count es
count-first n es = omega (arith, count-parts n es)

-- marks
pub changes-begin : (es : List Entry) → changes_of (es ++ Begin ∷ []) ≡ changes_of es
changes-begin es = changes-append es (Begin ∷ []) ∙ append-nil (changes_of es)

pub changes-end : (es : List Entry) → changes_of (es ++ End ∷ []) ≡ changes_of es
changes-end es = changes-append es (End ∷ []) ∙ append-nil (changes_of es)

changes-end_one : (es : List Entry) → changes_of (end_one es) ≡ changes_of es
changes-end_one es = elim (end_one-cases es) [
  | inl c ↦ ap changes_of c.after_is ∙ sym (ap changes_of c.list_is ∙ changes-begin c.front)
  | inr c ↦ ap changes_of c.after_is ∙ changes-end es
]

pub changes-end_times : (n : ℕ) (es : List Entry) → changes_of (end_times n es) ≡ changes_of es
changes-end_times zero es = refl
changes-end_times (suc n) es = changes-end_times n (end_one es) ∙ changes-end_one es

pub changes-grouped : (k : ℕ) (es : List Entry) → changes_of (grouped_from k es) ≡ changes_of es
changes-grouped k es =
    changes-append (take k es) (Begin ∷ (drop k es ++ End ∷ [])) ∙ ap (λ l. changes_of (take k es) ++ l) (changes-end (drop k es)) ∙ sym (changes-append (take k es) (drop k es))
    ∙ ap changes_of (take-append-drop k es)

-- one entry alone
pub one-change : (e : Entry) (es : List Entry) → is_change e ≡ true → es ≡ e ∷ [] → 1 ≡ change_count es
one-change e es h is = sym (ap change_count is ∙ ap (λ (b : Bool). length (cond b (e ∷ []) [])) h)

-- whether there is one
pub counted-change : (es : List Entry) (n : ℕ) → n ≡ change_count es → ltb 0 n ≡ has_change es
counted-change es n e = ap (ltb 0) e ∙ go es
  where
    go : (es : List Entry) → ltb 0 (change_count es) ≡ has_change es
    go [] = refl
    go (Begin ∷ es) = go es
    go (End ∷ es) = go es
    go (Changed kind swap ∷ es) = lt-ltb 0 (change_count (Changed kind swap ∷ es)) (omega arith)

-- counted by the code
count-read : (xs : List Change) (i : ℕ) (x : Change) (b : Bool) → i < length xs → x ≡ get_or xs i x → is_change (entry_of x) ≡ b
    → change_count (map entry_of (take (i + 1) xs)) ≡ change_count (map entry_of (take i xs)) + length (cond b (entry_of x ∷ []) [])
count-read xs i x b lt is h =
    ap change_count (read-last entry_of xs i x x lt (sym is)) ∙ count-append (map entry_of (take i xs)) (entry_of x ∷ [])
    ∙ ap (λ (c : Bool). change_count (map entry_of (take i xs)) + length (cond c (entry_of x ∷ []) [])) h

pub count-change : (xs : List Change) (i n : ℕ) (x : Change) → i < length xs → x ≡ get_or xs i x → is_change (entry_of x) ≡ true → n ≡ change_count (map entry_of (take i xs))
    → n + 1 ≡ change_count (map entry_of (take (i + 1) xs))
count-change xs i n x lt is h e = omega (arith, e, count-read xs i x true lt is h)

pub count-mark : (xs : List Change) (i n : ℕ) (x : Change) → i < length xs → x ≡ get_or xs i x → is_change (entry_of x) ≡ false → n ≡ change_count (map entry_of (take i xs))
    → n ≡ change_count (map entry_of (take (i + 1) xs))
count-mark xs i n x lt is h e = omega (arith, e, count-read xs i x false lt is h)

pub ruleset counts = (count-change, count-mark, take_all)

-- as many the other way round
count-turned_one : (e : Entry) → change_count (turned_all (e ∷ [])) ≡ change_count (e ∷ [])
count-turned_one Begin = refl
count-turned_one End = refl
count-turned_one (Changed kind swap) = refl

pub count-turned : (es : List Entry) → change_count (turned_all es) ≡ change_count es
count-turned [] = refl
count-turned (e ∷ es) =
    ap change_count (turned-append (e ∷ []) es) ∙ count-append (turned_all es) (turned_all (e ∷ []))
    ∙ omega (arith, count-turned es, count-turned_one e, count-append (e ∷ []) es)

-- ---- a save point
kept-some : (b n : ℕ) → n ≤ b → kept_point b (Some n) ≡ Some n
kept-some b n le = ap (λ (x : Bool). cond x (Some n) None) (le-leb n b le)

-- past all that is kept of it there is no point
past-point : (a b : ℕ) (point : Option ℕ) → a < b → is_at b (kept_point a point) ≡ true → ⊥
past-point a b None lt h = cc
past-point a b (Some n) lt h = from (nat_le n a) refl h
  where
    from : (x : Bool) → nat_le n a ≡ x → is_at b (cond x (Some n) None) ≡ true → ⊥
    from true le at = omega (arith, lt, leb-true n a le, eqb-true n b at)
    from false le at = cc

pub kept-again : (a b : ℕ) (point : Option ℕ) → a ≤ b → kept_point b (kept_point a point) ≡ kept_point a point
kept-again a b None le = refl
kept-again a b (Some n) le = from (nat_le n a) refl
  where
    from : (x : Bool) → nat_le n a ≡ x → kept_point b (cond x (Some n) None) ≡ cond x (Some n) None
    from true h = kept-some b n (omega (arith, le, leb-true n a h))
    from false h = refl

-- a point that is kept of fewer is kept of more
pub kept-more : (a b : ℕ) (point : Option ℕ) → a ≤ b → kept_point a point ≡ point → kept_point b point ≡ point
kept-more a b point le h = ap (kept_point b) (sym h) ∙ kept-again a b point le ∙ h

-- a point once the first changes are gone
past-kept : (k m : ℕ) (point : Option ℕ) → point_past k (kept_point (k + m) point) ≡ kept_point m (point_past k point)
past-kept k m None = refl
past-kept k m (Some n) = from (nat_le n (k + m)) (nat_le k n) (nat_le (n - k) m) refl refl refl
  where
    from : (a b c : Bool) → nat_le n (k + m) ≡ a → nat_le k n ≡ b → nat_le (n - k) m ≡ c
        → point_past k (cond a (Some n) None) ≡ kept_point m (cond b (Some (n - k)) None)
    from true true true p q r = ap (λ (x : Bool). cond x (Some (n - k)) None) q ∙ sym (ap (λ (x : Bool). cond x (Some (n - k)) None) r)
    from true true false p q r = absurd (omega (arith, leb-true n (k + m) p, leb-true k n q, leb-false (n - k) m r))
    from true false c p q r = ap (λ (x : Bool). cond x (Some (n - k)) None) q
    from false true true p q r = absurd (omega (arith, leb-false n (k + m) p, leb-true k n q, leb-true (n - k) m r))
    from false true false p q r = sym (ap (λ (x : Bool). cond x (Some (n - k)) None) r)
    from false false c p q r = refl

at-front : (k len : ℕ) (point : Option ℕ) → k ≤ len → is_at len point ≡ is_at (len - k) (point_past k point)
at-front k len None within = refl
at-front k len (Some n) within = from (nat_le k n) (n == len) refl refl
  where
    from : (a b : Bool) → nat_le k n ≡ a → (n == len) ≡ b → b ≡ is_at (len - k) (cond a (Some (n - k)) None)
    from true true p q = sym (eq-eqb (n - k) (len - k) (ap (λ m. m - k) (eqb-true n len q)))
    from true false p q = sym (ne_eqb (n - k) (len - k) (λ e. let same : n ≡ len = omega (arith, e, within, leb-true k n p) in let wrong : true ≡ false = sym (eq-eqb n len same) ∙ q in cc))
    from false true p q = absurd (omega (arith, within, leb-false k n p, eqb-true n len q))
    from false false p q = refl

-- ---- where a record stands
pub stands-arrived : (n : ℕ) (es pending : List Entry) (point : Option ℕ) → n ≡ change_count es → kept_point (change_count (es ++ pending)) point ≡ point → StandsAt n (arrived es pending point)
stands-arrived n es pending point e within = record { counted = e; point = within; apart = λ h. ap (λ (x : Bool). cond x Parted Stale) h }

pub stands-settled : (n : ℕ) (fresh : Freshness) (r : Record) → IsApart (settled fresh r) → StandsAt n r → StandsAt n (settled fresh r)
stands-settled n fresh r apart s = record {
  counted = s.counted;
  point = ap (λ l. kept_point (change_count l) (point_kept r)) (append-nil r.recorded) ∙ kept-again (change_count r.recorded) (change_count r.recorded) r.saved (omega arith);
  apart = apart;
}

pub stands-added : (n : ℕ) (e : Entry) (fresh : Freshness) (r : Record) → is_change e ≡ true → StandsAt n r → StandsAt (n + 1) (added e fresh r)
stands-added n e fresh r is s = record {
  counted = omega (arith, s.counted, more);
  point = kept-again (change_count r.recorded) (change_count ((r.recorded ++ e ∷ []) ++ [])) r.saved (omega (arith, more, ap change_count (append-nil (r.recorded ++ e ∷ []))));
  apart = λ h. absurd (past-point (change_count r.recorded) (change_count (r.recorded ++ e ∷ [])) r.saved (omega (arith, more)) h);
}
  where
    more : change_count (r.recorded ++ e ∷ []) ≡ change_count r.recorded + 1
    more = count-append r.recorded (e ∷ []) ∙ ap (λ (b : Bool). change_count r.recorded + length (cond b (e ∷ []) [])) is

pub stands-saved : (n : ℕ) (r : Record) → StandsAt n r → StandsAt n (saved_here r)
stands-saved n r s = record {
  counted = s.counted;
  point = kept-some (change_count (r.recorded ++ r.pending)) (change_count r.recorded) (omega (arith, count-append r.recorded r.pending));
  apart = λ _. refl;
}

pub stands-parted : (n : ℕ) (r : Record) → StandsAt n r → StandsAt n (parted r)
stands-parted n r s = record { counted = s.counted; point = s.point; apart = λ _. refl }

pub stands-gone_on : (n : ℕ) (fresh : Freshness) (r : Record) → StandsAt n r → StandsAt n (gone_on fresh r)
stands-gone_on n fresh r s = record { counted = s.counted; point = s.point; apart = λ h. ap (λ (x : Bool). cond x Parted (freshness_told fresh)) h }

pub stands-cut : (n count : ℕ) (es : List Entry) (point : Option ℕ) → count ≡ change_count (take n es) → kept_point (change_count es) point ≡ point → StandsAt count (cut_to n es point)
stands-cut n count es point e within =
    stands-arrived count (take n es) (drop n es) point e (ap (λ l. kept_point (change_count l) point) (take-append-drop n es) ∙ within)

-- entries of which each is a change as before, in a record that may go on or be parted as before
pub stands-same : (n : ℕ) (r now : Record) → change_count now.recorded ≡ change_count r.recorded → change_count now.pending ≡ change_count r.pending → now.saved ≡ r.saved
    → (r.fresh ≡ Parted → now.fresh ≡ Parted) → StandsAt n r → StandsAt n now
stands-same n r now a b p f s = record {
  counted = s.counted ∙ sym a;
  point =
      let all : change_count (now.recorded ++ now.pending) ≡ change_count (r.recorded ++ r.pending) = omega (arith, a, b, count-append now.recorded now.pending, count-append r.recorded r.pending) in
      ap (λ k. kept_point k now.saved) all ∙ ap (kept_point (change_count (r.recorded ++ r.pending))) p ∙ s.point ∙ sym p;
  apart = λ h. f (s.apart (ap (λ k. is_at k r.saved) (sym a) ∙ ap (is_at (change_count now.recorded)) (sym p) ∙ h));
}

-- a change in the place of a change
count-set : (es : List Entry) (i : ℕ) (e : Entry) → is_change (get_or es i e) ≡ is_change e → change_count (set es i e) ≡ change_count es
count-set [] i e h = refl
count-set (x ∷ xs) zero e h = from (is_change e) h
  where
    from : (b : Bool) → is_change x ≡ b → length (cond b (e ∷ changes_of xs) (changes_of xs)) ≡ length (cond (is_change x) (x ∷ changes_of xs) (changes_of xs))
    from true h = sym (ap (λ (b : Bool). length (cond b (x ∷ changes_of xs) (changes_of xs))) h)
    from false h = sym (ap (λ (b : Bool). length (cond b (x ∷ changes_of xs) (changes_of xs))) h)
count-set (x ∷ xs) (suc i) e h = from (is_change x) (count-set xs i e h)
  where
    from : (b : Bool) → change_count (set xs i e) ≡ change_count xs → length (cond b (x ∷ changes_of (set xs i e)) (changes_of (set xs i e))) ≡ length (cond b (x ∷ changes_of xs) (changes_of xs))
    from true h = ap suc h
    from false h = h

pub stands-set : (c n : ℕ) (es : List Entry) (fresh : Freshness) (point : Option ℕ) (i : ℕ) (e : Entry) → i < n → is_change (get_or es i e) ≡ is_change e
    → StandsAt c (cut_at n es fresh point) → StandsAt c (cut_at n (set es i e) fresh point)
stands-set c n es fresh point i e lt is s =
    stands-same c (cut_at n es fresh point) (cut_at n (set es i e) fresh point)
    (ap change_count (take-set-lt n es i e lt) ∙ count-set (take n es) i e (ap is_change (get_or-take n es i e lt) ∙ is)) (ap change_count (drop-set-lt n es i e lt)) refl (λ p. p) s

-- an event joins a change, which then is one
pub joined-kind : (event : Event) (e joint : Entry) → joined event e ≡ Some joint → is_change e ≡ is_change joint
joined-kind event e joint h = let j = joins event e joint h in ap is_change j.was ∙ ap is_change j.is

pub count-last : (front : List Entry) (e d : Entry) → is_change e ≡ is_change d → change_count (front ++ d ∷ []) ≡ change_count (front ++ e ∷ [])
count-last front e d h = count-append front (d ∷ []) ∙ ap (λ n. change_count front + n) (one (is_change d) (is_change e) (sym h)) ∙ sym (count-append front (e ∷ []))
  where
    one : (a b : Bool) → a ≡ b → length (cond a (d ∷ []) []) ≡ length (cond b (e ∷ []) [])
    one true true h = refl
    one false false h = refl
    one true false h = cc
    one false true h = cc

-- in the list of the code
pub stands-put : (c n : ℕ) (xs : List Change) (fresh now : Freshness) (point : Option ℕ) (x y : Change) → n ≤ length xs → 0 < n → x ≡ get_or xs (n - 1) x → is_change (entry_of x) ≡ is_change (entry_of y)
    → (fresh ≡ Parted → now ≡ Parted) → StandsAt c (cut_at n (map entry_of xs) fresh point)
    → (n ≤ length (set xs (n - 1) y)) × StandsAt c (cut_at n (map entry_of (set xs (n - 1) y)) now point)
stands-put c n xs fresh now point x y le some is kind f s =
    let i = n - 1 in
    let lt : i < n = omega (arith, some) in
    let read : get_or (map entry_of xs) i (entry_of y) ≡ entry_of x = get_or-map entry_of xs i x (entry_of y) (omega (arith, lt, le)) ∙ ap entry_of (sym is) in
    let put = stands-set c n (map entry_of xs) fresh point i (entry_of y) lt (ap is_change read ∙ kind) s in (
      omega (arith, le, length-set xs i y),
      subst (λ l. StandsAt c (cut_at n l now point)) (sym (map-set entry_of xs i y))
          (stands-same c (cut_at n (set (map entry_of xs) i (entry_of y)) fresh point) (cut_at n (set (map entry_of xs) i (entry_of y)) now point) refl refl refl f put),
    )

pub kind-told : (cursors : ℕ × ℕ) (e : Entry) → is_change (with_cursors cursors e) ≡ is_change e
kind-told cursors Begin = refl
kind-told cursors End = refl
kind-told cursors (Changed kind swap) = refl

-- one that may be told cursors is not parted
pub not-parted : (fresh now : Freshness) → freshness_told fresh ≡ Stale → fresh ≡ Parted → now ≡ Parted
not-parted fresh now told p = let wrong : Parted ≡ Stale = sym (ap freshness_told p) ∙ told in cc

-- no more changes are recorded than entries
pub stands-few : (c n : ℕ) (es : List Entry) (fresh : Freshness) (point : Option ℕ) → StandsAt c (cut_at n es fresh point) → c ≤ n
stands-few c n es fresh point s = omega (arith, s.counted, count-within (take n es), length-take n es)

-- marks come and go
pub stands-dropped : (n : ℕ) (es : List Entry) (r : Record) → changes_of es ≡ changes_of r.recorded → StandsAt n r → StandsAt n (arrived es [] (point_kept r))
stands-dropped n es r e s =
    stands-arrived n es [] (point_kept r) (s.counted ∙ sym (ap length e))
    (ap (λ l. kept_point (change_count l) (point_kept r)) (append-nil es) ∙ ap (λ l. kept_point (length l) (point_kept r)) e ∙ kept-again (change_count r.recorded) (change_count r.recorded) r.saved (omega arith))

pub stands-waiting : (n : ℕ) (es : List Entry) (r : Record) → changes_of es ≡ changes_of r.recorded → StandsAt n r → StandsAt n (still_waiting es r)
stands-waiting n es r e s =
    stands-arrived n es r.pending r.saved (s.counted ∙ sym (ap length e))
    (ap (λ k. kept_point k r.saved) (count-append es r.pending ∙ ap (λ l. length l + change_count r.pending) e ∙ sym (count-append r.recorded r.pending)) ∙ s.point)

pub stands-all : (n : ℕ) (es : List Entry) (r : Record) → changes_of es ≡ changes_of r.recorded → r.pending ≡ [] → StandsAt n r → StandsAt n (arrived es [] r.saved)
stands-all n es r e none s = subst (λ ps. StandsAt n (arrived es ps r.saved)) none (stands-waiting n es r e s)

pub stands-truncated : (n m len : ℕ) (r : Record) → m ≡ change_count (take len r.recorded) → StandsAt n r → StandsAt m (truncated len r)
stands-truncated n m len r e s =
    let front = take len r.recorded in
    stands-arrived m front [] (kept_point (change_count front) r.saved) e
    (ap (λ l. kept_point (change_count l) (kept_point (change_count front) r.saved)) (append-nil front) ∙ kept-again (change_count front) (change_count front) r.saved (omega arith))

pub stands-told : (n : ℕ) (r now : Record) → change_count now.recorded ≡ change_count r.recorded → now.pending ≡ r.pending → now.saved ≡ r.saved → now.fresh ≡ r.fresh → StandsAt n r → StandsAt n now
stands-told n r now a b p f s = stands-same n r now a (ap change_count b) p (λ h. f ∙ h) s

-- an entry is forgotten
pub count-blank : (es : List Entry) (i : ℕ) → i < length es → change_count es ≡ change_count (get_or es i End ∷ []) + change_count (set es i End)
count-blank [] i lt = absurd (omega (arith, lt))
count-blank (e ∷ es) zero lt = count-append (e ∷ []) es
count-blank (e ∷ es) (suc i) lt =
    omega (arith, count-blank es i (omega (arith, lt)), count-append (e ∷ []) es, count-append (e ∷ []) (set es i End))

pub stands-blanked : (n k i : ℕ) (r : Record) → i < length r.recorded → k ≡ change_count (get_or r.recorded i End ∷ []) → StandsAt n r → StandsAt (n - k) (blanked i r)
stands-blanked n k i r lt e s =
    let now = set r.recorded i End in
    let c = change_count (get_or r.recorded i End ∷ []) in
    let sum : change_count r.recorded ≡ c + change_count now = count-blank r.recorded i lt in
    let all : change_count (r.recorded ++ r.pending) ≡ c + change_count (now ++ r.pending) = omega (arith, sum, count-append r.recorded r.pending, count-append now r.pending) in
    let less : change_count r.recorded - c ≡ change_count now = omega (arith, sum) in
    record {
      counted = omega (arith, e, s.counted, sum);
      point = sym (past-kept c (change_count (now ++ r.pending)) r.saved) ∙ ap (λ m. point_past c (kept_point m r.saved)) (sym all) ∙ ap (point_past c) s.point;
      apart = λ h. s.apart (at-front c (change_count r.recorded) r.saved (omega (arith, sum)) ∙ ap (λ m. is_at m (point_past c r.saved)) less ∙ h);
    }

pub stands-past : (n k : ℕ) (r : Record) → change_count (drop k r.recorded) ≡ change_count r.recorded → StandsAt n r → StandsAt n (past_front k r)
stands-past n k r e s = stands-same n r (past_front k r) e refl refl (λ p. p) s

-- ---- whether a record that drops what was undone is parted still
kept-at : (n : ℕ) (point : Option ℕ) → is_at n (kept_point n point) ≡ true → is_at n point ≡ true
kept-at n None h = h
kept-at n (Some p) h = from (nat_le p n) h
  where
    from : (b : Bool) → is_at n (cond b (Some p) None) ≡ true → is_at n (Some p) ≡ true
    from true h = h
    from false h = cc

pub apart-settled : (r : Record) (fresh : Freshness) → IsApart r → (r.fresh ≡ Parted → fresh ≡ Parted) → IsApart (settled fresh r)
apart-settled r fresh apart f h = f (apart (kept-at (change_count r.recorded) r.saved h))

pub loose : (fresh now : Freshness) → is_parted fresh ≡ false → fresh ≡ Parted → now ≡ Parted
loose fresh now h p = let wrong : true ≡ false = sym (ap is_parted p) ∙ h in cc

pub parted-is : (fresh : Freshness) → is_parted fresh ≡ true → fresh ≡ Parted
parted-is Parted h = refl
parted-is Stale h = cc
parted-is Added h = cc
parted-is (Joined first) h = cc

-- ---- numbers of the code
pub point-fits : (n : ℕ) (point : Option ℕ) → unwrap_or point 0 ≤ n → kept_point n point ≡ point
point-fits n None le = refl
point-fits n (Some p) le = kept-some n p le

pub stands-of : (n c : ℕ) (es : List Entry) (fresh : Freshness) (point : Option ℕ) → c ≡ change_count (take n es) → unwrap_or point 0 ≤ change_count es → (is_at c point ≡ true → fresh ≡ Parted)
    → StandsAt c (cut_at n es fresh point)
stands-of n c es fresh point e le apart = record {
  counted = e;
  point = ap (λ l. kept_point (change_count l) point) (take-append-drop n es) ∙ point-fits (change_count es) point le;
  apart = λ h. apart (ap (λ m. is_at m point) e ∙ h);
}

-- how many changes are left of those recorded
pub left-counted : (k m changes gone : ℕ) (xs : List Change) → m ≤ k → changes ≡ change_count (take k (map entry_of xs)) → gone ≡ change_count (map entry_of (take (k - m) (drop m xs)))
    → changes ≡ change_count (take m (map entry_of xs)) + gone
left-counted k m changes gone xs le c g =
    let es = map entry_of xs in
    let sum : m + (k - m) ≡ k = omega (arith, le) in
    let rest : drop m (take k es) ≡ map entry_of (take (k - m) (drop m xs)) =
    ap (λ j. drop m (take j es)) (sym sum) ∙ drop-take m (k - m) es ∙ ap (take (k - m)) (drop-map entry_of m xs) ∙ take-map entry_of (k - m) (drop m xs) in
    omega (arith, c, g, count-parts m (take k es), ap change_count (take-take m k es le), ap change_count rest)

-- the changes that are recorded and those that wait are no more than there are entries
pub stands-sum : (n k : ℕ) (l : List Entry) (before : Freshness) (point : Option ℕ) (r : Record) → cut_at k l before point ≡ r → StandsAt n r → n + change_count r.pending ≤ length l
stands-sum n k l before point r view s =
    let all : r.recorded ++ r.pending ≡ l = ap (λ (q : Record). q.recorded ++ q.pending) (sym view) ∙ take-append-drop k l in
    omega (arith, s.counted, count-append r.recorded r.pending, count-within (r.recorded ++ r.pending), ap length all)

-- one entry of the code's list
pub one-part : (xs : List Change) (n at : ℕ) (fresh : Freshness) (saved : Option ℕ) (r : Record) → cut_at n (map entry_of xs) fresh saved ≡ r → at < length r.recorded → n ≤ length xs
    → map entry_of (take ((at + 1) - at) (drop at xs)) ≡ get_or r.recorded at End ∷ []
one-part xs n at fresh saved r view lt le =
    let es = map entry_of xs in
    let first : take n es ≡ r.recorded = ap (λ (q : Record). q.recorded) view in
    let before : at < n = omega (arith, lt, ap length first, length-take n es) in
    let one : (at + 1) - at ≡ 1 = omega arith in
    let read : get_or r.recorded at End ≡ get_or es at End = ap (λ l. get_or l at End) (sym first) ∙ get_or-take n es at End before in
    ap (λ k. map entry_of (take k (drop at xs))) one ∙ sym (take-map entry_of 1 (drop at xs)) ∙ ap (take 1) (sym (drop-map entry_of at xs))
    ∙ ap (take 1) (drop-cons es at End (omega (arith, before, le, length-map xs entry_of))) ∙ ap (λ e. e ∷ []) (sym read)
