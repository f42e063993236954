-- Reports whose texts stand in one text, one after another, after those of reports that were taken.
use Rattle.rl_base.proofs.Common.{◌≡◌, ℕ, zero, suc, ◌+◌, ◌-◌, ◌<◌, ◌≤◌, Bool, true, false, List, [], ◌∷◌, ◌++◌, length, take, drop, get_or, slice_range, slice_set, ◌==◌, Option, Some, None, if◌then◌else◌, refl, sym, ap, subst, ◌∙◌, arith, append_assoc, length-append, drop-append_seam, take-append_seam, length-take-le, length-drop, take-append-drop, take-append-le, drop-append-le, take_all, drop_all, drop-drop, IsCharBoundary-at_seam, IsCharBoundary-from_drop, IsCharBoundary-from_take, IsUtf8-nil, IsUtf8-append, and_parts, cond_both, leb-true, ltb-true, nat_tests, Err, Ok, OnOk, Result, is_err, nat_le, nat_lt, IsCharBoundary, IsUtf8, Joined, Report, ReportKind, Cuts, KeepsRoom, Notes, bytes_kept, notes, IsQueue, Noted, Whole, has_room_in, waiting_of, is_change, kept, noted, oldest, on_last, reports_of, text_bytes, texts_of, told_cursors, told_note, IsCharBoundary-from_rest, fold-append, length-map, take_at, drop_at, ap₂, take-take}

pub reports_of-notes : (k : ℕ) (rs : List Report) (bytes : List ℕ) → reports_of (notes k rs bytes) ≡ rs
reports_of-notes k [] bytes = refl
reports_of-notes k (r ∷ rs) bytes = ap (λ l. r ∷ l) (reports_of-notes k rs (drop (bytes_kept k r) bytes))

pub length-notes : (k : ℕ) (rs : List Report) (bytes : List ℕ) → length (notes k rs bytes) ≡ length rs
length-notes k rs bytes = sym (length-map (notes k rs bytes) (λ (n : Noted). n.report)) ∙ ap length (reports_of-notes k rs bytes)

pub text_bytes-notes : (k : ℕ) (rs : List Report) (bytes : List ℕ) → Cuts k rs bytes → text_bytes (notes k rs bytes) ≡ length bytes
text_bytes-notes k [] bytes c = sym (ap length c)
text_bytes-notes k (r ∷ rs) bytes c =
    omega (arith, c.0, length-take-le (bytes_kept k r) bytes c.0, length-drop (bytes_kept k r) bytes, text_bytes-notes k rs (drop (bytes_kept k r) bytes) c.2)

-- cursors leave the lengths
bytes_kept-told : (k before after : ℕ) (r : Report) → bytes_kept k (told_cursors before after r) ≡ bytes_kept k r
bytes_kept-told k before after r =
    cond_both (is_change r.kind) _ r (λ (s : Report). bytes_kept k s ≡ bytes_kept k r) (λ _. refl) (λ _. refl)

pub notes-told : (k before after : ℕ) (rs : List Report) (bytes : List ℕ) → notes k (on_last (told_cursors before after) rs) bytes
    ≡ on_last (told_note before after) (notes k rs bytes)
notes-told k before after [] bytes = refl
notes-told k before after (r ∷ []) bytes =
    ap (λ m. record { report = told_cursors before after r; texts = take m bytes } ∷ []) (bytes_kept-told k before after r)
notes-told k before after (r ∷ (s ∷ rs)) bytes =
    ap (λ l. record { report = r; texts = take (bytes_kept k r) bytes } ∷ l) (notes-told k before after (s ∷ rs) (drop (bytes_kept k r) bytes))

pub Cuts-told : (k before after : ℕ) (rs : List Report) (bytes : List ℕ) → Cuts k rs bytes → Cuts k (on_last (told_cursors before after) rs) bytes
Cuts-told k before after [] bytes c = c
Cuts-told k before after (r ∷ []) bytes c = rw (bytes_kept-told k before after r) c
Cuts-told k before after (r ∷ (s ∷ rs)) bytes c = (c.0, c.1, Cuts-told k before after (s ∷ rs) (drop (bytes_kept k r) bytes) c.2)

pub length-on_last : {A : Type 0} (f : A → A) (xs : List A) → length (on_last f xs) ≡ length xs
length-on_last f [] = refl
length-on_last f (x ∷ []) = refl
length-on_last f (x ∷ (y ∷ ys)) = ap suc (length-on_last f (y ∷ ys))

-- the last element, written in its place
on_last-set : {A : Type 0} (f : A → A) (xs : List A) (n : ℕ) (x : A) → suc n ≡ length xs → x ≡ get_or xs n x → slice_set xs n (f x) ≡ on_last f xs
on_last-set f [] n x e h = absurd (omega arith)
on_last-set f (a ∷ []) zero x e h = ap (λ y. f y ∷ []) h
on_last-set f (a ∷ []) (suc n) x e h = absurd (omega arith)
on_last-set f (a ∷ (b ∷ bs)) zero x e h = absurd (omega arith)
on_last-set f (a ∷ (b ∷ bs)) (suc n) x e h = ap (λ l. a ∷ l) (on_last-set f (b ∷ bs) n x (omega arith) h)

pub told-set : (before after : ℕ) (rs : List Report) (n : ℕ) (r : Report) → is_change r.kind ≡ true → suc n ≡ length rs → r ≡ get_or rs n r
    → slice_set rs n (record r { cursors = Some (before, after) }) ≡ on_last (told_cursors before after) rs
told-set before after rs n r b e h =
    ap (λ c. slice_set rs n (if c then record r { cursors = Some (before, after) } else r)) (sym b) ∙ on_last-set (told_cursors before after) rs n r e h

pub untold-set : (before after : ℕ) (rs : List Report) (n : ℕ) (r : Report) → is_change r.kind ≡ false → suc n ≡ length rs → r ≡ get_or rs n r
    → slice_set rs n r ≡ on_last (told_cursors before after) rs
untold-set before after rs n r b e h =
    ap (λ c. slice_set rs n (if c then record r { cursors = Some (before, after) } else r)) (sym b) ∙ on_last-set (told_cursors before after) rs n r e h

-- the last report once cursors were told
pub ruleset telling = (told-set, untold-set)

-- what is made of texts is one
Cuts-IsUtf8 : (k : ℕ) (rs : List Report) (bytes : List ℕ) → Cuts k rs bytes → IsUtf8 bytes
Cuts-IsUtf8 k [] bytes c = subst IsUtf8 (sym c) IsUtf8-nil
Cuts-IsUtf8 k (r ∷ rs) bytes c =
    let n = bytes_kept k r in
    subst IsUtf8 (take-append-drop n bytes) (IsUtf8-append (take n bytes) (drop n bytes) c.1 (Cuts-IsUtf8 k rs (drop n bytes) c.2))

-- spent texts end between two characters
pub at_spent : (k : ℕ) (n : ℕ) (text : List ℕ) (rs : List Report) → n ≤ length text → Cuts k rs (drop n text) → IsCharBoundary text n
at_spent k n text rs le c = IsCharBoundary-from_drop text n le (Cuts-IsUtf8 k rs (drop n text) c)

-- so those of the report that was taken last may begin there too, which are none then
pub none_taken : (k n : ℕ) (text : List ℕ) (rs : List Report) → n ≤ length text → Cuts k rs (drop n text)
    → (n ≤ n) × (n ≤ length text) × IsCharBoundary text n × Cuts k rs (drop n text)
none_taken k n text rs le c = (omega arith, le, at_spent k n text rs le c, c)

-- the texts of the oldest report are spent too, once it is taken
pub record Takes (k : ℕ) (all rest : List Report) (spent n : ℕ) (text : List ℕ) : Type 0 where
  pub begins : IsCharBoundary text spent
  pub spent_within : spent + n ≤ length text
  pub cuts : Cuts k rest (drop (spent + n) text)
  pub waits : notes k rest (drop (spent + n) text) ≡ drop 1 (notes k all (drop spent text))
  pub texts : slice_range text spent (spent + n) ≡ texts_of (oldest (Whole (notes k all (drop spent text))))

pub takes : (k : ℕ) (first : Report) (rest all : List Report) (spent n : ℕ) (text : List ℕ) → spent ≤ length text → Cuts k all (drop spent text)
    → all ≡ first ∷ rest → n ≡ bytes_kept k first → Takes k all rest spent n text
takes k first rest all spent n text le c same count =
    let cut : Cuts k (first ∷ rest) (drop spent text) = rw same at c in
    let past : drop n (drop spent text) ≡ drop (spent + n) text = drop-drop n spent text in
    let alone : (spent + n) - spent ≡ n = omega arith in
    record {
      begins = at_spent k spent text all le c;
      spent_within = omega (arith, le, cut.0, count, length-drop spent text);
      cuts = rw (← past, count) cut.2;
      waits = rw (same, ← past, count) refl;
      texts = rw (same, alone, count) refl;
    }

-- reports after others
notes-append : (k : ℕ) (rs ss : List Report) (a b : List ℕ) → Cuts k rs a → notes k (rs ++ ss) (a ++ b) ≡ notes k rs a ++ notes k ss b
notes-append k [] ss a b c = ap (λ t. notes k ss (t ++ b)) c
notes-append k (r ∷ rs) ss a b c =
    let n = bytes_kept k r in
    rw (take-append-le n a b c.0, drop-append-le n a b c.0)
    (ap (λ l. record { report = r; texts = take n a } ∷ l) (notes-append k rs ss (drop n a) b c.2))

Cuts-append : (k : ℕ) (rs ss : List Report) (a b : List ℕ) → Cuts k rs a → Cuts k ss b → Cuts k (rs ++ ss) (a ++ b)
Cuts-append k [] ss a b c d = subst (λ t. Cuts k ss (t ++ b)) (sym c) d
Cuts-append k (r ∷ rs) ss a b c d =
    let n = bytes_kept k r in
    rw (take-append-le n a b c.0, drop-append-le n a b c.0) (omega (arith, c.0, length-append a b), c.1, Cuts-append k rs ss (drop n a) b c.2 d)

-- in one text with what is spent and what waits, more notes stand at the end
pub record Joins (k : ℕ) (rs now : List Report) (ns : List Noted) (spent : ℕ) (text new : List ℕ) : Type 0 where
  pub spent_within : spent ≤ length new
  pub cuts : Cuts k now (drop spent new)
  pub waits : notes k now (drop spent new) ≡ notes k rs (drop spent text) ++ ns

pub joins : (k : ℕ) (rs ss now : List Report) (spent : ℕ) (text more new : List ℕ) → spent ≤ length text → Cuts k rs (drop spent text) → Cuts k ss more
    → now ≡ rs ++ ss → new ≡ text ++ more → Joins k rs now (notes k ss more) spent text new
joins k rs ss now spent text more new le c d same longer =
    let seam : drop spent new ≡ drop spent text ++ more = ap (drop spent) longer ∙ drop-append-le spent text more le in
    record {
      spent_within = omega (arith, le, ap length longer, length-append text more);
      cuts = rw (same, seam) (Cuts-append k rs ss (drop spent text) more c d);
      waits = rw (same, seam) (notes-append k rs ss (drop spent text) more c);
    }

-- texts that are kept
pub length-kept : (k : ℕ) (kind : ReportKind) (place : ℕ) (gone come : List ℕ) → length (kept k (gone ++ come)) ≡ bytes_kept k (noted k kind place gone come).report
length-kept k kind place gone come = grind (arith, length-append)

pub IsUtf8-kept : (k : ℕ) (gone come : List ℕ) → IsUtf8 gone → IsUtf8 come → IsUtf8 (kept k (gone ++ come))
IsUtf8-kept k gone come u v = cond_both (k == 0) [] (gone ++ come) IsUtf8 (λ _. IsUtf8-nil) (λ _. IsUtf8-append gone come u v)

pub kept-all : (k : ℕ) (texts : List ℕ) → 0 < k → kept k texts ≡ texts
kept-all k texts some =
    let keeps : (k == 0) ≡ false = grind (arith, nat_tests, some) in
    rw keeps refl

-- one more report, whose texts stand at the end
pub longer : (k : ℕ) (rs now : List Report) (n : Noted) (spent : ℕ) (text new : List ℕ) → spent ≤ length text → Cuts k rs (drop spent text)
    → IsUtf8 n.texts → length n.texts ≡ bytes_kept k n.report
    → now ≡ rs ++ n.report ∷ [] → new ≡ text ++ n.texts → Joins k rs now (n ∷ []) spent text new
longer k rs now n spent text new le c u len same more =
    let m = bytes_kept k n.report in
    let own : take m n.texts ≡ n.texts = take_all m n.texts (omega (arith, len)) in
    let none : drop m n.texts ≡ [] = drop_all m n.texts (omega (arith, len)) in
    subst (λ t. Joins k rs now (record { report = n.report; texts = t } ∷ []) spent text new) own
    (joins k rs (n.report ∷ []) now spent text n.texts new le c (omega (arith, len), subst IsUtf8 (sym own) u, none) same more)

-- where texts wait, a report does
pub Cuts-some : (k : ℕ) (rs : List Report) (bytes : List ℕ) → Cuts k rs bytes → 0 < length bytes → 0 < length rs
Cuts-some k [] bytes none some = absurd (omega (arith, ap length none, some))
Cuts-some k (r ∷ rs) bytes cuts some = omega arith

-- ---- a queue with room
pub record Fits (room k n : ℕ) (ns : List Noted) (whole : Option Joined) : Type 0 where
  pub apart : whole ≡ None
  pub place : length ns < room
  pub text_place : text_bytes ns + n ≤ k

-- what room means
pub has_room-means : (room k n : ℕ) (ns : List Noted) (whole : Option Joined) → has_room_in room k n (waiting_of whole ns) ≡ true → Fits room k n ns whole
has_room-means room k n ns None h =
    let both = and_parts (nat_lt (length ns) room) (nat_le (text_bytes ns + n) k) h in
    record { apart = refl; place = ltb-true _ _ both.0; text_place = leb-true _ _ both.1 }
has_room-means room k n ns (Some all) h = absurd cc

text_bytes-push : (ns : List Noted) (n : Noted) → text_bytes (ns ++ n ∷ []) ≡ text_bytes ns + length n.texts
text_bytes-push [] n = omega arith
text_bytes-push (m ∷ ms) n = omega (arith, text_bytes-push ms n)

text_bytes-told : (before after : ℕ) (ns : List Noted) → text_bytes (on_last (told_note before after) ns) ≡ text_bytes ns
text_bytes-told before after [] = refl
text_bytes-told before after (n ∷ []) = refl
text_bytes-told before after (n ∷ (m ∷ ms)) = ap (λ k. length n.texts + k) (text_bytes-told before after (m ∷ ms))

-- one more note, put where there is room
pub IsQueue-push : (room : ℕ) (old new : Notes) (n : Noted) (whole : Option Joined) → IsQueue room old.text_room old.places old.bytes old.waiting whole → KeepsRoom old new
    → new.waiting ≡ old.waiting ++ n ∷ [] → has_room_in room old.text_room (length n.texts) (waiting_of whole old.waiting) ≡ true
    → IsQueue room new.text_room new.places new.bytes new.waiting whole
IsQueue-push room old new n whole q more e h =
    let fits = has_room-means room old.text_room (length n.texts) old.waiting whole h in
    record {
      within = rw e (omega (arith, length-append old.waiting (n ∷ []), fits.place));
      text_within = rw e (omega (arith, text_bytes-push old.waiting n, fits.text_place, more.text_room));
      places = omega (arith, q.places, more.places);
      bytes = omega (arith, q.bytes, more.bytes, more.text_room);
      either = rw fits.apart tt;
    }

-- cursors that are told leave the room
pub IsQueue-told : (room k m t before after : ℕ) (ns : List Noted) → IsQueue room k m t ns None → IsQueue room k m t (on_last (told_note before after) ns) None
IsQueue-told room k m t before after ns q = record {
  within = omega (arith, q.within, length-on_last (told_note before after) ns);
  text_within = omega (arith, q.text_within, text_bytes-told before after ns);
  places = q.places;
  bytes = q.bytes;
  either = tt;
}

-- what holds of a result that is no error
pub from_ok : {A E : Type 0} (result : Result A E) (P : Type 0) → OnOk result P → is_err result ≡ false → P
from_ok (Ok a) P h none = h
from_ok (Err e) P h none = cc

-- how many reports there are, and how many bytes of texts
pub ruleset counted = (length-notes, text_bytes-notes, length-drop, kept-all, Cuts-some)

-- reports as one, in two parts
pub ruleset joining = (reports_of-notes, fold-append)

-- the notes once cursors were told to the last report
pub ruleset notes_told = (notes-told, Cuts-told)
