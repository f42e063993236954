-- What was undone and is kept: the entries that take it back, and what a record that has both keeps.
use Rattle.rl_record.proofs.Common.{Begin, Change, Changed, End, Entry, Freshness, IsMatched, List, Option, Record, StandsAt, [], ap, append-nil, append_assoc, arith, arrived, change_count, closed_all, drop, drop_all, end_one, end_times, entry_of, flipped, freshness_at, inverse, kept_point, length, length-drop, length-map, length-take-le, level, map, map-append, min, point_kept, refl, reverse, reverse-append, subst, suc, sym, take, take-append-drop, take-take, take_all, take_min, there_and_back, truncated, turned_all, with_closed, zero, ℕ, ◌*◌, ◌++◌, ◌+◌, ◌∙◌, ◌∷◌, ◌≡◌, ◌≤◌}
use Rattle.rl_record.proofs.Records.LevelLemmas.{level-within}
use Rattle.rl_record.proofs.Records.MatchLemmas.{Lower-end_one}
use Rattle.rl_record.proofs.Records.PointLemmas.{changes-end_times, count-append, count-turned, kept-more}
use Rattle.rl_record.proofs.Records.UnitLemmas.{turned-append}
use Rattle.rl_record.specs.Entries.{cut_at}
use Rattle.rl_record.specs.Record.{parted}
use Rattle.rl_record.specs.declared.joining.Freshness.TheVariants.{Parted}

-- ---- in the list of the code
-- an entry is moved from the end of one list to the end of another
pub push-turned : (xs more ys fewer : List Change) (x y : Change) → ys ≡ fewer ++ x ∷ [] → entry_of y ≡ flipped (entry_of x) → more ≡ xs ++ y ∷ []
    → map entry_of more ++ map flipped (reverse (map entry_of fewer)) ≡ map entry_of xs ++ map flipped (reverse (map entry_of ys))
push-turned xs more ys fewer x y e f g =
    let rest = map flipped (reverse (map entry_of fewer)) in
    ap (λ l. map entry_of l ++ rest) g ∙ ap (λ l. l ++ rest) (map-append entry_of xs (y ∷ [])) ∙ append_assoc (map entry_of xs) (entry_of y ∷ []) rest
    ∙ ap (λ k. map entry_of xs ++ k ∷ rest) f
    ∙ ap (λ l. map entry_of xs ++ map flipped l) (sym (reverse-append (map entry_of fewer) (entry_of x ∷ [])))
    ∙ ap (λ l. map entry_of xs ++ map flipped (reverse l)) (sym (map-append entry_of fewer (x ∷ [])) ∙ ap (map entry_of) (sym e))

-- closing groups takes no notice of which way changes go
end_one-inverse : (es : List Entry) → end_one (map inverse es) ≡ map inverse (end_one es)
end_one-inverse [] = refl
end_one-inverse (Begin ∷ []) = refl
end_one-inverse (End ∷ []) = refl
end_one-inverse (Changed k c ∷ []) = refl
end_one-inverse (e ∷ (d ∷ ds)) = ap (λ l. inverse e ∷ l) (end_one-inverse (d ∷ ds))

pub end_times-inverse : (n : ℕ) (es : List Entry) → end_times n (map inverse es) ≡ map inverse (end_times n es)
end_times-inverse zero es = refl
end_times-inverse (suc n) es = ap (end_times n) (end_one-inverse es) ∙ end_times-inverse n (end_one es)

pub turned-twice : (es : List Entry) → map flipped (reverse (map inverse es)) ≡ turned_all es
turned-twice [] = refl
turned-twice (e ∷ es) =
    ap (map flipped) (reverse-append (inverse e ∷ []) (map inverse es)) ∙ map-append flipped (reverse (map inverse es)) (inverse e ∷ [])
    ∙ ap (λ l. l ++ flipped (inverse e) ∷ []) (turned-twice es) ∙ sym (turned-append (e ∷ []) es)

-- groups that are open in a part are closed there
pub ends_past : (n : ℕ) (xs ys : List Entry) → IsMatched ys → level ys ≡ n → end_times n (xs ++ ys) ≡ xs ++ end_times n ys
ends_past zero xs ys m l = refl
ends_past (suc n) xs [] m l = absurd (omega (arith, l))
ends_past (suc n) xs (y ∷ ys) m l =
    let low = Lower-end_one (y ∷ ys) n m l in
    ap (end_times n) (past xs) ∙ ends_past n xs (end_one (y ∷ ys)) low.matched low.level_is
  where
    past : (xs : List Entry) → end_one (xs ++ y ∷ ys) ≡ xs ++ end_one (y ∷ ys)
    past [] = refl
    past (x ∷ []) = refl
    past (x ∷ (w ∷ ws)) = ap (λ l. x ∷ l) (past (w ∷ ws))

-- no more groups are open in the entries after a place than there are entries
pub few-open : (n k : ℕ) (xs : List Change) (ps : List Entry) → drop k (map entry_of xs) ≡ ps → IsMatched ps → n ≡ level ps → n ≤ length xs
few-open n k xs ps e m l = omega (arith, l, level-within ps m, ap length e, length-drop k (map entry_of xs), length-map xs entry_of)

-- what a list of which all is recorded then is
pub view-of : (len : ℕ) (es : List Entry) (fresh : Freshness) (point : Option ℕ) → len ≡ length es → cut_at len es fresh point ≡ record (arrived es [] point) { fresh = fresh }
view-of len es fresh point e =
    ap (λ n. cut_at n es fresh point) e
    ∙ ap (λ l. record { recorded = l; pending = drop (length es) es; fresh = fresh; saved = point }) (take_all (length es) es (omega arith))
    ∙ ap (λ l. record { recorded = es; pending = l; fresh = fresh; saved = point }) (drop_all (length es) es (omega arith))

-- once groups are closed
pub closed-view : (n k len count : ℕ) (l first now : List Entry) (before fresh : Freshness) (point point' : Option ℕ) (r : Record) → cut_at k l before point ≡ r → StandsAt count r → first ≡ take k l
    → now ≡ end_times n first → len ≡ length now → point' ≡ kept_point count point → fresh ≡ freshness_at count point' → cut_at len now fresh point' ≡ with_closed n r
closed-view n k len count l first now before fresh point point' r view s f e long p q =
    let is : now ≡ end_times n r.recorded = e ∙ ap (end_times n) (f ∙ ap (λ (r : Record). r.recorded) view) in
    let kept : point' ≡ point_kept r = p ∙ ap (λ m. kept_point m point) s.counted ∙ ap (λ (q : Record). kept_point (change_count r.recorded) q.saved) view in
    let same : count ≡ change_count now = s.counted ∙ sym (ap length (changes-end_times n r.recorded)) ∙ ap change_count (sym is) in
    view-of len now fresh point' long ∙ ap (λ (x : Freshness). record (arrived now [] point') { fresh = x }) (q ∙ ap (λ m. freshness_at m point') same)
    ∙ ap (λ es. arrived es [] point') is ∙ ap (arrived (end_times n r.recorded) []) kept

-- and once it is cut
pub truncated-front : (k m len : ℕ) (l now : List Entry) (before : Freshness) (point : Option ℕ) (r : Record) → cut_at k l before point ≡ r → k ≤ length l → m ≡ min len k → now ≡ take m l
    → now ≡ take len r.recorded
truncated-front k m len l now before point r view within least is =
    is ∙ sym (take-take m k l (omega (arith, least))) ∙ ap (λ j. take j (take k l)) (least ∙ ap (min len) (sym (length-take-le k l within))) ∙ take_min len (take k l)
    ∙ ap (λ (q : Record). take len q.recorded) view

pub truncated-view : (k m len left : ℕ) (l now : List Entry) (before fresh : Freshness) (point point' : Option ℕ) (r : Record) → cut_at k l before point ≡ r → k ≤ length l → m ≡ min len k → now ≡ take m l
    → left ≡ change_count (take m l) → point' ≡ kept_point left point → fresh ≡ freshness_at left point' → cut_at m now fresh point' ≡ truncated len r
truncated-view k m len left l now before fresh point point' r view within least is c p f =
    let few : m ≤ k = omega (arith, least) in
    let front = truncated-front k m len l now before point r view within least is in
    let same : left ≡ change_count now = c ∙ ap change_count (sym is) in
    let kept : point' ≡ kept_point (change_count now) r.saved = p ∙ ap (λ j. kept_point j point) same ∙ ap (λ (q : Record). kept_point (change_count now) q.saved) view in
    view-of m now fresh point' (sym (ap length is ∙ length-take-le m l (omega (arith, few, within)))) ∙ ap (λ (x : Freshness). record (arrived now [] point') { fresh = x }) (f ∙ ap (λ j. freshness_at j point') same)
    ∙ ap (arrived now []) kept ∙ ap (λ es. arrived es [] (kept_point (change_count es) r.saved)) front

-- what the list of the code then is
kept-list : (n k len : ℕ) (l now back : List Entry) (point : Option ℕ) → IsMatched (drop k l) → n ≡ level (drop k l)
    → back ≡ map inverse (end_times n (drop k l)) → now ≡ end_times n l ++ map flipped (reverse back) → len ≡ length now
    → cut_at len now Parted point ≡ parted (arrived (take k l ++ there_and_back (drop k l)) [] point)
kept-list n k len l now back point m e b g long =
    let first = take k l in
    let after = drop k l in
    let closed = end_times n after in
    let all : now ≡ first ++ (closed ++ turned_all closed) =
    g ∙ ap (λ x. end_times n x ++ map flipped (reverse back)) (sym (take-append-drop k l)) ∙ ap (λ x. x ++ map flipped (reverse back)) (ends_past n first after m (sym e))
    ∙ ap (λ x. (first ++ closed) ++ map flipped (reverse x)) b ∙ ap (λ x. (first ++ closed) ++ x) (turned-twice closed) ∙ append_assoc first closed (turned_all closed) in
    view-of len now Parted point long ∙ ap (λ x. parted (arrived x [] point)) all
    ∙ ap (λ j. parted (arrived (first ++ (end_times j after ++ turned_all (end_times j after))) [] point)) e

pub kept-view : (n k len : ℕ) (l now back : List Entry) (before : Freshness) (point : Option ℕ) (r : Record) → cut_at k l before point ≡ r
    → IsMatched r.pending → n ≡ level r.pending → back ≡ map inverse (end_times n r.pending) → now ≡ end_times n l ++ map flipped (reverse back) → len ≡ length now
    → cut_at len now Parted point ≡ parted (arrived (r.recorded ++ there_and_back r.pending) [] r.saved)
kept-view n k len l now back before point r view =
    subst (λ (r : Record). IsMatched r.pending → n ≡ level r.pending → back ≡ map inverse (end_times n r.pending) → now ≡ end_times n l ++ map flipped (reverse back) → len ≡ length now
    → cut_at len now Parted point ≡ parted (arrived (r.recorded ++ there_and_back r.pending) [] r.saved)) view
    (kept-list n k len l now back point)

-- twice as many changes as waited are recorded
count-round : (es : List Entry) → change_count (there_and_back es) ≡ 2 * change_count es
count-round es =
    let c = closed_all es in
    omega (arith, count-append c (turned_all c), count-turned c, ap length (changes-end_times (level es) es))

pub stands-kept : (n more : ℕ) (r : Record) → more ≡ change_count r.pending → StandsAt n r → StandsAt (n + 2 * more) (parted (arrived (r.recorded ++ there_and_back r.pending) [] r.saved))
stands-kept n more r e s =
    let all : change_count (r.recorded ++ there_and_back r.pending) ≡ change_count r.recorded + 2 * change_count r.pending =
    count-append r.recorded (there_and_back r.pending) ∙ ap (λ k. change_count r.recorded + k) (count-round r.pending) in
    record {
      counted = omega (arith, e, s.counted, all);
      point = kept-more (change_count (r.recorded ++ r.pending)) (change_count ((r.recorded ++ there_and_back r.pending) ++ [])) r.saved
          (omega (arith, count-append r.recorded r.pending, all, ap change_count (append-nil (r.recorded ++ there_and_back r.pending)))) s.point;
      apart = λ _. refl;
    }

pub ruleset keeps = (push-turned, end_times-inverse, turned-twice, ends_past, take_all)
