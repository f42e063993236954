-- Units: they make up the list, each by itself is one unit, and lists with matched marks cut apart.
use Rattle.rl_record.proofs.Common.{Begin, Bool, Changed, End, Entry, IsMatched, IsSome, List, None, Open, Option, Some, UndoUnit, Whole, [], add-zero, add_entry, ap, append-nil, append_assoc, arith, close, common_steps, cond, cut_more, drop, drop_at, entries, false, flipped, inverse, is_change, kept_of, last_of, length, length-append, map, map-append, mark, marks, max, opens, option_and_then, or-true, redo_from, redo_of, refl, reverse, reverse-append, reverse-reverse, subst, suc, sym, take, take-append-drop, together, touched, true, turned_all, units, ℕ, ◌++◌, ◌+◌, ◌||◌, ◌∙◌, ◌∷◌, ◌≡◌, ◌≤◌}
use Rattle.rl_line.proofs.Changes.InverseLemmas.{IsSome-through, then_both, value_of}
use Rattle.rl_record.proofs.Records.Counts.{ahead_len, back_len, size_back}

close-together : (inner : List Entry) (us : List UndoUnit) → together (close inner us) ≡ (together us ++ inner) ++ (End ∷ [])
close-together inner [] = refl
close-together inner (Open ∷ us) = simp append_assoc
close-together inner (Whole es ∷ us) = close-together (es ++ inner) us ∙ simp append_assoc

add-together : (e : Entry) (us : List UndoUnit) → together (add_entry e us) ≡ together us ++ (e ∷ [])
add-together Begin us = refl
add-together End us = close-together [] us ∙ ap (λ x. x ++ (End ∷ [])) (append-nil (together us))
add-together (Changed k c) us = refl

cut-together : (es : List Entry) (us : List UndoUnit) → together (cut_more us es) ≡ together us ++ es
cut-together [] us = sym (append-nil (together us))
cut-together (e ∷ es) us =
    cut-together es (add_entry e us) ∙ ap (λ x. x ++ es) (add-together e us) ∙ append_assoc (together us) (e ∷ []) es

-- the units make up the list
pub together-units : (es : List Entry) → together (units es) ≡ es
together-units es = cut-together es []

pub together-append : (us vs : List UndoUnit) → together (us ++ vs) ≡ together vs ++ together us
together-append [] vs = sym (append-nil (together vs))
together-append (u ∷ us) vs = ap (λ x. x ++ entries u) (together-append us vs) ∙ append_assoc (together vs) (together us) (entries u)

-- what an undo keeps, and what it takes off, make up the list
pub kept-last : (n : ℕ) (es : List Entry) → kept_of n es ++ last_of n es ≡ es
kept-last n es =
    sym (together-append (take (max n 1) (units es)) (drop (max n 1) (units es)))
    ∙ ap together (take-append-drop (max n 1) (units es)) ∙ together-units es

-- how many groups units open
pub opens-append : (us vs : List UndoUnit) → opens (us ++ vs) ≡ opens us + opens vs
opens-append [] vs = omega arith
opens-append (Open ∷ us) vs = ap suc (opens-append us vs) ∙ (omega arith)
opens-append (Whole es ∷ us) vs = opens-append us vs

pub opens-reverse : (us : List UndoUnit) → opens (reverse us) ≡ opens us
opens-reverse [] = refl
opens-reverse (Open ∷ us) = ap opens (reverse-append (Open ∷ []) us) ∙ opens-append (reverse us) (Open ∷ []) ∙ ap (λ n. n + 1) (opens-reverse us) ∙ (omega arith)
opens-reverse (Whole es ∷ us) =
    ap opens (reverse-append (Whole es ∷ []) us) ∙ opens-append (reverse us) (Whole es ∷ []) ∙ ap (λ n. n + 0) (opens-reverse us) ∙ add-zero (opens us)

pub cut_more-append : (us : List UndoUnit) (xs ys : List Entry) → cut_more us (xs ++ ys) ≡ cut_more (cut_more us xs) ys
cut_more-append us [] ys = refl
cut_more-append us (x ∷ xs) ys = cut_more-append (add_entry x us) xs ys

pub marks-append : (xs ys : List Entry) (flags : List Bool) → marks (xs ++ ys) flags ≡ option_and_then (marks ys) (marks xs flags)
marks-append [] ys flags = refl
marks-append (x ∷ xs) ys flags = then_both (marks (xs ++ ys)) (marks xs) (marks ys) (λ fs. marks-append xs ys fs) (mark x flags)

-- a beginning of a matched list is matched
pub IsMatched-front : (xs ys : List Entry) → IsMatched (xs ++ ys) → IsMatched xs
IsMatched-front xs ys h = IsSome-through (marks ys) (marks xs []) (subst IsSome (marks-append xs ys []) h)

-- lists gone over the other way round
pub turned-append : (xs ys : List Entry) → turned_all (xs ++ ys) ≡ turned_all ys ++ turned_all xs
turned-append xs ys = ap (map (λ (e : Entry). flipped (inverse e))) (reverse-append xs ys) ∙ map-append (λ (e : Entry). flipped (inverse e)) (reverse ys) (reverse xs)

turned-group : (inner : List Entry) → turned_all (Begin ∷ (inner ++ (End ∷ []))) ≡ Begin ∷ (turned_all inner ++ (End ∷ []))
turned-group inner = turned-append (Begin ∷ []) (inner ++ (End ∷ [])) ∙ ap (λ x. x ++ (End ∷ [])) (turned-append inner (End ∷ []))

-- entries that are one unit wherever they stand, and hold a change; a count from the end or from the front passes them
pub record Settles (es : List Entry) : Type 0 where
  pub flags : (fs : List Bool) → marks es fs ≡ Some (touched fs)
  pub cuts : (us : List UndoUnit) → cut_more us es ≡ Whole es ∷ us
  pub back : (k : ℕ) (rs : List Entry) → back_len 0 (suc k) (reverse es ++ rs) ≡ length es + back_len 0 k rs
  pub back_within : (k d : ℕ) (rs : List Entry) → back_len (suc d) k (reverse es ++ rs) ≡ length es + back_len (suc d) k rs
  pub size : (rs : List Entry) → size_back 0 (reverse es ++ rs) ≡ suc (size_back 0 rs)
  pub size_within : (d : ℕ) (rs : List Entry) → size_back (suc d) (reverse es ++ rs) ≡ size_back (suc d) rs
  pub flags_turned : (fs : List Bool) → marks (turned_all es) fs ≡ Some (touched fs)
  pub cuts_turned : (us : List UndoUnit) → cut_more us (turned_all es) ≡ Whole (turned_all es) ∷ us
  pub ahead : (rs : List Entry) → ahead_len 0 (es ++ rs) ≡ length es
  pub ahead_within : (d : ℕ) (rs : List Entry) → ahead_len (suc d) (es ++ rs) ≡ length es + ahead_len (suc d) rs

abbrev pub Good : UndoUnit → Type 0
Good Open = Unit {0}
Good (Whole es) = Settles es

abbrev pub AllGood : List UndoUnit → Type 0
AllGood [] = Unit {0}
AllGood (u ∷ us) = Good u × AllGood us

-- the open groups after units
abbrev pub flags_on : List UndoUnit → List Bool → List Bool
flags_on [] fs = fs
flags_on (Open ∷ us) fs = false ∷ flags_on us fs
flags_on (Whole es ∷ us) fs = touched (flags_on us fs)

-- what stands inside a group that is about to be closed; b: it holds a change
pub record Gathers (b : Bool) (inner : List Entry) : Type 0 where
  pub flags : (fs : List Bool) → marks inner fs ≡ Some (cond b (touched fs) fs)
  pub gathers : (acc : List Entry) (us : List UndoUnit) → close acc (cut_more us inner) ≡ close (inner ++ acc) us
  pub flags_turned : (fs : List Bool) → marks (turned_all inner) fs ≡ Some (cond b (touched fs) fs)
  pub gathers_turned : (acc : List Entry) (us : List UndoUnit) → close acc (cut_more us (turned_all inner)) ≡ close (turned_all inner ++ acc) us
  pub back_within : (k d : ℕ) (rs : List Entry) → back_len (suc d) k (reverse inner ++ rs) ≡ length inner + back_len (suc d) k rs
  pub size_within : (d : ℕ) (rs : List Entry) → size_back (suc d) (reverse inner ++ rs) ≡ size_back (suc d) rs
  pub ahead_within : (d : ℕ) (rs : List Entry) → ahead_len (suc d) (inner ++ rs) ≡ length inner + ahead_len (suc d) rs

pub Gathers-nil : Gathers false []
Gathers-nil = grind arith

touched_twice : (b : Bool) (fs : List Bool) → cond b (touched (touched fs)) (touched fs) ≡ touched fs
touched_twice true [] = refl
touched_twice true (f ∷ fs) = refl
touched_twice false fs = refl

touched_once : (b : Bool) (fs : List Bool) → touched (cond b (touched fs) fs) ≡ touched fs
touched_once true [] = refl
touched_once true (f ∷ fs) = refl
touched_once false fs = refl

swap_sum : (a b c : ℕ) → a + (b + c) ≡ (b + a) + c
swap_sum a b c = omega arith

sum_on : (a b c : ℕ) → a + (b + c) ≡ (a + b) + c
sum_on a b c = omega arith

-- one unit more in front
pub Gathers-more : (b : Bool) (es inner : List Entry) → Settles es → Gathers b inner → Gathers true (es ++ inner)
Gathers-more b es inner s g = record {
  flags = λ fs. marks-append es inner fs ∙ ap (option_and_then (marks inner)) (s.flags fs) ∙ g.flags (touched fs) ∙ ap Some (touched_twice b fs);
  gathers = λ acc us. ap (close acc) (cut_more-append us es inner ∙ ap (λ x. cut_more x inner) (s.cuts us)) ∙ g.gathers acc (Whole es ∷ us)
      ∙ ap (λ x. close x us) (sym (append_assoc es inner acc));
  back_within = λ k d rs. ap (λ x. back_len (suc d) k (x ++ rs)) (reverse-append es inner) ∙ ap (back_len (suc d) k) (append_assoc (reverse inner) (reverse es) rs)
      ∙ g.back_within k d (reverse es ++ rs) ∙ ap (λ n. length inner + n) (s.back_within k d rs) ∙ swap_sum (length inner) (length es) (back_len (suc d) k rs)
      ∙ ap (λ n. n + back_len (suc d) k rs) (sym (length-append es inner));
  flags_turned = λ fs. ap (λ x. marks x fs) (turned-append es inner) ∙ marks-append (turned_all inner) (turned_all es) fs
      ∙ ap (option_and_then (marks (turned_all es))) (g.flags_turned fs) ∙ s.flags_turned (cond b (touched fs) fs) ∙ ap Some (touched_once b fs);
  gathers_turned = λ acc us. ap (λ x. close acc (cut_more us x)) (turned-append es inner) ∙ ap (close acc) (cut_more-append us (turned_all inner) (turned_all es) ∙ s.cuts_turned (cut_more us (turned_all inner)))
      ∙ g.gathers_turned (turned_all es ++ acc) us ∙ ap (λ x. close x us) (sym (append_assoc (turned_all inner) (turned_all es) acc) ∙ ap (λ x. x ++ acc) (sym (turned-append es inner)));
  size_within = λ d rs. ap (λ x. size_back (suc d) (x ++ rs)) (reverse-append es inner) ∙ ap (size_back (suc d)) (append_assoc (reverse inner) (reverse es) rs)
      ∙ g.size_within d (reverse es ++ rs) ∙ s.size_within d rs;
  ahead_within = λ d rs. ap (ahead_len (suc d)) (append_assoc es inner rs) ∙ s.ahead_within d (inner ++ rs) ∙ ap (λ n. length es + n) (g.ahead_within d rs)
      ∙ sum_on (length es) (length inner) (ahead_len (suc d) rs) ∙ ap (λ n. n + ahead_len (suc d) rs) (sym (length-append es inner));
}

group_back : (inner rs : List Entry) → reverse (Begin ∷ (inner ++ (End ∷ []))) ++ rs ≡ End ∷ (reverse inner ++ (Begin ∷ rs))
group_back inner rs = grind (arith, common_steps)

group_len : (inner : List Entry) (n m : ℕ) → n ≡ length inner + suc m → suc n ≡ length (Begin ∷ (inner ++ (End ∷ []))) + m
group_len inner n m e = let l = length-append inner (End ∷ []) in omega arith

-- a closed group is one unit
pub Settles-group : (inner : List Entry) → Gathers true inner → Settles (Begin ∷ (inner ++ (End ∷ [])))
Settles-group inner g = record {
  flags = λ fs. marks-append inner (End ∷ []) (false ∷ fs) ∙ ap (option_and_then (marks (End ∷ []))) (g.flags (false ∷ fs));
  cuts = λ us. cut_more-append (Open ∷ us) inner (End ∷ []) ∙ g.gathers [] (Open ∷ us)
      ∙ ap (λ x. Whole (Begin ∷ (x ++ (End ∷ []))) ∷ us) (append-nil inner);
  back = λ k rs. ap (back_len 0 (suc k)) (group_back inner rs) ∙ group_len inner (back_len 1 k (reverse inner ++ (Begin ∷ rs))) (back_len 0 k rs) (g.back_within k 0 (Begin ∷ rs));
  back_within = λ k d rs. ap (back_len (suc d) k) (group_back inner rs)
      ∙ group_len inner (back_len (suc (suc d)) k (reverse inner ++ (Begin ∷ rs))) (back_len (suc d) k rs) (g.back_within k (suc d) (Begin ∷ rs));
  flags_turned = λ fs. ap (λ x. marks x fs) (turned-group inner) ∙ marks-append (turned_all inner) (End ∷ []) (false ∷ fs) ∙ ap (option_and_then (marks (End ∷ []))) (g.flags_turned (false ∷ fs));
  cuts_turned = λ us. ap (cut_more us) (turned-group inner) ∙ cut_more-append (Open ∷ us) (turned_all inner) (End ∷ []) ∙ g.gathers_turned [] (Open ∷ us)
      ∙ ap (λ x. Whole (Begin ∷ (x ++ (End ∷ []))) ∷ us) (append-nil (turned_all inner)) ∙ ap (λ x. Whole x ∷ us) (sym (turned-group inner));
  size = λ rs. ap (size_back 0) (group_back inner rs) ∙ ap suc (g.size_within 0 (Begin ∷ rs));
  size_within = λ d rs. ap (size_back (suc d)) (group_back inner rs) ∙ g.size_within (suc d) (Begin ∷ rs);
  ahead = λ rs. ap (λ x. suc (ahead_len 1 x)) (append_assoc inner (End ∷ []) rs) ∙ group_len inner (ahead_len 1 (inner ++ End ∷ rs)) 0 (g.ahead_within 0 (End ∷ rs))
      ∙ add-zero (length (Begin ∷ (inner ++ End ∷ [])));
  ahead_within = λ d rs. ap (λ x. suc (ahead_len (suc (suc d)) x)) (append_assoc inner (End ∷ []) rs)
      ∙ group_len inner (ahead_len (suc (suc d)) (inner ++ End ∷ rs)) (ahead_len (suc d) rs) (g.ahead_within (suc d) (End ∷ rs));
}

or_false : (f b : Bool) → f ≡ false → f || b ≡ true → b ≡ true
or_false false b e h = h
or_false true b e h = cc

close_good : (us : List UndoUnit) (inner : List Entry) (b f : Bool) (s : List Bool) → AllGood us → Gathers b inner → flags_on us [] ≡ f ∷ s → f || b ≡ true
    → AllGood (close inner us) × (flags_on (close inner us) [] ≡ touched s)
close_good [] inner b f s good g e h = cc
close_good (Open ∷ us) inner b f s good g e h =
    let zero : f ≡ false = cc in
    let tail : flags_on us [] ≡ s = cc in
    ((Settles-group inner (subst (λ x. Gathers x inner) (or_false f b zero h) g), good.1), ap touched tail)
close_good (Whole es ∷ us) inner b f s good g e h =
    through (flags_on us []) refl e (λ f0 k. close_good us (es ++ inner) true f0 s good.1 (Gathers-more b es inner good.0 g) k (or-true f0))
  where
    through : (fs : List Bool) → flags_on us [] ≡ fs → touched fs ≡ f ∷ s
        → ((f0 : Bool) → flags_on us [] ≡ f0 ∷ s → AllGood (close (es ++ inner) us) × (flags_on (close (es ++ inner) us) [] ≡ touched s))
        → AllGood (close (es ++ inner) us) × (flags_on (close (es ++ inner) us) [] ≡ touched s)
    through [] k j ih = cc
    through (f0 ∷ s0) k j ih = let same : s0 ≡ s = cc in ih f0 (k ∙ ap (λ x. f0 ∷ x) same)

one_more : (n : ℕ) → suc n ≡ 1 + n
one_more n = omega arith

add_good : (e : Entry) (us : List UndoUnit) (t : List Bool) → AllGood us → mark e (flags_on us []) ≡ Some t
    → AllGood (add_entry e us) × (flags_on (add_entry e us) [] ≡ t)
add_good Begin us t good h = ((tt, good), cc)
add_good (Changed k c) us t good h = (
  (
    record {
      flags = λ fs. refl;
      cuts = λ us. refl;
      back = λ k rs. one_more (back_len 0 k rs);
      back_within = λ k d rs. one_more (back_len (suc d) k rs);
      flags_turned = λ fs. refl;
      cuts_turned = λ us. refl;
      size = λ rs. refl;
      size_within = λ d rs. refl;
      ahead = λ rs. refl;
      ahead_within = λ d rs. one_more (ahead_len (suc d) rs);
    },
    good,
  ),
  cc,
)
add_good End us t good h = through (flags_on us []) refl h
  where
    through : (fs : List Bool) → flags_on us [] ≡ fs → mark End fs ≡ Some t → AllGood (close [] us) × (flags_on (close [] us) [] ≡ t)
    through [] k j = cc
    through (false ∷ s) k j = cc
    through (true ∷ s) k j =
        let p = close_good us [] false true s good Gathers-nil k refl in
        let same : touched s ≡ t = cc in
        (p.0, p.1 ∙ same)

-- cutting keeps units good, and their flags are the marks
pub cut_good : (es : List Entry) (us : List UndoUnit) (t : List Bool) → AllGood us → marks es (flags_on us []) ≡ Some t
    → AllGood (cut_more us es) × (flags_on (cut_more us es) [] ≡ t)
cut_good [] us t good h = (good, cc)
cut_good (e ∷ es) us t good h = through (mark e (flags_on us [])) refl h (λ vs k j. cut_good es vs t k j)
  where
    through : (o : Option (List Bool)) → mark e (flags_on us []) ≡ o → option_and_then (marks es) o ≡ Some t
        → ((vs : List UndoUnit) → AllGood vs → marks es (flags_on vs []) ≡ Some t → AllGood (cut_more vs es) × (flags_on (cut_more vs es) [] ≡ t))
        → AllGood (cut_more us (e ∷ es)) × (flags_on (cut_more us (e ∷ es)) [] ≡ t)
    through None k j ih = cc
    through (Some fs) k j ih =
        let p = add_good e us fs good k in
        ih (add_entry e us) p.0 (ap (marks es) p.1 ∙ j)

-- each unit of a matched list is one unit by itself
pub units-good : (es : List Entry) → IsMatched es → AllGood (units es)
units-good es h = let s = value_of (marks es []) h in (cut_good es [] s.0 tt s.1).0

-- units stand wherever they are put, and are cut apart again
pub good_marks : (us : List UndoUnit) (fs : List Bool) → AllGood us → marks (together us) fs ≡ Some (flags_on us fs)
good_marks [] fs good = refl
good_marks (Open ∷ us) fs good =
    marks-append (together us) (Begin ∷ []) fs ∙ ap (option_and_then (marks (Begin ∷ []))) (good_marks us fs good.1)
good_marks (Whole es ∷ us) fs good =
    marks-append (together us) es fs ∙ ap (option_and_then (marks es)) (good_marks us fs good.1) ∙ good.0.flags (flags_on us fs)

pub good_cuts : (us vs : List UndoUnit) → AllGood us → cut_more vs (together us) ≡ us ++ vs
good_cuts [] vs good = refl
good_cuts (Open ∷ us) vs good = cut_more-append vs (together us) (Begin ∷ []) ∙ ap (λ x. cut_more x (Begin ∷ [])) (good_cuts us vs good.1)
good_cuts (Whole es ∷ us) vs good =
    cut_more-append vs (together us) es ∙ ap (λ x. cut_more x es) (good_cuts us vs good.1) ∙ good.0.cuts (us ++ vs)

pub AllGood-append : (us vs : List UndoUnit) → AllGood us → AllGood vs → AllGood (us ++ vs)
AllGood-append [] vs g h = h
AllGood-append (u ∷ us) vs g h = (g.0, AllGood-append us vs g.1 h)

pub AllGood-left : (us vs : List UndoUnit) → AllGood (us ++ vs) → AllGood us
AllGood-left [] vs g = tt
AllGood-left (u ∷ us) vs g = (g.0, AllGood-left us vs g.1)

pub AllGood-right : (us vs : List UndoUnit) → AllGood (us ++ vs) → AllGood vs
AllGood-right [] vs g = g
AllGood-right (u ∷ us) vs g = AllGood-right us vs g.1

pub IsMatched-together : (us : List UndoUnit) → AllGood us → IsMatched (together us)
IsMatched-together us good = subst IsSome (sym (good_marks us [] good)) refl

-- the units of two lists, of which the second is matched
pub units-append : (xs ys : List Entry) → IsMatched ys → units (xs ++ ys) ≡ units ys ++ units xs
units-append xs ys h =
    cut_more-append [] xs ys ∙ ap (cut_more (units xs)) (sym (together-units ys)) ∙ good_cuts (units ys) (units xs) (units-good ys h)

pub IsMatched-append : (xs ys : List Entry) → IsMatched xs → IsMatched ys → IsMatched (xs ++ ys)
IsMatched-append xs ys h k =
    subst IsMatched (together-append (units ys) (units xs) ∙ ap (λ x. x ++ together (units ys)) (together-units xs) ∙ ap (λ y. xs ++ y) (together-units ys))
    (IsMatched-together (units ys ++ units xs) (AllGood-append (units ys) (units xs) (units-good ys k) (units-good xs h)))

-- the entries of units, the oldest unit first
abbrev pub on : List UndoUnit → List Entry
on [] = []
on (v ∷ vs) = entries v ++ on vs

pub together-reverse : (vs : List UndoUnit) → together (reverse vs) ≡ on vs
together-reverse [] = refl
together-reverse (v ∷ vs) =
    ap together (reverse-append (v ∷ []) vs) ∙ together-append (reverse vs) (v ∷ []) ∙ ap (λ x. entries v ++ x) (together-reverse vs)

pub AllGood-reverse : (us : List UndoUnit) → AllGood us → AllGood (reverse us)
AllGood-reverse [] g = tt
AllGood-reverse (u ∷ us) g = subst AllGood (sym (reverse-append (u ∷ []) us)) (AllGood-append (reverse us) (u ∷ []) (AllGood-reverse us g.1) (g.0, tt))

-- a change at the end is the last unit, and one in front is the unit that is redone next
pub last_of-change : (n : ℕ) (e : Entry) (es : List Entry) → n ≤ 1 → is_change e ≡ true → last_of n (es ++ e ∷ []) ≡ e ∷ []
last_of-change n (Changed k c) es few is =
    let e = Changed k c in
    let single : max n 1 ≡ 1 = omega (arith, few) in
    ap (λ us. together (take (max n 1) us)) (cut_more-append [] es (e ∷ [])) ∙ ap (λ j. together (take j (Whole (e ∷ []) ∷ units es))) single
last_of-change n other es few is = cc

pub kept_of-change : (e : Entry) (es : List Entry) → is_change e ≡ true → kept_of 1 (es ++ e ∷ []) ≡ es
kept_of-change (Changed k c) es is = ap (λ us. together (drop 1 us)) (cut_more-append [] es (Changed k c ∷ [])) ∙ together-units es
kept_of-change other es is = cc

pub redo_of-change : (e : Entry) (es : List Entry) → is_change e ≡ true → IsMatched (e ∷ es) → redo_of (e ∷ es) ≡ e ∷ []
redo_of-change (Changed k c) es is m =
    let e = Changed k c in
    ap (λ us. redo_from (e ∷ es) (reverse us)) (units-append (e ∷ []) es m) ∙ ap (redo_from (e ∷ es)) (reverse-append (units es) (Whole (e ∷ []) ∷ []))
redo_of-change other es is m = cc

-- ---- the oldest unit of a list
pub oldest-first : (es : List Entry) (rs : List UndoUnit) → reverse (units es) ≡ rs → units es ≡ reverse rs
oldest-first es rs e = sym (reverse-reverse (units es)) ∙ ap reverse e

-- where it is whole, it stands in front of the others
pub record OldestFirst (es inner : List Entry) (rs : List UndoUnit) : Type 0 where
  pub units_are : units es ≡ reverse rs ++ (Whole inner ∷ [])
  pub list_is : inner ++ together (reverse rs) ≡ es
  pub rest_is : drop (length inner) es ≡ together (reverse rs)

pub oldest : (es inner : List Entry) (rs : List UndoUnit) → reverse (units es) ≡ Whole inner ∷ rs → OldestFirst es inner rs
oldest es inner rs e =
    let us : units es ≡ reverse rs ++ (Whole inner ∷ []) = oldest-first es (Whole inner ∷ rs) e ∙ reverse-append (Whole inner ∷ []) rs in
    let all : inner ++ together (reverse rs) ≡ es = sym (together-append (reverse rs) (Whole inner ∷ [])) ∙ ap together (sym us) ∙ together-units es in
    record { units_are = us; list_is = all; rest_is = ap (drop (length inner)) (sym all) ∙ drop_at inner (together (reverse rs)) (length inner) refl }
