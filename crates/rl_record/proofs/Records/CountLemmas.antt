-- Counting marks from the end finds the last units, and from the front the first.
use Rattle.rl_record.proofs.Common.{Begin, Bool, Changed, End, Entry, IsMatched, List, Open, Some, UndoUnit, Whole, [], ap, arith, deep, false, last_of, length, length-append, level, marks, max, open_size, redo_from, redo_of, refl, reverse, reverse-append, reverse-reverse, size_to_open, subst, suc, sym, take, together, touched, true, units, zero, ℕ, ◌+◌, ◌-◌, ◌∙◌, ◌∷◌, ◌≡◌}
use Rattle.rl_line.proofs.Changes.InverseLemmas.{value_of}
use Rattle.rl_record.proofs.Records.Counts.{ahead_len, back_len, size_back}
use Rattle.rl_record.proofs.Records.MatchLemmas.{length-touched, level-is}
use Rattle.rl_record.proofs.Records.UnitLemmas.{AllGood, AllGood-reverse, on, together-reverse, together-units, units-good}

-- counting from the end counts the last units
back_units : (us : List UndoUnit) (k : ℕ) → AllGood us → back_len 0 k (reverse (together us)) ≡ length (together (take k us))
back_units us zero g = refl
back_units [] (suc k) g = refl
back_units (Open ∷ us) (suc k) g =
    ap (back_len 0 (suc k)) (reverse-append (together us) (Begin ∷ [])) ∙ ap suc (back_units us k g.1)
    ∙ plus_one (length (together (take k us))) ∙ sym (length-append (together (take k us)) (Begin ∷ []))
  where
    plus_one : (n : ℕ) → suc n ≡ n + 1
    plus_one n = omega arith
back_units (Whole es ∷ us) (suc k) g =
    ap (back_len 0 (suc k)) (reverse-append (together us) es) ∙ g.0.back k (reverse (together us)) ∙ ap (λ n. length es + n) (back_units us k g.1)
    ∙ turn (length es) (length (together (take k us))) ∙ sym (length-append (together (take k us)) es)
  where
    turn : (a b : ℕ) → a + b ≡ b + a
    turn a b = omega arith

pub last-counted : (n : ℕ) (es : List Entry) → IsMatched es → back_len 0 (max n 1) (reverse es) ≡ length (last_of n es)
last-counted n es h =
    ap (λ x. back_len 0 (max n 1) (reverse x)) (sym (together-units es)) ∙ back_units (units es) (max n 1) (units-good es h)

size_units : (us : List UndoUnit) → AllGood us → size_back 0 (reverse (together us)) ≡ size_to_open us
size_units [] g = refl
size_units (Open ∷ us) g = ap (size_back 0) (reverse-append (together us) (Begin ∷ []))
size_units (Whole es ∷ us) g = ap (size_back 0) (reverse-append (together us) es) ∙ g.0.size (reverse (together us)) ∙ ap suc (size_units us g.1)

pub size-counted : (es : List Entry) → IsMatched es → size_back 0 (reverse es) ≡ open_size es
size-counted es h = ap (λ x. size_back 0 (reverse x)) (sym (together-units es)) ∙ size_units (units es) (units-good es h)

-- no group that is open is closed by good units
ahead_open : (vs : List UndoUnit) (d : ℕ) → AllGood vs → ahead_len (suc d) (on vs) ≡ length (on vs)
ahead_open [] d g = refl
ahead_open (Open ∷ vs) d g = ap suc (ahead_open vs (suc d) g.1)
ahead_open (Whole es ∷ vs) d g = g.0.ahead_within d (on vs) ∙ ap (λ n. length es + n) (ahead_open vs d g.1) ∙ sym (length-append es (on vs))

ahead_units : (vs : List UndoUnit) → AllGood vs → ahead_len 0 (on vs) ≡ length (redo_from (on vs) vs)
ahead_units [] g = refl
ahead_units (Open ∷ vs) g = ap suc (ahead_open vs 0 g.1)
ahead_units (Whole es ∷ vs) g = g.0.ahead (on vs)

-- counting from the front counts what a redo puts back
pub redo-counted : (es : List Entry) → IsMatched es → ahead_len 0 es ≡ length (redo_of es)
redo-counted es h =
    let all : on (reverse (units es)) ≡ es = sym (together-reverse (reverse (units es))) ∙ ap together (reverse-reverse (units es)) ∙ together-units es in
    subst (λ x. ahead_len 0 x ≡ length (redo_from x (reverse (units es)))) all (ahead_units (reverse (units es)) (AllGood-reverse (units es) (units-good es h)))

-- the marks keep one flag for each open group
marks-deep : (es : List Entry) (fs gs : List Bool) → marks es fs ≡ Some gs → length gs ≡ deep (length fs) es
marks-deep [] fs gs h = let e : fs ≡ gs = cc in ap length (sym e)
marks-deep (Begin ∷ es) fs gs h = marks-deep es (false ∷ fs) gs h
marks-deep (End ∷ es) [] gs h = cc
marks-deep (End ∷ es) (false ∷ fs) gs h = cc
marks-deep (End ∷ es) (true ∷ fs) gs h =
    let one : length (touched fs) ≡ suc (length fs) - 1 = length-touched fs ∙ (omega arith) in
    marks-deep es (touched fs) gs h ∙ ap (λ d. deep d es) one
marks-deep (Changed k c ∷ es) fs gs h = marks-deep es (touched fs) gs h ∙ ap (λ d. deep d es) (length-touched fs)

-- the level counts the groups that are opened and not closed
pub level-counted : (es : List Entry) → IsMatched es → level es ≡ deep 0 es
level-counted es h = let s = value_of (marks es []) h in level-is es s.0 s.1 ∙ marks-deep es [] s.0 s.1
