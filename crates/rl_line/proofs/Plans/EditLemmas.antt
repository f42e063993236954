-- The plans of the edits, by their cases. The lemmas name each number of the code by a variable and an
-- equation, so that they fit what the code computed.
use Rattle.rl_line.proofs.Common.{Bool, Delete, Forward, InsertStr, Line, List, None, Some, arith, cut_to_limit, encode_utf8, false, followed_by, greatest_boundary, insert_event, insert_plan, length, length-append, lt-ltb, min, nothing, refl, remove_range, repeat, single, slice_range, stepped, suc, take, too_long, true, update_plan, yank_plan, yank_pop_plan, zero, ℕ, ◌*◌, ◌+◌, ◌-◌, ◌<◌, ◌==◌, ◌||◌, ◌≡◌}
use Rattle.rl_base.proofs.Clusters.ClusterLemmas.{slice_range-front}
use Rattle.rl_base.proofs.Texts.TextLemmas.{IsCharBoundary-past_replacement, greatest_boundary-is}
use Rattle.rl_line.proofs.Plans.PlanLemmas.{Done-followed, Done-nothing, Done-single, Halted-before, Halted-followed, Halted-single}

pub too_long-past : (line : Line) (n : ℕ) → line.grow ≡ false → line.limit < n → too_long line n ≡ true
too_long-past line n e h = rw (e, lt-ltb line.limit n h) refl

pub cut_to_limit-past : (line : Line) (s : List ℕ) (kept : ℕ) → line.grow ≡ false → line.limit < length s → greatest_boundary s line.limit ≡ kept → cut_to_limit line s ≡ take kept s
cut_to_limit-past line s kept e h is = rw (too_long-past line (length s) e h, is) refl

pub insert_plan-too_long : (line : Line) (c n more : ℕ) → more ≡ length (encode_utf8 c) → too_long line (length line.text + more * n) ≡ true
    → insert_plan line c n ≡ nothing line None
insert_plan-too_long line c n more e h = rw (← e, h) refl

pub insert_plan-some : (line : Line) (c n more : ℕ) (a : Bool) → more ≡ length (encode_utf8 c) → a ≡ (line.cursor == length line.text) → too_long line (length line.text + more * n) ≡ false
    → insert_plan line c n ≡ single (insert_event line.cursor c n) (line.cursor + length (encode_utf8 c) * n) (Some a)
insert_plan-some line c n more a e is short = rw (is, ← e, short) refl

pub yank_plan-nothing : (line : Line) (s : List ℕ) (n : ℕ) → ((length s == 0) || too_long line (length line.text + length s * n)) ≡ true
    → yank_plan line s n ≡ nothing line None
yank_plan-nothing line s n e = rw e refl

pub yank_plan-some : (line : Line) (s : List ℕ) (n : ℕ) (a : Bool) → a ≡ (line.cursor == length line.text)
    → (length s == 0) ≡ false → too_long line (length line.text + length s * n) ≡ false
    → yank_plan line s n ≡ single (InsertStr line.cursor (repeat n s)) (line.cursor + length s * n) (Some a)
yank_plan-some line s n a is some short = rw (is, some, short) refl

pub yank_pop_plan-is : (line mid : Line) (z p from : ℕ) (s : List ℕ) → p ≡ line.cursor → from ≡ p - z → mid ≡ stepped line (remove_range line.text from p) from
    → yank_pop_plan line z s ≡ followed_by (Delete from (slice_range line.text from p) Forward) from (yank_plan mid s 1)
yank_pop_plan-is line mid z p from s at to e = rw (e, to, at) refl

pub update_plan-is : (line : Line) (s cut : List ℕ) (q n p : ℕ) → cut ≡ cut_to_limit line s → n ≡ length line.text → p ≡ min q (length cut)
    → update_plan line s q ≡ followed_by (Delete 0 (slice_range line.text 0 n) Forward) 0 (single (InsertStr 0 cut) p tt)
update_plan-is line s cut q n p is all at = rw (at, is, all) refl

pub length-repeat : (n : ℕ) (s : List ℕ) → length (repeat n s) ≡ length s * n
length-repeat zero s = omega arith
length-repeat (suc n) s = omega (arith, length-append s (repeat n s), length-repeat n s)

-- a text that needs room in another's place is longer, and is not empty
pub some_part : (s t : List ℕ) → length s < length t → 0 < length t
some_part s t longer = omega (arith, longer)

-- some copies of a text that is not empty
pub some_copies : (n : ℕ) (s : List ℕ) → 0 < length s → 0 < n → 0 < length (repeat n s)
some_copies zero s h some = absurd (omega (arith, some))
some_copies (suc n) s h some = omega (arith, length-append s (repeat n s), h)

pub ruleset limits = (cut_to_limit-past, too_long-past, slice_range-front, greatest_boundary-is)

pub ruleset copies = (some_copies, some_part, IsCharBoundary-past_replacement)

pub ruleset plans = (insert_plan-some, insert_plan-too_long, update_plan-is, yank_plan-nothing, yank_plan-some, Done-followed, Done-nothing, Done-single, Halted-before, Halted-followed, Halted-single)
