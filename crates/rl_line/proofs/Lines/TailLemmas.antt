-- What the two moves of a tail leave of the whole list.
use Rattle.rl_line.proofs.Common.{List, [], ap, append-nil, append_assoc, arith, between_is, common_steps, copy_within, drop, drop-drop, drop_all, drop_at, length, length-append, length-drop, length-take, replace_range, sym, take, take-put_mid, take-put_mid_below, take-take, take_all, ℕ, ◌++◌, ◌+◌, ◌-◌, ◌∙◌, ◌≡◌, ◌≤◌}
use borrow.Rule.Slice.PartMut.{put_mid}

from_none : (n : ℕ) → n - 0 ≡ n
from_none n = omega arith

module _ {X : Type 0} (all part written : List X) (a : ℕ) (same : written ≡ part) where
  -- the part is written in its place, and then what stands after the range moves down to its end
  module _ (less : ℕ) (within : a + length part + less ≤ length all) where
    abbrev e : ℕ
    e = a + length part

    abbrev t : List X
    t = put_mid a (e - a) all written

    abbrev rest : List X
    rest = take (length t - e) (drop e t)

    pub closed : (moved : List X) → moved ≡ copy_within rest less (length rest) 0 → take (length all - less) (put_mid e (length t - e) t moved) ≡ replace_range all a (e + less) part
    closed moved is = grind (arith, common_steps, take-put_mid)

  -- what stands after the range moves up to the end, and then the part is written in its place
  module _ (going : ℕ) (longer : going ≤ length part) (within : a + length part ≤ length all) where
    abbrev b : ℕ
    b = a + going

    abbrev more : ℕ
    more = length part - going

    abbrev after : List X
    after = take (length all - b) (drop b all)

    pub opened : (moved : List X) → moved ≡ copy_within after 0 (length after - more) more → put_mid a (a + length part - a) (put_mid b (length all - b) all moved) written ≡ replace_range (take (length all - more) all) a b part
    opened moved is =
        let r : List X = drop b all in
        let count = length-drop b all in
        let k : ℕ = a + length part - a in
        let u : List X = put_mid b (length all - b) all moved in
        let m : List X = take (length r - more) r in
        let whole : after ≡ r = take_all (length all - b) r (omega arith) in
        let now : moved ≡ take more r ++ m =
        is ∙ ap (λ l. copy_within l 0 (length l - more) more) whole
        ∙ ap (λ n. (take more r ++ take n r) ++ drop (more + n) r) (from_none (length r - more))
        ∙ ap (λ l. (take more r ++ m) ++ l) (drop_all (more + (length r - more)) r (omega arith)) ∙ append-nil _ in
        let none : drop (length all - b) (drop b all) ≡ [] = drop_all (length all - b) r (omega arith) in
        let tidy : u ≡ (take b all ++ take more r) ++ m =
        ap (λ l. take b all ++ (moved ++ l)) none ∙ ap (λ l. take b all ++ l) (append-nil moved ∙ now) ∙ sym (append_assoc (take b all) (take more r) m) in
        let begun = length-append (take b all) (take more r) in
        let short = length-take b all in
        let gap = length-take more r in
        let at : a + k ≡ b + more = omega arith in
        let last : drop k (drop a u) ≡ m = drop-drop k a u ∙ ap (drop (a + k)) tidy ∙ drop_at (take b all ++ take more r) m (a + k) (omega arith) in
        let end : ℕ = length all - more in
        let reach : length r - more ≡ end - b = omega arith in
        let tail : m ≡ drop b (take end all) = ap (λ n. take n r) reach ∙ between_is all b end in
        let front : take a u ≡ take a (take end all) = take-put_mid_below b (length all - b) all moved a (omega arith) (omega arith) ∙ sym (take-take a end all (omega arith)) in
        ap (λ l. l ++ (written ++ drop k (drop a u))) front
        ∙ ap (λ l. take a (take end all) ++ (l ++ drop k (drop a u))) same
        ∙ ap (λ l. take a (take end all) ++ (part ++ l)) (last ∙ tail)
        ∙ sym (append_assoc (take a (take end all)) part _)

pub ruleset tails = (closed, opened)
