-- How the part of a text that gave way is widened, and changed.
use Rattle.rl_line.proofs.Common.{Bool, IsCharBoundary, IsUtf8-append, List, ap, append-nil, arith, drop, drop-append-add, drop_all, false, insert_slice, length, length-take, nil_from_length, remove_range, replace_range, sym, take, take-append-add, take-append-drop, take_all, true, ℕ, ◌++◌, ◌+◌, ◌∙◌, ◌≡◌, ◌≤◌}
use Rattle.rl_base.proofs.Texts.TextLemmas.{is_boundary-means, is_boundary-true}
use Rattle.rl_base.specs.Text.{is_boundary}
use Rattle.rl_line.proofs.Changes.PatchLemmas.{widened-down, widened-up}
use Rattle.std.proofs.lemmas.Str.{IsUtf8-nil}

-- where nothing gave way yet
pub nothing_gave_way : (text : List ℕ) (i j : ℕ) (s : List ℕ) → length s ≡ 0 → i ≡ j → replace_range text i j s ≡ text
nothing_gave_way text i j s none same =
    ap (λ t. (take i text ++ t) ++ drop j text) (nil_from_length s none) ∙ ap (λ t. t ++ drop j text) (append-nil (take i text))
    ∙ ap (λ k. take k text ++ drop j text) same ∙ take-append-drop j text

-- what is put in at the end
pub put_last : (s t : List ℕ) (n : ℕ) → n ≡ length s → insert_slice s n t ≡ s ++ t
put_last s t n end =
    ap (λ l. (l ++ t) ++ drop n s) (take_all n s (omega arith)) ∙ ap (λ l. (s ++ t) ++ l) (drop_all n s (omega arith)) ∙ append-nil (s ++ t)

-- what is put in where something was taken out
pub put_instead : (s t : List ℕ) (i j : ℕ) → i ≤ length s → insert_slice (remove_range s i j) i t ≡ replace_range s i j t
put_instead s t i j le =
    let cut = remove_range s i j in
    let here : i ≡ length (take i s) + 0 = omega (arith, length-take i s) in
    let first : take i cut ≡ take i s = ap (λ k. take k cut) here ∙ take-append-add (take i s) (drop j s) 0 ∙ append-nil (take i s) in
    let last : drop i cut ≡ drop j s = ap (λ k. drop k cut) here ∙ drop-append-add (take i s) (drop j s) 0 in
    ap (λ l. (l ++ t) ++ drop i cut) first ∙ ap (λ l. (take i s ++ t) ++ l) last

-- a place of two that does not stand between two characters
pub not_first : (text : List ℕ) (i j : ℕ) (b : Bool) → b ≡ is_boundary text i → b ≡ false → ¬ (IsCharBoundary text i × IsCharBoundary text j)
not_first text i j b test fails = λ p. let both : false ≡ true = sym fails ∙ test ∙ is_boundary-true text i p.0 in absurd cc

pub not_second : (text : List ℕ) (i j : ℕ) (b : Bool) → b ≡ is_boundary text j → b ≡ false → ¬ (IsCharBoundary text i × IsCharBoundary text j)
not_second text i j b test fails = λ p. let both : false ≡ true = sym fails ∙ test ∙ is_boundary-true text j p.1 in absurd cc

pub stands_when : (text : List ℕ) (i : ℕ) (b : Bool) → b ≡ is_boundary text i → b ≡ true → IsCharBoundary text i
stands_when text i b test holds = is_boundary-means text i (sym test ∙ holds)

pub ruleset reaches = (not_first, not_second, stands_when)

pub ruleset widens = (widened-down, widened-up, nothing_gave_way, put_last, IsUtf8-append, IsUtf8-nil)
