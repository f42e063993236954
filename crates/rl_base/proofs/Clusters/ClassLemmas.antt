-- Classes of characters and of clusters.
use Rattle.rl_base.proofs.Common.{◌≡◌, ℕ, ◌<◌, ◌||◌, List, [], ◌∷◌, ◌∙◌, length, get_or, ap, arith, refl, sym, or-false, and-true, nil_from_length, chars-IsAscii, IsAscii-nil, IsAscii-cons, is_ascii_alphanumeric, beq, list_all, list_any, chars, is_white_space, general_category, is_alphabetic, is_number, is_alphanumeric, all_alphanumeric, has_blank}
use Rattle.ucd_table.proofs.Facts.{Stepped-below, same_from_beq}
use Rattle.ucd_table.proofs.Stepped.{zip_stepped}
use Rattle.ucd_category.proofs.Computing.{ucd_category}
use Rattle.ucd_category.proofs.GeneralCategoryLemmas.{general_category_stepped}
use Rattle.ucd_derived.proofs.Computing.{ucd_derived}
use Rattle.ucd_derived.proofs.BinaryLemmas.{is_alphabetic_stepped}

pub is_alphanumeric-ascii : (c : ℕ) → c < 128 → is_ascii_alphanumeric c ≡ is_alphanumeric c
unfolding ucd_category ucd_derived
is_alphanumeric-ascii c below =
    let steps = zip_stepped (λ a g. a || is_number g) is_alphabetic general_category is_alphabetic_stepped general_category_stepped in
    same_from_beq _ _ (Stepped-below is_alphanumeric steps (λ x v. beq (is_ascii_alphanumeric x) v) 128 refl c below)

-- a cluster of one ASCII byte
chars-lone : (cluster : List ℕ) → length cluster ≡ 1 → get_or cluster 0 0 < 128 → chars cluster ≡ get_or cluster 0 0 ∷ []
chars-lone [] one below = absurd (omega (arith, one))
chars-lone (b ∷ bytes) one below =
    rw (nil_from_length bytes (omega (arith, one))) (chars-IsAscii (b ∷ []) (IsAscii-cons b [] below IsAscii-nil))

pub has_blank-lone : (cluster : List ℕ) → length cluster ≡ 1 → get_or cluster 0 0 < 128 → is_white_space (get_or cluster 0 0) ≡ has_blank cluster
has_blank-lone cluster one below = sym (ap (list_any is_white_space) (chars-lone cluster one below) ∙ or-false _)

pub all_alphanumeric-lone : (cluster : List ℕ) → length cluster ≡ 1 → get_or cluster 0 0 < 128 → is_ascii_alphanumeric (get_or cluster 0 0) ≡ all_alphanumeric cluster
all_alphanumeric-lone cluster one below =
    is_alphanumeric-ascii _ below ∙ sym (ap (list_all is_alphanumeric) (chars-lone cluster one below) ∙ and-true _)

-- what an ASCII character tells
pub ruleset by_ascii = (is_alphanumeric-ascii, has_blank-lone, all_alphanumeric-lone)
