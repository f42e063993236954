-- Exchanging two ranges: the plan by its halves, and the places between them.
use Rattle.rl_line.proofs.Common.{Delete, Forward, HasRoom, InsertStr, IsCharBoundary, IsUtf8, Line, List, None, Range, RoomyLine, Step, [], ap, append_assoc, ap₂, are_two, arith, clusters_around, drop, drop-append-le, drop-take, end_of_cluster, exchange_plan, exchanged_text, false, first_word, followed_by, insert_slice, length, length-between, length-take-le, meeting_place, nothing, only_move, option_and_then, pull_back_plan, pulled_back, remove_range, replace_range, second_word, single, slice_range, subst, swap_plan, sym, take, text_in, transpose_chars_plan, transpose_words_plan, ℕ, ◌++◌, ◌+◌, ◌-◌, ◌∙◌, ◌∷◌, ◌≡◌, ◌≤◌}
use Rattle.rl_base.proofs.Texts.TextLemmas.{IsCharBoundary-after, IsCharBoundary-at_removal, IsCharBoundary-before, IsCharBoundary-past_replacement, IsUtf8-replaced, removed-is_replaced, slice-before, take-before}
use Rattle.rl_line.proofs.Lines.RoomyLemmas.{HasRoom-moved, length-swapped}
use Rattle.rl_line.proofs.Plans.EditLemmas.{some_part}
use Rattle.rl_line.proofs.Plans.PlanLemmas.{Done-followed, Done-nothing, Done-single, Done-steps, Halted-after, Halted-at_first, Halted-back, Halted-front, Taken-append}

-- the steps of the second exchange
abbrev pub last_steps : Line → Range ℕ → Range ℕ → List Step
last_steps line first second = (Delete first.start (text_in line first) Forward, first.start) ∷ (InsertStr first.start (text_in line second), second.end) ∷ []

pub swap-front : (line : Line) (first second : Range ℕ) (x : List ℕ) → x ≡ text_in line first
    → (swap_plan line first second).steps ≡ (exchange_plan line second first.end x first.end).steps ++ last_steps line first second
swap-front line first second x e = grind arith

-- The second of two ranges gave way to the text of the first: x is that text, and y the second's own.
pub record HalfSwapped (old mid : Line) (first second : Range ℕ) (x y : List ℕ) : Type 0 where
  pub goes : x ≡ text_in old first
  pub comes : y ≡ text_in old second
  pub text : mid.text ≡ replace_range old.text second.start second.end x
  pub utf8 : IsUtf8 old.text
  pub part_utf8 : IsUtf8 x
  pub first_order : first.start ≤ first.end
  pub second_order : second.start ≤ second.end
  pub apart : first.end ≤ second.start
  pub first_start : IsCharBoundary old.text first.start
  pub first_end : IsCharBoundary old.text first.end
  pub second_start : IsCharBoundary old.text second.start
  pub second_end : IsCharBoundary old.text second.end

-- the places of the second exchange, in the text after the first
pub record Places (mid : List ℕ) (first second : Range ℕ) (y : List ℕ) : Type 0 where
  pub start : IsCharBoundary mid first.start
  pub stop : IsCharBoundary mid first.end
  pub gap : IsCharBoundary (remove_range mid first.start first.end) first.start
  pub last : IsCharBoundary (replace_range mid first.start first.end y) second.end

module _ {old mid : Line} {first second : Range ℕ} {x y : List ℕ} (h : HalfSwapped old mid first second x y) where
  -- the first range still has its text
  pub first_stays : text_in mid first ≡ x
  first_stays = grind (arith, slice-before)

  pub swap-halves : (swap_plan old first second).steps ≡ (exchange_plan old second first.end x first.end).steps ++ (exchange_plan mid first first.start y second.end).steps
  swap-halves =
      swap-front old first second x h.goes
      ∙ ap₂ (λ t u. (exchange_plan old second first.end x first.end).steps ++ ((Delete first.start t Forward, first.start) ∷ (InsertStr first.start u, second.end) ∷ [])) (sym (first_stays ∙ h.goes)) (sym h.comes)

  pub places : Places mid.text first second y
  places =
      let text = old.text in
      let made = replace_range text second.start second.end x in
      let utf8 = IsUtf8-replaced text second.start second.end x h.utf8 h.part_utf8 h.second_start h.second_end in
      let start : IsCharBoundary made first.start =
      IsCharBoundary-before text second.start second.end first.start x h.utf8 h.part_utf8 h.second_start h.second_end h.first_start (omega arith) in
      let stop : IsCharBoundary made first.end = IsCharBoundary-before text second.start second.end first.end x h.utf8 h.part_utf8 h.second_start h.second_end h.first_end h.apart in
      let wide : length x ≡ first.end - first.start = ap length h.goes ∙ length-between text first.start first.end h.first_end.0 in
      let wide' : length y ≡ second.end - second.start = ap length h.comes ∙ length-between text second.start second.end h.second_end.0 in
      let past = IsCharBoundary-past_replacement text second.start second.end x h.utf8 h.second_order h.second_end in
      subst (λ t. Places t first second y) (sym h.text) (record {
        start = start;
        stop = stop;
        gap = IsCharBoundary-at_removal made first.start first.end utf8 h.first_order stop;
        last = IsCharBoundary-after made first.start first.end (second.start + length x) second.end y utf8 start.0 past (omega arith) (omega arith);
      })

  -- in the end the text is as long as at first
  pub HasRoom-swapped : (r : RoomyLine) → HasRoom old.text r → HasRoom (replace_range mid.text first.start first.end y) r
  HasRoom-swapped r room =
      let text = old.text in
      let wide : length x ≡ first.end - first.start = ap length h.goes ∙ length-between text first.start first.end h.first_end.0 in
      let wide' : length y ≡ second.end - second.start = ap length h.comes ∙ length-between text second.start second.end h.second_end.0 in
      let long = ap length h.text ∙ length-swapped text x second.start second.end h.second_order h.second_end.0 in
      omega (arith, room, wide, wide', long, length-swapped mid.text y first.start first.end h.first_order (omega (arith, long, wide, wide', h.apart, h.second_end.0)))

pub pull_back_plan-is : (line : Line) (front : ℕ) (after : Range ℕ) (x : List ℕ) (stop : ℕ) → x ≡ text_in line after
    → stop ≡ length x + end_of_cluster (remove_range line.text after.start after.end) front
    → pull_back_plan line front after ≡ followed_by (Delete after.start (text_in line after) Forward) after.start (single (InsertStr front x) stop tt)
pull_back_plan-is line front after x stop e f = grind arith

pub exchanged : (line : Line) (front : ℕ) (after : Range ℕ) (x : List ℕ) → x ≡ text_in line after → front ≤ after.start → after.start ≤ length line.text
    → insert_slice (remove_range line.text after.start after.end) front x ≡ exchanged_text line front after
exchanged line front after x e le within =
    let text = line.text in
    let left = remove_range text after.start after.end in
    let front_is : take front left ≡ take front text =
    ap (take front) (removed-is_replaced text after.start after.end) ∙ take-before text after.start after.end front [] within le in
    let to : front + (after.start - front) ≡ after.start = omega arith in
    let middle : drop front (take after.start text) ≡ slice_range text front after.start =
    ap (λ n. drop front (take n text)) (sym to) ∙ drop-take front (after.start - front) text in
    let rest : drop front left ≡ slice_range text front after.start ++ drop after.end text =
    drop-append-le front (take after.start text) (drop after.end text) (omega (arith, length-take-le after.start text within)) ∙ ap (λ l. l ++ drop after.end text) middle in
    ap₂ (λ f r. (f ++ x) ++ r) front_is rest ∙ append_assoc (take front text) x (slice_range text front after.start ++ drop after.end text)
    ∙ ap (λ t. take front text ++ (t ++ (slice_range text front after.start ++ drop after.end text))) e

pub transpose_chars-nothing : (line : Line) → None ≡ option_and_then (clusters_around line.text) (meeting_place line) → transpose_chars_plan line ≡ nothing line false
transpose_chars-nothing line e = ap (pulled_back line) (sym e)

pub transpose-stays : (line : Line) (n : ℕ) (first second : Range ℕ) → first ≡ first_word line n → second ≡ second_word line n → are_two first second ≡ false
    → transpose_words_plan line n ≡ only_move first.end
transpose-stays line n first second e f apart = grind arith

pub ruleset no_transposition = (transpose_chars-nothing, Done-nothing)

pub ruleset pulls = (exchanged, pull_back_plan-is, HasRoom-moved, Done-followed, Done-single, Halted-after, Halted-at_first)

pub ruleset swaps = (HasRoom-swapped, last_steps, swap-front, swap-halves, places, IsCharBoundary-before, some_part, Done-steps, Halted-back, Halted-front, Taken-append)
