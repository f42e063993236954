use Rattle.rl_line.proofs.Common.{InsertStr, IsCharBoundary, IsCharBoundary-from_ascii, Line, List, Step, Taken, [], ap, append-nil, append_assoc, arith, err_from_is_err_and, insert_slice, length, min, parts, pushed, put_spaces, refl, rules, spaces, subst, sym, ℕ, ◌++◌, ◌-◌, ◌<◌, ◌∙◌, ◌∷◌, ◌≡◌}
use Rattle.rl_base.proofs.Clusters.ClusterLemmas.{slice_range-front}
use Rattle.rl_base.proofs.Texts.TextLemmas.{IsCharBoundary-before}
use Rattle.rl_line.proofs.Lines.RoomyLemmas.{HasRoom-inserted, length-inserted}
use Rattle.rl_line.proofs.Plans.IndentLemmas.{IsAscii-spaces, IsCharBoundary-pushed, length-spaces, pushed-none, pushed-pushed, put_spaces-next, take-spaces}
use Rattle.rl_line.proofs.Plans.PlanLemmas.{Halted-after, Taken-append, Taken-nil}
use Rattle.rl_line.proofs.gapped.Gapped.put_spaces.Given.{Over}
use Rattle.rl_line.proofs.gapped.Gapped.put_spaces.Goals.{After-range-part}
use Rattle.rl_line.proofs.gapped.Gapped.put_spaces.Goals as goal

pub range-part-requires-clause-end_boundary : goal.range-part-requires-clause-end_boundary
range-part-requires-clause-end_boundary g c = IsCharBoundary-from_ascii (spaces 32) c.min.result (IsAscii-spaces 32) (search rules)

pub loop-left-init : goal.loop-left-init
loop-left-init g c = record {
  done = [];
  taken = Taken-nil _ _ _;
  steps = ap (λ n. put_spaces (parts n) c.args.at c.args.self.now.roomy.line.cursor) (sym c.from-left.ensures);
  cursor = ap (λ n. pushed c.args.at n c.args.self.now.roomy.line.cursor) c.from-left.ensures;
  start = c.requires.place;
  within = omega (arith, c.from-left.ensures);
  len = omega (arith, c.from-left.ensures);
  gap = omega (arith, c.requires.gap);
  bytes = refl;
}

-- the part that goes in
spaced : (g : Over) (c : After-range-part g) → 0 < c.loop-left.left → c.range-part.result.now ≡ spaces (min c.loop-left.left 32)
spaced g c more = c.range-part.ensures.value ∙ slice_range-front c.min.result (spaces 32) ∙ take-spaces c.min.result 32 (search rules) ∙ ap spaces (search rules)

pub insertion_step-requires-clause-place : goal.insertion_step-requires-clause-place
insertion_step-requires-clause-place g c = c.loop-left.invariant.start

pub insertion_step-requires-clause-cursor : goal.insertion_step-requires-clause-cursor
insertion_step-requires-clause-cursor g c =
    let text = c.loop-left.self.roomy.line.text in
    let part = c.range-part.result.now in
    subst (IsCharBoundary (insert_slice text c.args.at part)) (sym c.pushed-cursor.ensures)
    (IsCharBoundary-pushed text c.args.at c.pos.result part c.pos.ensures.utf8 c.range-part.utf8 c.loop-left.invariant.start c.pos.ensures.boundary)

pub insertion_step-requires-clause-room : goal.insertion_step-requires-clause-room
insertion_step-requires-clause-room g c =
    let d = (goal.at.insertion_step-requires-clause-room g c).After-range-part in
    let len = ap length (spaced g d c.loop-left-test.true) ∙ length-spaces (min c.loop-left.left 32) in
    HasRoom-inserted c.loop-left.self.roomy.line.text c.range-part.result.now c.args.at c.loop-left.self.roomy
    (omega (arith, len, c.loop-left.invariant.len, c.loop-left.invariant.bytes, c.requires.room))

pub returns-in_err-insertion_step-clause-steps : goal.returns-in_err-insertion_step-clause-steps
returns-in_err-insertion_step-clause-steps g c =
    let p = err_from_is_err_and c.from_residual.result c.from_residual.ensures.1 in
    let i = c.args.at in
    let part = c.range-part.result.now in
    let left = c.loop-left.left in
    let is = spaced g (goal.at.returns-in_err-insertion_step-clause-steps g c).After-range-part c.loop-left-test.true in
    let next = put_spaces-next left i c.loop-left.self.roomy.line.cursor c.pushed-cursor.result part (search rules) is (c.pushed-cursor.ensures ∙ ap (pushed i (length part)) c.pos.ensures.place) in
    rw (p.1, p.2) (Halted-after _ _ _ _ _ _ _ _ _ _ _ _ _ c.in_err-insertion_step.ensures.step.cause c.in_err-insertion_step.ensures.step.kept c.loop-left.invariant.taken
    (c.loop-left.invariant.steps ∙ ap (λ ss. c.loop-left.invariant.done ++ ss) next))

pub returns-in_err-insertion_step-clause-bytes : goal.returns-in_err-insertion_step-clause-bytes
returns-in_err-insertion_step-clause-bytes g c = c.insertion_step.ensures.bytes ∙ c.loop-left.invariant.bytes

pub loop-left-preserved : goal.loop-left-preserved
loop-left-preserved g c =
    let i = c.args.at in
    let part = c.range-part.result.now in
    let left = c.loop-left.left in
    let is = spaced g (goal.at.loop-left-preserved g c).After-range-part c.loop-left-test.true in
    let now = c.loop-left.self.roomy.line in
    let next = put_spaces-next left i now.cursor c.pushed-cursor.result part (search rules) is (c.pushed-cursor.ensures ∙ ap (pushed i (length part)) c.pos.ensures.place) in
    let inv = c.loop-left.invariant in
    let new = c.in_ok-insertion_step.ensures.line in
    let text : c.insertion_step.new.self.roomy.line.text ≡ insert_slice now.text i part = ap (λ (l : Line). l.text) new in
    let at : c.insertion_step.new.self.roomy.line.cursor ≡ c.pushed-cursor.result = ap (λ (l : Line). l.cursor) new in
    let len : length part ≡ min left 32 = ap length is ∙ length-spaces (min left 32) in
    let rest = put_spaces (parts (left - length part)) i c.pushed-cursor.result in
    record {
      done = inv.done ++ (InsertStr i part, c.pushed-cursor.result) ∷ [];
      taken = Taken-append _ _ _ _ _ _ _ _ _ inv.taken c.in_ok-insertion_step.ensures.step.taken;
      steps = inv.steps ∙ ap (λ ss. inv.done ++ ss) next ∙ sym (append_assoc inv.done ((InsertStr i part, c.pushed-cursor.result) ∷ []) rest)
          ∙ ap (λ (k : ℕ). (inv.done ++ (InsertStr i part, c.pushed-cursor.result) ∷ []) ++ put_spaces (parts (left - length part)) i k) (sym at);
      cursor = ap (pushed i (left - length part)) (at ∙ c.pushed-cursor.ensures ∙ ap (pushed i (length part)) c.pos.ensures.place) ∙ pushed-pushed i (length part) (left - length part) now.cursor
          ∙ ap (λ (n : ℕ). pushed i n now.cursor) (omega (arith, len)) ∙ inv.cursor;
      start = subst (λ (t : List ℕ). IsCharBoundary t i) (sym text) (IsCharBoundary-before now.text i i i part c.pos.ensures.utf8 c.range-part.utf8 inv.start inv.start inv.start (omega arith));
      within = omega (arith, inv.within);
      len = omega (arith, ap length text, length-inserted now.text part i, len, inv.len);
      gap = omega (arith, c.in_ok-insertion_step.ensures.gap, len, inv.within);
      bytes = c.insertion_step.ensures.bytes ∙ inv.bytes;
    }

pub returns-clause-steps : goal.returns-clause-steps
returns-clause-steps g c =
    let inv = c.loop-left.invariant in
    let none : c.loop-left.left ≡ 0 = omega arith in
    let now = c.loop-left.self.roomy.line in
    let all : inv.done ++ put_spaces (parts c.loop-left.left) c.args.at now.cursor ≡ inv.done =
    ap (λ (n : ℕ). inv.done ++ put_spaces (parts n) c.args.at now.cursor) none ∙ append-nil inv.done in
    record {
      taken = subst (λ (ss : List Step). Taken g.L.DeleteListener.step ss c.args.self.now.roomy.line now c.args.listener.now c.loop-left.listener) (sym (inv.steps ∙ all)) inv.taken;
      cursor = sym (pushed-none c.args.at now.cursor) ∙ ap (λ (n : ℕ). pushed c.args.at n now.cursor) (sym none) ∙ inv.cursor;
    }
