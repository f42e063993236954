use Rattle.std.proofs.Common.{rules, arith, Bool, true, false, cond, ◌≡◌, ◌≤◌, ◌+◌, ◌-◌, ◌++◌, ℕ, List, [], drop, length, length-append, max, replicate, slice_get, refl, sym, subst, ap, ap₂, ◌∙◌}
use Rattle.std.proofs.lemmas.List.{length-drop, length-replicate}
use Rattle.std.proofs.lemmas.Option.{slice_get_past}
use Rattle.std.specs.Int.{from_bool}
use Rattle.std.specs.List.{concat}
use Rattle.std.specs.Str.{IsUtf8}
use Rattle.unicode_segmentation.specs.Iter.{graphemes_left}
use Rattle.rl_base.specs.Clusters.{bytes_in, clusters}
use Rattle.rl_base.specs.Screen.{after, begins, cells, filled, filled_after, first_column, is_in_line, rows_from}
use Rattle.rl_base.proofs.Clusters.ClusterLemmas.{bytes_in-clusters}
use Rattle.rl_base.proofs.Clusters.RowLemmas.{fill-nothing, fill-past_all, get-past, get-replicated}
use Rattle.rl_base.proofs.screen.Screen.rows_from.Goals as goal

one-above : (b : Bool) → from_bool b ≡ cond b 1 0
one-above true = refl
one-above false = refl

pub loop-cluster-init : goal.loop-cluster-init
loop-cluster-init c =
    let screen = c.args.self.now in
    let text = c.args.text.now in
    let from = c.args.from in
    let within : from ≤ length text = search rules in
    let left : graphemes_left c.into_iter-cluster-iterator.result ≡ clusters (drop from text) =
    ap graphemes_left c.into_iter-cluster-iterator.ensures.into_iter_gives ∙ c.graphemes-cluster-items.ensures.left ∙ ap clusters c.range_from.ensures.value in
    let utf8 : IsUtf8 (drop from text) = subst IsUtf8 c.range_from.ensures.value c.range_from.utf8 in
    let above : c.from-above.result + 0 ≡ cond (is_in_line text from) 1 0 =
    omega (arith, c.from-above.ensures ∙ one-above c.is_in_line.result ∙ ap (λ b. cond b 1 0) c.is_in_line.ensures) in
    let column : c.from-column.result ≡ first_column screen text from = c.from-column.ensures ∙ c.first_column.ensures in
    let all : begins (c.from-above.result + 0) (cells screen from (0, c.from-column.result) (graphemes_left c.into_iter-cluster-iterator.result))
    ≡ rows_from screen text from =
    ap (λ b. begins b (cells screen from (0, c.from-column.result) (graphemes_left c.into_iter-cluster-iterator.result))) above
    ∙ ap₂ (λ (column : ℕ) l. begins (cond (is_in_line text from) 1 0) (cells screen from (0, column) l)) column left in
    record {
      height = search rules;
      column = search rules;
      place = omega (arith, within, ap bytes_in left, bytes_in-clusters (drop from text) utf8, length-drop from text);
      room = omega arith;
      size = refl;
      starts = ap (λ l. filled l c.args.starts.now) all;
      count = omega (arith, ap length all);
      get = λ j.
          let same : j ≡ 0 + j = omega arith in
          ap (λ l. slice_get l j) all ∙ ap (slice_get (rows_from screen text from)) same;
    }

pub returns-then-begun-starts-clause-starts : goal.returns-then-begun-starts-clause-starts
returns-then-begun-starts-clause-starts c =
    let screen = c.args.self.now in
    let place = c.loop-cluster.place in
    let begun = c.loop-cluster.begun in
    let above = c.from-above.result in
    let at : ℕ × ℕ = (c.loop-cluster.row, c.loop-cluster.column) in
    let i = c.loop-cluster.invariant in
    let rest = graphemes_left c.next.new.self in
    let next = place + length c.in-Some.cluster.now in
    let more : ℕ → List ℕ = λ b. begins b (cells screen next (after screen at c.in-Some.cluster.now) rest) in
    let now = c.begin_rows-begun.result in
    let last = c.stands-last.result.0 in
    let count = c.saturating_sub.result in
    let begins_now : above + now ≡ max (above + begun) (last + 1) = omega (arith, c.begin_rows-begun.ensures.begun, c.saturating_sub.ensures) in
    let all : replicate count place ++ more (above + now) ≡ begins (above + begun) (cells screen place at (graphemes_left c.loop-cluster.cluster-iterator)) =
    ap (λ n. replicate n place ++ more (above + now)) c.saturating_sub.ensures ∙ ap (λ b. replicate (last + 1 - (above + begun)) place ++ more b) begins_now
    ∙ ap (λ (w : ℕ × ℕ). replicate (w.0 + 1 - (above + begun)) place ++ more (max (above + begun) (w.0 + 1))) c.stands-last.ensures.cell
    ∙ sym (ap (λ l. begins (above + begun) (cells screen place at l)) c.in-Some.ensures.steps) in
    let new = c.begin_rows-begun.new.starts in
    sym (fill-past_all now (more (above + now)) new (omega (arith, c.if-begun-starts.true))) ∙ c.begin_rows-begun.ensures.starts (more (above + now))
    ∙ ap (λ l. filled_after begun l c.loop-cluster.starts) all ∙ i.starts

pub returns-then-begun-starts-clause-count : goal.returns-then-begun-starts-clause-count
returns-then-begun-starts-clause-count c =
    let screen = c.args.self.now in
    let place = c.loop-cluster.place in
    let begun = c.loop-cluster.begun in
    let above = c.from-above.result in
    let at : ℕ × ℕ = (c.loop-cluster.row, c.loop-cluster.column) in
    let i = c.loop-cluster.invariant in
    let rest = graphemes_left c.next.new.self in
    let next = place + length c.in-Some.cluster.now in
    let more : ℕ → List ℕ = λ b. begins b (cells screen next (after screen at c.in-Some.cluster.now) rest) in
    let now = c.begin_rows-begun.result in
    let last = c.stands-last.result.0 in
    let count = c.saturating_sub.result in
    let begins_now : above + now ≡ max (above + begun) (last + 1) = omega (arith, c.begin_rows-begun.ensures.begun, c.saturating_sub.ensures) in
    let all : replicate count place ++ more (above + now) ≡ begins (above + begun) (cells screen place at (graphemes_left c.loop-cluster.cluster-iterator)) =
    ap (λ n. replicate n place ++ more (above + now)) c.saturating_sub.ensures ∙ ap (λ b. replicate (last + 1 - (above + begun)) place ++ more b) begins_now
    ∙ ap (λ (w : ℕ × ℕ). replicate (w.0 + 1 - (above + begun)) place ++ more (max (above + begun) (w.0 + 1))) c.stands-last.ensures.cell
    ∙ sym (ap (λ l. begins (above + begun) (cells screen place at l)) c.in-Some.ensures.steps) in
    omega (
      arith,
      ap length all,
      length-append (replicate count place) (more (above + now)),
      length-replicate count place,
      c.begin_rows-begun.ensures.begun,
      c.begin_rows-begun.ensures.length,
      i.count,
      i.size,
      c.if-begun-starts.true,
    )

pub returns-then-begun-starts-clause-next : goal.returns-then-begun-starts-clause-next
returns-then-begun-starts-clause-next c =
    let screen = c.args.self.now in
    let place = c.loop-cluster.place in
    let begun = c.loop-cluster.begun in
    let above = c.from-above.result in
    let at : ℕ × ℕ = (c.loop-cluster.row, c.loop-cluster.column) in
    let i = c.loop-cluster.invariant in
    let rest = graphemes_left c.next.new.self in
    let next = place + length c.in-Some.cluster.now in
    let more : ℕ → List ℕ = λ b. begins b (cells screen next (after screen at c.in-Some.cluster.now) rest) in
    let now = c.begin_rows-begun.result in
    let last = c.stands-last.result.0 in
    let count = c.saturating_sub.result in
    let begins_now : above + now ≡ max (above + begun) (last + 1) = omega (arith, c.begin_rows-begun.ensures.begun, c.saturating_sub.ensures) in
    let all : replicate count place ++ more (above + now) ≡ begins (above + begun) (cells screen place at (graphemes_left c.loop-cluster.cluster-iterator)) =
    ap (λ n. replicate n place ++ more (above + now)) c.saturating_sub.ensures ∙ ap (λ b. replicate (last + 1 - (above + begun)) place ++ more b) begins_now
    ∙ ap (λ (w : ℕ × ℕ). replicate (w.0 + 1 - (above + begun)) place ++ more (max (above + begun) (w.0 + 1))) c.stands-last.ensures.cell
    ∙ sym (ap (λ l. begins (above + begun) (cells screen place at l)) c.in-Some.ensures.steps) in
    let j = length c.args.starts.now - begun in
    let here : begun + j ≡ length c.args.starts.now = omega (arith, i.room, i.size) in
    sym (get-replicated count j place (more (above + now)) (omega (arith, i.room, i.size, c.begin_rows-begun.ensures.begun, c.begin_rows-begun.ensures.length, c.if-begun-starts.true)))
    ∙ ap (λ l. slice_get l j) all ∙ i.get j ∙ ap (slice_get (rows_from screen c.args.text.now c.args.from)) here

pub loop-cluster-preserved : goal.loop-cluster-preserved
loop-cluster-preserved c =
    let screen = c.args.self.now in
    let place = c.loop-cluster.place in
    let begun = c.loop-cluster.begun in
    let above = c.from-above.result in
    let at : ℕ × ℕ = (c.loop-cluster.row, c.loop-cluster.column) in
    let i = c.loop-cluster.invariant in
    let rest = graphemes_left c.next.new.self in
    let next = place + length c.in-Some.cluster.now in
    let more : ℕ → List ℕ = λ b. begins b (cells screen next (after screen at c.in-Some.cluster.now) rest) in
    let now = c.begin_rows-begun.result in
    let last = c.stands-last.result.0 in
    let count = c.saturating_sub.result in
    let begins_now : above + now ≡ max (above + begun) (last + 1) = omega (arith, c.begin_rows-begun.ensures.begun, c.saturating_sub.ensures) in
    let all : replicate count place ++ more (above + now) ≡ begins (above + begun) (cells screen place at (graphemes_left c.loop-cluster.cluster-iterator)) =
    ap (λ n. replicate n place ++ more (above + now)) c.saturating_sub.ensures ∙ ap (λ b. replicate (last + 1 - (above + begun)) place ++ more b) begins_now
    ∙ ap (λ (w : ℕ × ℕ). replicate (w.0 + 1 - (above + begun)) place ++ more (max (above + begun) (w.0 + 1))) c.stands-last.ensures.cell
    ∙ sym (ap (λ l. begins (above + begun) (cells screen place at l)) c.in-Some.ensures.steps) in
    let new = c.begin_rows-begun.new.starts in
    let to : begins (above + now) (cells screen next c.after.result rest) ≡ more (above + now) = ap (λ to. begins (above + now) (cells screen next to rest)) c.after.ensures.place in
    record {
      height = search rules;
      column = search rules;
      place = omega (arith, i.place, ap bytes_in c.in-Some.ensures.steps, length-append c.in-Some.cluster.now (concat rest));
      room = omega (arith, c.if-begun-starts.false);
      size = c.begin_rows-begun.ensures.length ∙ i.size;
      starts =
          ap (λ l. filled_after now l new) to ∙ c.begin_rows-begun.ensures.starts (more (above + now))
          ∙ ap (λ l. filled_after begun l c.loop-cluster.starts) all ∙ i.starts;
      count = omega (
        arith,
        ap length to,
        ap length all,
        length-append (replicate count place) (more (above + now)),
        length-replicate count place,
        c.begin_rows-begun.ensures.begun,
        i.count,
      );
      get = λ j.
          let here : begun + (count + j) ≡ now + j = omega (arith, c.begin_rows-begun.ensures.begun) in
          ap (λ l. slice_get l j) to ∙ sym (get-past count j (count + j) place (more (above + now)) (omega arith))
          ∙ ap (λ l. slice_get l (count + j)) all ∙ i.get (count + j) ∙ ap (slice_get (rows_from screen c.args.text.now c.args.from)) here;
    }

pub returns-then-begun-starts-2-clause-starts : goal.returns-then-begun-starts-2-clause-starts
returns-then-begun-starts-2-clause-starts c =
    let screen = c.args.self.now in
    let place = c.loop-cluster.place in
    let begun = c.loop-cluster.begun in
    let above = c.from-above.result in
    let at : ℕ × ℕ = (c.loop-cluster.row, c.loop-cluster.column) in
    let i = c.loop-cluster.invariant in
    let now = c.begin_rows-begun-2.result in
    let last = c.wrapped-last.result.0 in
    let count = c.saturating_sub-2.result in
    let all : replicate count place ++ [] ≡ begins (above + begun) (cells screen place at (graphemes_left c.loop-cluster.cluster-iterator)) =
    ap (λ n. replicate n place ++ []) c.saturating_sub-2.ensures
    ∙ ap (λ (w : ℕ × ℕ). replicate (w.0 + 1 - (above + begun)) place ++ []) c.wrapped-last.ensures.cell
    ∙ sym (ap (λ l. begins (above + begun) (cells screen place at l)) c.in-None.ensures.steps.0) in
    let new = c.begin_rows-begun-2.new.starts in
    sym (fill-past_all now ([]) new (omega (arith, c.if-begun-starts-2.true))) ∙ c.begin_rows-begun-2.ensures.starts ([])
    ∙ ap (λ l. filled_after begun l c.loop-cluster.starts) all ∙ i.starts

pub returns-then-begun-starts-2-clause-count : goal.returns-then-begun-starts-2-clause-count
returns-then-begun-starts-2-clause-count c =
    let screen = c.args.self.now in
    let place = c.loop-cluster.place in
    let begun = c.loop-cluster.begun in
    let above = c.from-above.result in
    let at : ℕ × ℕ = (c.loop-cluster.row, c.loop-cluster.column) in
    let i = c.loop-cluster.invariant in
    let now = c.begin_rows-begun-2.result in
    let last = c.wrapped-last.result.0 in
    let count = c.saturating_sub-2.result in
    let all : replicate count place ++ [] ≡ begins (above + begun) (cells screen place at (graphemes_left c.loop-cluster.cluster-iterator)) =
    ap (λ n. replicate n place ++ []) c.saturating_sub-2.ensures
    ∙ ap (λ (w : ℕ × ℕ). replicate (w.0 + 1 - (above + begun)) place ++ []) c.wrapped-last.ensures.cell
    ∙ sym (ap (λ l. begins (above + begun) (cells screen place at l)) c.in-None.ensures.steps.0) in
    omega (
      arith,
      ap length all,
      length-append (replicate count place) ([]),
      length-replicate count place,
      c.begin_rows-begun-2.ensures.begun,
      c.begin_rows-begun-2.ensures.length,
      i.count,
      i.size,
      c.if-begun-starts-2.true,
    )

pub returns-then-begun-starts-2-clause-next : goal.returns-then-begun-starts-2-clause-next
returns-then-begun-starts-2-clause-next c =
    let screen = c.args.self.now in
    let place = c.loop-cluster.place in
    let begun = c.loop-cluster.begun in
    let above = c.from-above.result in
    let at : ℕ × ℕ = (c.loop-cluster.row, c.loop-cluster.column) in
    let i = c.loop-cluster.invariant in
    let now = c.begin_rows-begun-2.result in
    let last = c.wrapped-last.result.0 in
    let count = c.saturating_sub-2.result in
    let all : replicate count place ++ [] ≡ begins (above + begun) (cells screen place at (graphemes_left c.loop-cluster.cluster-iterator)) =
    ap (λ n. replicate n place ++ []) c.saturating_sub-2.ensures
    ∙ ap (λ (w : ℕ × ℕ). replicate (w.0 + 1 - (above + begun)) place ++ []) c.wrapped-last.ensures.cell
    ∙ sym (ap (λ l. begins (above + begun) (cells screen place at l)) c.in-None.ensures.steps.0) in
    let j = length c.args.starts.now - begun in
    let here : begun + j ≡ length c.args.starts.now = omega (arith, i.room, i.size) in
    sym (get-replicated count j place ([]) (omega (arith, i.room, i.size, c.begin_rows-begun-2.ensures.begun, c.begin_rows-begun-2.ensures.length, c.if-begun-starts-2.true)))
    ∙ ap (λ l. slice_get l j) all ∙ i.get j ∙ ap (slice_get (rows_from screen c.args.text.now c.args.from)) here

pub returns-clause-starts : goal.returns-clause-starts
returns-clause-starts c =
    let screen = c.args.self.now in
    let place = c.loop-cluster.place in
    let begun = c.loop-cluster.begun in
    let above = c.from-above.result in
    let at : ℕ × ℕ = (c.loop-cluster.row, c.loop-cluster.column) in
    let i = c.loop-cluster.invariant in
    let now = c.begin_rows-begun-2.result in
    let last = c.wrapped-last.result.0 in
    let count = c.saturating_sub-2.result in
    let all : replicate count place ++ [] ≡ begins (above + begun) (cells screen place at (graphemes_left c.loop-cluster.cluster-iterator)) =
    ap (λ n. replicate n place ++ []) c.saturating_sub-2.ensures
    ∙ ap (λ (w : ℕ × ℕ). replicate (w.0 + 1 - (above + begun)) place ++ []) c.wrapped-last.ensures.cell
    ∙ sym (ap (λ l. begins (above + begun) (cells screen place at l)) c.in-None.ensures.steps.0) in
    sym (fill-nothing now c.begin_rows-begun-2.new.starts) ∙ c.begin_rows-begun-2.ensures.starts []
    ∙ ap (λ l. filled_after begun l c.loop-cluster.starts) all ∙ i.starts

pub returns-clause-count : goal.returns-clause-count
returns-clause-count c =
    let screen = c.args.self.now in
    let place = c.loop-cluster.place in
    let begun = c.loop-cluster.begun in
    let above = c.from-above.result in
    let at : ℕ × ℕ = (c.loop-cluster.row, c.loop-cluster.column) in
    let i = c.loop-cluster.invariant in
    let now = c.begin_rows-begun-2.result in
    let last = c.wrapped-last.result.0 in
    let count = c.saturating_sub-2.result in
    let all : replicate count place ++ [] ≡ begins (above + begun) (cells screen place at (graphemes_left c.loop-cluster.cluster-iterator)) =
    ap (λ n. replicate n place ++ []) c.saturating_sub-2.ensures
    ∙ ap (λ (w : ℕ × ℕ). replicate (w.0 + 1 - (above + begun)) place ++ []) c.wrapped-last.ensures.cell
    ∙ sym (ap (λ l. begins (above + begun) (cells screen place at l)) c.in-None.ensures.steps.0) in
    omega (
      arith,
      ap length all,
      length-append (replicate count place) [],
      length-replicate count place,
      c.begin_rows-begun-2.ensures.begun,
      c.begin_rows-begun-2.ensures.length,
      i.count,
      i.size,
      c.if-begun-starts-2.false,
    )

pub returns-clause-next : goal.returns-clause-next
returns-clause-next c =
    let screen = c.args.self.now in
    let place = c.loop-cluster.place in
    let begun = c.loop-cluster.begun in
    let above = c.from-above.result in
    let at : ℕ × ℕ = (c.loop-cluster.row, c.loop-cluster.column) in
    let i = c.loop-cluster.invariant in
    let now = c.begin_rows-begun-2.result in
    let last = c.wrapped-last.result.0 in
    let count = c.saturating_sub-2.result in
    let all : replicate count place ++ [] ≡ begins (above + begun) (cells screen place at (graphemes_left c.loop-cluster.cluster-iterator)) =
    ap (λ n. replicate n place ++ []) c.saturating_sub-2.ensures
    ∙ ap (λ (w : ℕ × ℕ). replicate (w.0 + 1 - (above + begun)) place ++ []) c.wrapped-last.ensures.cell
    ∙ sym (ap (λ l. begins (above + begun) (cells screen place at l)) c.in-None.ensures.steps.0) in
    sym (slice_get_past (rows_from screen c.args.text.now c.args.from) (length c.args.starts.now)
    (omega (
      arith,
      ap length all,
      length-append (replicate count place) [],
      length-replicate count place,
      c.begin_rows-begun-2.ensures.begun,
      c.begin_rows-begun-2.ensures.length,
      i.count,
      i.size,
      c.if-begun-starts-2.false,
    )))
