-- A save point, which no performed command leaves with other changes before it.
use Rattle.rl_session.proofs.Common.{◌≡◌, ◌++◌, ◌∷◌, ◌∙◌, [], List, true, false, Bool, ℕ, cond_both, refl, sym, ap, subst, same_Some, inl, inr, no_bound, Entry, Command, Reply, Row, State, Holds, Leads, held_of}
use Rattle.rl_line.specs.Entry.{changes_of}
use Rattle.rl_record.specs.Record.{StaysSaved, is_saved, parted}
use Rattle.rl_record.specs.Units.{still_waiting, unit_start}
use Rattle.rl_record.specs.declared.joining.Freshness.TheVariants.{Parted}
use Rattle.rl_record.specs.declared.changeset.groups.UnitStart.{UnitStart}
use Rattle.rl_record.proofs.Records.SavePointLemmas.{saved-marked, saved-parted, saved-replays, saved-waiting}
use Rattle.rl_record.proofs.Records.UnitingLemmas.{saved-united}
use Rattle.rl_record.proofs.Records.WaitingLemmas.{changes-moved}
use Rattle.rl_session.specs.Commands.{with_changes}
use Rattle.rl_session.specs.History.{History}
use Rattle.rl_session.specs.Performing.{Calls, Carried, Obeyed, Unites, asks_to_keep, call, carried, is_one_unit, keeping, leaves_waiting, no_call, put_in, set_apart, counted_as}
use Rattle.rl_session.specs.State.{saved_now}
use Rattle.rl_session.specs.declared.options.Options.{Options}
use Rattle.rl_session.proofs.Runs.CallGroupLemmas.{ends-made}
use Rattle.rl_session.proofs.Runs.CallLemmas.{Obeyed-options, keeping-Leads}
use Rattle.rl_session.proofs.Runs.HistoryLemmas.{Holds-Leads, Saved-Leads}
use Rattle.rl_session.proofs.Runs.PlaceLemmas.{History-fresh, History-united, History-waiting}
use Rattle.rl_session.proofs.Sessions.PerformLemmas.{united-same}
use Rattle.rl_session.proofs.Sessions.WaitingLemmas.{empty-mark, leaves, leaves-left, mark-single}

-- what a performed command keeps, if nothing is forgotten: the history, and the changes before the point
record Comes (start : List ℕ) (cs : List Entry) (s : State) : Type 0 where
  texts : List (List ℕ)
  holds : Holds start texts s
  stays : StaysSaved cs s.pair.changes

Comes-Leads : (start : List ℕ) (cs : List Entry) (rows : List Row) (old new : State) → Leads old rows new → Comes start cs old → Comes start cs new
Comes-Leads start cs rows old new l c = record {
  texts = c.texts ++ held_of rows;
  holds = Holds-Leads start rows c.texts old new c.holds l;
  stays = Saved-Leads cs rows old new c.stays l;
}

Comes-apart : (start : List ℕ) (cs : List Entry) (s : State) (command : Command) → Comes start cs s → Comes start cs (set_apart s command)
Comes-apart start cs s command c =
    cond_both (is_one_unit command) (with_changes (parted s.pair.changes) s) s (Comes start cs)
    (λ _. record { texts = c.texts; holds = History-fresh start c.texts s.line.text s.pair.changes Parted c.holds; stays = saved-parted cs s.pair.changes c.stays }) (λ _. c)

Comes-united : (start : List ℕ) (cs : List Entry) (one : Bool) (begin : UnitStart) (left made : State) → Unites one begin left made → Comes start cs left → Comes start cs made
Comes-united start cs false begin left made u c = subst (Comes start cs) (sym u) c
Comes-united start cs true begin left made (inl u) c =
    subst (Comes start cs) (sym u) (record {
      texts = c.texts;
      holds = History-united start c.texts left.line.text left.pair.changes begin c.holds;
      stays = saved-united cs begin left.pair.changes c.stays;
    })
Comes-united start cs true begin left made (inr u) c = subst (Comes start cs) (sym u.1) c

Comes-made : (start : List ℕ) (cs : List Entry) (old new : State) (command : Command) (reply : Reply) (done : Carried old command reply new) → Comes start cs old → Comes start cs done.made
Comes-made start cs old new command reply done c =
    let asked = asks_to_keep old command in
    let one = is_one_unit command in
    let begin = unit_start (put_in done.kept command) done.kept.pair.changes in
    let r = old.pair.changes in
    let now = done.left.pair.changes.recorded in
    let kept = Comes-Leads start cs (keeping asked old done.keeps.0 done.kept done.keeps.1) old done.kept (keeping-Leads asked old done.keeps.0 done.kept done.keeps.1) c in
    let row : Row = record { before = set_apart done.kept command; command = carried old command; reply = reply; after = done.left; step = done.step } in
    let left = Comes-Leads start cs (row ∷ []) row.before done.left (refl, refl) (Comes-apart start cs done.kept command kept) in
    cond_both (leaves_waiting old command) (with_changes (still_waiting now r) done.left) done.left (λ s. Unites one begin s done.made → Comes start cs done.made)
    (λ e u.
    let m = leaves-left old done.kept done.left command reply e done.keeps done.step in
    let h = History-waiting start c.texts old.line.text r now m.marks left.holds.matched.recorded c.holds in
    subst (Comes start cs) (sym (united-same one _ _ done.made (mark-single command (empty-mark command r.recorded (leaves old command e).empty)) u))
    (record { texts = c.texts; holds = subst (λ t. History start c.texts t (still_waiting now r)) (sym m.text_is) h; stays = saved-waiting cs now r (changes-moved r.recorded now m.marks) c.stays }))
    (λ e u. Comes-united start cs one begin done.left done.made u left)
    done.unites

Comes-Obeyed : (start : List ℕ) (cs : List Entry) (old new : State) (command : Command) (reply : Reply) → Obeyed old command reply new → old.options.bound ≡ no_bound → Comes start cs old → Comes start cs new
Comes-Obeyed start cs old new command reply (inl stopped) free c = subst (Comes start cs) (sym stopped.1) c
Comes-Obeyed start cs old new command reply (inr (inl unkept)) free c =
    let asked = asks_to_keep old command in Comes-Leads start cs (keeping asked old reply new unkept.2) old new (keeping-Leads asked old reply new unkept.2) c
Comes-Obeyed start cs old new command reply (inr (inr done)) free c =
    let is = ends-made old new command reply (inr (inr done)) free done.made done.forgets.is (sym (ap (λ (s : State). s.options) done.forgets.is)) in
    subst (Comes start cs) (sym is) (Comes-made start cs old new command reply done c)

Comes-Calls : (start : List ℕ) (cs : List Entry) (old new : State) (calls : Calls old new) → old.options.bound ≡ no_bound → Comes start cs old → Comes start cs new
Comes-Calls start cs old new no_call free c = c
Comes-Calls start cs old new (call {mid = mid} command reply p calls) free c =
    let does = counted_as old command in
    Comes-Calls start cs mid new calls (ap (λ (o : Options). o.bound) (Obeyed-options old mid does reply p) ∙ free) (Comes-Obeyed start cs old mid does reply p free c)

pub saved-performed : (start : List ℕ) (held : List (List ℕ)) (old new : State) (calls : Calls (saved_now old) new) → Holds start held old → old.options.bound ≡ no_bound
    → is_saved new.pair.changes ≡ true → new.line.text ≡ old.line.text
saved-performed start held old new calls h free at =
    let r = old.pair.changes in
    let marked : Holds start held (saved_now old) = record { is_text = h.is_text; leads = h.leads; placed = h.placed; matched = record { recorded = h.matched.recorded; pending = h.matched.pending } } in
    let c = Comes-Calls start (changes_of r.recorded) (saved_now old) new calls free (record { texts = held; holds = marked; stays = inr (saved-marked r) }) in
    same_Some _ _ (sym c.holds.leads ∙ saved-replays r.recorded new.pair.changes start c.stays at ∙ h.leads)
