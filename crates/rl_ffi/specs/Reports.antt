-- What the calls do that tell what changed in a session's text.
use Rattle.std.specs.Prelude.{◌≡◌, ◌⊎◌, ℕ, ◌<◌, ◌-◌, List, length, min, Option, Some, None, option_map}
use Rattle.std.specs.Option.{option_map_or}
use Rattle.rl_base.specs.declared.reports.Report.{Report}
use Rattle.rl_base.specs.declared.splice.Splice.{Splice}
use Rattle.rl_base.specs.declared.watch.WatchFault.{WatchFault}
use Rattle.rl_base.specs.Reports.{Noted, new_queue, texts_of}
use Rattle.rl_base.specs.Splice.{told, untouched}
use Rattle.rl_base.specs.Watch.{RefusesQueue, next_note, past_next}
use Rattle.rl_session.specs.State.{with_watch}
use Rattle.rl_ffi.specs.Answers.{of_watch_fault}
use Rattle.rl_ffi.specs.Calls.{Effect, EffectOut, Writes}
use Rattle.rl_ffi.specs.Numbers.{kind_number}
use Rattle.rl_ffi.specs.declared.answers.Answer.{Answer}
use Rattle.rl_ffi.specs.declared.answers.Answer.TheVariants.{Done, Nothing}
use Rattle.rl_ffi.specs.declared.shapes.CReport.{CReport}
use Rattle.rl_ffi.specs.declared.shapes.CSplice.{CSplice}

abbrev pub splice_shape : Splice → CSplice
splice_shape s = record { from = s.from; old_to = s.old_end; new_to = s.new_end }

-- what changed is told, and asked about from now on
abbrev pub TakesChange : EffectOut CSplice
TakesChange s n new out out' =
    Writes (option_map splice_shape (told s.pair.watch.changed)) n out out' × (new ≡ with_watch (record s.pair.watch { changed = untouched }) s)

-- reports are kept from now on, or the answer says why they are not
abbrev pub Watches : ℕ → ℕ → Effect
Watches reports bytes s n t =
    ((n ≡ Done) × (0 < reports) × (s.pair.watch.reports ≡ None) × (t ≡ with_watch (record s.pair.watch { reports = Some (new_queue reports bytes) }) s))
    ⊎ ((fault : WatchFault) × RefusesQueue fault reports s.pair.watch × (n ≡ of_watch_fault fault) × (t ≡ s))

-- a report as C gets it, with views of its texts, which stand one after the other: what went, and what came
pub record IsShapeOf (r : Report) (texts : List ℕ) (c : CReport) : Type 0 where
  pub kind : c.kind ≡ kind_number r.kind
  pub at : c.at ≡ r.at
  pub old_len : c.old_len ≡ r.old_len
  pub new_len : c.new_len ≡ r.new_len
  pub pos_before : c.pos_before ≡ option_map_or (λ (p : ℕ × ℕ). p.0) r.cursors 0
  pub pos_after : c.pos_after ≡ option_map_or (λ (p : ℕ × ℕ). p.1) r.cursors 0
  pub old_text : c.old_text.len ≡ min r.old_len (length texts)
  pub new_text : c.new_text.len ≡ length texts - min r.old_len (length texts)

-- a report is told, if there is one; its size is the caller's
abbrev pub TellsReport : Option Report → List ℕ → Answer → CReport → CReport → Type 0
TellsReport None texts n out out' = (n ≡ Nothing) × (out' ≡ out)
TellsReport (Some r) texts n out out' = (n ≡ Done) × (out'.size ≡ out.size) × IsShapeOf r texts out'

-- the oldest report is taken and told, if one waits
abbrev pub TakesReport : EffectOut CReport
TakesReport s n new out out' =
    TellsReport (option_map (λ (r : Noted). r.report) (next_note s.pair.watch)) (texts_of (next_note s.pair.watch)) n out out'
    × (new ≡ with_watch (past_next s.pair.watch) s)
