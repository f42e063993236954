-- What opening a session does, choosing its options, and beginning anew in it.
use Rattle.std.specs.Prelude.{◌≡◌, ◌<◌, ◌≤◌, ◌⊎◌, ℕ, List, length, Option, Some, Result, Ok, Err}
use Rattle.rl_base.specs.declared.kill_ring.NewKill.TheVariants.{AfterNewest}
use Rattle.rl_base.specs.declared.layout.GraphemeClusterMode.{GraphemeClusterMode}
use Rattle.rl_session.specs.Forgetting.{within_bound}
use Rattle.rl_session.specs.State.{OpensWithin, RefusesRestart, State, restarted, set_to}
use Rattle.rl_session.specs.declared.session.Fault.{Fault}
use Rattle.rl_session.specs.declared.settings.Settings.{Settings}
use Rattle.rl_ffi.specs.Answers.{of_fault}
use Rattle.rl_ffi.specs.Calls.{Effect, Tale, leaves, of_bytes, of_text, refuses, where_named}
use Rattle.rl_ffi.specs.Numbers.{mode_number, mode_of, unit_of}
use Rattle.rl_ffi.specs.declared.answers.Answer.{Answer}
use Rattle.rl_ffi.specs.declared.answers.Answer.TheVariants.{Done, NoMemory, NoRoom}
use Rattle.rl_ffi.specs.declared.shapes.COptions.{COptions}

-- a session takes the place of what the handle held, or memory is out
abbrev pub Opens : State → Tale (Option State)
Opens s n old new = ((n ≡ Done) × (new ≡ Some s)) ⊎ refuses NoMemory n old new

-- all that C chooses; new kills go after the newest text of the ring
abbrev pub settings_by : COptions → Result GraphemeClusterMode Answer → Result ℕ Answer → Result Settings Answer
settings_by o (Err why) prompt = Err why
settings_by o (Ok mode) (Err why) = Err why
settings_by o (Ok mode) (Ok prompt) =
    Ok (record {
      limit = o.limit;
      ring_size = o.ring_size;
      new_kill = AfterNewest;
      options = record {
        mode = mode;
        prompt = prompt;
        bound = record { entries = o.max_entries; bytes = o.max_bytes; ring_bytes = o.max_ring_bytes };
        keeps = o.keep_undone;
      };
    })

abbrev pub settings_of : COptions → Result Settings Answer
settings_of o = settings_by o (mode_of o.mode) (unit_of o.prompt)

-- what making a session gave takes the place of what the handle held, or the answer says why there is none
abbrev pub made : Result State Fault → Tale (Option State)
made (Ok session) = Opens session
made (Err why) = refuses (of_fault why)

-- a new session on a text, with the cursor at its end
abbrev pub OpensSession : COptions → List ℕ → Tale (Option State)
OpensSession o text = where_named (settings_of o) (λ (chosen : Settings). of_bytes text (λ n old new.
    (opened : Result State Fault) × OpensWithin text (length text) chosen opened × made opened n old new))

-- all is chosen, unless the text is longer than the limit. No abbreviation, so that it is one fact for the search
unfoldable pub chooses : Settings → Effect
chooses settings s n new =
    ((length s.line.text ≤ settings.limit) × (n ≡ Done) × (new ≡ within_bound (set_to settings s)))
    ⊎ ((settings.limit < length s.line.text) × leaves NoRoom s n new)

-- the options of a session as C gets them
abbrev pub options_shape : ℕ → State → COptions
options_shape size s =
    record {
      size = size;
      limit = s.line.limit;
      max_entries = s.options.bound.entries;
      max_bytes = s.options.bound.bytes;
      ring_size = s.pair.ring.size;
      max_ring_bytes = s.options.bound.ring_bytes;
      prompt = s.options.prompt;
      mode = mode_number s.options.mode;
      keep_undone = s.options.keeps;
    }

-- a session begins anew, or the answer says why not
abbrev pub restarts : List ℕ → Effect
restarts text = of_text text (λ s n new.
    ((n ≡ Done) × (length text ≤ s.line.limit) × (new ≡ restarted text (length text) s))
    ⊎ ((fault : Fault) × RefusesRestart fault text (length text) s × leaves (of_fault fault) s n new))
