-- Reports in order, with their texts one after another in one text.
use Rattle.std.specs.Prelude.{◌≡◌, ℕ, ◌+◌, ◌<◌, ◌≤◌, ◌==◌, List, [], ◌∷◌, String, length, take, drop, if◌then◌else◌}
use Rattle.std.specs.Str.{IsUtf8}
use Rattle.rl_base.specs.declared.reports.Report.{Report}
use Rattle.std.specs.String.{string_bytes, string_capacity}
use Rattle.rl_base.specs.declared.listeners.Refusal.{Refusal}
use Rattle.rl_base.specs.declared.listeners.Refusal.TheVariants.{NoMemory}
use Rattle.rl_base.specs.Reports.{Noted, kept, text_bytes}

-- what waits, the oldest first; the texts of the report that was taken last, until there is another; how many bytes of texts
-- may wait, of which none are kept if that is 0; and for how many reports and bytes of texts there is memory
pub record Notes : Type 0 where
  pub text_room : ℕ
  pub waiting : List Noted
  pub taken : List ℕ
  pub places : ℕ
  pub bytes : ℕ

-- there is as much room as before, or more
pub record KeepsRoom (old new : Notes) : Type 0 where
  pub text_room : new.text_room ≡ old.text_room
  pub places : old.places ≤ new.places
  pub bytes : old.bytes ≤ new.bytes

-- texts are kept, and there is no memory for them after those that wait and as many that are spent
abbrev pub Lacks : List ℕ → Notes → Type 0
Lacks texts n =
    (0 < length (kept n.text_room texts)) × (n.bytes < text_bytes n.waiting + text_bytes n.waiting + length (kept n.text_room texts))

-- texts were not kept after others: memory is out for them, and the others are as they were
abbrev pub NotKept : {Z : Type 0} → ℕ → List ℕ → String Z → String Z → Refusal → Type 0
NotKept text_room texts old new why =
    (why ≡ NoMemory) × (string_bytes new ≡ string_bytes old) × (string_capacity old < length (string_bytes old) + length (kept text_room texts))

-- how many bytes of texts are kept of a report
abbrev pub bytes_kept : ℕ → Report → ℕ
bytes_kept text_room r = if text_room == 0 then 0 else r.old_len + r.new_len

-- reports, with their texts cut from one text
abbrev pub notes : ℕ → List Report → List ℕ → List Noted
notes text_room [] bytes = []
notes text_room (r ∷ rs) bytes =
    record { report = r; texts = take (bytes_kept text_room r) bytes } ∷ notes text_room rs (drop (bytes_kept text_room r) bytes)

-- a text is made of the texts of reports, each of them UTF-8
abbrev pub Cuts : ℕ → List Report → List ℕ → Type 0
Cuts text_room [] bytes = bytes ≡ []
Cuts text_room (r ∷ rs) bytes =
    (bytes_kept text_room r ≤ length bytes) × IsUtf8 (take (bytes_kept text_room r) bytes) × Cuts text_room rs (drop (bytes_kept text_room r) bytes)
