-- The histories that an explainer stands for, and what it makes of one entry more.
use Rattle.std.specs.Prelude.{◌≡◌, ℕ, ◌+◌, ◌≤◌, false, List, [], ◌∷◌, ◌++◌, length, string_bytes, ◌&&◌, ◌||◌, if◌then◌else◌}
use Rattle.std.specs.List.{flat_map, enumerate_from}
use Rattle.event_journal.specs.declared.limits.TheConstants.{MOST_ENTRIES}
use Rattle.event_journal.specs.declared.entry.Entry.{Entry}
use Rattle.ipfix_template.specs.DataRecord.{DataRecord}
use Rattle.mediator_history.specs.Subscriptions.{policy_in_force, name_of, is_served}
use Rattle.mediator_history.specs.Counting.{clock_of}
use Rattle.history_verify.specs.Legal.{IsAccepted, is_cut}
use Rattle.history_verify.specs.Parts.{AreExporters}
use Rattle.ipmd_explain.specs.declared.explainer.Explainer.{Explainer}
use Rattle.ipmd_explain.specs.Explaining.{explained_at, has_begun, has_message, has_record, is_asked, is_within, line_by}

pub record Tracks (x : Explainer) (h : List Entry) : Type 0 where
  pub position : x.position ≡ length h
  pub policy : x.policy ≡ policy_in_force h
  pub clock : x.clock ≡ clock_of h
  pub exporters : AreExporters x.exporters h
  pub name : string_bytes x.name ≡ name_of x.question.sub h
  pub begun : x.has_begun ≡ has_begun x.question.sub h
  pub served : x.is_served ≡ is_served x.question.sub h
  pub met_message : x.met_message ≡ has_message x.question h
  pub met_record : x.met_record ≡ has_record x.question h

-- an entry may come next in a journal: it is accepted, if it is no cut
pub record MayCome (h : List Entry) (entry : Entry) : Type 0 where
  pub short : length h ≤ MOST_ENTRIES
  pub accepted : is_cut entry ≡ false → IsAccepted h entry

-- it was taken, and this is said of it
pub record IsTaken (old new : Explainer) (h : List Entry) (entry : Entry) (text : List ℕ) : Type 0 where
  pub question : new.question ≡ old.question
  pub stands : Tracks new (h ++ entry ∷ [])
  pub said : text ≡ explained_at old.question h entry

abbrev pub Takes : Explainer → Entry → Explainer → List ℕ → Type 0
Takes old entry new text = (h : List Entry) → Tracks old h → MayCome h entry → IsTaken old new h entry text

-- an entry of which nothing is said was counted, where there is a number for it
abbrev pub past_entry : Explainer → Explainer
past_entry x = record x { position = x.position + 1 }

-- the line of a record of a message at this position, with its place, if it is asked for
abbrev pub explained_line_for : Explainer → ℕ → (ℕ × DataRecord) → List ℕ
explained_line_for x domain r = if is_asked x.question.index r.0 then line_by x.policy (string_bytes x.name) domain x.clock x.position r.0 r.1 else []

abbrev pub explained_lines : Explainer → ℕ → List DataRecord → List ℕ
explained_lines x domain records = flat_map (explained_line_for x domain) (enumerate_from 0 records)

-- of the records of a message at this position, if it is asked for and the subscription is served
abbrev pub said_of : Explainer → ℕ → List DataRecord → List ℕ
said_of x domain records = if is_asked x.question.position x.position && x.is_served then explained_lines x domain records else []

-- it met a message of so many records at its position
abbrev pub past_message : Explainer → ℕ → Explainer
past_message x records = record x {
  met_message = x.met_message || is_asked x.question.position x.position;
  met_record = x.met_record || (is_asked x.question.position x.position && is_within x.question.index records);
}
