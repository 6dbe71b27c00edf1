-- What records more add, where records are judged for some and that serves each that is served. All of this is this project's own rule.
use Rattle.std.specs.Prelude.{◌≡◌, ℕ, List, ◌++◌, map, length, Some}
use Rattle.std.specs.List.{flat_map, enumerate_from}
use Rattle.ipfix_template.specs.declared.template.Template.{Template}
use Rattle.ipfix_template.specs.DataRecord.{DataRecord}
use Rattle.disclosure_audit.specs.Noting.{KeptNotes, and_more}
use Rattle.mediator_tables.specs.declared.served.Served.{Served}
use Rattle.mediator_tables.specs.declared.tally.Tally.{Tally}
use Rattle.mediator_tables.specs.Adding.{tallied}
use Rattle.mediator_shares.specs.InForce.{InForce}
use Rattle.mediator_shares.specs.Judges.{Judges, JudgeFor}
use Rattle.mediator_shares.specs.Sharing.{shares_of, tallies_of, noted_of_each}

-- how far a message's records were judged: by the judges, with what each was given; what counts for each that is served; and what was noted
pub record Progress : Type 0 where
  pub judges : Judges
  pub tallies : List Tally
  pub notes : KeptNotes

abbrev pub progress_of : Judges → List Tally → KeptNotes → Progress
progress_of judges tallies notes = record { judges = judges; tallies = tallies; notes = notes }

-- the last two of these
pub record Counted : Type 0 where
  pub tallies : List Tally
  pub notes : KeptNotes

abbrev pub counted_of : List Tally → KeptNotes → Counted
counted_of tallies notes = record { tallies = tallies; notes = notes }

-- by what the records of an observation domain are judged, for which leaders, and whom these serve
pub record Audience : Type 0 where
  pub domain : ℕ
  pub in_force : InForce
  pub leaders : List Served
  pub served : List Served

abbrev pub audience_of : ℕ → InForce → List Served → List Served → Audience
audience_of domain f leaders served = record { domain = domain; in_force = f; leaders = leaders; served = served }

-- the records, of which the first has this index, stand behind those that were done, among what counts for each that is served and among the notes
pub record AddsCounts (old new : Counted) (index : ℕ) (records : List DataRecord) (to : Audience) : Type 0 where
  pub tallies : (done : List DataRecord) → map tallied old.tallies ≡ tallies_of to.domain to.in_force done to.served → map tallied new.tallies ≡ tallies_of to.domain to.in_force (done ++ records) to.served
  pub noting : new.notes ≡ and_more old.notes (flat_map (noted_of_each to.domain to.in_force to.served) (enumerate_from index records))
  pub stay : length new.tallies ≡ length to.served

-- the records side by side, of this template and of which the first has this index, stand behind those that were done: among what each leader was given, among what counts for each that is served, and among the notes; and the judges are fit for the next ones
pub record HasAdded (old new : Progress) (index : ℕ) (records : List DataRecord) (template : Template) (to : Audience) : Type 0 where
  pub shares : (done : List DataRecord) → old.judges.shares ≡ shares_of to.domain to.in_force done to.leaders → new.judges.shares ≡ shares_of to.domain to.in_force (done ++ records) to.leaders
  pub counting : AddsCounts (counted_of old.tallies old.notes) (counted_of new.tallies new.notes) index records to
  pub judges : JudgeFor new.judges to.in_force to.domain (Some template) to.leaders
  pub cuts : new.judges.cuts ≡ old.judges.cuts
  pub stay : length new.judges.shares ≡ length to.leaders
