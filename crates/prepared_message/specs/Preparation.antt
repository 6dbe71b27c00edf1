-- A message that was read outside its session.
use Rattle.std.specs.Prelude.{◌≡◌, ℕ, List, Option, Ok, IfSome, length}
use Rattle.ipfix_template.specs.declared.template.Template.{Template}
use Rattle.ipfix_message.specs.declared.header.Header.{Header}
use Rattle.ipfix_message.specs.Reading.{header_of}
use Rattle.ipfix_session.specs.Contents.{Contents}
use Rattle.ipfix_session.specs.Meaning.{domain_of, contents_of}
use Rattle.ipfix_session.specs.Unchanging.{HasNoTemplates}
use Rattle.mediator_shares.specs.Judgements.{IsJudgementOf}
use Rattle.mediator_shares.specs.declared.judgement.Judgement.{Judgement}
use Rattle.prepared_message.specs.Uses.{AreUsesInForce}

-- the message, what it was found to hold, and the IDs of its Data Sets with the templates by which it was read
pub record Preparation : Type 0 where
  pub message : List ℕ
  pub contents : Contents
  pub used : List (ℕ × Option Template)

-- the templates that it used are in force after messages, which stand newest first
abbrev pub AgreesWith : List (List ℕ) → Preparation → Type 0
AgreesWith older p = AreUsesInForce (domain_of p.message) older p.used

-- the message brings no template, and wherever those that it used are in force it holds what was found
pub record IsPrepared (p : Preparation) : Type 0 where
  pub no_templates : HasNoTemplates p.message
  pub holds : (older : List (List ℕ)) → AgreesWith older p → contents_of older p.message ≡ Ok p.contents

-- beside it stand the message's header and how many records there are
pub record IsPreparedWith (p : Preparation) (header : Header) (count : ℕ) : Type 0 where
  pub prepared : IsPrepared p
  pub headed : header_of p.message ≡ header
  pub counted : length p.contents.records ≡ count

-- what was judged of the records, if it was
abbrev pub AreRecordsJudged : Header → Contents → Option Judgement → Type 0
AreRecordsJudged header contents judgement = IfSome judgement (IsJudgementOf header.domain contents.records)
