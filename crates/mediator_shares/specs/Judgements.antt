-- What was judged of a message's records. All of this is this project's own rule.
use Rattle.std.specs.Prelude.{◌≡◌, ℕ, List, map}
use Rattle.std.specs.Arc.{arc_value}
use Rattle.ipfix_template.specs.DataRecord.{DataRecord}
use Rattle.mediator_tables.specs.declared.served.Served.{Served}
use Rattle.mediator_tables.specs.SubscriptionTable.{shown}
use Rattle.mediator_tables.specs.Adding.{tallied}
use Rattle.mediator_shares.specs.InForce.{InForce}
use Rattle.mediator_shares.specs.Sharing.{shares_of, tallies_of, notes_of}
use Rattle.disclosure_audit.specs.Noting.{kept_notes}
use Rattle.mediator_shares.specs.Terms.{terms_of}
use Rattle.mediator_shares.specs.declared.shares.Shares.{Shares}
use Rattle.mediator_shares.specs.declared.judgement.Judgement.{Judgement}

-- these are the shares of a message's records, by what is in force, for those that are served, with so many notes at most
pub record AreSharesOf (domain : ℕ) (records : List DataRecord) (f : InForce) (served : List Served) (most : ℕ) (s : Shares) : Type 0 where
  pub shares_are : map shown s.shares.items ≡ shares_of domain f records served
  pub tallies_are : map tallied s.tallies.items ≡ tallies_of domain f records served
  pub notes_are : s.notes ≡ kept_notes most (notes_of domain f records served)

-- what was judged are the shares by its terms
pub record IsJudgementOf (domain : ℕ) (records : List DataRecord) (j : Judgement) : Type 0 where
  pub by_terms : (f : InForce) (served : List Served) (most : ℕ) → arc_value j.terms ≡ terms_of f served most → AreSharesOf domain records f served most j.shares
