-- What judges a message's records for its subscriptions, and what each was given so far.
use Rattle.std.specs.Prelude.{◌≡◌, ℕ, List, [], map, Option, Some, Bool, ◌==◌, ◌&&◌}
use Rattle.std.specs.Str.{bytes_eq}
use Rattle.ipfix_template.specs.declared.template.Template.{Template}
use Rattle.ipfix_template.specs.DataRecord.{DataRecord}
use Rattle.policy_text.specs.declared.rule.Rule.{Rule}
use Rattle.flow_anonymize.specs.Plans.{PlansFor}
use Rattle.mediator_shares.specs.InForce.{InForce}
use Rattle.mediator_shares.specs.declared.judges.Judge.{Judge}
use Rattle.mediator_tables.specs.declared.served.Served.{Served}

-- by these rules and the cuts of their prefixes, for an observation domain, and the records of a template, if one is named; for each subscription, what its plans are for, and its number with what
-- it was given
pub record Judges : Type 0 where
  pub rules : List Rule
  pub cuts : List ℕ
  pub domain : ℕ
  pub template : Option Template
  pub fors : List PlansFor
  pub shares : List (ℕ × List DataRecord)

-- of one subscription
abbrev pub for_of : Judge → PlansFor
for_of j = j.plans.for

abbrev pub share_of_judge : Judge → ℕ × List DataRecord
share_of_judge j = (j.sub, j.plans.given)

abbrev pub judges_of : List Rule → List ℕ → ℕ → Option Template → List Judge → Judges
judges_of rules cuts domain template judges = record { rules = rules; cuts = cuts; domain = domain; template = template; fors = map for_of judges; shares = map share_of_judge judges }

-- plans by these, for the records of a template, if one is named, and the subscriber of a name
abbrev pub plans_for : List Rule → List ℕ → ℕ → Option Template → List ℕ → PlansFor
plans_for rules cuts domain template name = record { rules = rules; cuts = cuts; name = name; domain = domain; template = template }

-- the same plans, for the records of this template
abbrev pub of_template : Template → PlansFor → PlansFor
of_template t p = record { rules = p.rules; cuts = p.cuts; name = p.name; domain = p.domain; template = Some t }

-- they judge by what is in force, for these subscriptions, the records of this template
pub record JudgeFor (j : Judges) (f : InForce) (domain : ℕ) (template : Option Template) (served : List Served) : Type 0 where
  pub template_is : j.template ≡ template
  pub fors : j.fors ≡ map (λ who. plans_for f.policy.rules j.cuts domain template who.name.now) served

-- the records of some template, or of none yet
pub record JudgesAny (j : Judges) (f : InForce) (domain : ℕ) (served : List Served) : Type 0 where
  pub template : Option Template
  pub judges : JudgeFor j f domain template served

-- a share from which all was taken
abbrev pub without_records : ℕ × List DataRecord → ℕ × List DataRecord
without_records s = (s.0, [])

-- ---- those that are kept from one message to the next

-- each is by these rules for records of one template, or of none yet, and was given nothing
pub record AreJudgesReady (rules : List Rule) (j : Judges) : Type 0 where
  pub fors : j.fors ≡ map (λ p. plans_for rules j.cuts p.domain j.template p.name) j.fors
  pub shares : j.shares ≡ map without_records j.shares

-- for which observation domain and whom plans are
abbrev pub whose : PlansFor → ℕ × List ℕ
whose p = (p.domain, p.name)

-- they are for the records of this domain, and these subscriptions
pub record AreFor (j : Judges) (domain : ℕ) (served : List Served) : Type 0 where
  pub whose_they_are : map whose j.fors ≡ map (λ who. (domain, who.name.now)) served
  pub subs : map (λ s. s.0) j.shares ≡ map (λ who. who.sub) served

-- one of them is
abbrev pub is_judge_for : ℕ → ℕ → List ℕ → Judge → Bool
is_judge_for sub domain name j = j.sub == sub && (j.plans.for.domain == domain && bytes_eq j.plans.for.name name)
