-- What is found in a message is what it holds, wherever the templates that it used are in force.
use Rattle.std.proofs.Common.{◌≡◌, ◌≤◌, ℕ, Bool, true, false, List, length, map, Option, Some, None, Result, Ok, Err, refl, sym, ap, ◌∙◌, subst, arith}
use Rattle.std.specs.Prelude.{◌↔◌, IfOk}
use Rattle.std.specs.List.{AllByRecursion}
use Rattle.sequences.specs.Results.{◌>>=◌}
use Rattle.ipfix_template.specs.declared.template.Template.{Template}
use Rattle.ipfix_message.specs.declared.item.Item.{Item}
use Rattle.ipfix_message.specs.declared.fault.Fault.{Fault as DecodeError}
use Rattle.ipfix_message.specs.declared.fault.Fault.TheVariants as decode
use Rattle.ipfix_message.specs.Reading.{read_header, after_header, items_of}
use Rattle.ipfix_session.specs.declared.fault.Fault.{Fault as ReadError}
use Rattle.ipfix_session.specs.Answers.{as_contents}
use Rattle.ipfix_session.specs.Contents.{Contents, contents_after}
use Rattle.ipfix_session.specs.InForce.{template_in_force}
use Rattle.ipfix_session.specs.Meaning.{domain_of, items_of_domain, contents_of}
use Rattle.ipfix_session.specs.Standing.{templates_of}
use Rattle.ipfix_session.specs.Unchanging.{BringNoTemplates, AgreeOn, in_force_after}
use Rattle.ipfix_session.proofs.SessionSteps.{contents_are}
use Rattle.ipfix_session.proofs.AgreementLaws.{same_contents}
use Rattle.ipfix_session.proofs.RecordCounts.{HoldAtMost, few_in}
use Rattle.prepared_message.specs.declared.found.Found.{Found}
use Rattle.prepared_message.specs.declared.fault.Fault.{Fault}
use Rattle.prepared_message.specs.declared.fault.Fault.TheVariants.{HasTemplates, Malformed, OutOfMemory}
use Rattle.prepared_message.specs.SetIds.{has_template_set}
use Rattle.prepared_message.specs.Seen.{used_pair}
use Rattle.prepared_message.specs.Uses.{TablesAgree, AreUsesInForce, known_in, used_by}
use Rattle.prepared_message.specs.Preparation.{Preparation, IsPrepared}
use Rattle.prepared_message.specs.Finding.{IsFound}
use Rattle.prepared_message.specs.Faults.{fault_of_decoding, without_templates, items_wanted, contents_wanted, prepared_from, FailsPreparing}
use Rattle.prepared_message.proofs.UseLaws.{Has, agree_from, agree_to, agree_by, defined, defined_keeps}

-- ---- faults of the octets

items_fault : (older : List (List ℕ)) (message : List ℕ) (why : DecodeError) → items_of message ≡ Err why → prepared_from older message ≡ Err Malformed
items_fault older message why is = ap (λ (r : Result (List Item) DecodeError). without_templates r (has_template_set message) >>= λ said. contents_wanted (contents_of older message)) is

pub header_fault : (older : List (List ℕ)) (message : List ℕ) (why : DecodeError) → Err why ≡ read_header message → FailsPreparing (fault_of_decoding why) (prepared_from older message)
unfolding items_of
header_fault older message decode.OutOfMemory is = tt
header_fault older message decode.ShortHeader is = items_fault older message decode.ShortHeader (ap (after_header message) (sym is))
header_fault older message decode.BadVersion is = items_fault older message decode.BadVersion (ap (after_header message) (sym is))
header_fault older message decode.BadLength is = items_fault older message decode.BadLength (ap (after_header message) (sym is))
header_fault older message decode.BadSetLength is = items_fault older message decode.BadSetLength (ap (after_header message) (sym is))
header_fault older message decode.TemplateOverrun is = items_fault older message decode.TemplateOverrun (ap (after_header message) (sym is))

-- items that were read
abbrev as_items : List Item → Result (List Item) DecodeError
as_items said = Ok said

same_items : (found said : List Item) → without_templates (as_items found) false ≡ Ok said → found ≡ said
same_items found said e = cc

-- where the items are wanted, they are those of the message, and it has no set of templates
pub record AreWanted (message : List ℕ) (said : List Item) : Type 0 where
  pub items : items_of message ≡ Ok said
  pub plain : has_template_set message ≡ false

pub wanted : (message : List ℕ) (said : List Item) → items_wanted message ≡ Ok said → AreWanted message said
wanted message said is = by_items (items_of message) (has_template_set message) refl refl is
  where
    by_items : (r : Result (List Item) DecodeError) (templates : Bool) → items_of message ≡ r → has_template_set message ≡ templates → without_templates r templates ≡ Ok said → AreWanted message said
    by_items (Err why) templates items plain is = absurd cc
    by_items (Ok found) true items plain is = absurd cc
    by_items (Ok found) false items plain is = record { items = items ∙ ap (λ (xs : List Item). as_items xs) (same_items found said is); plain = plain }

-- ---- what was found

-- a message holds few records
pub few_found : (known : List (ℕ × List (ℕ × Template))) (message : List ℕ) (f : Found) → IsFound known message f → length (as_contents f.contents).records ≤ 65535
few_found known message f found =
    omega (
      arith,
      found.short,
      subst (λ (r : Result Contents ReadError). HoldAtMost (length message) r) (found.holds (defined (templates_of (domain_of message) known)) (defined_keeps (templates_of (domain_of message) known)))
          (few_in (defined (templates_of (domain_of message) known)) message found.said found.items),
    )

agree_found : (known : List (ℕ × List (ℕ × Template))) (message : List ℕ) (f : Found) → (found : IsFound known message f) → (older : List (List ℕ))
    → AreUsesInForce (domain_of message) older (map used_pair f.uses.items) → AgreeOn (in_force_after (domain_of message) older) (known_in (domain_of message) known) found.said
agree_found known message f found older all =
    agree_from (in_force_after (domain_of message) older) (known_in (domain_of message) known) None found.said tt
    (subst (λ (us : List (ℕ × Option Template)). AllByRecursion (Has (in_force_after (domain_of message) older)) us) found.used all)

-- it agrees with messages exactly where the table by which it was read does
pub used_found : (known : List (ℕ × List (ℕ × Template))) (message : List ℕ) (f : Found) → IsFound known message f → (older : List (List ℕ))
    → AreUsesInForce (domain_of message) older (map used_pair f.uses.items) ↔ TablesAgree known older message
used_found known message f found older = (
  λ all. subst (λ (r : Result (List Item) DecodeError). IfOk r (AgreeOn g k)) (sym found.items) (agree_found known message f found older all),
  λ agree. subst (λ (us : List (ℕ × Option Template)). AllByRecursion (Has g) us) (sym found.used)
      (agree_to g k None found.said (subst (λ (r : Result (List Item) DecodeError). IfOk r (AgreeOn g k)) found.items agree)),
)
  where
    g : ℕ → Option Template
    g = in_force_after (domain_of message) older

    k : ℕ → Option Template
    k = known_in (domain_of message) known

-- it is prepared by what was found
pub prepared_found : (known : List (ℕ × List (ℕ × Template))) (message : List ℕ) (f : Found) → IsFound known message f
    → IsPrepared (record { message = message; contents = as_contents f.contents; used = map used_pair f.uses.items })
prepared_found known message f found =
    record {
      no_templates = subst (λ (r : Result (List Item) DecodeError). IfOk r BringNoTemplates) (sym found.items) found.unchanging;
      holds = λ older all.
          contents_are older message found.said found.items
          ∙ same_contents (items_of_domain (domain_of message) older) items message found.said found.unchanging
          (agree_by (in_force_after (domain_of message) older) (known_in (domain_of message) known) (λ id. template_in_force id items) found.said (defined_keeps kept) (agree_found known message f found older all))
          ∙ found.holds items (defined_keeps kept);
    }
  where
    kept : List (ℕ × Template)
    kept = templates_of (domain_of message) known

    items : List Item
    items = defined kept
