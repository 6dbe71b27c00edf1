-- How a session reads its next message.
use Rattle.std.proofs.Common.{Global, ◌≡◌, ℕ, ◌+◌, ◌%◌, ◌^◌, Bool, true, false, cond, not, eqb, ltb, List, [], ◌∷◌, ◌++◌, length, reverse, Option, Some, None, Result, Ok, Err, refl, sym, ap, ◌∙◌, subst, append_assoc}
use Rattle.std.specs.Prelude.{filter, IfOk, OnOk}
use Rattle.std.specs.Arc.{arc_value}
use Rattle.std.specs.declared.sync.Arc.{Arc}
use Rattle.std.proofs.lemmas.List.{reverse-append}
use Rattle.std.specs.List.{flat_map}
use Rattle.std.proofs.lemmas.Bool.{eqb-true, eq-eqb}
use Rattle.sequences.specs.Octets.{number_at}
use Rattle.ipfix_template.specs.DataRecord.{DataRecord}
use Rattle.ipfix_message.specs.declared.header.Header.{Header}
use Rattle.ipfix_message.specs.declared.fault.Fault.{Fault as DecodeError}
use Rattle.ipfix_message.specs.declared.fault.Fault.TheVariants as decode
use Rattle.ipfix_message.specs.declared.item.Item.{Item}
use Rattle.ipfix_message.specs.declared.item.Item.TheVariants.{Define, Withdraw, WithdrawAll, Refused, DataSet, Skipped}
use Rattle.ipfix_template.specs.declared.template.Template.{Template}
use Rattle.ipfix_message.specs.Reading as reading
use Rattle.ipfix_message.specs.Reading.{header_of, read_header, after_header, items_of}
use Rattle.sequences.specs.Results.{◌>>=◌}
use Rattle.sequences.proofs.ResultLaws.{same_Ok, fails_along}
use Rattle.ipfix_message.proofs.ReadingSteps.{read_head}
use Rattle.ipfix_session.specs.declared.read.Skips.{Skips}
use Rattle.ipfix_session.specs.declared.read.Gap.{Gap}
use Rattle.ipfix_session.specs.declared.fault.Fault.{Fault}
use Rattle.ipfix_session.specs.declared.fault.Fault.TheVariants.{Malformed}
use Rattle.ipfix_session.specs.InForce.{template_in_force}
use Rattle.ipfix_session.specs.Contents.{Contents, contents_after}
use Rattle.ipfix_session.specs.Meaning.{domain_of, items_or_none, items_of_domain, read_items, contents_of, number_after, number_past, next_number, expected_number, gap_between, Meaning, gap_of, meaning_of}
use Rattle.ipfix_session.specs.Keeping.{at_key, Keeps, AreInForce}
use Rattle.ipfix_session.specs.Standing.{SessionStanding, KeptSession, SessionStands, Knows, kept_of, templates_of}
use Rattle.ipfix_session.specs.Change.{changed_template, HasTables}
use Rattle.ipfix_session.specs.ReadAhead.{Ahead, IsReadingOf, HasRoomFor}
use Rattle.ipfix_session.specs.declared.by_domain.ByDomain.{ByDomain}
use Rattle.ipfix_session.specs.declared.numbers.Numbers.{Numbers}
use Rattle.ipfix_session.specs.declared.tables.Tables.{Tables}
use Rattle.ipfix_session.specs.Domains.{held_templates, Settles}
use Rattle.ipfix_session.specs.Sharing.{tables_in, own_places, known_to}
use Rattle.ipfix_session.specs.Expecting.{shown_numbers, domain_number, has_number}
use Rattle.ipfix_session.specs.Session.{standing_of, session_of}
use Rattle.ipfix_session.specs.Unchanging.{BringsNoTemplate, BringNoTemplates, HasNoTemplates}
use Rattle.ipfix_session.proofs.PlaceSteps.{among-keys}
use Rattle.ipfix_session.proofs.DomainSteps.{kept-templates, kept-tables, kept-number}
use Rattle.ipfix_session.specs.Answers.{is_memory, FailsMeaning, GivesMeant, read_fault}
use Rattle.ipfix_session.specs.Settling.{contents_read, afterwards}

-- ---- octets that are no message

means_fault : (older : List (List ℕ)) (message : List ℕ) (d : DecodeError) → items_of message ≡ Err d → meaning_of older message ≡ Err (Malformed d)
unfolding meaning_of contents_of
means_fault older message d is = rw is refl

no_items_fault : (older : List (List ℕ)) (message : List ℕ) (d : DecodeError) → items_of message ≡ Err d → FailsMeaning (read_fault d) (meaning_of older message)
no_items_fault older message decode.OutOfMemory is = tt
no_items_fault older message decode.ShortHeader is = means_fault older message decode.ShortHeader is
no_items_fault older message decode.BadVersion is = means_fault older message decode.BadVersion is
no_items_fault older message decode.BadLength is = means_fault older message decode.BadLength is
no_items_fault older message decode.BadSetLength is = means_fault older message decode.BadSetLength is
no_items_fault older message decode.TemplateOverrun is = means_fault older message decode.TemplateOverrun is

abbrev no_items : DecodeError → Result (List Item) DecodeError
no_items d = Err d

header_items : (message : List ℕ) (d : DecodeError) (header : Result Header DecodeError) → Err d ≡ header → after_header message header ≡ no_items d
header_items message d header is = ap (after_header message) (sym is)

pub header_fault : (older : List (List ℕ)) (message : List ℕ) (d : DecodeError) → Err d ≡ read_header message → FailsMeaning (read_fault d) (meaning_of older message)
unfolding items_of
header_fault older message d is = no_items_fault older message d (header_items message d (read_header message) is)

pub items_fault : (older : List (List ℕ)) (message : List ℕ) (d : DecodeError) → reading.FailsDecoding d (items_of message) → FailsMeaning (read_fault d) (meaning_of older message)
items_fault older message decode.OutOfMemory fails = tt
items_fault older message decode.ShortHeader fails = no_items_fault older message decode.ShortHeader fails
items_fault older message decode.BadVersion fails = no_items_fault older message decode.BadVersion fails
items_fault older message decode.BadLength fails = no_items_fault older message decode.BadLength fails
items_fault older message decode.BadSetLength fails = no_items_fault older message decode.BadSetLength fails
items_fault older message decode.TemplateOverrun fails = no_items_fault older message decode.TemplateOverrun fails

-- ---- the header

header_by : (short version whole : Bool) (x h : Header) → read_head h ≡ cond short (Err decode.ShortHeader) (cond version (cond whole (read_head x) (Err decode.BadLength)) (Err decode.BadVersion)) → h ≡ x
header_by false true true x h e = same_Ok h x e
header_by true version whole x h e = absurd cc
header_by false false whole x h e = absurd cc
header_by false true false x h e = absurd cc

pub header_is : (message : List ℕ) (h : Header) → Ok h ≡ read_header message → h ≡ header_of message
unfolding read_header
header_is message h e = header_by (ltb (length message) 16) (eqb (number_at 0 2 message) 10) (eqb (number_at 2 2 message) (length message)) (header_of message) h e

-- ---- a message

-- what was read of a message, over what is kept of its domain
pub record Found (held : SessionStanding) (older : List (List ℕ)) (message : List ℕ) (h : Header) (said : List Item) : Type 0 where
  pub header : h ≡ header_of message
  pub items : items_of message ≡ Ok said
  pub stands : SessionStands held older

-- the same, where the octets were lent as a slice
pub found_in : (held : SessionStanding) (older : List (List ℕ)) (octets message : List ℕ) (h : Header) (said : List Item) → octets ≡ message → Ok h ≡ read_header octets → items_of octets ≡ Ok said → SessionStands held older → Found held older message h said
found_in held older octets message h said same header items stands = subst (λ (m : List ℕ). Found held older m h said) same (record { header = header_is octets h header; items = items; stands = stands })

-- the items before a message of its domain
abbrev pub before : List (List ℕ) → List ℕ → List Item
before older message = items_of_domain (domain_of message) older

keeps_before : (held : SessionStanding) (older : List (List ℕ)) (message : List ℕ) (h : Header) (said : List Item) → Found held older message h said → Keeps (kept_of h.domain held).templates (before older message)
keeps_before held older message h said found id = found.stands.templates h.domain id ∙ ap (λ (g : Header). template_in_force id (items_of_domain g.domain older)) found.header

pub contents_are : (older : List (List ℕ)) (message : List ℕ) (said : List Item) → items_of message ≡ Ok said → contents_of older message ≡ contents_after (before older message) message said
unfolding contents_of
contents_are older message said is = ap (read_items (before older message) message) is

means_overrun : (older : List (List ℕ)) (message : List ℕ) (said : List Item) (e : Fault) → items_of message ≡ Ok said → contents_after (before older message) message said ≡ Err e → meaning_of older message ≡ Err e
unfolding meaning_of
means_overrun older message said e is fails = rw (contents_are older message said is, fails) refl

pub found_fault : (held : SessionStanding) (older : List (List ℕ)) (message : List ℕ) (h : Header) (said : List Item) (e : Fault) → Found held older message h said → ((done : List Item) → Keeps (kept_of h.domain held).templates done → FailsMeaning e (contents_after done message said)) → FailsMeaning e (meaning_of older message)
found_fault held older message h said e found fails = fails_along is_memory e (contents_after (before older message) message said) (meaning_of older message) (λ is. means_overrun older message said e found.items is) (fails (before older message) (keeps_before held older message h said found))

abbrev pub meaning : Header → List DataRecord → Skips → Option Gap → Meaning
meaning h records skips gap = record { header = h; records = records; skips = skips; gap = gap }

abbrev pub means : Meaning → Result Meaning Fault
means m = Ok m

-- the contents of the message
contents_found : (held : SessionStanding) (older : List (List ℕ)) (message : List ℕ) (h : Header) (said : List Item) (c : Contents) → Found held older message h said → ((done : List Item) → Keeps (kept_of h.domain held).templates done → contents_after done message said ≡ Ok c) → contents_of older message ≡ Ok c
contents_found held older message h said c found reads = contents_are older message said found.items ∙ reads (before older message) (keeps_before held older message h said found)

means_contents : (older : List (List ℕ)) (message : List ℕ) (c : Contents) → contents_of older message ≡ Ok c → meaning_of older message ≡ Ok (meaning (header_of message) c.records c.skips (gap_of older message))
unfolding meaning_of
means_contents older message c is = rw is refl

pub found_meaning : (held : SessionStanding) (older : List (List ℕ)) (message : List ℕ) (h g : Header) (said : List Item) (c : Contents) (gap : Option Gap) → Found held older message h said → ((done : List Item) → Keeps (kept_of h.domain held).templates done → contents_after done message said ≡ Ok c) → g ≡ h → gap ≡ gap_between (kept_of h.domain held).expected h.sequence → meaning_of older message ≡ Ok (meaning g c.records c.skips gap)
found_meaning held older message h g said c gap found reads same gap_is =
    let number : (kept_of h.domain held).expected ≡ expected_number (domain_of message) older = found.stands.expected h.domain ∙ ap (λ (x : Header). expected_number x.domain older) found.header in
    let gap_means : gap ≡ gap_of older message = gap_is ∙ ap (λ (o : Option ℕ). gap_between o h.sequence) number ∙ ap (λ (x : Header). gap_between (expected_number (domain_of message) older) x.sequence) found.header in
    means_contents older message c (contents_found held older message h said c found reads)
    ∙ sym (ap means (λ i. meaning ((same ∙ found.header) i) c.records c.skips (gap_means i)))

-- ---- what the session stands for then

expected_then : (q : ℕ) (message : List ℕ) (older : List (List ℕ)) → expected_number q (message ∷ older) ≡ cond (eqb q (domain_of message)) (next_number (header_of message) (contents_of older message)) (expected_number q older)
unfolding expected_number
expected_then q message older = refl

-- a message of the domain stands newest, and one of another changes nothing
pub items_then : (q : ℕ) (message : List ℕ) (older : List (List ℕ)) → items_of_domain q (message ∷ older) ≡ cond (eqb q (domain_of message)) (reverse (items_or_none (items_of message))) [] ++ items_of_domain q older
unfolding items_of_domain
items_then q message older = by_domain (eqb q (domain_of message)) where
  newest_first : List ℕ → List Item
  newest_first m = reverse (items_or_none (items_of m))

  of_domain : List (List ℕ)
  of_domain = filter (λ m. eqb q (domain_of m)) older

  by_domain : (same : Bool) → flat_map newest_first (cond same (message ∷ of_domain) of_domain) ≡ cond same (newest_first message) [] ++ flat_map newest_first of_domain
  by_domain true = refl
  by_domain false = refl

-- the items of the message's own domain, and those of another
own_items : (message : List ℕ) (older : List (List ℕ)) → items_of_domain (domain_of message) (message ∷ older) ≡ reverse (items_or_none (items_of message)) ++ items_of_domain (domain_of message) older
own_items message older =
    let d = domain_of message in
    items_then d message older ∙ ap (λ (b : Bool). cond b (reverse (items_or_none (items_of message))) [] ++ items_of_domain d older) (eq-eqb d d refl)

other_items : (q : ℕ) (message : List ℕ) (older : List (List ℕ)) → eqb q (domain_of message) ≡ false → items_of_domain q (message ∷ older) ≡ items_of_domain q older
other_items q message older other = items_then q message older ∙ ap (λ (b : Bool). cond b (reverse (items_or_none (items_of message))) [] ++ items_of_domain q older) other

own_number : (message : List ℕ) (older : List (List ℕ)) → expected_number (domain_of message) (message ∷ older) ≡ next_number (header_of message) (contents_of older message)
own_number message older =
    let d = domain_of message in
    expected_then d message older ∙ ap (λ (b : Bool). cond b (next_number (header_of message) (contents_of older message)) (expected_number d older)) (eq-eqb d d refl)

other_number : (q : ℕ) (message : List ℕ) (older : List (List ℕ)) → eqb q (domain_of message) ≡ false → expected_number q (message ∷ older) ≡ expected_number q older
other_number q message older other = expected_then q message older ∙ ap (λ (b : Bool). cond b (next_number (header_of message) (contents_of older message)) (expected_number q older)) other

-- ---- what was read, after those messages

pub found_reading : (held : SessionStanding) (older : List (List ℕ)) (message : List ℕ) (h : Header) (said : List Item) (r : Ahead) → Found held older message h said
    → ((done : List Item) → Keeps (kept_of h.domain held).templates done → contents_after done message said ≡ Ok (contents_read r))
    → ((done : List Item) → Keeps (kept_of h.domain held).templates done → AreInForce (afterwards r (kept_of h.domain held).templates) (reverse said ++ done))
    → r.meaning.header ≡ h → r.meaning.gap ≡ gap_between (kept_of h.domain held).expected h.sequence → r.next ≡ number_after h (contents_read r) → IsReadingOf older message r
found_reading held older message h said r found reads keeps same gap_is next_is =
    let kept = keeps_before held older message h said found in
    let items : items_or_none (items_of message) ≡ said = ap items_or_none found.items in
    record {
      means = found_meaning held older message h r.meaning.header said (contents_read r) r.meaning.gap found reads same gap_is;
      templates = λ id. ap (changed_template r.change id) (sym (kept id))
          ∙ keeps (before older message) kept id
          ∙ ap (λ (xs : List Item). template_in_force id (reverse xs ++ before older message)) (sym items)
          ∙ ap (template_in_force id) (sym (own_items message older));
      next = next_is
          ∙ ap (λ (x : Header). number_after x (contents_read r)) found.header
          ∙ ap (next_number (header_of message)) (sym (contents_found held older message h said (contents_read r) found reads))
          ∙ sym (own_number message older);
    }

-- the answer is the meaning, or the first fault
pub read_means : (held : SessionStanding) (older : List (List ℕ)) (message : List ℕ) (h : Header) (said : List Item) (r : Result Ahead Fault) → Found held older message h said
    → ((done : List Item) → Keeps (kept_of h.domain held).templates done → GivesMeant contents_read r (contents_after done message said))
    → IfOk r (λ x. x.meaning.header ≡ h) → IfOk r (λ x. x.meaning.gap ≡ gap_between (kept_of h.domain held).expected h.sequence) → GivesMeant (λ x. x.meaning) r (meaning_of older message)
read_means held older message h said (Ok x) found reads same gap_is = found_meaning held older message h x.meaning.header said (contents_read x) x.meaning.gap found reads same gap_is
read_means held older message h said (Err e) found reads same gap_is = found_fault held older message h said e found reads

pub read_follows : (held : SessionStanding) (older : List (List ℕ)) (message : List ℕ) (h : Header) (said : List Item) (r : Result Ahead Fault) → Found held older message h said
    → ((done : List Item) → Keeps (kept_of h.domain held).templates done → GivesMeant contents_read r (contents_after done message said))
    → ((done : List Item) → Keeps (kept_of h.domain held).templates done → IfOk r (λ x. AreInForce (afterwards x (kept_of h.domain held).templates) (reverse said ++ done)))
    → IfOk r (λ x. x.meaning.header ≡ h) → IfOk r (λ x. x.meaning.gap ≡ gap_between (kept_of h.domain held).expected h.sequence) → IfOk r (λ x. x.next ≡ number_after h (contents_read x)) → IfOk r (IsReadingOf older message)
read_follows held older message h said (Ok x) found reads keeps same gap_is next_is = found_reading held older message h said x found reads keeps same gap_is next_is
read_follows held older message h said (Err e) found reads keeps same gap_is next_is = tt

-- ---- what the session stands for, once it is kept

-- the header of what is meant is that of the message
pub header_meant : (older : List (List ℕ)) (message : List ℕ) (m : Meaning) → meaning_of older message ≡ Ok m → m.header ≡ header_of message
unfolding meaning_of
header_meant older message m is = by_contents (contents_of older message) is where
  by_contents : (c : Result Contents Fault) → (c >>= λ c. means (meaning (header_of message) c.records c.skips (gap_of older message))) ≡ Ok m → m.header ≡ header_of message
  by_contents (Ok c) e = ap (λ (x : Meaning). x.header) (sym (same_Ok (meaning (header_of message) c.records c.skips (gap_of older message)) m e))
  by_contents (Err w) e = absurd cc

settled_by : {Y : Type 0} (b : Bool) (q d : ℕ) (here there : Y) (target : ℕ → Y) → (b ≡ true → q ≡ d) → here ≡ target d → (b ≡ false → there ≡ target q) → cond b here there ≡ target q
settled_by true q d here there target same h t = h ∙ ap target (sym (same refl))
settled_by false q d here there target same h t = t refl

pub kept_stands : (old_numbers new_numbers : Numbers) (old new : Tables) (older : List (List ℕ)) (message : List ℕ) (r : Ahead)
    → ((q : ℕ) → domain_number new_numbers q ≡ cond (eqb q r.meaning.header.domain) r.next (domain_number old_numbers q))
    → Settles (tables_in old) (tables_in new) r.meaning.header.domain (afterwards r (held_templates (tables_in old) r.meaning.header.domain))
    → SessionStands (standing_of old_numbers old) older → IsReadingOf older message r → SessionStands (standing_of new_numbers new) (message ∷ older)
kept_stands old_numbers new_numbers old new older message r numbers settles stands reading =
    let d = r.meaning.header.domain in
    let own : d ≡ domain_of message = ap (λ (h : Header). h.domain) (header_meant older message r.meaning reading.means) in
    let before_it : (q id : ℕ) → at_key id (held_templates (tables_in old) q) ≡ template_in_force id (items_of_domain q older) = λ q id. ap (at_key id) (sym (kept-tables old q)) ∙ stands.templates q id in
    record {
      templates = λ q id. ap (at_key id) (kept-tables new q)
          ∙ settles.templates q id
          ∙ settled_by (eqb q d) q d (changed_template r.change id (at_key id (held_templates (tables_in old) d))) (at_key id (held_templates (tables_in old) q)) (λ (n : ℕ). template_in_force id (items_of_domain n (message ∷ older))) (eqb-true q d)
          (ap (changed_template r.change id) (before_it d id)
          ∙ ap (λ (n : ℕ). changed_template r.change id (template_in_force id (items_of_domain n older))) own
          ∙ reading.templates id
          ∙ ap (λ (n : ℕ). template_in_force id (items_of_domain n (message ∷ older))) (sym own))
          (λ other. before_it q id ∙ ap (template_in_force id) (sym (other_items q message older (ap (eqb q) (sym own) ∙ other))));
      expected = λ q. kept-number new_numbers q
          ∙ numbers q
          ∙ settled_by (eqb q d) q d r.next (domain_number old_numbers q) (λ (n : ℕ). expected_number n (message ∷ older)) (eqb-true q d)
          (reading.next ∙ ap (λ (n : ℕ). expected_number n (message ∷ older)) (sym own))
          (λ other. sym (kept-number old_numbers q) ∙ stands.expected q ∙ sym (other_number q message older (ap (eqb q) (sym own) ∙ other)));
    }

-- ---- what a session keeps, as it was seen

pub templates_now : (n : Numbers) (t : Tables) (now : KeptSession) → session_of n t ≡ now → (domain : ℕ) → held_templates (tables_in t) domain ≡ templates_of domain now.standing.templates
templates_now n t now is domain = sym (kept-tables t domain) ∙ ap (λ (s : KeptSession). templates_of domain s.standing.templates) is

pub number_now : (n : Numbers) (t : Tables) (now : KeptSession) → session_of n t ≡ now → (domain : ℕ) → domain_number n domain ≡ (kept_of domain now.standing).expected
number_now n t now is domain = sym (kept-number n domain) ∙ ap (λ (s : KeptSession). at_key domain s.standing.expected) is

pub template_is : (n : Numbers) (t : Tables) (now : KeptSession) → session_of n t ≡ now → (domain id : ℕ) (messages : List (List ℕ)) → SessionStands now.standing messages → at_key id (held_templates (tables_in t) domain) ≡ template_in_force id (items_of_domain domain messages)
template_is n t now is domain id messages stands = ap (at_key id) (templates_now n t now is domain) ∙ stands.templates domain id

-- ---- room

-- a domain's number has the place that was made for what was read
pub number_place : (n : Numbers) (t : Tables) (now : KeptSession) (r s : Ahead) → session_of n t ≡ now → r ≡ s → HasRoomFor now s → has_number n r.meaning.header.domain ≡ true
number_place n t now r s is same room =
    let there : HasRoomFor (session_of n t) r = subst (λ (k : KeptSession). HasRoomFor k r) (sym is) (subst (HasRoomFor now) (sym same) room) in
    among-keys r.meaning.header.domain n.by_domain.entries ∙ there.number

-- the tables have the places that were made for what was read
pub tables_place : (n : Numbers) (t : Tables) (now : KeptSession) (r s : Ahead) → session_of n t ≡ now → r ≡ s → HasRoomFor now s → HasTables (own_places t) r.meaning.header.domain r.change
tables_place n t now r s is same room =
    let there : HasRoomFor (session_of n t) r = subst (λ (k : KeptSession). HasRoomFor k r) (sym is) (subst (HasRoomFor now) (sym same) room) in
    there.templates

pub room_made : {E : Type 0} (answer : Result (Unit {0}) E) (n : Numbers) (t : Tables) (r s : Ahead) → r ≡ s → has_number n r.meaning.header.domain ≡ true
    → OnOk answer (HasTables (own_places t) r.meaning.header.domain r.change) → OnOk answer (HasRoomFor (session_of n t) s)
room_made (Ok u) n t r s same number tables =
    subst (HasRoomFor (session_of n t)) same (record { number = sym (among-keys r.meaning.header.domain n.by_domain.entries) ∙ number; templates = tables })
room_made (Err e) n t r s same number tables = tt

-- ---- a message that brings no template

pub unchanged_one : (id : ℕ) (item : Item) (older : List Item) → BringsNoTemplate item → template_in_force id (item ∷ older) ≡ template_in_force id older
unfolding template_in_force
unchanged_one id (DataSet other start len) older none = refl
unchanged_one id (Skipped set) older none = refl
unchanged_one id (Define other t) older none = absurd none
unchanged_one id (Refused other why) older none = absurd none
unchanged_one id (Withdraw other) older none = absurd none
unchanged_one id (WithdrawAll options) older none = absurd none

unchanged_all : (id : ℕ) (items older : List Item) → BringNoTemplates items → template_in_force id (reverse items ++ older) ≡ template_in_force id older
unchanged_all id [] older none = refl
unchanged_all id (item ∷ items) older none =
    let back : reverse (item ∷ items) ++ older ≡ reverse items ++ (item ∷ older) = ap (λ (is : List Item). is ++ older) (reverse-append (item ∷ []) items) ∙ append_assoc (reverse items) (item ∷ []) older in
    ap (template_in_force id) back ∙ unchanged_all id items (item ∷ older) none.1 ∙ unchanged_one id item older none.0

-- the items of such a message, which may be of another domain
unchanged_by : (same : Bool) (id : ℕ) (said : Result (List Item) DecodeError) (older : List Item) → IfOk said BringNoTemplates → template_in_force id (cond same (reverse (items_or_none said)) [] ++ older) ≡ template_in_force id older
unchanged_by true id (Ok items) older none = unchanged_all id items older none
unchanged_by true id (Err e) older none = refl
unchanged_by false id said older none = refl

pub same_in_force : (domain id : ℕ) (message : List ℕ) (older : List (List ℕ)) → HasNoTemplates message → template_in_force id (items_of_domain domain (message ∷ older)) ≡ template_in_force id (items_of_domain domain older)
same_in_force domain id message older none = ap (template_in_force id) (items_then domain message older) ∙ unchanged_by (eqb domain (domain_of message)) id (items_of message) (items_of_domain domain older) none

cond_not : {X : Type 0} (b : Bool) (x y : X) → cond (not b) x y ≡ cond b y x
cond_not true x y = refl
cond_not false x y = refl

-- the number after a message, by how many records it holds
pub number_by : (h : Header) (records : ℕ) (unknown : Bool) (c : Contents) → length c.records ≡ records → unknown ≡ not (eqb c.skips.unknown 0) → number_past h records unknown ≡ number_after h c
number_by h records unknown c count is =
    ap (λ (b : Bool). number_past h records b) is
    ∙ ap (λ (n : ℕ). number_past h n (not (eqb c.skips.unknown 0))) (sym count)
    ∙ cond_not (eqb c.skips.unknown 0) None (Some ((h.sequence + length c.records) % 2 ^ 32))

-- the number that is expected after the message, by its header and contents
next_expected : (h : Header) (c : Contents) (older : List (List ℕ)) (message : List ℕ) → header_of message ≡ h → contents_of older message ≡ Ok c → number_after h c ≡ expected_number (domain_of message) (message ∷ older)
next_expected h c older message header contents =
    ap (λ (x : Header). number_after x c) (sym header)
    ∙ ap (next_number (header_of message)) (sym contents)
    ∙ sym (own_number message older)

-- one number that is set, as contracts see it
pub numbers_noted : (old new : Numbers) (d : ℕ) (next past : Option ℕ) → next ≡ past → ((q : ℕ) → domain_number new q ≡ cond (eqb q d) next (domain_number old q)) → (q : ℕ) → at_key q (shown_numbers new) ≡ cond (eqb q d) past (at_key q (shown_numbers old))
numbers_noted old new d next past is numbers q = kept-number new q ∙ numbers q ∙ (λ i. cond (eqb q d) (is i) (sym (kept-number old q) i))

-- what a session stands for where such a message is noted
pub noted_stands : (old new : SessionStanding) (older : List (List ℕ)) (message : List ℕ) (h : Header) (c : Contents) (records : ℕ) (unknown : Bool)
    → new.templates ≡ old.templates → ((q : ℕ) → at_key q new.expected ≡ cond (eqb q h.domain) (number_past h records unknown) (at_key q old.expected))
    → SessionStands old older → header_of message ≡ h → HasNoTemplates message → contents_of older message ≡ Ok c → length c.records ≡ records → unknown ≡ not (eqb c.skips.unknown 0) → SessionStands new (message ∷ older)
noted_stands old new older message h c records unknown same numbers stands header none contents count is =
    let d = h.domain in
    let own : d ≡ domain_of message = ap (λ (x : Header). x.domain) (sym header) in
    record {
      templates = λ q id. ap (λ (k : List (ℕ × List (ℕ × Template))). at_key id (templates_of q k)) same ∙ stands.templates q id ∙ sym (same_in_force q id message older none);
      expected = λ q. numbers q
          ∙ settled_by (eqb q d) q d (number_past h records unknown) (at_key q old.expected) (λ (n : ℕ). expected_number n (message ∷ older)) (eqb-true q d)
          (number_by h records unknown c count is ∙ next_expected h c older message header contents ∙ ap (λ (n : ℕ). expected_number n (message ∷ older)) (sym own))
          (λ other. stands.expected q ∙ sym (other_number q message older (ap (eqb q) (sym own) ∙ other)));
    }

-- what was read elsewhere of such a message is its reading
pub unchanging_reading : (held : SessionStanding) (older : List (List ℕ)) (message : List ℕ) (h : Header) (c : Contents) (r : Ahead) → SessionStands held older
    → header_of message ≡ h → HasNoTemplates message → contents_of older message ≡ Ok c
    → r.meaning ≡ meaning h c.records c.skips (gap_between (kept_of h.domain held).expected h.sequence)
    → ((found : Option Template) (id : ℕ) → changed_template r.change id found ≡ found) → r.next ≡ number_after h c → IsReadingOf older message r
unchanging_reading held older message h c r stands header none contents meaning_is nothing next =
    let number : (kept_of h.domain held).expected ≡ expected_number (domain_of message) older = stands.expected h.domain ∙ ap (λ (x : Header). expected_number x.domain older) (sym header) in
    let gap : gap_between (kept_of h.domain held).expected h.sequence ≡ gap_of older message =
    ap (λ (o : Option ℕ). gap_between o h.sequence) number ∙ ap (λ (x : Header). gap_between (expected_number (domain_of message) older) x.sequence) (sym header) in
    record {
      means = means_contents older message c contents
          ∙ sym (ap means (meaning_is ∙ (λ i. meaning (sym header i) c.records c.skips (gap i))));
      templates = λ id. nothing (template_in_force id (items_of_domain (domain_of message) older)) id ∙ sym (same_in_force (domain_of message) id message older none);
      next = next ∙ next_expected h c older message header contents;
    }

-- ---- a message that is read by templates that are known

pub known_at : (shared : Arc ByDomain Global) (now : List (ℕ × List (ℕ × Template))) → known_to shared ≡ now → (domain : ℕ) → held_templates (arc_value shared).tables.entries domain ≡ templates_of domain now
known_at shared now is domain = sym (kept-templates (arc_value shared).tables.entries domain (arc_value shared).ordered) ∙ ap (templates_of domain) is

pub known_keeps : (known : List (ℕ × List (ℕ × Template))) (older : List (List ℕ)) (message : List ℕ) (h : Header) → h ≡ header_of message → Knows known older → Keeps (templates_of h.domain known) (before older message)
known_keeps known older message h header knows id = knows.templates h.domain id ∙ ap (λ (g : Header). template_in_force id (items_of_domain g.domain older)) header

-- a message with items has no faulty header
pub no_header_fault : (message : List ℕ) (said : List Item) (d : DecodeError) → items_of message ≡ Ok said → Err d ≡ read_header message → ⊥
unfolding items_of
no_header_fault message said d is header = by_items (sym (header_items message d (read_header message) header) ∙ is) where
  by_items : no_items d ≡ Ok said → ⊥
  by_items e = cc
