-- What one message of a stream is read as, and what its readers know then.
use Rattle.std.proofs.Common.{inl, inr, ◌≡◌, ℕ, zero, suc, ◌+◌, ◌<◌, ◌≤◌, ◌^◌, ◌%◌, cond, eqb, List, [], ◌∷◌, ◌++◌, length, take, reverse, Option, Some, None, Result, Ok, refl, sym, ap, ◌∙◌, arith, length-append}
use Rattle.std.proofs.lemmas.Bool.{eq-eqb, cases_lt}
use Rattle.ipfix_template.specs.Template.{is_options, template_record}
use Rattle.ipfix_template.specs.Values.{record_text}
use Rattle.ipfix_template.specs.DataRecord.{DataRecord}
use Rattle.ipfix_message.specs.declared.header.Header.{Header}
use Rattle.ipfix_message.specs.declared.item.Item.{Item}
use Rattle.ipfix_message.specs.Reading.{header_of, items_of}
use Rattle.ipfix_message.proofs.GrammarOnly.{message_only, message_header}
use Rattle.ipfix_session.specs.InForce.{template_in_force}
use Rattle.ipfix_session.specs.Contents.{only_records, contents_after}
use Rattle.ipfix_session.specs.Meaning.{Meaning, domain_of, items_or_none, items_of_domain, read_items, contents_of, next_number, expected_number, gap_between, gap_of, meaning_of}
use Rattle.ipfix_session.specs.declared.read.Gap.{Gap}
use Rattle.ipfix_session.proofs.SessionSteps.{header_is, items_then, means}
use Rattle.subscriber_stream.specs.Parts.{Part, Announcement, Entry, records_of_parts}
use Rattle.subscriber_stream.specs.Message.{sets_of, set_head, body, message, run_length}
use Rattle.subscriber_stream.proofs.Messages.{length-message}
use Rattle.subscriber_stream.proofs.CallLaws.{run_within, run_some}
use Rattle.subscriber_stream.proofs.Standings.{records_in-append}
use Rattle.ipfix_template.proofs.Encoding.{length-template_record}
use Rattle.subscriber_stream.proofs.Bodies.{texts}
use Rattle.ipfix_session.proofs.WalkSteps.{read_contents}
use Rattle.stream_meaning.specs.Means.{plain_meaning}
use Rattle.stream_meaning.proofs.Tables.{Table, empty, AreKnown, after_parts}
use Rattle.stream_meaning.proofs.Written.{items_at, header_at, head, message_is}
use Rattle.stream_meaning.proofs.Readings.{contents_read, in_force_after}
use Rattle.stream_meaning.proofs.Sets.{sets_written, sets_bring, sets_after, after_append}
use Rattle.subscriber_stream.specs.Items.{longest_body}

-- ---- a message has at most 65,535 octets

-- a part alone fits a message
one_fits : (table : Table) (part : Part) (ps : List Part) → AreKnown table (part ∷ ps) → length (body (part ∷ [])) ≤ longest_body
unfolding body set_head
one_fits table (Announcement id shape) ps all =
    let len = length-template_record id (is_options shape) shape in
    let text = template_record id (is_options shape) shape in
    omega (arith, all.0.fits, len, length-append text [])
one_fits table (Entry id r) ps all =
    let text = record_text r.template.fields r.values in
    omega (arith, all.0.sound.record_fits, length-append text [], length-append (text ++ []) [])

run_by : (target now handed : ℕ) (table : Table) (part : Part) (ps : List Part) (n : ℕ) → run_length target (part ∷ ps) ≡ n → n ≤ 1 → 1 ≤ n → AreKnown table (part ∷ ps) → length (message now handed (take n (part ∷ ps))) < 65536
run_by target now handed table part ps zero is le ge all = absurd (omega arith)
run_by target now handed table part ps (suc (suc n)) is le ge all = absurd (omega arith)
run_by target now handed table part ps (suc zero) is le ge all =
    omega (arith, length-message now handed (part ∷ []), one_fits table part ps all)

pub run_fits : (target now handed : ℕ) (table : Table) (part : Part) (ps : List Part) → target < 2 ^ 16 → AreKnown table (part ∷ ps) → length (message now handed (take (run_length target (part ∷ ps)) (part ∷ ps))) < 65536
run_fits target now handed table part ps below all =
    let n = run_length target (part ∷ ps) in
    elim (cases_lt 1 n) [
      | inl more ↦ omega (arith, below, run_within target now handed (part ∷ ps) more)
      | inr one ↦ run_by target now handed table part ps n refl one (run_some target (part ∷ ps)) all
    ]

-- ---- what is known after messages

-- after messages that stand newest first, and that brought these parts: the templates, and the number that is expected
pub record Stands (older : List (List ℕ)) (done : List Part) : Type 0 where
  pub table : (q : ℕ) → template_in_force q (items_of_domain 0 older) ≡ after_parts empty done q
  pub number : gap_between (expected_number 0 older) (length (records_of_parts done) % 2 ^ 32) ≡ None

pub stands_first : Stands [] []
unfolding template_in_force items_of_domain expected_number
stands_first = record { table = λ q. refl; number = refl }

abbrev pub handed_in : List Part → ℕ
handed_in done = length (records_of_parts done)

-- the message of these parts, after those
abbrev pub message_at : ℕ → List Part → List Part → List ℕ
message_at now done ps = message now (handed_in done) ps

-- what is read of it
record IsTold (older : List (List ℕ)) (done ps : List Part) (now : ℕ) : Type 0 where
  header : header_of (message_at now done ps) ≡ header_at now (handed_in done)
  items : items_of (message_at now done ps) ≡ Ok (items_at 16 (sets_of ps))
  contents : contents_of older (message_at now done ps) ≡ read_contents (only_records (records_of_parts ps))

-- a message that may be told so
pub record IsNext (done ps : List Part) (now : ℕ) : Type 0 where
  pub known : AreKnown (after_parts empty done) ps
  pub time : now < 2 ^ 32
  pub few : length (message_at now done ps) < 65536

behind_head : (now handed : ℕ) (ps : List Part) → message now handed ps ≡ head (16 + length (body ps)) now handed ++ texts (sets_of ps)
unfolding message body
behind_head now handed ps = refl

length-head : (octets now handed : ℕ) → 16 ≡ length (head octets now handed)
length-head octets now handed = refl

contents_are : (older : List (List ℕ)) (m : List ℕ) (said : List Item) → items_of m ≡ Ok said → domain_of m ≡ 0 → contents_of older m ≡ contents_after (items_of_domain 0 older) m said
unfolding contents_of
contents_are older m said is domain =
    ap (read_items (items_of_domain (domain_of m) older) m) is ∙ ap (λ (d : ℕ). contents_after (items_of_domain d older) m said) domain

told : (older : List (List ℕ)) (done ps : List Part) (now : ℕ) → Stands older done → IsNext done ps now → IsTold older done ps now
told older done ps now stands next =
    let table = after_parts empty done in
    let handed = handed_in done in
    let m = message_at now done ps in
    let said = items_at 16 (sets_of ps) in
    let all = sets_written ps table next.known in
    let is = message_is now handed table ps next.time all next.few in
    let items = message_only m (header_at now handed) said is in
    let header : header_of m ≡ header_at now handed = sym (header_is m (header_at now handed) (sym (message_header m (header_at now handed) said is))) in
    let domain : domain_of m ≡ 0 = ap (λ (h : Header). h.domain) header in
    record {
      header = header;
      items = items;
      contents = contents_are older m said items domain
          ∙ contents_read (sets_of ps) table (items_of_domain 0 older) m (head (16 + length (body ps)) now handed) 16 all stands.table (behind_head now handed ps) (length-head (16 + length (body ps)) now handed)
          ∙ ap (λ (rs : List DataRecord). read_contents (only_records rs)) (sets_bring ps);
    }

-- ---- the step

own_items_then : (m : List ℕ) (older : List (List ℕ)) (said : List Item) → domain_of m ≡ 0 → items_of m ≡ Ok said → items_of_domain 0 (m ∷ older) ≡ reverse said ++ items_of_domain 0 older
own_items_then m older said domain is =
    items_then 0 m older
    ∙ ap (λ (d : ℕ). cond (eqb 0 d) (reverse (items_or_none (items_of m))) [] ++ items_of_domain 0 older) domain
    ∙ ap (λ (r : Result (List Item) _). reverse (items_or_none r) ++ items_of_domain 0 older) is

expected_then : (m : List ℕ) (older : List (List ℕ)) → domain_of m ≡ 0 → expected_number 0 (m ∷ older) ≡ next_number (header_of m) (contents_of older m)
unfolding expected_number
expected_then m older domain =
    ap (λ (d : ℕ). cond (eqb 0 d) (next_number (header_of m) (contents_of older m)) (expected_number 0 older)) domain

counted : (handed more total : ℕ) → total ≡ handed + more → (handed % 2 ^ 32 + more) % 2 ^ 32 ≡ total % 2 ^ 32
counted handed more total is = omega (arith, is)

no_gap : (expected got : ℕ) → expected ≡ got → gap_between (Some expected) got ≡ None
no_gap expected got is = let same = eq-eqb expected got is in rw same refl

stands_after : (older : List (List ℕ)) (done ps : List Part) (now : ℕ) → Stands older done → IsTold older done ps now → Stands (message_at now done ps ∷ older) (done ++ ps)
stands_after older done ps now stands is =
    let table = after_parts empty done in
    let m = message_at now done ps in
    let domain : domain_of m ≡ 0 = ap (λ (h : Header). h.domain) is.header in
    let handed = handed_in done in
    let total : length (records_of_parts (done ++ ps)) ≡ handed + length (records_of_parts ps) = ap length (records_in-append done ps) ∙ length-append (records_of_parts done) (records_of_parts ps) in
    let expected : expected_number 0 (m ∷ older) ≡ Some ((handed % 2 ^ 32 + length (records_of_parts ps)) % 2 ^ 32) = expected_then m older domain
    ∙ ap (λ (h : Header). next_number h (contents_of older m)) is.header ∙ ap (next_number (header_at now handed)) is.contents in
    record {
      table = λ q. ap (template_in_force q) (own_items_then m older (items_at 16 (sets_of ps)) domain is.items)
          ∙ in_force_after (sets_of ps) table (items_of_domain 0 older) 16 stands.table q
          ∙ ap (λ (t : Table). t q) (sets_after ps table ∙ sym (after_append done ps empty));
      number = ap (λ (o : Option ℕ). gap_between o (length (records_of_parts (done ++ ps)) % 2 ^ 32)) expected
          ∙ no_gap ((handed % 2 ^ 32 + length (records_of_parts ps)) % 2 ^ 32) (length (records_of_parts (done ++ ps)) % 2 ^ 32) (counted handed (length (records_of_parts ps)) (length (records_of_parts (done ++ ps))) total);
    }

abbrev meaning : Header → List DataRecord → Option Gap → Meaning
meaning h records gap = record { header = h; records = records; skips = (only_records []).skips; gap = gap }

meaning_is : (older : List (List ℕ)) (m : List ℕ) (records : List DataRecord) → contents_of older m ≡ read_contents (only_records records) → meaning_of older m ≡ means (meaning (header_of m) records (gap_of older m))
unfolding meaning_of
meaning_is older m records is = rw is refl

plain : (older : List (List ℕ)) (done ps : List Part) (now : ℕ) → Stands older done → IsTold older done ps now → meaning_of older (message_at now done ps) ≡ means (plain_meaning now (handed_in done) (records_of_parts ps))
plain older done ps now stands is =
    let m = message_at now done ps in
    let gap : gap_of older m ≡ None = ap (λ (h : Header). gap_between (expected_number h.domain older) h.sequence) is.header ∙ stands.number in
    meaning_is older m (records_of_parts ps) is.contents
    ∙ ap (λ (h : Header). means (meaning h (records_of_parts ps) (gap_of older m))) is.header
    ∙ ap (λ (g : Option Gap). means (meaning (header_at now (handed_in done)) (records_of_parts ps) g)) gap

-- a message of parts is read as their records, and the readers then stand behind them
pub record Steps (older : List (List ℕ)) (done ps : List Part) (now : ℕ) : Type 0 where
  pub meaning : meaning_of older (message_at now done ps) ≡ Ok (plain_meaning now (handed_in done) (records_of_parts ps))
  pub stands : Stands (message_at now done ps ∷ older) (done ++ ps)

pub step : (older : List (List ℕ)) (done ps : List Part) (now : ℕ) → Stands older done → IsNext done ps now → Steps older done ps now
step older done ps now stands next =
    let is = told older done ps now stands next in
    record { meaning = plain older done ps now stands is; stands = stands_after older done ps now stands is }
