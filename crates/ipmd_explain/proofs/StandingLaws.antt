-- An explainer that stands for a history stands for one entry more.
use Rattle.std.proofs.Common.{◌≡◌, ℕ, ◌+◌, ◌≤◌, ◌<◌, ◌^◌, Bool, true, false, cond, List, [], ◌∷◌, ◌++◌, length, take, map, get_or, Option, Some, None, Result, Ok, Err, refl, sym, ap, ◌∙◌, subst, arith, length-append, append-nil}
use Rattle.std.proofs.lemmas.Bool.{eq-eqb, ne_eqb}
use Rattle.std.specs.Prelude.{IfOk, is_some, ◌==◌, unwrap_or, string_bytes, ◌&&◌, ◌||◌, IsSomeAnd, IfSome}
use Rattle.std.specs.List.{flat_map, enumerate_from, list_any}
use Rattle.std.specs.Option.{option_map}
use Rattle.std.proofs.lemmas.List.{take_more, length-take}
use Rattle.std.proofs.lemmas.List.Folds.{list_any-append, flat_map-map}
use Rattle.std.proofs.lemmas.List.Concat.{flat_map-append}
use Rattle.sequences.specs.Results.{◌>>=◌}
use Rattle.sequences.proofs.BeforeLaws.{last_of-push, each_with_before-push}
use Rattle.ipfix_template.specs.DataRecord.{DataRecord}
use Rattle.ipfix_message.specs.Reading.{header_of}
use Rattle.ipfix_message.specs.declared.header.Header.{Header}
use Rattle.ipfix_session.specs.declared.fault.Fault.{Fault as ReadError}
use Rattle.ipfix_session.specs.Contents.{Contents}
use Rattle.ipfix_session.specs.Meaning.{Meaning, meaning_of, contents_of, domain_of, gap_of}
use Rattle.ipfix_session.specs.Keeping.{at_key}
use Rattle.ipfix_session.specs.ReadAhead.{Ahead, HasRoomFor}
use Rattle.policy_text.specs.Policies.{PolicyMeaning as Policy, nothing as no_policy}
use Rattle.event_journal.specs.declared.limits.TheConstants.{MOST_ENTRIES}
use Rattle.event_journal.specs.declared.entry.Entry.{Entry}
use Rattle.event_journal.specs.declared.entry.Entry.TheVariants.{Cut, Message, Subscribe, Unsubscribe}
use Rattle.mediator_history.specs.Sessions.{messages_of}
use Rattle.mediator_history.specs.Subscriptions.{policy_from, policy_in_force, named, name_of, switched, is_served}
use Rattle.mediator_history.specs.Accepted.{accepted_as, accepted_at, records_at, records_meant}
use Rattle.mediator_history.specs.Counting.{clock_in, clock_of}
use Rattle.mediator_history.proofs.EntryLaws.{messages_few}
use Rattle.mediator_tables.specs.declared.open_session.OpenSession.{OpenSession}
use Rattle.mediator_tables.specs.SessionTable.{SeenSession, seen}
use Rattle.mediator_shares.proofs.SharingLaws.{enumerate-append}
use Rattle.history_verify.specs.declared.exporters.Exporters.{Exporters}
use Rattle.history_verify.proofs.ExporterLaws.{exporters_stay}
use Rattle.history_verify.specs.Legal.{IsNextMessage}
use Rattle.history_verify.specs.Parts.{AreExporters}
use Rattle.history_verify.specs.Standing.{IsReadOf}
use Rattle.ipmd_explain.specs.declared.question.Question.{Question}
use Rattle.ipmd_explain.specs.declared.explainer.Explainer.{Explainer}
use Rattle.ipmd_explain.specs.Explaining.{asked_at, asked_messages, explained_at, explained_of, has_begun, has_message, has_record, is_asked, is_within, line_by, subscribes}
use Rattle.ipmd_explain.specs.Standing.{IsTaken, MayCome, Tracks, Takes, past_entry, explained_line_for, explained_lines, past_message, said_of}

pub or_none : (b : Bool) → (b || false) ≡ b
or_none true = refl
or_none false = refl

pub or_some : (b : Bool) → (b || true) ≡ true
or_some true = refl
or_some false = refl

any_more : {A : Type 0} (f : A → Bool) (xs : List A) (x : A) → list_any f (xs ++ x ∷ []) ≡ (list_any f xs || f x)
any_more f xs x = list_any-append f xs (x ∷ []) ∙ ap (λ b. list_any f xs || b) (or_none (f x))

-- ---- one entry more

-- what an entry makes of an explainer that stands for the history before it
pub record IsNext (x y : Explainer) (h : List Entry) (e : Entry) : Type 0 where
  pub question : y.question ≡ x.question
  pub position : y.position ≡ x.position + 1
  pub policy : y.policy ≡ unwrap_or (policy_from e) x.policy
  pub clock : y.clock ≡ unwrap_or (clock_in e) x.clock
  pub exporters : AreExporters y.exporters (h ++ e ∷ [])
  pub name : string_bytes y.name ≡ unwrap_or (named x.question.sub e) (string_bytes x.name)
  pub begun : y.has_begun ≡ (x.has_begun || subscribes x.question.sub e)
  pub served : y.is_served ≡ unwrap_or (switched x.question.sub e) x.is_served
  pub met_message : y.met_message ≡ (x.met_message || list_any (λ n. true) (asked_at x.question.position h e))
  pub met_record : y.met_record ≡ (x.met_record || list_any (is_within x.question.index) (asked_at x.question.position h e))

any_asked : (p : ℕ → Bool) (position : Option ℕ) (h : List Entry) (e : Entry) → list_any p (asked_messages position (h ++ e ∷ [])) ≡ (list_any p (asked_messages position h) || list_any p (asked_at position h e))
any_asked p position h e = ap (list_any p) (each_with_before-push (asked_at position) h e) ∙ list_any-append p (asked_messages position h) (asked_at position h e)

pub stands_next : (x y : Explainer) (h : List Entry) (e : Entry) → Tracks x h → IsNext x y h e → Tracks y (h ++ e ∷ [])
stands_next x y h e so next = record {
  position = omega (arith, next.position, so.position, length-append h (e ∷ []));
  policy = next.policy ∙ ap (unwrap_or (policy_from e)) so.policy ∙ sym (last_of-push policy_from no_policy h e);
  clock = next.clock ∙ ap (unwrap_or (clock_in e)) so.clock ∙ sym (last_of-push clock_in 0 h e);
  exporters = next.exporters;
  name = next.name ∙ ap (unwrap_or (named q.sub e)) so.name ∙ sym (last_of-push (named q.sub) [] h e) ∙ ap (λ (p : Question). name_of p.sub (h ++ e ∷ [])) same;
  begun = next.begun ∙ ap (λ b. b || subscribes q.sub e) so.begun ∙ sym (any_more (subscribes q.sub) h e) ∙ ap (λ (p : Question). has_begun p.sub (h ++ e ∷ [])) same;
  served = next.served ∙ ap (unwrap_or (switched q.sub e)) so.served ∙ sym (last_of-push (switched q.sub) false h e) ∙ ap (λ (p : Question). is_served p.sub (h ++ e ∷ [])) same;
  met_message = next.met_message ∙ ap (λ b. b || list_any (λ n. true) (asked_at q.position h e)) so.met_message ∙ sym (any_asked (λ n. true) q.position h e) ∙ ap (λ (p : Question). has_message p (h ++ e ∷ [])) same;
  met_record = next.met_record ∙ ap (λ b. b || list_any (is_within q.index) (asked_at q.position h e)) so.met_record ∙ sym (any_asked (is_within q.index) q.position h e) ∙ ap (λ (p : Question). has_record p (h ++ e ∷ [])) same;
} where
  q : Question
  q = x.question

  same : x.question ≡ y.question
  same = sym next.question

-- ---- an entry that is no message

-- what it changes
pub record IsChanged (x z : Explainer) (h : List Entry) (e : Entry) : Type 0 where
  pub question : z.question ≡ x.question
  pub position : z.position ≡ x.position
  pub policy : z.policy ≡ unwrap_or (policy_from e) x.policy
  pub clock : z.clock ≡ unwrap_or (clock_in e) x.clock
  pub exporters : AreExporters z.exporters (h ++ e ∷ [])
  pub name : string_bytes z.name ≡ unwrap_or (named x.question.sub e) (string_bytes x.name)
  pub begun : z.has_begun ≡ (x.has_begun || subscribes x.question.sub e)
  pub served : z.is_served ≡ unwrap_or (switched x.question.sub e) x.is_served
  pub met_message : z.met_message ≡ x.met_message
  pub met_record : z.met_record ≡ x.met_record

next_counted : (x z : Explainer) (h : List Entry) (e : Entry) → IsChanged x z h e → asked_at x.question.position h e ≡ [] → IsNext x (past_entry z) h e
next_counted x z h e to none = record {
  question = to.question;
  position = ap (λ n. n + 1) to.position;
  policy = to.policy;
  clock = to.clock;
  exporters = to.exporters;
  name = to.name;
  begun = to.begun;
  served = to.served;
  met_message = to.met_message ∙ sym (or_none x.met_message) ∙ ap (λ (ns : List ℕ). x.met_message || list_any (λ n. true) ns) (sym none);
  met_record = to.met_record ∙ sym (or_none x.met_record) ∙ ap (λ (ns : List ℕ). x.met_record || list_any (is_within x.question.index) ns) (sym none);
}

-- nothing is said of it
pub taken_silent : (x z y : Explainer) (h : List Entry) (e : Entry) (text : List ℕ) → Tracks x h → MayCome h e → IsChanged x z h e → (z.position + 1 < 2 ^ 64 → y ≡ past_entry z) → text ≡ []
    → accepted_at h e ≡ [] → asked_at x.question.position h e ≡ [] → IsTaken x y h e text
taken_silent x z y h e text so may to counts silent none unasked = record {
  question = ap (λ (w : Explainer). w.question) is ∙ to.question;
  stands = subst (λ (w : Explainer). Tracks w (h ++ e ∷ [])) (sym is) (stands_next x (past_entry z) h e so (next_counted x z h e to unasked));
  said = silent ∙ ap (flat_map (explained_of x.question h)) (sym none);
} where
  is : y ≡ past_entry z
  is = counts (omega (arith, to.position, so.position, may.short))

-- ---- before any entry

pub stands_none : (x : Explainer) → x.position ≡ 0 → x.policy ≡ no_policy → x.clock ≡ 0 → AreExporters x.exporters [] → string_bytes x.name ≡ [] → x.has_begun ≡ false → x.is_served ≡ false
    → x.met_message ≡ false → x.met_record ≡ false → Tracks x []
stands_none x position policy clock exporters name begun served met_message met_record = record {
  position = position;
  policy = policy;
  clock = clock;
  exporters = exporters;
  name = name;
  begun = begun;
  served = served;
  met_message = met_message;
  met_record = met_record;
}

-- ---- a message

header_meant : (older : List (List ℕ)) (message : List ℕ) (m : Meaning) → meaning_of older message ≡ Ok m → m.header ≡ header_of message
unfolding meaning_of
header_meant older message m means = by_contents (contents_of older message) means where
  some_same : (a b : Meaning) → (let made : Result Meaning ReadError = Ok a in made ≡ Ok b) → b ≡ a
  some_same a b same = cc

  by_contents : (c : Result Contents ReadError) → (c >>= λ k. Ok (record { header = header_of message; records = k.records; skips = k.skips; gap = gap_of older message })) ≡ Ok m → m.header ≡ header_of message
  by_contents (Err e) is = absurd cc
  by_contents (Ok k) is = ap (λ (n : Meaning). n.header) (some_same (record { header = header_of message; records = k.records; skips = k.skips; gap = gap_of older message }) m is)

abbrev shown : Question → Policy → List ℕ → ℕ → ℕ → Bool → ℕ → List DataRecord → List ℕ
shown q policy name clock position served domain records =
    cond (is_asked q.position position && served) (flat_map (λ r. cond (is_asked q.index r.0) (line_by policy name domain clock position r.0 r.1) []) (enumerate_from 0 records)) []

none_of : {A B : Type 0} (xs : List A) → (let nothing : A → List B = λ x. [] in flat_map nothing xs ≡ [])
none_of [] = refl
none_of (x ∷ xs) = none_of xs

gated : {A B : Type 0} (b : Bool) (g : A → Bool) (f : A → List B) (xs : List A) → cond b (flat_map (λ r. cond (g r) (f r) []) xs) [] ≡ flat_map (λ r. cond (b && g r) (f r) []) xs
gated true g f xs = refl
gated false g f xs = sym (none_of xs)

pub said_is : (x : Explainer) (h : List Entry) (session number : ℕ) (octets : List ℕ) (reading : Ahead) → Tracks x h → IsReadOf h session number octets reading
    → said_of x reading.meaning.header.domain reading.meaning.records ≡ explained_at x.question h (Message session number octets)
said_is x h session number octets reading so read =
    ap (λ (p : Policy). shown q p (string_bytes x.name) x.clock x.position x.is_served reading.meaning.header.domain reading.meaning.records) so.policy
    ∙ ap (λ (n : List ℕ). shown q (policy_in_force h) n x.clock x.position x.is_served reading.meaning.header.domain reading.meaning.records) so.name
    ∙ ap (λ n. shown q (policy_in_force h) (name_of q.sub h) n x.position x.is_served reading.meaning.header.domain reading.meaning.records) so.clock
    ∙ ap (λ n. shown q (policy_in_force h) (name_of q.sub h) (clock_of h) n x.is_served reading.meaning.header.domain reading.meaning.records) so.position
    ∙ ap (λ b. shown q (policy_in_force h) (name_of q.sub h) (clock_of h) (length h) b reading.meaning.header.domain reading.meaning.records) so.served
    ∙ ap (λ n. shown q (policy_in_force h) (name_of q.sub h) (clock_of h) (length h) (is_served q.sub h) n reading.meaning.records) domain
    ∙ ap (shown q (policy_in_force h) (name_of q.sub h) (clock_of h) (length h) (is_served q.sub h) (domain_of octets)) (sym records)
    ∙ gated (is_asked q.position (length h) && is_served q.sub h) (λ (r : ℕ × DataRecord). is_asked q.index r.0) (λ (r : ℕ × DataRecord). line_by (policy_in_force h) (name_of q.sub h) (domain_of octets) (clock_of h) (length h) r.0 r.1) numbered
    ∙ sym (flat_map-map (explained_of q h) (accepted_as (length h) session (domain_of octets)) numbered)
  where
    q : Question
    q = x.question

    records : records_at h (Message session number octets) ≡ reading.meaning.records
    records = ap records_meant read.read.means

    numbered : List (ℕ × DataRecord)
    numbered = enumerate_from 0 (records_at h (Message session number octets))

    domain : reading.meaning.header.domain ≡ domain_of octets
    domain = ap (λ (k : Header). k.domain) (header_meant (messages_of session h) octets reading.meaning read.read.means)

-- one record more
pub lines_turn : (x : Explainer) (domain : ℕ) (rs : List DataRecord) (i : ℕ) (r : DataRecord) (before text after : List ℕ) → i < length rs → before ≡ explained_lines x domain (take i rs) → text ≡ explained_line_for x domain (i, get_or rs i r) → after ≡ before ++ text
    → after ≡ explained_lines x domain (take (i + 1) rs)
lines_turn x domain rs i r before text after low so said joined =
    joined ∙ ap (λ t. t ++ text) so ∙ ap (λ t. explained_lines x domain (take i rs) ++ t) (said ∙ sym (append-nil (explained_line_for x domain (i, get_or rs i r))))
    ∙ sym (ap (explained_lines x domain) (take_more rs i r low)
    ∙ ap (flat_map (explained_line_for x domain)) (enumerate-append 0 (take i rs) (get_or rs i r ∷ []) ∙ ap (λ n. enumerate_from 0 (take i rs) ++ (n, get_or rs i r) ∷ []) counts)
    ∙ flat_map-append (explained_line_for x domain) (enumerate_from 0 (take i rs)) ((i, get_or rs i r) ∷ []))
  where
    counts : 0 + length (take i rs) ≡ i
    counts = omega (arith, length-take i rs, low)

-- the message was met, and counted
met_one : (p : ℕ → Bool) (b : Bool) (n : ℕ) → list_any p (cond b (n ∷ []) []) ≡ (b && p n)
met_one p true n = or_none (p n)
met_one p false n = refl

met_any : (b : Bool) → b ≡ (b && true)
met_any true = refl
met_any false = refl

pub next_message : (x y : Explainer) (h : List Entry) (session number : ℕ) (octets : List ℕ) (reading : Ahead) → Tracks x h → IsReadOf h session number octets reading
    → y.question ≡ x.question → y.position ≡ x.position + 1 → y.policy ≡ x.policy → y.clock ≡ x.clock → y.name ≡ x.name → y.has_begun ≡ x.has_begun → y.is_served ≡ x.is_served
    → y.met_message ≡ (past_message x (length reading.meaning.records)).met_message → y.met_record ≡ (past_message x (length reading.meaning.records)).met_record
    → AreExporters y.exporters (h ++ Message session number octets ∷ []) → IsNext x y h (Message session number octets)
next_message x y h session number octets reading so read question position policy clock name begun served met_message met_record exporters = record {
  question = question;
  position = position;
  policy = policy;
  clock = clock;
  exporters = exporters;
  name = ap string_bytes name;
  begun = begun ∙ sym (or_none x.has_begun);
  served = served;
  met_message = met_message ∙ ap (λ b. x.met_message || b) (met_any asked ∙ sym (met_one (λ n. true) asked count)) ∙ ap (λ (ns : List ℕ). x.met_message || list_any (λ n. true) ns) there;
  met_record = met_record ∙ ap (λ b. x.met_record || b) (sym (met_one (is_within x.question.index) asked count)) ∙ ap (λ (ns : List ℕ). x.met_record || list_any (is_within x.question.index) ns) there;
} where
  asked : Bool
  asked = is_asked x.question.position x.position

  count : ℕ
  count = length reading.meaning.records

  there : cond asked (count ∷ []) [] ≡ asked_at x.question.position h (Message session number octets)
  there = ap (λ n. cond (is_asked x.question.position n) (count ∷ []) []) so.position
      ∙ ap (λ (rs : List DataRecord). cond (is_asked x.question.position (length h)) (length rs ∷ []) []) (sym (ap records_meant read.read.means))

pub taken_message : (x y : Explainer) (h : List Entry) (session number : ℕ) (octets : List ℕ) (reading : Ahead) (text : List ℕ) → Tracks x h → IsReadOf h session number octets reading
    → text ≡ said_of x reading.meaning.header.domain reading.meaning.records → IsNext x y h (Message session number octets) → IsTaken x y h (Message session number octets) text
taken_message x y h session number octets reading text so read said next = record {
  question = next.question;
  stands = stands_next x y h (Message session number octets) so next;
  said = said ∙ said_is x h session number octets reading so read;
}

-- so by the steps in which it is taken
pub taken_met : (x y m : Explainer) (es : Exporters) (h : List Entry) (session number : ℕ) (octets : List ℕ) (reading : Ahead) (n : ℕ) (text : List ℕ) → Tracks x h → MayCome h (Message session number octets) → IsReadOf h session number octets reading
    → text ≡ said_of x reading.meaning.header.domain reading.meaning.records → m ≡ past_message (record x { exporters = es }) n → n ≡ length reading.meaning.records → (m.position + 1 < 2 ^ 64 → y ≡ past_entry m)
    → AreExporters es (h ++ Message session number octets ∷ []) → IsTaken x y h (Message session number octets) text
taken_met x y m es h session number octets reading n text so may read said meets counts_are counts exporters =
    subst (λ (w : Explainer). IsTaken x w h (Message session number octets) text) (sym is)
    (taken_message x after h session number octets reading text so read said (next_message x after h session number octets reading so read refl refl refl refl refl refl refl refl refl exporters))
  where
    after : Explainer
    after = past_entry (past_message (record x { exporters = es }) (length reading.meaning.records))

    is : y ≡ after
    is = counts (omega (arith, ap (λ (w : Explainer). w.position) meets, so.position, may.short)) ∙ ap past_entry (meets ∙ ap (past_message (record x { exporters = es })) counts_are)

-- the number of a message that may come has one above it
pub number_few : (h : List Entry) (session number : ℕ) (octets : List ℕ) → length h ≤ MOST_ENTRIES → IsNextMessage h session number octets → number + 1 < 2 ^ 64
number_few h session number octets short next = omega (arith, short, next.turn, messages_few session h)

-- ---- room for a message

some_same : {A : Type 0} (x y : A) → Some x ≡ Some y → x ≡ y
some_same x y e = cc

pub count_stays : (old new : Option OpenSession) → option_map seen new ≡ option_map seen old → IsSomeAnd old (λ o. o.accepted + 1 < 2 ^ 64) → IfSome new (λ o. o.accepted + 1 < 2 ^ 64)
count_stays None new same is = absurd is
count_stays (Some o) None same is = tt
count_stays (Some o) (Some n) same is =
    let counts : n.accepted ≡ o.accepted = ap (λ (s : SeenSession). s.accepted) (some_same (seen n) (seen o) same) in
    omega (arith, counts, is)

pub room_there : (old new : Option OpenSession) (reading : Ahead) → option_map seen new ≡ option_map seen old → IsSomeAnd old (λ o. o.accepted + 1 < 2 ^ 64) → IfSome new (λ o. HasRoomFor o.session reading) → IsSomeAnd new (λ o. HasRoomFor o.session reading)
room_there None new reading same is room = absurd is
room_there (Some o) None reading same is room = absurd cc
room_there (Some o) (Some n) reading same is room = room

-- the entry by another name
pub takes_as : {S E : Type 0} (say : S → List ℕ) (x y : Explainer) (e f : Entry) (r : Result S E) → f ≡ e → IfOk r (λ text. Takes x e y (say text)) → IfOk r (λ text. Takes x f y (say text))
takes_as say x y e f r is takes = subst (λ (k : Entry). IfOk r (λ text. Takes x k y (say text))) (sym is) takes

-- ---- the question's subscription begins, ends or is cut

eqb_other : (a b : ℕ) → (a ≡ b → ⊥) → (a == b) ≡ false
eqb_other a b other = ne_eqb a b other

pub other_begins : (q : Question) (sub : ℕ) (name : List ℕ) → (sub ≡ q.sub → ⊥) → named q.sub (Subscribe sub name) ≡ None
other_begins q sub name other = ap (λ b. cond b (Some name) None) (eqb_other sub q.sub other)

pub other_switches : (q : Question) (sub : ℕ) (name : List ℕ) → (sub ≡ q.sub → ⊥) → switched q.sub (Subscribe sub name) ≡ None
other_switches q sub name other = ap (λ b. cond b (Some true) None) (eqb_other sub q.sub other)

pub other_ends : (q : Question) (sub : ℕ) → (sub ≡ q.sub → ⊥) → switched q.sub (Unsubscribe sub) ≡ None
other_ends q sub other = ap (λ b. cond b (Some false) None) (eqb_other sub q.sub other)

pub other_cut : (q : Question) (sub : ℕ) → (sub ≡ q.sub → ⊥) → switched q.sub (Cut sub) ≡ None
other_cut q sub other = ap (λ b. cond b (Some false) None) (eqb_other sub q.sub other)

pub own_begins : (q : Question) (sub : ℕ) (name : List ℕ) → sub ≡ q.sub → named q.sub (Subscribe sub name) ≡ Some name
own_begins q sub name same = ap (λ b. cond b (Some name) None) (eq-eqb sub q.sub same)

pub own_switches : (q : Question) (sub : ℕ) (name : List ℕ) → sub ≡ q.sub → switched q.sub (Subscribe sub name) ≡ Some true
own_switches q sub name same = ap (λ b. cond b (Some true) None) (eq-eqb sub q.sub same)

pub own_ends : (q : Question) (sub : ℕ) → sub ≡ q.sub → switched q.sub (Unsubscribe sub) ≡ Some false
own_ends q sub same = ap (λ b. cond b (Some false) None) (eq-eqb sub q.sub same)

pub own_cut : (q : Question) (sub : ℕ) → sub ≡ q.sub → switched q.sub (Cut sub) ≡ Some false
own_cut q sub same = ap (λ b. cond b (Some false) None) (eq-eqb sub q.sub same)

pub changed_other : (x : Explainer) (h : List Entry) (sub : ℕ) (name : List ℕ) → Tracks x h → (sub ≡ x.question.sub → ⊥) → IsChanged x x h (Subscribe sub name)
changed_other x h sub name so other = record {
  question = refl;
  position = refl;
  policy = refl;
  clock = refl;
  exporters = exporters_stay x.exporters h (Subscribe sub name) (λ s. refl) (λ s. refl) refl so.exporters;
  name = ap (λ (o : Option (List ℕ)). unwrap_or o (string_bytes x.name)) (sym (other_begins x.question sub name other));
  begun = sym (or_none x.has_begun) ∙ ap (λ (o : Option (List ℕ)). x.has_begun || is_some o) (sym (other_begins x.question sub name other));
  served = ap (λ (o : Option Bool). unwrap_or o x.is_served) (sym (other_switches x.question sub name other));
  met_message = refl;
  met_record = refl;
}

pub changed_own : (x z : Explainer) (h : List Entry) (sub : ℕ) (name : List ℕ) → Tracks x h → sub ≡ x.question.sub → z.question ≡ x.question → z.position ≡ x.position → z.policy ≡ x.policy → z.clock ≡ x.clock → z.exporters ≡ x.exporters
    → string_bytes z.name ≡ name → z.has_begun ≡ true → z.is_served ≡ true → z.met_message ≡ x.met_message → z.met_record ≡ x.met_record → IsChanged x z h (Subscribe sub name)
changed_own x z h sub name so own question position policy clock exporters named_so begun served met_message met_record = record {
  question = question;
  position = position;
  policy = policy;
  clock = clock;
  exporters = subst (λ es. AreExporters es (h ++ Subscribe sub name ∷ [])) (sym exporters) (exporters_stay x.exporters h (Subscribe sub name) (λ s. refl) (λ s. refl) refl so.exporters);
  name = named_so ∙ ap (λ (o : Option (List ℕ)). unwrap_or o (string_bytes x.name)) (sym (own_begins x.question sub name own));
  begun = begun ∙ sym (or_some x.has_begun) ∙ ap (λ (o : Option (List ℕ)). x.has_begun || is_some o) (sym (own_begins x.question sub name own));
  served = served ∙ ap (λ (o : Option Bool). unwrap_or o x.is_served) (sym (own_switches x.question sub name own));
  met_message = met_message;
  met_record = met_record;
}

pub ended_other : (x : Explainer) (h : List Entry) (sub : ℕ) → Tracks x h → (sub ≡ x.question.sub → ⊥) → IsChanged x x h (Unsubscribe sub)
ended_other x h sub so other = record {
  question = refl;
  position = refl;
  policy = refl;
  clock = refl;
  exporters = exporters_stay x.exporters h (Unsubscribe sub) (λ s. refl) (λ s. refl) refl so.exporters;
  name = refl;
  begun = sym (or_none x.has_begun);
  served = ap (λ (o : Option Bool). unwrap_or o x.is_served) (sym (other_ends x.question sub other));
  met_message = refl;
  met_record = refl;
}

pub ended_own : (x : Explainer) (h : List Entry) (sub : ℕ) → Tracks x h → sub ≡ x.question.sub → IsChanged x (record x { is_served = false }) h (Unsubscribe sub)
ended_own x h sub so own = record {
  question = refl;
  position = refl;
  policy = refl;
  clock = refl;
  exporters = exporters_stay x.exporters h (Unsubscribe sub) (λ s. refl) (λ s. refl) refl so.exporters;
  name = refl;
  begun = sym (or_none x.has_begun);
  served = ap (λ (o : Option Bool). unwrap_or o x.is_served) (sym (own_ends x.question sub own));
  met_message = refl;
  met_record = refl;
}

pub cut_other : (x : Explainer) (h : List Entry) (sub : ℕ) → Tracks x h → (sub ≡ x.question.sub → ⊥) → IsChanged x x h (Cut sub)
cut_other x h sub so other = record {
  question = refl;
  position = refl;
  policy = refl;
  clock = refl;
  exporters = exporters_stay x.exporters h (Cut sub) (λ s. refl) (λ s. refl) refl so.exporters;
  name = refl;
  begun = sym (or_none x.has_begun);
  served = ap (λ (o : Option Bool). unwrap_or o x.is_served) (sym (other_cut x.question sub other));
  met_message = refl;
  met_record = refl;
}

pub cut_own : (x : Explainer) (h : List Entry) (sub : ℕ) → Tracks x h → sub ≡ x.question.sub → IsChanged x (record x { is_served = false }) h (Cut sub)
cut_own x h sub so own = record {
  question = refl;
  position = refl;
  policy = refl;
  clock = refl;
  exporters = exporters_stay x.exporters h (Cut sub) (λ s. refl) (λ s. refl) refl so.exporters;
  name = refl;
  begun = sym (or_none x.has_begun);
  served = ap (λ (o : Option Bool). unwrap_or o x.is_served) (sym (own_cut x.question sub own));
  met_message = refl;
  met_record = refl;
}
