-- No more is held than the limits allow, call after call.
use Rattle.std.proofs.Common.{◌≡◌, ℕ, zero, suc, ◌+◌, ◌*◌, ◌<◌, ◌≤◌, Bool, true, false, cond, List, [], ◌∷◌, ◌++◌, length, map, take, drop, Option, Some, None, refl, sym, ap, ◌∙◌, subst, arith, append_assoc, append-nil, length-append}
use Rattle.std.specs.Prelude.{◌≢◌, ◌==◌, ◌&&◌, ◌||◌, nat_lt, not, filter, unwrap_or}
use Rattle.std.proofs.Math.Nat.{mul-add, mul-suc}
use Rattle.std.proofs.lemmas.Bool.{ltb-false, eqb-true, eqb-false, and_parts}
use Rattle.std.proofs.lemmas.List.{length-drop, drop-drop, drop-append-le, take-append-drop}
use Rattle.sequences.proofs.BeforeLaws.{last_of-push}
use Rattle.ipfix_template.specs.DataRecord.{DataRecord}
use Rattle.subscriber_stream.specs.declared.limits.StreamLimits.{StreamLimits}
use Rattle.subscriber_stream.specs.Shapes.{shapes_of}
use Rattle.subscriber_stream.specs.Parts.{Part, parts, records_of_parts}
use Rattle.subscriber_stream.specs.Message.{parts_taken}
use Rattle.subscriber_stream.proofs.CallLaws.{parts_bring, parts_more}
use Rattle.subscriber_stream.proofs.Standings.{records_in-append}
use Rattle.disclosure_audit.specs.declared.entry.AuditEntry.{AuditEntry}
use Rattle.event_journal.specs.declared.entry.Entry.{Entry}
use Rattle.event_journal.specs.declared.entry.Entry.TheVariants.{Open, Close, Message, Edit, Subscribe, Unsubscribe, Advance, Cut}
use Rattle.mediator_history.specs.Numbers.{is_in}
use Rattle.mediator_history.specs.Subscriptions.{begins, is_live, is_served, served, subscriptions_begun}
use Rattle.mediator_history.specs.Disclosed.{given_at, disclosed}
use Rattle.mediator_history.specs.Auditing.{audit_at, audit_list, cut_entries}
use Rattle.mediator_history.specs.Cuts.{overflows, is_cut_by, after_cuts}
use Rattle.mediator_history.proofs.CountingLaws.{given_at-cuts}
use Rattle.mediator_history.proofs.CutLaws.{last_of-cuts, disclosed-cuts, is_served-cuts, audit-cuts, given-unserved}
use Rattle.mediator_history.proofs.EntryLaws.{given_same, audit_same}
use Rattle.mediator_history.proofs.HistoryLaws.{disclosed-push, audit-push}
use Rattle.mediator_state.specs.declared.receipt.Receipt.{Receipt}
use Rattle.mediator_state.proofs.AdvanceSteps.{closes_served_only}
use Rattle.mediator_state.proofs.Judging.{in_filter}
use Rattle.mediator_state.proofs.MessageSteps.{GivesServedOnly}
use Rattle.mediator_calls.specs.declared.limits.Limits.{Limits}
use Rattle.mediator_calls.specs.Mediation.{Mediation, started, place_at, waiting_at, noted_at, stream_limits}
use Rattle.mediator_calls.specs.Held.{IsHeld}
use Rattle.mediator_calls.specs.Calls.{GoesOn, AuditHolds, with_cuts, Opens, Closes, Receives, Edits, Subscribes, Unsubscribes, Advances, Pulls, Drains}
use Rattle.mediator_calls.specs.Sound.{IsSoundMediation}

-- ---- what waits

abbrev count_in : List Part → ℕ
count_in ps = length (records_of_parts ps)

counts_add : (ps qs : List Part) → count_in (ps ++ qs) ≡ count_in ps + count_in qs
counts_add ps qs = ap (λ (rs : List DataRecord). length rs) (records_in-append ps qs) ∙ length-append (records_of_parts ps) (records_of_parts qs)

-- so many records more wait
waits_more : (records more : List DataRecord) (p : ℕ) → p ≤ length (parts records) → count_in (drop p (parts (records ++ more))) ≡ count_in (drop p (parts records)) + length more
waits_more records more p within = at (parts_more records more) where
  at : (others : List Part) × (parts (records ++ more) ≡ parts records ++ others) → count_in (drop p (parts (records ++ more))) ≡ count_in (drop p (parts records)) + length more
  at found =
      let brought : count_in found.0 ≡ length more = omega (
        arith,
        ap count_in found.1,
        counts_add (parts records) found.0,
        ap (λ (rs : List DataRecord). length rs) (parts_bring (records ++ more)),
        ap (λ (rs : List DataRecord). length rs) (parts_bring records),
        length-append records more,
      ) in
      ap (λ (ps : List Part). count_in (drop p ps)) found.1
      ∙ ap count_in (drop-append-le p (parts records) found.0 within)
      ∙ counts_add (drop p (parts records)) found.0
      ∙ ap (λ (n : ℕ). count_in (drop p (parts records)) + n) brought

-- no more wait past a later place
waits_less : (ps : List Part) (n : ℕ) → count_in (drop n ps) ≤ count_in ps
waits_less ps n = omega (arith, counts_add (take n ps) (drop n ps), ap count_in (take-append-drop n ps))

-- ---- what an entry brings

-- where there are some records, the limits leave room for them
abbrev pub Fits : StreamLimits → List DataRecord → ℕ → List DataRecord → Type 0
Fits limits listed waiting more = 0 < length more → (waiting + length more ≤ limits.queue) × (length (shapes_of (listed ++ more)) ≤ limits.shapes)

uncut_fits : (limits : StreamLimits) (listed : List DataRecord) (waiting : ℕ) (more : List DataRecord) → overflows limits listed waiting more ≡ false → Fits limits listed waiting more
uncut_fits limits listed waiting more none some = first (nat_lt 0 (length more)) refl none where
  last : (b c : Bool) → nat_lt limits.queue (waiting + length more) ≡ b → nat_lt limits.shapes (length (shapes_of (listed ++ more))) ≡ c → (b || c) ≡ false → (waiting + length more ≤ limits.queue) × (length (shapes_of (listed ++ more)) ≤ limits.shapes)
  last true c f g over = absurd cc
  last false true f g over = absurd cc
  last false false f g over = (ltb-false limits.queue (waiting + length more) f, ltb-false limits.shapes (length (shapes_of (listed ++ more))) g)

  first : (b : Bool) → nat_lt 0 (length more) ≡ b → (b && (nat_lt limits.queue (waiting + length more) || nat_lt limits.shapes (length (shapes_of (listed ++ more))))) ≡ false → (waiting + length more ≤ limits.queue) × (length (shapes_of (listed ++ more)) ≤ limits.shapes)
  first true f over = last (nat_lt limits.queue (waiting + length more)) (nat_lt limits.shapes (length (shapes_of (listed ++ more)))) refl refl over
  first false f over = absurd (omega (arith, some, ltb-false 0 (length more) f))

-- these entries give so much to each subscription, which has room for it, and the audit, which has room too, names so many of them
pub record Brings (old : Mediation) (more : List Entry) : Type 0 where
  pub some : 1 ≤ length more
  pub given : ℕ → List DataRecord
  pub gives : (sub : ℕ) → disclosed sub (old.history ++ more) ≡ disclosed sub old.history ++ given sub
  pub fits : (sub : ℕ) → Fits (stream_limits old.limits) (disclosed sub old.history) (waiting_at old sub) (given sub)
  pub waits : (sub : ℕ) → is_live sub (old.history ++ more) ≡ true → waiting_at old sub ≤ old.limits.queue
  pub noted : List AuditEntry
  pub notes : audit_list (old.history ++ more) ≡ audit_list old.history ++ noted
  pub audit : length (drop old.drained (audit_list (old.history ++ more))) ≤ old.limits.audit

few_given : (limits : StreamLimits) (listed : List DataRecord) (waiting : ℕ) (more : List DataRecord) → Fits limits listed waiting more → length more ≤ limits.queue
few_given limits listed waiting [] fits = omega arith
few_given limits listed waiting (r ∷ more) fits = omega (arith, (fits (omega arith)).0)

few_wait : (limits : StreamLimits) (listed : List DataRecord) (waiting : ℕ) (more : List DataRecord) → waiting ≤ limits.queue → Fits limits listed waiting more → waiting + length more ≤ limits.queue
few_wait limits listed waiting [] low fits = omega (arith, low)
few_wait limits listed waiting (r ∷ more) low fits = (fits (omega arith)).0

few_shapes : (limits : StreamLimits) (listed : List DataRecord) (waiting : ℕ) (more : List DataRecord) → length (shapes_of listed) ≤ limits.shapes → Fits limits listed waiting more → length (shapes_of (listed ++ more)) ≤ limits.shapes
few_shapes limits listed waiting [] low fits = subst (λ (l : List DataRecord). length (shapes_of l) ≤ limits.shapes) (sym (append-nil listed)) low
few_shapes limits listed waiting (r ∷ more) low fits = (fits (omega arith)).1

-- a limit for each entry, and one entry more at least
each_more : (q n k : ℕ) → 1 ≤ k → q * n + q ≤ q * (n + k)
each_more q n zero some = absurd (omega (arith, some))
each_more q n (suc k) some = by_sums (q * n) (q * suc k) (q * k) (q * (n + suc k)) (mul-add q n (suc k)) (mul-suc q k) where
  by_sums : (a b c whole : ℕ) → whole ≡ a + b → b ≡ c + q → a + q ≤ whole
  by_sums a b c whole all one = omega (arith, all, one)

within_more : (q total more n k whole : ℕ) → 1 ≤ k → total ≤ q * n → more ≤ q → whole ≡ total + more → whole ≤ q * (n + k)
within_more q total more n k whole some low few is = by_bounds (q * n) (q * (n + k)) low (each_more q n k some) where
  by_bounds : (a b : ℕ) → total ≤ a → a + q ≤ b → whole ≤ b
  by_bounds a b low up = omega (arith, low, up, few, is)

pub held_on : (old new : Mediation) (more : List Entry) → IsSoundMediation old → GoesOn old more new → Brings old more → IsHeld new
held_on old new more sound on brings = record {
  queued = λ sub live. omega (
    arith,
    waits sub live,
    few_wait (stream_limits old.limits) (disclosed sub old.history) (waiting_at old sub) (brings.given sub) (brings.waits sub (ap (is_live sub) (sym on.history) ∙ live)) (brings.fits sub),
    ap (λ (l : Limits). l.queue) on.limits,
  );
  shapes = λ sub. omega (
    arith,
    few_shapes (stream_limits old.limits) (disclosed sub old.history) (waiting_at old sub) (brings.given sub) (sound.held.shapes sub) (brings.fits sub),
    ap (λ (l : List DataRecord). length (shapes_of l)) (listed sub),
    ap (λ (l : Limits). l.shapes) on.limits,
  );
  noted = omega (
    arith,
    brings.audit,
    ap (λ (n : ℕ). length (drop n (audit_list new.history))) on.drained,
    ap (λ (h : List Entry). length (drop old.drained (audit_list h))) on.history,
    ap (λ (l : Limits). l.audit) on.limits,
  );
  listed = λ sub. moved (λ l. l.queue) (length (disclosed sub new.history))
      (within_more old.limits.queue (length (disclosed sub old.history)) (length (brings.given sub)) (length old.history) (length more) (length (disclosed sub new.history)) brings.some (sound.held.listed sub)
      (few_given (stream_limits old.limits) (disclosed sub old.history) (waiting_at old sub) (brings.given sub) (brings.fits sub))
      (ap (λ (l : List DataRecord). length l) (listed sub) ∙ length-append (disclosed sub old.history) (brings.given sub)));
  audited = moved (λ l. l.audit) (length (audit_list new.history))
      (within_more old.limits.audit (length (audit_list old.history)) (length brings.noted) (length old.history) (length more) (length (audit_list new.history)) brings.some sound.held.audited few_noted
      (ap (λ (h : List Entry). length (audit_list h)) on.history ∙ ap (λ (l : List AuditEntry). length l) brings.notes ∙ length-append (audit_list old.history) brings.noted));
} where
  listed : (sub : ℕ) → disclosed sub new.history ≡ disclosed sub old.history ++ brings.given sub
  listed sub = ap (disclosed sub) on.history ∙ brings.gives sub

  waits : (sub : ℕ) → is_live sub new.history ≡ true → waiting_at new sub ≡ waiting_at old sub + length (brings.given sub)
  waits sub live =
      ap (λ (p : ℕ). count_in (drop p (parts (disclosed sub new.history)))) (on.places sub live)
      ∙ ap (λ (l : List DataRecord). count_in (drop (place_at old sub) (parts l))) (listed sub)
      ∙ waits_more (disclosed sub old.history) (brings.given sub) (place_at old sub) (sound.places sub)

  few_noted : length brings.noted ≤ old.limits.audit
  few_noted = omega (
    arith,
    brings.audit,
    ap (λ (l : List AuditEntry). length (drop old.drained l)) brings.notes,
    ap (λ (l : List AuditEntry). length l) (drop-append-le old.drained (audit_list old.history) brings.noted sound.drained),
    length-append (drop old.drained (audit_list old.history)) brings.noted,
  )

  moved : (limit : Limits → ℕ) (n : ℕ) → n ≤ limit old.limits * (length old.history + length more) → n ≤ limit new.limits * length new.history
  moved limit n low =
      subst (λ (l : Limits). n ≤ limit l * length new.history) (sym on.limits)
      (subst (λ (m : ℕ). n ≤ limit old.limits * m) (sym (ap (λ (h : List Entry). length h) on.history ∙ length-append old.history more)) low)

-- ---- entries that give nothing

brings_nothing : (m : Mediation) (x : Entry) → IsSoundMediation m → ((sub : ℕ) → given_at sub m.history x ≡ []) → audit_at m.history x ≡ [] → ((sub : ℕ) → is_live sub (m.history ++ x ∷ []) ≡ true → waiting_at m sub ≤ m.limits.queue) → Brings m (x ∷ [])
brings_nothing m x sound given named waits = record {
  some = omega arith;
  given = λ sub. [];
  gives = λ sub. given_same sub m.history x (given sub) ∙ sym (append-nil (disclosed sub m.history));
  fits = λ sub some. absurd (omega (arith, some));
  waits = waits;
  noted = [];
  notes = audit_same m.history x named ∙ sym (append-nil (audit_list m.history));
  audit = subst (λ (l : List AuditEntry). length (drop m.drained l) ≤ m.limits.audit) (sym (audit_same m.history x named)) sound.held.noted;
}

-- an entry by which no subscription begins leaves those that are live
still_live : (h : List Entry) (x : Entry) (sub : ℕ) → begins sub x ≡ None → is_live sub (h ++ x ∷ []) ≡ true → is_live sub h ≡ true
still_live h x sub none live = sym (last_of-push (begins sub) false h x ∙ ap (λ (o : Option Bool). unwrap_or o (is_live sub h)) none) ∙ live

pub held_open : (old new : Mediation) (n : ℕ) → IsSoundMediation old → Opens old n new → IsHeld new
held_open old new n sound is =
    held_on old new (Open n ∷ []) sound is.goes_on (brings_nothing old (Open n) sound (λ sub. refl) refl (λ sub live. sound.held.queued sub (still_live old.history (Open n) sub refl live)))

pub held_close : (old new : Mediation) (session : ℕ) → IsSoundMediation old → Closes old session new → IsHeld new
held_close old new session sound is =
    held_on old new (Close session ∷ []) sound is.goes_on (brings_nothing old (Close session) sound (λ sub. refl) refl (λ sub live. sound.held.queued sub (still_live old.history (Close session) sub refl live)))

pub held_edit : (old new : Mediation) (text : List ℕ) (n : ℕ) → IsSoundMediation old → Edits old text n new → IsHeld new
held_edit old new text n sound is =
    held_on old new (Edit text ∷ []) sound is.goes_on (brings_nothing old (Edit text) sound (λ sub. refl) refl (λ sub live. sound.held.queued sub (still_live old.history (Edit text) sub refl live)))

-- none waits for one to which nothing was disclosed
none_wait : (m : Mediation) (sub : ℕ) → disclosed sub m.history ≡ [] → waiting_at m sub ≤ m.limits.queue
none_wait m sub nothing = omega (
  arith,
  ap (λ (l : List DataRecord). count_in (drop (place_at m sub) (parts l))) nothing,
  waits_less (parts []) (place_at m sub),
  ap (λ (rs : List DataRecord). length rs) (parts_bring []),
)

pub held_subscribe : (old new : Mediation) (name : List ℕ) (n : ℕ) → IsSoundMediation old → Subscribes old name n new → IsHeld new
held_subscribe old new name n sound is = held_on old new (Subscribe n name ∷ []) sound is.goes_on (brings_nothing old (Subscribe n name) sound (λ sub. refl) refl (λ sub live. by_number sub (n == sub) refl live)) where
  by_number : (sub : ℕ) (same : Bool) → (n == sub) ≡ same → is_live sub (old.history ++ Subscribe n name ∷ []) ≡ true → waiting_at old sub ≤ old.limits.queue
  by_number sub true same live = none_wait old sub (sound.numbered.subscriptions sub (omega (arith, is.number, eqb-true n sub same))).nothing
  by_number sub false same live = sound.held.queued sub (still_live old.history (Subscribe n name) sub (rw same refl) live)

pub held_unsubscribe : (old new : Mediation) (sub : ℕ) → IsSoundMediation old → Unsubscribes old sub new → IsHeld new
held_unsubscribe old new sub sound is = held_on old new (Unsubscribe sub ∷ []) sound is.goes_on (brings_nothing old (Unsubscribe sub) sound (λ q. refl) refl (λ q live. by_number q (sub == q) refl live)) where
  ended : (same : Bool) → same ≡ true → (on : Bool) → (let at : Option Bool = cond same (Some false) None in unwrap_or at on) ≡ true → ⊥
  ended true is on live = absurd cc
  ended false is on live = absurd cc

  by_number : (q : ℕ) (same : Bool) → (sub == q) ≡ same → is_live q (old.history ++ Unsubscribe sub ∷ []) ≡ true → waiting_at old q ≤ old.limits.queue
  by_number q true same live = absurd (ended (sub == q) same (is_live q old.history) (sym (last_of-push (begins q) false old.history (Unsubscribe sub)) ∙ live))
  by_number q false same live = sound.held.queued q (still_live old.history (Unsubscribe sub) q (rw same refl) live)

-- ---- an entry behind its cuts

-- whom an entry cuts
abbrev cut_by : Mediation → Entry → List ℕ
cut_by m entry = filter (is_cut_by (stream_limits m.limits) m.history entry (waiting_at m)) (served m.history)

behind : (m : Mediation) (entry : Entry) → m.history ++ with_cuts m entry ≡ after_cuts m.history (cut_by m entry) ++ entry ∷ []
behind m entry = sym (append_assoc m.history (map Cut (cut_by m entry)) (entry ∷ []))

-- one who is served behind the cuts isn't cut
uncut : (m : Mediation) (entry : Entry) (sub : ℕ) → is_served sub (after_cuts m.history (cut_by m entry)) ≡ true
    → (is_in sub (cut_by m entry) ≡ false) × (is_cut_by (stream_limits m.limits) m.history entry (waiting_at m) sub ≡ false)
uncut m entry sub on =
    let both = and_parts (is_served sub m.history) (not (is_in sub (cut_by m entry))) (sym (is_served-cuts sub m.history (cut_by m entry)) ∙ on) in
    let left : is_in sub (cut_by m entry) ≡ false = not_true (is_in sub (cut_by m entry)) both.1 in
    (left, sym (in_filter m.history (is_cut_by (stream_limits m.limits) m.history entry (waiting_at m)) (cut_by m entry) sub refl both.0) ∙ left) where
      not_true : (b : Bool) → not b ≡ true → b ≡ false
      not_true true is = absurd cc
      not_true false is = refl

brings_with_cuts : (m : Mediation) (entry : Entry) → ((h : List Entry) → GivesServedOnly h entry) → ((sub : ℕ) → begins sub entry ≡ None) → IsSoundMediation m → AuditHolds m (with_cuts m entry) → Brings m (with_cuts m entry)
brings_with_cuts m entry only silent sound holds = record {
  some = omega (arith, length-append (map Cut (cut_by m entry)) (entry ∷ []));
  given = given;
  gives = λ sub. ap (disclosed sub) (behind m entry) ∙ disclosed-push sub cut_off entry ∙ ap (λ (l : List DataRecord). l ++ given sub) (disclosed-cuts sub m.history (cut_by m entry));
  fits = λ sub some. by_served sub (is_served sub cut_off) refl some;
  waits = λ sub live. sound.held.queued sub (sym (last_of-cuts (begins sub) false (λ q. refl) m.history (cut_by m entry)) ∙ still_live cut_off entry sub (silent sub) (sym (ap (is_live sub) (behind m entry)) ∙ live));
  noted = cut_entries (length m.history) (cut_by m entry) ++ audit_at cut_off entry;
  notes = ap audit_list (behind m entry) ∙ audit-push cut_off entry ∙ ap (λ (l : List AuditEntry). l ++ audit_at cut_off entry) (audit-cuts m.history (cut_by m entry))
      ∙ append_assoc (audit_list m.history) (cut_entries (length m.history) (cut_by m entry)) (audit_at cut_off entry);
  audit = holds.after;
} where
  cut_off : List Entry
  cut_off = after_cuts m.history (cut_by m entry)

  given : ℕ → List DataRecord
  given sub = given_at sub cut_off entry

  by_served : (sub : ℕ) (on : Bool) → is_served sub cut_off ≡ on → Fits (stream_limits m.limits) (disclosed sub m.history) (waiting_at m sub) (given sub)
  by_served sub false off some = absurd (omega (arith, some, ap (λ (l : List DataRecord). length l) (only cut_off sub off)))
  by_served sub true on some =
      let left = uncut m entry sub on in
      subst (λ (more : List DataRecord). Fits (stream_limits m.limits) (disclosed sub m.history) (waiting_at m sub) more) (sym (given_at-cuts sub m.history (cut_by m entry) entry left.0))
      (uncut_fits (stream_limits m.limits) (disclosed sub m.history) (waiting_at m sub) (given_at sub m.history entry) left.1) some

pub held_receive : (old new : Mediation) (session number : ℕ) (octets : List ℕ) (r : Receipt) → IsSoundMediation old → Receives old session number octets r new → IsHeld new
held_receive old new session number octets r sound is =
    held_on old new (with_cuts old (Message session number octets)) sound is.goes_on
    (brings_with_cuts old (Message session number octets) (λ h sub off. given-unserved sub session number octets h off) (λ sub. refl) sound is.audit)

pub held_advance : (old new : Mediation) (t : ℕ) → IsSoundMediation old → Advances old t new → IsHeld new
held_advance old new t sound is = held_on old new (with_cuts old (Advance t)) sound is.goes_on (brings_with_cuts old (Advance t) (λ h. closes_served_only h t) (λ sub. refl) sound is.audit)

-- ---- what is handed out

-- where nothing is accepted, and no more waits
held_still : (old new : Mediation) → new.history ≡ old.history → new.limits ≡ old.limits → ((sub : ℕ) → waiting_at new sub ≤ waiting_at old sub) → length (noted_at new) ≤ length (noted_at old) → IsHeld old → IsHeld new
held_still old new history limits waits noted held = record {
  queued = λ sub live. omega (arith, waits sub, held.queued sub (ap (is_live sub) (sym history) ∙ live), ap (λ (l : Limits). l.queue) limits);
  shapes = λ sub. omega (arith, held.shapes sub, ap (λ (h : List Entry). length (shapes_of (disclosed sub h))) history, ap (λ (l : Limits). l.shapes) limits);
  noted = omega (arith, noted, held.noted, ap (λ (l : Limits). l.audit) limits);
  listed = λ sub. moved (λ l. l.queue) (λ h. length (disclosed sub h)) (held.listed sub);
  audited = moved (λ l. l.audit) (λ h. length (audit_list h)) held.audited;
} where
  moved : (limit : Limits → ℕ) (size : List Entry → ℕ) → size old.history ≤ limit old.limits * length old.history → size new.history ≤ limit new.limits * length new.history
  moved limit size low =
      subst (λ (l : Limits). size new.history ≤ limit l * length new.history) (sym limits)
      (subst (λ (h : List Entry). size h ≤ limit old.limits * length h) (sym history) low)

pub held_pull : (old new : Mediation) (sub now target : ℕ) (answer : Option (List ℕ)) → IsHeld old → Pulls old sub now target answer new → IsHeld new
held_pull old new sub now target answer held is = held_still old new is.history is.limits (λ q. by_number q (q == sub) refl) noted held where
  noted : length (noted_at new) ≤ length (noted_at old)
  noted = omega (arith, ap (λ (h : List Entry). length (drop new.drained (audit_list h))) is.history, ap (λ (n : ℕ). length (drop n (audit_list old.history))) is.drained)

  same : (q : ℕ) → waiting_at new q ≡ count_in (drop (place_at new q) (parts (disclosed q old.history)))
  same q = ap (λ (h : List Entry). count_in (drop (place_at new q) (parts (disclosed q h)))) is.history

  past : waiting_at new sub ≤ waiting_at old sub
  past =
      let ps : List Part = parts (disclosed sub old.history) in
      let more : ℕ = length (take (parts_taken (disclosed sub old.history) (place_at old sub) target) (drop (place_at old sub) ps)) in
      omega (
        arith,
        same sub,
        ap (λ (p : ℕ). count_in (drop p ps)) is.moved,
        ap count_in (sym (drop-drop more (place_at old sub) ps)),
        waits_less (drop (place_at old sub) ps) more,
      )

  by_number : (q : ℕ) (here : Bool) → (q == sub) ≡ here → waiting_at new q ≤ waiting_at old q
  by_number q true here = subst (λ (n : ℕ). waiting_at new n ≤ waiting_at old n) (sym (eqb-true q sub here)) past
  by_number q false here = omega (arith, same q, ap (λ (p : ℕ). count_in (drop p (parts (disclosed q old.history)))) (is.others q (eqb-false q sub here)))

pub held_drain : (old new : Mediation) (most : ℕ) (out : List AuditEntry) → IsHeld old → Drains old most out new → IsHeld new
held_drain old new most out held is = held_still old new is.history is.limits waits noted held where
  waits : (sub : ℕ) → waiting_at new sub ≤ waiting_at old sub
  waits sub = omega (
    arith,
    ap (λ (h : List Entry). count_in (drop (place_at new sub) (parts (disclosed sub h)))) is.history,
    ap (λ (p : ℕ). count_in (drop p (parts (disclosed sub old.history)))) (is.places sub),
  )

  noted : length (noted_at new) ≤ length (noted_at old)
  noted = omega (
    arith,
    ap (λ (h : List Entry). length (drop new.drained (audit_list h))) is.history,
    length-drop new.drained (audit_list old.history),
    length-drop old.drained (audit_list old.history),
    is.drained,
  )

-- ---- before any call

no_shapes : shapes_of [] ≡ []
unfolding shapes_of
no_shapes = refl

pub held_start : (limits : Limits) → IsHeld (started limits)
held_start limits = record {
  queued = λ sub live. absurd cc;
  shapes = λ sub. omega (arith, ap (λ (l : List _). length l) no_shapes);
  noted = omega arith;
  listed = λ sub. omega arith;
  audited = omega arith;
}
