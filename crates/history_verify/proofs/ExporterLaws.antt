-- Exporters that stand for a history stand for one entry more.
use Rattle.std.proofs.Common.{◌≡◌, ℕ, ◌+◌, ◌<◌, Bool, true, false, cond, List, [], ◌∷◌, ◌++◌, length, Option, Some, None, refl, sym, ap, ◌∙◌, subst, arith}
use Rattle.std.specs.Prelude.{◌≢◌, ◌==◌, if◌then◌else◌, unwrap_or, IsSomeAnd}
use Rattle.std.specs.Option.{option_map}
use Rattle.std.proofs.lemmas.Bool.{eqb-true, eqb-false, eq-eqb, ne_eqb}
use Rattle.sequences.proofs.BeforeLaws.{last_of-push}
use Rattle.ipfix_session.specs.Keeping.{at_key}
use Rattle.ipfix_session.specs.Standing.{StandsFor, SessionStanding, SessionStands as HoldsFor}
use Rattle.ipfix_session.specs.ReadAhead.{Ahead, IsReadingOf}
use Rattle.event_journal.specs.declared.entry.Entry.{Entry}
use Rattle.event_journal.specs.declared.entry.Entry.TheVariants.{Open, Close, Message}
use Rattle.mediator_history.specs.Sessions.{opens, is_open, opened_in, sessions_opened, message_in, messages_of}
use Rattle.mediator_history.proofs.EntryLaws.{messages_same, messages-any}
use Rattle.mediator_tables.specs.declared.open_session.OpenSession.{OpenSession}
use Rattle.mediator_tables.specs.SessionTable.{IsFresh, KeepsOn, SeenSession, seen}
use Rattle.history_verify.specs.declared.exporters.Exporters.{Exporters}
use Rattle.mediator_tables.specs.Sessions.{IsSession, IsUnopened}
use Rattle.history_verify.specs.Parts.{AreExporters, SameExporters}
use Rattle.history_verify.proofs.Stays.{last_stays, count_stays, count_more}

-- ---- one session

session_stays : (h g : List Entry) (session : ℕ) → is_open session g ≡ is_open session h → messages_of session g ≡ messages_of session h → (o : Option OpenSession) → IsSession h session o → IsSession g session o
session_stays h g session opened messages None so = opened ∙ so
session_stays h g session opened messages (Some o) so = (opened ∙ so.0, so.1 ∙ ap (λ (ms : List (List ℕ)). length ms) (sym messages), subst (λ ms. StandsFor o.session ms) (sym messages) so.2)

unopened_stays : (h g : List Entry) (session : ℕ) → is_open session g ≡ is_open session h → messages_of session g ≡ messages_of session h → IsUnopened h session → IsUnopened g session
unopened_stays h g session opened messages so = record { closed = opened ∙ so.closed; silent = messages ∙ so.silent }

fresh_session : (h : List Entry) (session : ℕ) (o : Option OpenSession) → is_open session h ≡ true → messages_of session h ≡ [] → IsSomeAnd o IsFresh → IsSession h session o
fresh_session h session None on silent fresh = absurd fresh
fresh_session h session (Some o) on silent fresh = (
  on,
  fresh.0 ∙ sym (ap (λ (older : List (List ℕ)). length older) silent),
  subst (λ (older : List (List ℕ)). StandsFor o.session older) (sym silent) fresh.1,
)

-- ---- an entry of no session

pub exporters_stay : (e : Exporters) (h : List Entry) (x : Entry) → ((session : ℕ) → opens session x ≡ None) → ((session : ℕ) → message_in session x ≡ []) → opened_in x ≡ [] → AreExporters e h → AreExporters e (h ++ x ∷ [])
exporters_stay e h x still silent none so = record {
  opened = so.opened ∙ sym (count_stays opened_in h x none);
  sessions = λ session. session_stays h (h ++ x ∷ []) session (last_stays (opens session) false h x (still session)) (messages_same session h x (silent session)) (at_key session e.sessions) (so.sessions session);
  unopened = λ session above. unopened_stays h (h ++ x ∷ []) session (last_stays (opens session) false h x (still session)) (messages_same session h x (silent session)) (so.unopened session (subst (λ (n : ℕ). n < session) (count_stays opened_in h x none) above));
}

-- ---- a session is opened

pub exporters_open : (e d : Exporters) (h : List Entry) (n : ℕ) → AreExporters e h → n ≡ e.opened + 1 → d.opened ≡ n
    → ((q : ℕ) → q ≢ n → at_key q d.sessions ≡ at_key q e.sessions) → IsSomeAnd (at_key n d.sessions) IsFresh
    → AreExporters d (h ++ Open n ∷ [])
exporters_open e d h n so next opened others fresh = record {
  opened = opened ∙ next ∙ ap (λ (m : ℕ). m + 1) so.opened ∙ sym count;
  sessions = λ session. by_number session (n == session) refl;
  unopened = λ session higher. unopened_stays h (h ++ Open n ∷ []) session (still session (λ is. absurd (omega (arith, count, so.opened, next, is, higher)))) (messages_same session h (Open n) refl) (so.unopened session (omega (arith, count, higher)));
} where
  count : sessions_opened (h ++ Open n ∷ []) ≡ sessions_opened h + 1
  count = count_more opened_in h (Open n) n refl

  above : sessions_opened h < n
  above = omega (arith, so.opened, next)

  other : (session : ℕ) → n ≢ session → opens session (Open n) ≡ None
  other session apart = rw (ne_eqb n session apart) refl

  still : (session : ℕ) → n ≢ session → is_open session (h ++ Open n ∷ []) ≡ is_open session h
  still session apart = last_stays (opens session) false h (Open n) (other session apart)

  on : is_open n (h ++ Open n ∷ []) ≡ true
  on = last_of-push (opens n) false h (Open n) ∙ (rw (eq-eqb n n refl) refl)

  by_number : (session : ℕ) (same : Bool) → (n == session) ≡ same → IsSession (h ++ Open n ∷ []) session (at_key session d.sessions)
  by_number session true same =
      subst (λ (s : ℕ). IsSession (h ++ Open n ∷ []) s (at_key s d.sessions)) (eqb-true n session same)
      (fresh_session (h ++ Open n ∷ []) n (at_key n d.sessions) on (messages_same n h (Open n) refl ∙ (so.unopened n above).silent) fresh)
  by_number session false same =
      let apart : n ≢ session = eqb-false n session same in
      rw (others session (λ is. apart (sym is)))
      (session_stays h (h ++ Open n ∷ []) session (still session apart) (messages_same session h (Open n) refl) (at_key session e.sessions) (so.sessions session))

-- ---- a session is closed

pub exporters_close : (e d : Exporters) (h : List Entry) (n : ℕ) → AreExporters e h → d.opened ≡ e.opened
    → ((q : ℕ) → at_key q d.sessions ≡ (if q == n then None else at_key q e.sessions))
    → AreExporters d (h ++ Close n ∷ [])
exporters_close e d h n so opened left = record {
  opened = opened ∙ so.opened ∙ sym count;
  sessions = λ session. by_number session (n == session) refl;
  unopened = λ session higher. record {
    closed = last_of-push (opens session) false h (Close n) ∙ ends (n == session) (is_open session h) (so.unopened session (subst (λ (m : ℕ). m < session) count higher)).closed;
    silent = messages_same session h (Close n) refl ∙ (so.unopened session (subst (λ (m : ℕ). m < session) count higher)).silent;
  };
} where
  count : sessions_opened (h ++ Close n ∷ []) ≡ sessions_opened h
  count = count_stays opened_in h (Close n) refl

  ends : (same on : Bool) → on ≡ false → (let at : Option Bool = cond same (Some false) None in unwrap_or at on ≡ false)
  ends true on is = refl
  ends false on is = is

  off : is_open n (h ++ Close n ∷ []) ≡ false
  off = last_of-push (opens n) false h (Close n) ∙ (rw (eq-eqb n n refl) refl)

  gone : at_key n d.sessions ≡ None
  gone = left n ∙ (rw (eq-eqb n n refl) refl)

  closed : IsSession (h ++ Close n ∷ []) n (at_key n d.sessions)
  closed = rw gone off

  by_number : (session : ℕ) (same : Bool) → (n == session) ≡ same → IsSession (h ++ Close n ∷ []) session (at_key session d.sessions)
  by_number session true same = subst (λ (s : ℕ). IsSession (h ++ Close n ∷ []) s (at_key s d.sessions)) (eqb-true n session same) closed
  by_number session false same =
      let apart : n ≢ session = eqb-false n session same in
      let stays : at_key session d.sessions ≡ at_key session e.sessions = left session ∙ (rw (ne_eqb session n (λ is. apart (sym is))) refl) in
      let none : opens session (Close n) ≡ None = rw same refl in
      rw stays (session_stays h (h ++ Close n ∷ []) session (last_stays (opens session) false h (Close n) none) (messages_same session h (Close n) refl) (at_key session e.sessions) (so.sessions session))

-- ---- a session has one message more

messages-own : (session number : ℕ) (octets : List ℕ) (h : List Entry) → messages_of session (h ++ Message session number octets ∷ []) ≡ octets ∷ messages_of session h
messages-own session number octets h = messages-any session session number octets h ∙ ap (λ (b : Bool). cond b (octets ∷ messages_of session h) (messages_of session h)) (eq-eqb session session refl)

messages-other : (id session number : ℕ) (octets : List ℕ) (h : List Entry) → id ≢ session → messages_of id (h ++ Message session number octets ∷ []) ≡ messages_of id h
messages-other id session number octets h other = messages-any id session number octets h ∙ ap (λ (b : Bool). cond b (octets ∷ messages_of id h) (messages_of id h)) (ne_eqb session id (λ same. other (sym same)))

still_open : (id : ℕ) (h : List Entry) (session number : ℕ) (octets : List ℕ) → is_open id (h ++ Message session number octets ∷ []) ≡ is_open id h
still_open id h session number octets = last_of-push (opens id) false h (Message session number octets)

session_taken : (h : List Entry) (session number : ℕ) (octets : List ℕ) (reading : Ahead) (old new : Option OpenSession) → KeepsOn reading old new → IsReadingOf (messages_of session h) octets reading
    → IsSession h session old → IsSession (h ++ Message session number octets ∷ []) session new
session_taken h session number octets reading None new keeps read so = absurd keeps
session_taken h session number octets reading (Some s) None keeps read so = absurd keeps
session_taken h session number octets reading (Some s) (Some t) keeps read so = (
  still_open session h session number octets ∙ so.0,
  omega (arith, keeps.0, so.1, ap (λ (ms : List (List ℕ)). length ms) (messages-own session number octets h)),
  subst (λ ms. StandsFor t.session ms) (sym (messages-own session number octets h)) (keeps.1 (messages_of session h) octets so.2 read),
)

never_opened : (h : List Entry) (id : ℕ) → is_open id h ≡ true → IsUnopened h id → ⊥
never_opened h id on un = let off : is_open id h ≡ false = un.closed in absurd cc

pub exporters_keep : (e d : Exporters) (h : List Entry) (session number : ℕ) (octets : List ℕ) (reading : Ahead) → AreExporters e h → is_open session h ≡ true
    → IsReadingOf (messages_of session h) octets reading → d.opened ≡ e.opened
    → ((q : ℕ) → q ≢ session → at_key q d.sessions ≡ at_key q e.sessions) → KeepsOn reading (at_key session e.sessions) (at_key session d.sessions)
    → AreExporters d (h ++ Message session number octets ∷ [])
exporters_keep e d h session number octets reading so on read opened others keeps = record {
  opened = opened ∙ so.opened ∙ sym count;
  sessions = λ id. by_number id (session == id) refl;
  unopened = λ id higher. let before : sessions_opened h < id = subst (λ (m : ℕ). m < id) count higher in
      unopened_stays h new id (still_open id h session number octets)
      (messages-other id session number octets h (λ is. absurd (never_opened h id (subst (λ (s : ℕ). is_open s h ≡ true) (sym is) on) (so.unopened id before)))) (so.unopened id before);
} where
  new : List Entry
  new = h ++ Message session number octets ∷ []

  count : sessions_opened (h ++ Message session number octets ∷ []) ≡ sessions_opened h
  count = count_stays opened_in h (Message session number octets) refl

  by_number : (id : ℕ) (same : Bool) → (session == id) ≡ same → IsSession (h ++ Message session number octets ∷ []) id (at_key id d.sessions)
  by_number id true same =
      subst (λ (s : ℕ). IsSession (h ++ Message session number octets ∷ []) s (at_key s d.sessions)) (eqb-true session id same)
      (session_taken h session number octets reading (at_key session e.sessions) (at_key session d.sessions) keeps read (so.sessions session))
  by_number id false same =
      let apart : id ≢ session = λ is. eqb-false session id same (sym is) in
      rw (others id apart)
      (session_stays h (h ++ Message session number octets ∷ []) id (still_open id h session number octets) (messages-other id session number octets h apart) (at_key id e.sessions) (so.sessions id))

-- ---- room is made

some_same : {A : Type 0} (x y : A) → Some x ≡ Some y → x ≡ y
some_same x y e = cc

session_same : (h : List Entry) (session : ℕ) (o n : Option OpenSession) → option_map seen n ≡ option_map seen o → IsSession h session o → IsSession h session n
session_same h session None None e is = is
session_same h session None (Some t) e is = absurd cc
session_same h session (Some s) None e is = absurd cc
session_same h session (Some s) (Some t) e is =
    let same : seen t ≡ seen s = some_same (seen t) (seen s) e in
    (is.0, ap (λ (x : SeenSession). x.accepted) same ∙ is.1, subst (λ (x : SessionStanding). HoldsFor x (messages_of session h)) (sym (ap (λ (x : SeenSession). x.standing) same)) is.2)

pub exporters_same : (e d : Exporters) (h : List Entry) → SameExporters e d → AreExporters e h → AreExporters d h
exporters_same e d h same so = record {
  opened = same.opened ∙ so.opened;
  sessions = λ session. session_same h session (at_key session e.sessions) (at_key session d.sessions) (same.sessions session) (so.sessions session);
  unopened = so.unopened;
}

-- an open session stands for its messages
pub session_at : (e : Exporters) (h : List Entry) (session : ℕ) (o : OpenSession) → AreExporters e h → at_key session e.sessions ≡ Some o → StandsFor o.session (messages_of session h)
session_at e h session o so is = there (at_key session e.sessions) (so.sessions session) is where
  there : (x : Option OpenSession) → IsSession h session x → x ≡ Some o → StandsFor o.session (messages_of session h)
  there None closed same = absurd cc
  there (Some s) stands same = subst (λ (t : OpenSession). StandsFor t.session (messages_of session h)) (some_same s o same) stands.2
