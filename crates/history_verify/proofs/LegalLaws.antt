-- What one entry more, and cuts that are borne out or not, make of legal histories.
use Rattle.std.proofs.Common.{◌≡◌, ℕ, ◌+◌, Bool, true, false, List, [], ◌∷◌, ◌++◌, length, map, Some, refl, sym, ap, ◌∙◌, subst, append_assoc, append-nil}
use Rattle.std.specs.Prelude.{◌≢◌, ◌||◌, ◌&&◌, not}
use Rattle.std.specs.List.{AllByRecursion}
use Rattle.std.proofs.lemmas.Bool.{ne_eqb}
use Rattle.std.proofs.lemmas.List.{map-append}
use Rattle.sequences.proofs.BeforeLaws.{last_of-push}
use Rattle.event_journal.specs.declared.entry.Entry.{Entry}
use Rattle.event_journal.specs.declared.entry.Entry.TheVariants.{Open, Close, Message, Edit, Subscribe, Unsubscribe, Advance, Cut}
use Rattle.mediator_history.specs.Numbers.{is_in}
use Rattle.mediator_history.specs.Subscriptions.{is_served}
use Rattle.mediator_history.specs.Disclosed.{given_at}
use Rattle.mediator_history.specs.Cuts.{after_cuts}
use Rattle.mediator_history.proofs.CutLaws.{is_served-cuts, length-cuts}
use Rattle.mediator_history.proofs.CountingLaws.{given_at-cuts}
use Rattle.mediator_history.proofs.SinceLaws.{cut_is_served_no_more}
use Rattle.history_verify.specs.Legal.{IsAccepted, IsBorneOut, IsLegalCut, IsLegalAt, AreLegal, IsFirstBad, is_cut, number_cut}
use Rattle.history_verify.specs.Standing.{MayCut, MayCutAll, IsSettled}

-- ---- entries in a row

-- entries in a row are legal where the first ones are, and behind these the others
pub legal-append : (before xs ys after : List Entry) → AreLegal before xs (ys ++ after) → AreLegal (before ++ xs) ys after → AreLegal before (xs ++ ys) after
legal-append before [] ys after first others = subst (λ (b : List Entry). AreLegal b ys after) (append-nil before) others
legal-append before (x ∷ xs) ys after first others = (
  subst (λ (t : List Entry). IsLegalAt before x t) (sym (append_assoc xs ys after)) first.0,
  legal-append (before ++ x ∷ []) xs ys after first.1 (subst (λ (b : List Entry). AreLegal b ys after) (sym (append_assoc before (x ∷ []) xs)) others),
)

-- an entry that is no cut is legal whatever comes behind it, where it is accepted
pub legal_accepted : (h : List Entry) (e : Entry) (after : List Entry) → IsAccepted h e → IsLegalAt h e after
legal_accepted h (Open session) after is = is
legal_accepted h (Close session) after is = is
legal_accepted h (Message session number octets) after is = is
legal_accepted h (Edit text) after is = is
legal_accepted h (Subscribe sub name) after is = is
legal_accepted h (Unsubscribe sub) after is = is
legal_accepted h (Advance t) after is = is
legal_accepted h (Cut sub) after is = absurd is

-- and where it isn't, it is not legal
pub accepted_legal : (h : List Entry) (e : Entry) (after : List Entry) → is_cut e ≡ false → IsLegalAt h e after → IsAccepted h e
accepted_legal h (Open session) after no_cut is = is
accepted_legal h (Close session) after no_cut is = is
accepted_legal h (Message session number octets) after no_cut is = is
accepted_legal h (Edit text) after no_cut is = is
accepted_legal h (Subscribe sub name) after no_cut is = is
accepted_legal h (Unsubscribe sub) after no_cut is = is
accepted_legal h (Advance t) after no_cut is = is
accepted_legal h (Cut sub) after no_cut is = absurd cc

no_cut_accepted : (h : List Entry) (e : Entry) → IsAccepted h e → is_cut e ≡ false
no_cut_accepted h (Cut sub) is = absurd is
no_cut_accepted h _ is = refl

no_cut_number : (e : Entry) → is_cut e ≡ false → number_cut e ≡ Some 0
no_cut_number (Cut sub) is = absurd cc
no_cut_number _ is = refl

-- ---- a settled history

pub settled_none : IsSettled []
settled_none = record { legal = λ after. tt; closed = refl }

-- a history that is settled is so with an entry that is accepted
pub settled_more : (h : List Entry) (e : Entry) → IsSettled h → IsAccepted h e → IsSettled (h ++ e ∷ [])
settled_more h e so is = record {
  legal = λ after. legal-append [] h (e ∷ []) after (so.legal (e ∷ after)) (legal_accepted h e after is, tt);
  closed = last_of-push number_cut 0 h e ∙ (rw (no_cut_number e (no_cut_accepted h e is)) refl);
}

-- ---- cuts that are borne out

-- behind each cut before, the entry gives something to the next one's subscription
abbrev GiveInTurn : Entry → List Entry → List ℕ → Type 0
GiveInTurn e g [] = Unit {0}
GiveInTurn e g (c ∷ cs) = (given_at c g e ≢ []) × GiveInTurn e (g ++ Cut c ∷ []) cs

-- who is cut is served no more
unserved_stays : (c s : ℕ) (g : List Entry) → is_served c g ≡ false → is_served c (g ++ Cut s ∷ []) ≡ false
unserved_stays c s g off = is_served-cuts c g (s ∷ []) ∙ ap (λ (b : Bool). b && not (is_in c (s ∷ []))) off

-- those that may be cut are others than one that is not served
apart : (c : ℕ) (g : List Entry) (cs : List ℕ) → is_served c g ≡ false → MayCutAll g cs → AllByRecursion (λ s. s ≢ c) cs
apart c g [] off may = tt
apart c g (s ∷ cs) off may = (
  λ same. let on : is_served c g ≡ true = subst (λ (n : ℕ). is_served n g ≡ true) same may.0.served in absurd cc,
  apart c (g ++ Cut s ∷ []) cs (unserved_stays c s g off) may.1,
)

given_past : (e : Entry) (c : ℕ) (g : List Entry) (cs : List ℕ) → AllByRecursion (λ s. s ≢ c) cs → AllByRecursion (λ s. given_at s g e ≢ []) cs → AllByRecursion (λ s. given_at s (g ++ Cut c ∷ []) e ≢ []) cs
given_past e c g [] others all = tt
given_past e c g (s ∷ cs) others all = (
  λ none. all.0 (sym (given_at-cuts s g (c ∷ []) e (ap (λ (b : Bool). b || false) (ne_eqb c s (λ same. others.0 (sym same))))) ∙ none),
  given_past e c g cs others.1 all.1,
)

in_turn : (e : Entry) (g : List Entry) (cs : List ℕ) → MayCutAll g cs → AllByRecursion (λ s. given_at s g e ≢ []) cs → GiveInTurn e g cs
in_turn e g [] may all = tt
in_turn e g (c ∷ cs) may all = (
  all.0,
  in_turn e (g ++ Cut c ∷ []) cs may.1 (given_past e c g cs (apart c (g ++ Cut c ∷ []) cs (cut_is_served_no_more c g) may.1) all.1),
)

cuts_then : (cs tail : List ℕ) (rest : List Entry) → map Cut cs ++ (map Cut tail ++ rest) ≡ map Cut (cs ++ tail) ++ rest
cuts_then cs tail rest = sym (append_assoc (map Cut cs) (map Cut tail) rest) ∙ ap (λ (t : List Entry). t ++ rest) (sym (map-append Cut cs tail))

cuts_after : (g : List Entry) (c : ℕ) (cs : List ℕ) → (g ++ Cut c ∷ []) ++ map Cut cs ≡ g ++ Cut c ∷ map Cut cs
cuts_after g c cs = append_assoc g (Cut c ∷ []) (map Cut cs)

legal_in_turn : (e : Entry) (more g : List Entry) (cs tail : List ℕ) → MayCutAll g cs → GiveInTurn e g cs → IsAccepted (after_cuts g (cs ++ tail)) e → AreLegal g (map Cut cs) (map Cut tail ++ e ∷ more)
legal_in_turn e more g [] tail may gives is = tt
legal_in_turn e more g (c ∷ cs) tail may gives is = (
  record {
    served = may.0.served;
    above = may.0.above;
    borne_out = record {
      others = cs ++ tail;
      entry = e;
      rest = more;
      after_is = cuts_then cs tail (e ∷ more);
      accepted = is;
      gives = gives.0;
    };
  },
  legal_in_turn e more (g ++ Cut c ∷ []) cs tail may.1 gives.1 (subst (λ (t : List Entry). IsAccepted t e) (sym (cuts_after g c (cs ++ tail))) is),
)

-- cuts are legal where the entry behind them and others is accepted, and would give something to each one's subscription
pub cuts_legal : (e : Entry) (more g : List Entry) (cs tail : List ℕ) → MayCutAll g cs → AllByRecursion (λ s. given_at s g e ≢ []) cs → IsAccepted (after_cuts g (cs ++ tail)) e → AreLegal g (map Cut cs) (map Cut tail ++ e ∷ more)
cuts_legal e more g cs tail may all is = legal_in_turn e more g cs tail may (in_turn e g cs may all) is

-- a settled history is settled with cuts, and behind them an entry that bears them out
pub settled_cuts : (g : List Entry) (cs : List ℕ) (e : Entry) → IsSettled g → MayCutAll g cs → AllByRecursion (λ s. given_at s g e ≢ []) cs → IsAccepted (after_cuts g cs) e → IsSettled (after_cuts g cs ++ e ∷ [])
settled_cuts g cs e so may all is = record {
  legal = λ after.
      let whole : AreLegal g (map Cut cs) (e ∷ after) = cuts_legal e after g cs [] may all (subst (λ (t : List ℕ). IsAccepted (after_cuts g t) e) (sym (append-nil cs)) is) in
      let both : AreLegal [] (after_cuts g cs) (e ∷ after) = legal-append [] g (map Cut cs) (e ∷ after) (so.legal (map Cut cs ++ e ∷ after)) whole in
      legal-append [] (after_cuts g cs) (e ∷ []) after both (legal_accepted (after_cuts g cs) e after is, tt);
  closed = last_of-push number_cut 0 (after_cuts g cs) e ∙ (rw (no_cut_number e (no_cut_accepted (after_cuts g cs) e is)) refl);
}

-- ---- the first that is bad

head_of : (a b : Entry) (s t : List Entry) → a ∷ s ≡ b ∷ t → a ≡ b
head_of a b s t e = cc

tail_of : (a b : Entry) (s t : List Entry) → a ∷ s ≡ b ∷ t → s ≡ t
tail_of a b s t e = cc

cut_of : (c d : ℕ) → Cut c ≡ Cut d → c ≡ d
cut_of c d e = cc

-- in one way alone a list is cuts and then an entry that is none
record IsSameFront (xs ys : List ℕ) (a b : Entry) : Type 0 where
  pub cuts : xs ≡ ys
  pub entry : a ≡ b

one_front : (xs ys : List ℕ) (a b : Entry) (s t : List Entry) → is_cut a ≡ false → is_cut b ≡ false → map Cut xs ++ a ∷ s ≡ map Cut ys ++ b ∷ t → IsSameFront xs ys a b
one_front [] [] a b s t na nb e = record { cuts = refl; entry = head_of a b s t e }
one_front [] (y ∷ ys) a b s t na nb e = let off : is_cut (Cut y) ≡ false = ap is_cut (sym (head_of a (Cut y) s (map Cut ys ++ b ∷ t) e)) ∙ na in absurd cc
one_front (x ∷ xs) [] a b s t na nb e = let off : is_cut (Cut x) ≡ false = ap is_cut (head_of (Cut x) b (map Cut xs ++ a ∷ s) t e) ∙ nb in absurd cc
one_front (x ∷ xs) (y ∷ ys) a b s t na nb e =
    let rest = one_front xs ys a b s t na nb (tail_of (Cut x) (Cut y) (map Cut xs ++ a ∷ s) (map Cut ys ++ b ∷ t) e) in
    let here : x ≡ y = cut_of x y (head_of (Cut x) (Cut y) (map Cut xs ++ a ∷ s) (map Cut ys ++ b ∷ t) e) in
    record { cuts = ap (λ (n : ℕ). n ∷ xs) here ∙ ap (λ (l : List ℕ). y ∷ l) rest.cuts; entry = rest.entry }

-- a cut is not borne out by an entry that isn't accepted, or would give its subscription nothing
pub unborne : (g : List Entry) (c : ℕ) (back : List ℕ) (e : Entry) (more : List Entry) → is_cut e ≡ false → (IsAccepted (g ++ Cut c ∷ map Cut back) e → given_at c g e ≢ [] → ⊥) → IsLegalCut g c (map Cut back ++ e ∷ more) → ⊥
unborne g c back e more no_cut bad so = by so.borne_out where
  by : IsBorneOut g c (map Cut back ++ e ∷ more) → ⊥
  by b =
      let same = one_front back b.others e b.entry more b.rest no_cut (no_cut_accepted (g ++ Cut c ∷ map Cut b.others) b.entry b.accepted) b.after_is in
      bad (subst (λ (x : Entry). IsAccepted (g ++ Cut c ∷ map Cut back) x) (sym same.entry) (subst (λ (l : List ℕ). IsAccepted (g ++ Cut c ∷ map Cut l) b.entry) (sym same.cuts) b.accepted))
      (subst (λ (x : Entry). given_at c g x ≢ []) (sym same.entry) b.gives)

-- nothing bears out a cut behind which there are cuts alone
pub unborne_at_end : (g : List Entry) (c : ℕ) (back : List ℕ) → IsLegalCut g c (map Cut back) → ⊥
unborne_at_end g c back so = none back so.borne_out.others so.borne_out.entry so.borne_out.rest (no_cut_accepted (g ++ Cut c ∷ map Cut so.borne_out.others) so.borne_out.entry so.borne_out.accepted) so.borne_out.after_is where
  none : (xs ys : List ℕ) (b : Entry) (t : List Entry) → is_cut b ≡ false → map Cut xs ≡ map Cut ys ++ b ∷ t → ⊥
  none [] [] b t nb e = absurd cc
  none [] (y ∷ ys) b t nb e = absurd cc
  none (x ∷ xs) [] b t nb e = let off : is_cut (Cut x) ≡ false = ap is_cut (head_of (Cut x) b (map Cut xs) t e) ∙ nb in absurd cc
  none (x ∷ xs) (y ∷ ys) b t nb e = none xs ys b t nb (tail_of (Cut x) (Cut y) (map Cut xs) (map Cut ys ++ b ∷ t) e)

-- a cut that may not stand where it does is not legal, whatever comes behind it
pub may_not : (g : List Entry) (c : ℕ) (after : List Entry) → (MayCut g c → ⊥) → IsLegalCut g c after → ⊥
may_not g c after not_may so = not_may (record { served = so.served; above = so.above })

-- behind a settled history and cuts that are borne out stands the first bad cut
pub first_bad : (g : List Entry) (front : List ℕ) (c : ℕ) (after : List Entry) → IsSettled g → AreLegal g (map Cut front) (Cut c ∷ after) → (IsLegalCut (after_cuts g front) c after → ⊥) → IsFirstBad (after_cuts g front ++ Cut c ∷ after) (length g + length front)
first_bad g front c after so legal bad = record {
  before = after_cuts g front;
  entry = Cut c;
  after = after;
  history_is = refl;
  there = length-cuts g front;
  legal_before = legal-append [] g (map Cut front) (Cut c ∷ after) (so.legal (map Cut front ++ Cut c ∷ after)) legal;
  bad = bad;
}

-- behind a settled history an entry that is no cut and isn't accepted is the first bad one
pub first_refused : (g : List Entry) (e : Entry) (more : List Entry) → IsSettled g → is_cut e ≡ false → (IsAccepted g e → ⊥) → IsFirstBad ((g ++ e ∷ []) ++ more) (length g)
first_refused g e more so no_cut bad = record {
  before = g;
  entry = e;
  after = more;
  history_is = append_assoc g (e ∷ []) more;
  there = refl;
  legal_before = so.legal (e ∷ more);
  bad = λ is. bad (accepted_legal g e more no_cut is);
}
