-- What is read of a text, against the texts of the format.
use Rattle.std.proofs.Common.{◌≡◌, ℕ, suc, ◌+◌, ◌-◌, ◌<◌, ◌≤◌, Bool, true, false, List, [], ◌∷◌, ◌++◌, length, take, Option, Some, None, Result, Ok, Err, refl, sym, ap, subst, ◌∙◌, arith, ⊎_elim, inl, inr, append-nil, append_assoc}
use Rattle.std.specs.Prelude.{IfOk, IfErr}
use Rattle.std.proofs.lemmas.Bool.{cases_Bool}
use Rattle.sequences.specs.Options.{◌>>=◌}
use Rattle.mediator_calls.specs.declared.limits.Limits.{Limits}
use Rattle.replay_text.specs.declared.call_list.CallList.{CallList}
use Rattle.replay_text.specs.declared.fault.Fault.{Fault}
use Rattle.replay_text.specs.declared.fault.Fault.TheVariants.{Line, OutOfMemory}
use Rattle.replay_text.specs.Sayings.{Saying}
use Rattle.replay_text.specs.Sayings.Saying.{to_open, to_close, to_receive, to_edit, to_subscribe, to_unsubscribe, to_advance, to_pull, to_tell_status, to_drain_audit}
use Rattle.replay_text.specs.Lines.{call_of, limits_on_line}
use Rattle.policy_text.specs.Words.{lines_of}
use Rattle.replay_text.specs.Lists.{AskedCalls, asked_calls, no_calls, is_passed_over, with_call, with_limits, call_step, first_step, list_after, list_after_line, calls_of_lines, calls_of_text, Reads}
use Rattle.replay_text.specs.Grammar.{IsLineOf, SetsLimits, AreCalls, AreList, Lists, IsFirstBadLine, IsFaultOf}
use Rattle.replay_text.proofs.ListLaws.{go_on, read_lines-cons, read_lines-nil}
use Rattle.replay_text.proofs.LineLaws.{call_of-found, call_of-only}
use Rattle.replay_text.proofs.LimitLaws.{limits_of-found, limits_of-only, call_sets_none}

same_Ok : (a b : AskedCalls) → ◌≡◌ {A = Result AskedCalls ℕ} (Ok a) (Ok b) → a ≡ b
same_Ok a b e = cc

ok_or_err : (a : AskedCalls) (n : ℕ) → ◌≡◌ {A = Result AskedCalls ℕ} (Ok a) (Err n) → ⊥
ok_or_err a n e = cc

same_Err : (m n : ℕ) → ◌≡◌ {A = Result AskedCalls ℕ} (Err m) (Err n) → m ≡ n
same_Err m n e = cc

-- ---- lines after the first that asks for something

skipped_step : (started : Bool) (list : AskedCalls) (line : List ℕ) → is_passed_over line ≡ true → list_after_line started list line ≡ Some (started, list)
unfolding list_after_line
skipped_step started list line skipped = rw skipped refl

-- what a line that isn't skipped leaves
abbrev counted : Option AskedCalls → Option (Bool × AskedCalls)
counted None = None
counted (Some more) = Some (true, more)

bind_counted : (o : Option AskedCalls) → (o >>= λ more. Some (true, more)) ≡ counted o
bind_counted None = refl
bind_counted (Some more) = refl

later_step : (list : AskedCalls) (line : List ℕ) (said : Option Saying) → is_passed_over line ≡ false → call_of line ≡ said → list_after_line true list line ≡ counted (said >>= λ s. Some (with_call list s))
unfolding list_after_line list_after call_step
later_step list line said counts is = rw (counts, is) (bind_counted (said >>= λ s. Some (with_call list s)))

first_line : (list : AskedCalls) (line : List ℕ) (limits : Option Limits) → is_passed_over line ≡ false → limits_on_line line ≡ limits → list_after_line false list line ≡ counted (first_step list line limits)
unfolding list_after_line list_after
first_line list line limits counts is = rw (counts, is) (bind_counted (first_step list line limits))

first_call : (list : AskedCalls) (line : List ℕ) (said : Option Saying) → call_of line ≡ said → first_step list line None ≡ (said >>= λ s. Some (with_call list s))
unfolding call_step
first_call list line said is = rw is refl

-- a list with more calls behind
abbrev with_calls : AskedCalls → List Saying → AskedCalls
with_calls list calls = record { limits = list.limits; calls = list.calls ++ calls }

with_none : (list : AskedCalls) → with_calls list [] ≡ list
with_none list = ap (λ (calls : List Saying). let more : AskedCalls = record { limits = list.limits; calls = calls } in more) (append-nil list.calls)

one_call : (list : AskedCalls) (said : Saying) (calls : List Saying) → with_calls (with_call list said) calls ≡ with_calls list (said ∷ calls)
one_call list said calls = ap (λ (all : List Saying). let more : AskedCalls = record { limits = list.limits; calls = all } in more) (append_assoc list.calls (said ∷ []) calls)

-- these calls were read behind those of a list
record MoreCalls (lines : List (List ℕ)) (before list : AskedCalls) : Type 0 where
  calls : List Saying
  are : AreCalls lines calls
  list_is : with_calls before calls ≡ list

skip_calls : (line : List ℕ) (lines : List (List ℕ)) (calls : List Saying) → is_passed_over line ≡ true → AreCalls lines calls → AreCalls (line ∷ lines) calls
skip_calls line lines [] skipped are = (skipped, are)
skip_calls line lines (said ∷ calls) skipped are = inl (skipped, are)

one_more : (n : ℕ) (line : List ℕ) (lines : List (List ℕ)) (before list : AskedCalls) (said : Option Saying) → call_of line ≡ said
    → go_on n lines (counted (said >>= λ s. Some (with_call before s))) ≡ Ok list
    → ((m : ℕ) (mid : AskedCalls) → calls_of_lines true mid m lines ≡ Ok list → MoreCalls lines mid list) → MoreCalls (line ∷ lines) before list
one_more n line lines before list None is e rest = absurd (ok_or_err list n (sym e))
one_more n line lines before list (Some said) is e rest =
    let later = rest (n + 1) (with_call before said) e in
    record { calls = said ∷ later.calls; are = inr (call_of-found line said is, later.are); list_is = sym (one_call before said later.calls) ∙ later.list_is }

calls_found : (lines : List (List ℕ)) (n : ℕ) (before list : AskedCalls) → calls_of_lines true before n lines ≡ Ok list → MoreCalls lines before list
calls_found [] n before list e = record { calls = []; are = refl; list_is = with_none before ∙ same_Ok before list (sym (read_lines-nil true before n) ∙ e) }
calls_found (line ∷ lines) n before list e =
    ⊎_elim (λ (skipped : is_passed_over line ≡ true).
    let later = calls_found lines (n + 1) before list (ap (go_on n lines) (sym (skipped_step true before line skipped)) ∙ sym (read_lines-cons true before n line lines) ∙ e) in
    record { calls = later.calls; are = skip_calls line lines later.calls skipped later.are; list_is = later.list_is })
    (λ (counts : is_passed_over line ≡ false).
    one_more n line lines before list (call_of line) refl (ap (go_on n lines) (sym (later_step before line (call_of line) counts refl)) ∙ sym (read_lines-cons true before n line lines) ∙ e)
    (λ m mid r. calls_found lines m mid list r))
    (cases_Bool (is_passed_over line))

-- a call's line isn't skipped
line_counts : (said : Saying) (line : List ℕ) → IsLineOf said line → is_passed_over line ≡ false
line_counts to_open line is = ap is_passed_over is
line_counts (to_close session) line is = ap is_passed_over is.text
line_counts (to_receive session number octets) line is = ⊎_elim (λ h. ap is_passed_over h.1) (λ h. ap is_passed_over h.2) is.text
line_counts (to_edit text) line is = ap is_passed_over is.2
line_counts (to_subscribe name) line is = ⊎_elim (λ h. ap is_passed_over h.1) (λ h. ap is_passed_over h.1) is
line_counts (to_unsubscribe sub) line is = ap is_passed_over is.text
line_counts (to_advance t) line is = ap is_passed_over is.text
line_counts (to_pull sub now target) line is = ap is_passed_over is.text
line_counts (to_tell_status sub) line is = ap is_passed_over is.text
line_counts (to_drain_audit most) line is = ap is_passed_over is.text

calls_only : (lines : List (List ℕ)) (calls : List Saying) (n : ℕ) (before : AskedCalls) → AreCalls lines calls → calls_of_lines true before n lines ≡ Ok (with_calls before calls)
calls_only [] calls n before are = read_lines-nil true before n ∙ ap Ok (sym (ap (with_calls before) are ∙ with_none before))
calls_only (line ∷ lines) [] n before (skipped, are) = read_lines-cons true before n line lines ∙ ap (go_on n lines) (skipped_step true before line skipped) ∙ calls_only lines [] (n + 1) before are
calls_only (line ∷ lines) (said ∷ calls) n before (inl (skipped, are)) =
    read_lines-cons true before n line lines ∙ ap (go_on n lines) (skipped_step true before line skipped) ∙ calls_only lines (said ∷ calls) (n + 1) before are
calls_only (line ∷ lines) (said ∷ calls) n before (inr (is, are)) =
    read_lines-cons true before n line lines ∙ ap (go_on n lines) (later_step before line (Some said) (line_counts said line is) (call_of-only said line is))
    ∙ calls_only lines calls (n + 1) (with_call before said) are ∙ ap Ok (one_call before said calls)

-- ---- lines up to the first that asks for something

first_found : (n : ℕ) (line : List ℕ) (lines : List (List ℕ)) (list : AskedCalls) (limits : Option Limits) (said : Option Saying) → limits_on_line line ≡ limits → call_of line ≡ said
    → go_on n lines (counted (first_step no_calls line limits)) ≡ Ok list → AreList (line ∷ lines) list
first_found n line lines list (Some limits) said sets is e =
    let later = calls_found lines (n + 1) (with_limits no_calls limits) list e in
    let P : AskedCalls → Type 0 = λ l. AreList (line ∷ lines) l in
    subst P later.list_is (inr (inl (limits_of-found line limits sets, later.are)))
first_found n line lines list None said sets is e =
    let later = one_more n line lines no_calls list said is (ap (λ o. go_on n lines (counted o)) (sym (first_call no_calls line said is)) ∙ e) (λ m mid r. calls_found lines m mid list r) in
    let P : AskedCalls → Type 0 = λ l. AreList (line ∷ lines) l in
    subst P later.list_is (inr (inr (refl, later.are)))

list_found : (lines : List (List ℕ)) (n : ℕ) (list : AskedCalls) → calls_of_lines false no_calls n lines ≡ Ok list → AreList lines list
list_found [] n list e = sym (same_Ok no_calls list (sym (read_lines-nil false no_calls n) ∙ e))
list_found (line ∷ lines) n list e =
    ⊎_elim (λ (skipped : is_passed_over line ≡ true).
    inl (skipped, list_found lines (n + 1) list (ap (go_on n lines) (sym (skipped_step false no_calls line skipped)) ∙ sym (read_lines-cons false no_calls n line lines) ∙ e)))
    (λ (counts : is_passed_over line ≡ false).
    first_found n line lines list (limits_on_line line) (call_of line) refl refl
    (ap (go_on n lines) (sym (first_line no_calls line (limits_on_line line) counts refl)) ∙ sym (read_lines-cons false no_calls n line lines) ∙ e))
    (cases_Bool (is_passed_over line))

-- the line of limits isn't skipped
limits_count : (limits : Limits) (line : List ℕ) → SetsLimits limits line → is_passed_over line ≡ false
limits_count limits line is = ap is_passed_over is.text

plain_only : (lines : List (List ℕ)) (calls : List Saying) (n : ℕ) → AreCalls lines calls → calls_of_lines false no_calls n lines ≡ Ok (with_calls no_calls calls)
plain_only [] calls n are = read_lines-nil false no_calls n ∙ ap Ok (sym (ap (with_calls no_calls) are ∙ with_none no_calls))
plain_only (line ∷ lines) [] n (skipped, are) = read_lines-cons false no_calls n line lines ∙ ap (go_on n lines) (skipped_step false no_calls line skipped) ∙ plain_only lines [] (n + 1) are
plain_only (line ∷ lines) (said ∷ calls) n (inl (skipped, are)) =
    read_lines-cons false no_calls n line lines ∙ ap (go_on n lines) (skipped_step false no_calls line skipped) ∙ plain_only lines (said ∷ calls) (n + 1) are
plain_only (line ∷ lines) (said ∷ calls) n (inr (is, are)) =
    read_lines-cons false no_calls n line lines
    ∙ ap (go_on n lines) (first_line no_calls line None (line_counts said line is) (call_sets_none said line is) ∙ ap counted (first_call no_calls line (Some said) (call_of-only said line is)))
    ∙ calls_only lines calls (n + 1) (with_call no_calls said) are ∙ ap Ok (one_call no_calls said calls)

list_only : (lines : List (List ℕ)) (n : ℕ) (list : AskedCalls) → AreList lines list → calls_of_lines false no_calls n lines ≡ Ok list
list_only [] n list is = read_lines-nil false no_calls n ∙ ap Ok (sym is)
list_only (line ∷ lines) n list (inl (skipped, is)) = read_lines-cons false no_calls n line lines ∙ ap (go_on n lines) (skipped_step false no_calls line skipped) ∙ list_only lines (n + 1) list is
list_only (line ∷ lines) n list (inr (inl (sets, are))) =
    read_lines-cons false no_calls n line lines
    ∙ ap (go_on n lines) (first_line no_calls line (Some list.limits) (limits_count list.limits line sets) (limits_of-only list.limits line sets))
    ∙ calls_only lines list.calls (n + 1) (with_limits no_calls list.limits) are
list_only (line ∷ lines) n list (inr (inr (same, are))) =
    plain_only (line ∷ lines) list.calls n are ∙ ap Ok (ap (λ (limits : Limits). let all : AskedCalls = record { limits = limits; calls = list.calls } in all) (sym same))

-- ---- the first line that asks for nothing

-- the lines before it are read, and with it they aren't
record StopsAt (started : Bool) (before : AskedCalls) (n : ℕ) (lines : List (List ℕ)) (m : ℕ) : Type 0 where
  k : ℕ
  is : m ≡ n + k
  low : k < length lines
  list : AskedCalls
  reads : calls_of_lines started before n (take k lines) ≡ Ok list
  stops : calls_of_lines started before n (take (suc k) lines) ≡ Err m

stop_later : (started next : Bool) (before mid : AskedCalls) (n m : ℕ) (line : List ℕ) (lines : List (List ℕ)) → list_after_line started before line ≡ Some (next, mid) → StopsAt next mid (n + 1) lines m → StopsAt started before n (line ∷ lines) m
stop_later started next before mid n m line lines is later =
    let place = later.is in
    let low = later.low in
    record {
      k = suc later.k;
      is = omega (arith, place);
      low = omega (arith, low);
      list = later.list;
      reads = read_lines-cons started before n line (take later.k lines) ∙ ap (go_on n (take later.k lines)) is ∙ later.reads;
      stops = read_lines-cons started before n line (take (suc later.k) lines) ∙ ap (go_on n (take (suc later.k) lines)) is ∙ later.stops;
    }

stop_here : (started : Bool) (before : AskedCalls) (n m : ℕ) (line : List ℕ) (lines : List (List ℕ)) → list_after_line started before line ≡ None → n ≡ m → StopsAt started before n (line ∷ lines) m
stop_here started before n m line lines is same = record {
  k = 0;
  is = omega (arith, same);
  low = omega arith;
  list = before;
  reads = read_lines-nil started before n;
  stops = read_lines-cons started before n line [] ∙ ap (go_on n []) is ∙ ap Err same;
}

stop_at : (started : Bool) (before : AskedCalls) (n m : ℕ) (line : List ℕ) (lines : List (List ℕ)) (read : Option (Bool × AskedCalls)) → list_after_line started before line ≡ read → go_on n lines read ≡ Err m
    → ((next : Bool) (mid : AskedCalls) → calls_of_lines next mid (n + 1) lines ≡ Err m → StopsAt next mid (n + 1) lines m) → StopsAt started before n (line ∷ lines) m
stop_at started before n m line lines None is e rest = stop_here started before n m line lines is (same_Err n m e)
stop_at started before n m line lines (Some x) is e rest = stop_later started x.0 before x.1 n m line lines is (rest x.0 x.1 e)

stops_at : (started : Bool) (before : AskedCalls) (n m : ℕ) (lines : List (List ℕ)) → calls_of_lines started before n lines ≡ Err m → StopsAt started before n lines m
stops_at started before n m [] e = absurd (ok_or_err before m (sym (read_lines-nil started before n) ∙ e))
stops_at started before n m (line ∷ lines) e =
    stop_at started before n m line lines (list_after_line started before line) refl (sym (read_lines-cons started before n line lines) ∙ e) (λ next mid r. stops_at next mid (n + 1) m lines r)

-- ---- a text

text_found : (text : List ℕ) (list : AskedCalls) → calls_of_text text ≡ Ok list → Lists text list
unfolding calls_of_text
text_found text list e = list_found (lines_of text) 1 list e

pub text_only : (text : List ℕ) (list : AskedCalls) → Lists text list → calls_of_text text ≡ Ok list
unfolding calls_of_text
text_only text list is = list_only (lines_of text) 1 list is

bad_line : (lines : List (List ℕ)) (n : ℕ) → StopsAt false no_calls 1 lines n
    → (1 ≤ n) × (n ≤ length lines) × ((list : AskedCalls) × AreList (take (n - 1) lines) list) × ((list : AskedCalls) → AreList (take n lines) list → ⊥)
bad_line lines n stop =
    let place = stop.is in
    let low = stop.low in
    let before : n - 1 ≡ stop.k = omega (arith, place) in
    let whole : n ≡ suc stop.k = omega (arith, place) in
    let P : ℕ → Type 0 = λ k. AreList (take k lines) stop.list in (
      omega (arith, place),
      omega (arith, place, low),
      (stop.list, subst P (sym before) (list_found (take stop.k lines) 1 stop.list stop.reads)),
      λ list is. ok_or_err list n (sym (list_only (take n lines) 1 list is) ∙ ap (λ k. calls_of_lines false no_calls 1 (take k lines)) whole ∙ stop.stops),
    )

text_fault : (text : List ℕ) (n : ℕ) → calls_of_text text ≡ Err n → IsFirstBadLine text n
unfolding calls_of_text
text_fault text n e =
    let bad = bad_line (lines_of text) n (stops_at false no_calls 1 n (lines_of text) e) in
    record { stands = bad.0; within = bad.1; before = bad.2; bad = bad.3 }

-- ---- what a reader answered

pub reads-found : (text : List ℕ) (r : Result CallList Fault) → Reads r (calls_of_text text) → IfOk r (λ list. Lists text (asked_calls list))
reads-found text (Ok list) e = text_found text (asked_calls list) e
reads-found text (Err fault) e = tt

pub reads-only : (text : List ℕ) (r : Result CallList Fault) → Reads r (calls_of_text text) → (list : AskedCalls) → Lists text list → Reads r (Ok list)
reads-only text (Ok read) e list is = sym (text_only text list is) ∙ e
reads-only text (Err (Line n)) e list is = absurd (ok_or_err list n (sym (text_only text list is) ∙ e))
reads-only text (Err OutOfMemory) e list is = tt

pub reads-first : (text : List ℕ) (r : Result CallList Fault) → Reads r (calls_of_text text) → IfErr r (λ fault. IsFaultOf fault text)
reads-first text (Ok read) e = tt
reads-first text (Err (Line n)) e = text_fault text n e
reads-first text (Err OutOfMemory) e = tt
