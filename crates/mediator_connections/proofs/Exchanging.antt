-- Commands that are read and answered one after another, and where that ends or stops.
use Rattle.std.proofs.Common.{◌≡◌, ◌≢◌, ◌⊎◌, inl, inr, ℕ, ◌+◌, ◌≤◌, ◌<◌, Bool, false, List, [], ◌∷◌, ◌++◌, length, take, Option, Some, None, refl, sym, ap, ◌∙◌, subst, subst₂, append-nil, append_assoc, arith, length-append}
use Rattle.std.specs.Prelude.{IsSome, IsTrue, ◌↔◌}
use Rattle.std.specs.List.{AllByRecursion}
use Rattle.std.specs.Io.KnownBytes.{Consumes, Appends, prepend_known}
use Rattle.std.proofs.KnownBytes.{Appends-trans, Appends-nil, Consumes-trans, Consumes-nil, prepend_known-nil}
use Rattle.sequences.proofs.ListLaws.{take-add-append}
use Rattle.octet_io.specs.Moments.{reader_of, writer_of}
use Rattle.octet_io.specs.Written.{WritesFront}
use Rattle.ipfix_reader.specs.declared.fault.FramingFault.TheVariants as framing
use Rattle.shared_mediator.specs.declared.kept.KeptEntry.{KeptEntry}
use Rattle.mediator_history.proofs.HistoryLaws.{flat_map-push}
use Rattle.mediator_state.specs.declared.fault.Fault.TheVariants as fault
use Rattle.admin_text.specs.declared.command.Command.{Command}
use Rattle.admin_text.specs.Sayings.{AdminSaying, admin_saying}
use Rattle.admin_text.specs.Sayings.AdminSaying.{to_edit, to_subscribe, to_unsubscribe, to_advance, to_tell_status, to_drain_audit, to_tell, to_stop}
use Rattle.admin_text.specs.Grammar.{longest_line, IsNamingLine}
use Rattle.admin_text.specs.Reading.{command_of}
use Rattle.replay_text.specs.Answers.{refusal_text}
use Rattle.admin_text.specs.Answers.{admin_answer_text, refused_for_memory, IsAnswerText, WritesAnswer}
use Rattle.admin_text.specs.declared.answer.Answer.{Answer}
use Rattle.admin_text.specs.declared.answer.Answer.TheVariants as answer
use Rattle.admin_text.proofs.LineLaws.{command_of-only}
use Rattle.mediator_connections.specs.declared.fault.Fault.{Fault}
use Rattle.mediator_connections.specs.declared.fault.Fault.TheVariants.{Read, Write, Framing, Turns, Mediator}
use Rattle.mediator_connections.specs.Faults.{out_of_memory}
use Rattle.mediator_connections.specs.CommandInput.{InputState, unread, ahead, HandsOutOctets, EndsBehind, IsLine, IsInside, StopsReading}
use Rattle.mediator_connections.specs.Answering.{handle_of, AnswersLine, Exchange, octets_read, octets_written, IsExchange, AreExchanges, MayBeFollowed, Exchanges, ServesAdmin, StopsInside, StopsAdmin, Performs, Hears, StopsHearing, StopsReplying}
use Rattle.mediator_connections.proofs.Commands.{hands_out_none, hands_out_then, stops_then}

-- ---- what a reply says of its line

-- only a line that is no command is answered as one
pub bad_line : (read : Option AdminSaying) (text : List ℕ) (old new : List KeptEntry) → AnswersLine read text answer.BadLine old new → read ≡ None
bad_line None text old new so = refl
bad_line (Some (to_edit octets)) text old new so = absurd so.1
bad_line (Some (to_subscribe name)) text old new so = absurd so.1
bad_line (Some (to_unsubscribe sub)) text old new so = absurd so.1
bad_line (Some (to_advance t)) text old new so = absurd so.1
bad_line (Some (to_tell_status sub)) text old new so = absurd so.1
bad_line (Some (to_drain_audit most)) text old new so = absurd so.1
bad_line (Some (to_tell topic)) text old new so = absurd so.1
bad_line (Some to_stop) text old new so = absurd (other so.1)
  where
    other : answer.BadLine ≡ answer.Done → ⊥
    other e = cc

-- a command without a text was answered: nothing is read behind its line
pub performed : (command : Command) (said : AdminSaying) (reply : Answer) (i : InputState) (given : Option (List ℕ)) (before after : List KeptEntry) → admin_saying command ≡ said → AnswersLine (Some said) [] reply before after
    → Performs (Some (admin_saying command)) reply i (reader_of given given) i (handle_of before after)
performed command said reply i given before after is so = record {
  text = [];
  handed = hands_out_none i given;
  answers = subst (λ (s : AdminSaying). AnswersLine (Some s) [] reply before after) (sym is) so;
}

pub good_line : (read : Option AdminSaying) (text : List ℕ) (reply : Answer) (old new : List KeptEntry) → (reply ≡ answer.BadLine → ⊥) → AnswersLine read text reply old new → IsSome read
good_line None text reply old new good so = absurd (good so.1)
good_line (Some said) text reply old new good so = refl

no_stop : (stops : Bool) (read : Option AdminSaying) → stops ≡ false → (IsTrue stops ↔ (read ≡ Some to_stop)) → read ≢ Some to_stop
no_stop stops read goes stop is = let asked = stop.1 is in cc

pub other_line : (read : Option AdminSaying) (text : List ℕ) (reply : Answer) (stops : Bool) (old new : List KeptEntry) → (reply ≡ answer.BadLine → ⊥) → stops ≡ false → (IsTrue stops ↔ (read ≡ Some to_stop)) → AnswersLine read text reply old new
    → IsSome read × (read ≢ Some to_stop)
other_line read text reply stops old new good goes stop so = (good_line read text reply old new good so, no_stop stops read goes stop)

-- a text has some octets
ended_some : (xs : List ℕ) (x : ℕ) → 0 < length (xs ++ x ∷ [])
ended_some xs x = omega (arith, length-append xs (x ∷ []))

answer_some : (reply : Answer) → 0 < length (admin_answer_text reply)
answer_some (answer.Edited revision) = omega arith
answer_some (answer.Subscribed sub) = omega arith
answer_some answer.Done = omega arith
answer_some (answer.Stands status) = omega arith
answer_some (answer.Drained entries) = omega arith
answer_some (answer.Told page) = omega arith
answer_some (answer.Refused why) = ended_some (refusal_text why) 10
answer_some answer.BadLine = omega arith
answer_some answer.BadText = omega arith

same_some : (reply : Answer) (text : List ℕ) → text ≡ admin_answer_text reply → 0 < length text
same_some reply text is = subst (λ t. 0 < length t) (sym is) (answer_some reply)

text_some : (reply : Answer) (text : List ℕ) → IsAnswerText reply text → 0 < length text
text_some (answer.Edited revision) text is = same_some (answer.Edited revision) text is
text_some (answer.Subscribed sub) text is = same_some (answer.Subscribed sub) text is
text_some answer.Done text is = same_some answer.Done text is
text_some (answer.Stands status) text is = same_some (answer.Stands status) text is
text_some (answer.Drained entries) text is = same_some (answer.Drained entries) text is
text_some (answer.Told page) text is = same_some (answer.Told page) text is
text_some (answer.Refused why) text (inl is) = same_some (answer.Refused why) text is
text_some (answer.Refused why) text (inr is) = same_some refused_for_memory text is
text_some answer.BadLine text is = same_some answer.BadLine text is
text_some answer.BadText text is = same_some answer.BadText text is

-- ---- a line is heard

-- there was no memory for a name
pub name_lost : (line : List ℕ) (i : InputState) (given : Option (List ℕ)) (kept : List KeptEntry) → IsNamingLine line → Performs (command_of line) (answer.Refused fault.OutOfMemory) i (reader_of given given) i (handle_of kept kept)
name_lost line i given kept named = record {
  text = [];
  handed = hands_out_none i given;
  answers = subst (λ read. AnswersLine read [] (answer.Refused fault.OutOfMemory) kept kept) (sym (command_of-only line (to_subscribe named.0) named.1)) (refl, refl);
}

-- and it was no stop
pub named_no_stop : (line : List ℕ) → IsNamingLine line → IsTrue false ↔ (command_of line ≡ Some to_stop)
named_no_stop line named = (λ said. absurd (never said), λ is. absurd (differ (sym (command_of-only line (to_subscribe named.0) named.1) ∙ is)))
  where
    never : IsTrue false → ⊥
    never said = cc

    differ : Some (to_subscribe named.0) ≡ Some to_stop → ⊥
    differ e = cc

line_some : (line octets : List ℕ) → IsLine line octets → 0 < length octets
line_some line octets is = some is.cut
  where
    some : (octets ≡ line ++ 10 ∷ []) ⊎ ((octets ≡ line) × (longest_line < length line)) → 0 < length octets
    some (inl ends) = subst (λ t. 0 < length t) (sym ends) (ended_some line 10)
    some (inr long) = omega (arith, ap length long.0, long.1)

begun_some : (e : Fault) (octets : List ℕ) → 0 < length octets → IsInside e octets
begun_some (Framing framing.CutOff) octets some = some
begun_some _ octets some = tt

-- the line was handed out, and what stands behind it wasn't
pub stops_behind_line : (e w : Fault) (i k l : InputState) (given mid left : Option (List ℕ)) (line : List ℕ) → e ≡ w → (octets : List ℕ) × IsLine line octets × HandsOutOctets i given mid octets k
    → (octets : List ℕ) × StopsReading w k mid left octets l → StopsHearing e i given left l
stops_behind_line e w i k l given mid left line is heard stops = rw is (record {
  octets = heard.0 ++ stops.0;
  stops = stops_then w i k l given mid left heard.0 stops.0 heard.2 stops.1;
  begun = begun_some w (heard.0 ++ stops.0) (omega (arith, line_some line heard.0 heard.1, length-append heard.0 stops.0));
})

pub stops_in_line : (e w : Fault) (i k : InputState) (given left : Option (List ℕ)) → e ≡ w → (octets : List ℕ) × StopsReading w i given left octets k × IsInside w octets → StopsHearing e i given left k
stops_in_line e w i k given left is stops = rw is (record { octets = stops.0; stops = stops.1; begun = stops.2 })

-- a line was handed out, and its call was made
pub hears_line : (reply : Answer) (stops : Bool) (i k l : InputState) (given mid left : Option (List ℕ)) (line shown : List ℕ) (before after : List KeptEntry) → shown ≡ line → (octets : List ℕ) × IsLine line octets × HandsOutOctets i given mid octets k
    → Performs (command_of shown) reply k (reader_of mid left) l (handle_of before after) → (IsTrue stops ↔ (command_of shown ≡ Some to_stop)) → Hears reply stops i (reader_of given left) l (handle_of before after)
hears_line reply stops i k l given mid left line shown before after is heard so stop = record {
  line = line;
  octets = heard.0;
  text = so.text;
  is_line = heard.1;
  handed = hands_out_then i k l given mid left heard.0 so.text heard.2 so.handed;
  answers = subst (λ t. AnswersLine (command_of t) so.text reply before after) is so.answers;
  stop = subst (λ t. IsTrue stops ↔ (command_of t ≡ Some to_stop)) is stop;
}

-- ---- one exchange more

all_pushed : {X : Type 0} (P : X → Type 0) (xs : List X) (x : X) → AllByRecursion P xs → P x → AllByRecursion P (xs ++ x ∷ [])
all_pushed P [] x all p = (p, tt)
all_pushed P (y ∷ xs) x all p = (all.0, all_pushed P xs x all.1 p)

done_pushed : (xs : List Exchange) (x : Exchange) (old mid new : List KeptEntry) → AreExchanges xs old mid → IsExchange x mid new → AreExchanges (xs ++ x ∷ []) old new
done_pushed [] x old mid new so next = (new, subst (λ k. IsExchange x k new) so next, refl)
done_pushed (y ∷ xs) x old mid new so next = (so.0, so.1, done_pushed xs x so.0 mid new so.2 next)

asked_pushed : (xs : List Exchange) (x : Exchange) → octets_read (xs ++ x ∷ []) ≡ octets_read xs ++ (x.octets ++ x.text)
asked_pushed xs x = flat_map-push (λ x. x.octets ++ x.text) xs x

answered_pushed : (xs : List Exchange) (x : Exchange) → octets_written (xs ++ x ∷ []) ≡ octets_written xs ++ x.written
answered_pushed xs x = flat_map-push (λ x. x.written) xs x

-- what was handed out, and what is pending, were read
all_read : (given left : Option (List ℕ)) (octets pending : List ℕ) → Consumes given (prepend_known pending left) octets → Consumes given left (octets ++ pending)
all_read None left octets pending taken = tt
all_read (Some xs) None octets pending taken = absurd taken
all_read (Some xs) (Some ys) octets pending taken = taken ∙ sym (append_assoc octets pending ys)

-- nothing was pending before the first read
from_start : (turns : ℕ) (given left : Option (List ℕ)) (octets : List ℕ) → Consumes (ahead (unread turns) given) left octets → Consumes given left octets
from_start turns given left octets taken = subst (λ g. Consumes g left octets) (prepend_known-nil given) taken

-- ---- on the way

-- commands were read and answered, and counted
pub record Serving (turns : ℕ) (i : InputState) (count sent : ℕ) (given left held holds : Option (List ℕ)) (old new : List KeptEntry) : Type 0 where
  pub commands : List Exchange
  pub are : AllByRecursion MayBeFollowed commands
  pub done : AreExchanges commands old new
  pub handed : HandsOutOctets (unread turns) given left (octets_read commands) i
  pub written : Appends held holds (octets_written commands)
  pub counted : count ≡ length commands
  pub sent_are : sent ≡ length (octets_written commands)
  pub few : count ≤ sent

pub serving_starts : (turns : ℕ) (i : InputState) (given held : Option (List ℕ)) (old : List KeptEntry) → i ≡ unread turns → Serving turns i 0 0 given given held held old old
serving_starts turns i given held old new = record {
  commands = [];
  are = tt;
  done = refl;
  handed = subst (λ x. HandsOutOctets (unread turns) given given [] x) (sym new) (hands_out_none (unread turns) given);
  written = Appends-nil held;
  counted = refl;
  sent_are = refl;
  few = omega arith;
}

-- the exchange of a line that was heard, with what was due for its reply
abbrev exchange_of : (reply : Answer) (stops : Bool) (i k : InputState) (mid left : Option (List ℕ)) (before after : List KeptEntry) → Hears reply stops i (reader_of mid left) k (handle_of before after) → List ℕ → Exchange
exchange_of reply stops i k mid left before after hears written = record { line = hears.line; octets = hears.octets; text = hears.text; reply = reply; written = written }

-- a line more was heard: its call was made, and its octets were handed out
record Heard (turns : ℕ) (k : InputState) (commands : List Exchange) (x : Exchange) (given left : Option (List ℕ)) (old new : List KeptEntry) : Type 0 where
  pub done : AreExchanges (commands ++ x ∷ []) old new
  pub handed : HandsOutOctets (unread turns) given left (octets_read (commands ++ x ∷ [])) k
  pub written : octets_written (commands ++ x ∷ []) ≡ octets_written commands ++ x.written

heard : (turns : ℕ) (i k : InputState) (count sent : ℕ) (given mid left held holds : Option (List ℕ)) (old before new : List KeptEntry) (reply : Answer) (stops : Bool) (text : List ℕ)
    → (so : Serving turns i count sent given mid held holds old before) → (hears : Hears reply stops i (reader_of mid left) k (handle_of before new)) → IsAnswerText reply text
    → Heard turns k so.commands (exchange_of reply stops i k mid left before new hears text) given left old new
heard turns i k count sent given mid left held holds old before new reply stops text so hears is =
    let x : Exchange = exchange_of reply stops i k mid left before new hears text in
    record {
      done = done_pushed so.commands x old before new so.done (record { line = hears.is_line; answers = hears.answers; written = is });
      handed = subst (λ t. HandsOutOctets (unread turns) given left t k) (sym (asked_pushed so.commands x)) (hands_out_then (unread turns) i k given mid left (octets_read so.commands) (hears.octets ++ hears.text) so.handed hears.handed);
      written = answered_pushed so.commands x;
    }

-- the octets that were read for it, and those behind it
exchanges_of : (turns : ℕ) (k : InputState) (commands last : List Exchange) (given left : Option (List ℕ)) (old new : List KeptEntry)
    → AllByRecursion MayBeFollowed commands → AreExchanges (commands ++ last) old new → HandsOutOctets (unread turns) given left (octets_read (commands ++ last)) k → Exchanges commands last k.pending (reader_of given left) (handle_of old new)
exchanges_of turns k commands last given left old new are done handed = record {
  are = are;
  done = done;
  read = from_start turns given left (octets_read (commands ++ last) ++ k.pending) (all_read (ahead (unread turns) given) left (octets_read (commands ++ last)) k.pending handed.taken);
}

-- a command more was heard and answered
pub serving_on : (turns : ℕ) (i k : InputState) (count sent n : ℕ) (given mid left held holds writes : Option (List ℕ)) (old before new : List KeptEntry) (reply : Answer) (stops : Bool)
    → Serving turns i count sent given mid held holds old before → Hears reply stops i (reader_of mid left) k (handle_of before new) → WritesAnswer reply sent n holds writes → (reply ≡ answer.BadLine → ⊥) → stops ≡ false
    → Serving turns k (count + 1) n given left held writes old new
serving_on turns i k count sent n given mid left held holds writes old before new reply stops so hears replies good goes =
    let x : Exchange = exchange_of reply stops i k mid left before new hears replies.text in
    let h : Heard turns k so.commands x given left old new = heard turns i k count sent given mid left held holds old before new reply stops replies.text so hears replies.is in
    record {
      commands = so.commands ++ x ∷ [];
      are = all_pushed MayBeFollowed so.commands x so.are (other_line (command_of hears.line) hears.text reply stops before new good goes hears.stop hears.answers);
      done = h.done;
      handed = h.handed;
      written = subst (Appends held writes) (sym h.written) (Appends-trans held holds writes (octets_written so.commands) replies.text so.written replies.writes.written);
      counted = omega (arith, so.counted, length-append so.commands (x ∷ []));
      sent_are = omega (arith, replies.writes.counted, so.sent_are, ap length h.written, length-append (octets_written so.commands) replies.text);
      few = omega (arith, so.few, replies.writes.counted, text_some reply replies.text replies.is);
    }

-- ---- where it ends

-- the input ended behind the commands
pub serving_ends : (turns : ℕ) (i : InputState) (count sent : ℕ) (given mid left held holds : Option (List ℕ)) (old new : List KeptEntry) → Serving turns i count sent given mid held holds old new → EndsBehind i mid left [] → ServesAdmin count (reader_of given left) (writer_of held holds) (handle_of old new)
serving_ends turns i count sent given mid left held holds old new so ends = record {
  commands = so.commands;
  last = [];
  rest = [];
  exchanges = record {
    are = so.are;
    done = subst (λ xs. AreExchanges xs old new) (sym (append-nil so.commands)) so.done;
    read = subst (λ xs. Consumes given left (octets_read xs ++ [])) (sym (append-nil so.commands))
        (from_start turns given left (octets_read so.commands ++ []) (Consumes-trans (ahead (unread turns) given) (ahead i mid) left (octets_read so.commands) [] so.handed.taken ends.taken));
  };
  written = subst (λ xs. Appends held holds (octets_written xs)) (sym (append-nil so.commands)) so.written;
  more = 0;
  counted = omega (arith, so.counted);
  ends = (refl, refl, ends.end);
}

-- a line behind them was the last
serving_ends_by : (turns : ℕ) (i k : InputState) (count sent n more total : ℕ) (given mid left held holds writes : Option (List ℕ)) (old before new : List KeptEntry) (reply : Answer) (stops : Bool)
    → Serving turns i count sent given mid held holds old before → (hears : Hears reply stops i (reader_of mid left) k (handle_of before new)) → WritesAnswer reply sent n holds writes
    → ((command_of hears.line ≡ None) × (more ≡ 0)) ⊎ ((command_of hears.line ≡ Some to_stop) × (more ≡ 1)) → total ≡ count + more → ServesAdmin total (reader_of given left) (writer_of held writes) (handle_of old new)
serving_ends_by turns i k count sent n more total given mid left held holds writes old before new reply stops so hears replies last is =
    let x : Exchange = exchange_of reply stops i k mid left before new hears replies.text in
    let h : Heard turns k so.commands x given left old new = heard turns i k count sent given mid left held holds old before new reply stops replies.text so hears replies.is in
    record {
      commands = so.commands;
      last = x ∷ [];
      rest = k.pending;
      exchanges = exchanges_of turns k so.commands (x ∷ []) given left old new so.are h.done h.handed;
      written = subst (Appends held writes) (sym h.written) (Appends-trans held holds writes (octets_written so.commands) replies.text so.written replies.writes.written);
      more = more;
      counted = omega (arith, is, so.counted);
      ends = last;
    }

-- it was no command
pub serving_ends_line : (turns : ℕ) (i k : InputState) (count sent n : ℕ) (given mid left held holds writes : Option (List ℕ)) (old before new : List KeptEntry) (reply : Answer) (stops : Bool)
    → Serving turns i count sent given mid held holds old before → Hears reply stops i (reader_of mid left) k (handle_of before new) → WritesAnswer reply sent n holds writes → reply ≡ answer.BadLine → ServesAdmin count (reader_of given left) (writer_of held writes) (handle_of old new)
serving_ends_line turns i k count sent n given mid left held holds writes old before new reply stops so hears replies bad =
    serving_ends_by turns i k count sent n 0 count given mid left held holds writes old before new reply stops so hears replies
    (inl (bad_line (command_of hears.line) hears.text before new (subst (λ r. AnswersLine (command_of hears.line) hears.text r before new) bad hears.answers), refl)) (omega arith)

-- it was to stop
pub serving_stops : (turns : ℕ) (i k : InputState) (count sent n : ℕ) (given mid left held holds writes : Option (List ℕ)) (old before new : List KeptEntry) (reply : Answer) (stops : Bool)
    → Serving turns i count sent given mid held holds old before → Hears reply stops i (reader_of mid left) k (handle_of before new) → WritesAnswer reply sent n holds writes → IsTrue stops → ServesAdmin (count + 1) (reader_of given left) (writer_of held writes) (handle_of old new)
serving_stops turns i k count sent n given mid left held holds writes old before new reply stops so hears replies octets_read =
    serving_ends_by turns i k count sent n 1 (count + 1) given mid left held holds writes old before new reply stops so hears replies (inr (hears.stop.0 octets_read, refl)) refl

-- ---- where it stops

inside_of : (turns : ℕ) (i : InputState) (count sent : ℕ) (given mid left held holds : Option (List ℕ)) (old new : List KeptEntry) (begun : List ℕ) → (so : Serving turns i count sent given mid held holds old new)
    → Consumes (ahead i mid) left begun → StopsInside so.commands begun (reader_of given left) (writer_of held holds) (handle_of old new)
inside_of turns i count sent given mid left held holds old new begun so taken = record {
  exchanges = record {
    are = so.are;
    done = subst (λ xs. AreExchanges xs old new) (sym (append-nil so.commands)) so.done;
    read = subst (λ xs. Consumes given left (octets_read xs ++ begun)) (sym (append-nil so.commands))
        (from_start turns given left (octets_read so.commands ++ begun) (Consumes-trans (ahead (unread turns) given) (ahead i mid) left (octets_read so.commands) begun so.handed.taken taken));
  };
  written = so.written;
}

-- nothing was heard
pub stops_hearing : (e : Fault) (turns : ℕ) (i k : InputState) (count sent : ℕ) (given mid left held holds : Option (List ℕ)) (failed : Bool) (old new : List KeptEntry) (octets : List ℕ)
    → (so : Serving turns i count sent given mid held holds old new) → StopsReading e i mid left octets k → IsInside e octets → StopsAdmin e turns (reader_of given left) (writer_of held holds) failed (handle_of old new) so.commands
stops_hearing Read turns i k count sent given mid left held holds failed old new octets so stops begun =
    (octets ++ k.pending, inside_of turns i count sent given mid left held holds old new (octets ++ k.pending) so (all_read (ahead i mid) left octets k.pending stops))
stops_hearing Turns turns i k count sent given mid left held holds failed old new octets so stops begun = (
  octets ++ k.pending,
  inside_of turns i count sent given mid left held holds old new (octets ++ k.pending) so (all_read (ahead i mid) left octets k.pending stops.0.taken),
  omega (arith, so.handed.reads, stops.0.reads, stops.2, ap length stops.1, length-append (octets_read so.commands) (octets ++ k.pending), length-append octets k.pending),
)
stops_hearing (Framing framing.CutOff) turns i k count sent given mid left held holds failed old new octets so stops begun =
    (octets, inside_of turns i count sent given mid left held holds old new octets so stops.taken, begun, stops.end)
stops_hearing (Mediator fault.OutOfMemory) turns i k count sent given mid left held holds failed old new octets so stops begun =
    (octets ++ k.pending, inside_of turns i count sent given mid left held holds old new (octets ++ k.pending) so (all_read (ahead i mid) left octets k.pending stops.taken))
stops_hearing _ turns i k count sent given mid left held holds failed old new octets so stops begun = absurd stops

-- there was no memory before the first read
pub stops_begun : (turns : ℕ) (given held : Option (List ℕ)) (failed : Bool) (old : List KeptEntry) → StopsAdmin out_of_memory turns (reader_of given given) (writer_of held held) failed (handle_of old old) []
stops_begun turns given held failed old = (
  [],
  record { exchanges = record { are = tt; done = refl; read = Consumes-nil given }; written = Appends-nil held },
)

-- the writer failed inside the answer, or its octets can't be counted
pub stops_replying : (e : Fault) (turns : ℕ) (i k : InputState) (count sent : ℕ) (given mid left held holds writes : Option (List ℕ)) (failed : Bool) (old before new : List KeptEntry) (reply : Answer) (last : Bool)
    → (so : Serving turns i count sent given mid held holds old before) → Hears reply last i (reader_of mid left) k (handle_of before new) → StopsReplying e reply sent holds writes failed → StopsAdmin e turns (reader_of given left) (writer_of held writes) failed (handle_of old new) so.commands
stops_replying (Write n) turns i k count sent given mid left held holds writes failed old before new reply last so hears stopped =
    let x : Exchange = exchange_of reply last i k mid left before new hears stopped.text in
    let h : Heard turns k so.commands x given left old new = heard turns i k count sent given mid left held holds old before new reply last stopped.text so hears stopped.is in (
      x,
      record { rest = k.pending; exchanges = exchanges_of turns k so.commands (x ∷ []) given left old new so.are h.done h.handed },
      subst (λ t. WritesFront held writes t n failed) (sym h.written) (subst (λ m. WritesFront held writes (octets_written so.commands ++ stopped.text) m failed) (sym (place stopped.stops.1))
          (record {
            short = omega (arith, stopped.stops.2.short, length-append (octets_written so.commands) stopped.text);
            written = subst (Appends held writes) (sym (take-add-append (octets_written so.commands) stopped.text stopped.stops.0)) (Appends-trans held holds writes (octets_written so.commands) (take stopped.stops.0 stopped.text) so.written stopped.stops.2.written);
            failed = stopped.stops.2.failed;
          })),
      omega (arith, stopped.stops.1, so.sent_are),
    )
  where
    place : n ≡ sent + stopped.stops.0 → n ≡ length (octets_written so.commands) + stopped.stops.0
    place is = is ∙ ap (λ m. m + stopped.stops.0) so.sent_are
stops_replying (Mediator fault.HandedFull) turns i k count sent given mid left held holds writes failed old before new reply last so hears stopped =
    let x : Exchange = exchange_of reply last i k mid left before new hears stopped.text in
    let h : Heard turns k so.commands x given left old new = heard turns i k count sent given mid left held holds old before new reply last stopped.text so hears stopped.is in (
      x,
      record { rest = k.pending; exchanges = exchanges_of turns k so.commands (x ∷ []) given left old new so.are h.done h.handed },
      subst (λ t. Appends held t (octets_written so.commands)) (sym stopped.stops.0) so.written,
      omega (arith, stopped.stops.1, so.sent_are, ap length h.written, length-append (octets_written so.commands) stopped.text),
    )
stops_replying _ turns i k count sent given mid left held holds writes failed old before new reply last so hears stopped = absurd stopped.stops

pub stopped_hearing : (e w : Fault) (turns : ℕ) (i k : InputState) (count sent : ℕ) (given mid left held holds : Option (List ℕ)) (failed : Bool) (old before new : List KeptEntry) → e ≡ w
    → Serving turns i count sent given mid held holds old before → StopsHearing w i mid left k → new ≡ before → (commands : List Exchange) × StopsAdmin e turns (reader_of given left) (writer_of held holds) failed (handle_of old new) commands
stopped_hearing e w turns i k count sent given mid left held holds failed old before new is so stops same =
    subst₂ (λ (x : Fault) (kept : List KeptEntry). (commands : List Exchange) × StopsAdmin x turns (reader_of given left) (writer_of held holds) failed (handle_of old kept) commands) (sym is) (sym same)
    (so.commands, stops_hearing w turns i k count sent given mid left held holds failed old before stops.octets so stops.stops stops.begun)

pub stopped_replying : (e w : Fault) (turns : ℕ) (i k : InputState) (count sent : ℕ) (given mid left held holds writes : Option (List ℕ)) (failed : Bool) (old before new : List KeptEntry) (reply : Answer) (last : Bool) → e ≡ w
    → Serving turns i count sent given mid held holds old before → Hears reply last i (reader_of mid left) k (handle_of before new) → StopsReplying w reply sent holds writes failed → (commands : List Exchange) × StopsAdmin e turns (reader_of given left) (writer_of held writes) failed (handle_of old new) commands
stopped_replying e w turns i k count sent given mid left held holds writes failed old before new reply last is so hears stops =
    rw is (so.commands, stops_replying w turns i k count sent given mid left held holds writes failed old before new reply last so hears stops)

pub serving_ended : (turns : ℕ) (i : InputState) (count sent : ℕ) (given mid left held holds : Option (List ℕ)) (old before new : List KeptEntry) → Serving turns i count sent given mid held holds old before → EndsBehind i mid left [] × (new ≡ before)
    → ServesAdmin count (reader_of given left) (writer_of held holds) (handle_of old new)
serving_ended turns i count sent given mid left held holds old before new so ends =
    subst (λ (kept : List KeptEntry). ServesAdmin count (reader_of given left) (writer_of held holds) (handle_of old kept)) (sym ends.1) (serving_ends turns i count sent given mid left held holds old before so ends.0)
