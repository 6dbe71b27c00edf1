-- How a journal's file is explained, one entry after another.
use Rattle.std.proofs.Common.{◌≡◌, ℕ, ◌+◌, ◌≤◌, ◌<◌, Bool, true, false, List, [], ◌∷◌, ◌++◌, length, take, map, Option, Some, None, Result, Ok, Err, refl, sym, ap, ◌∙◌, subst, subst₂, arith, inl, inr, append_assoc, append-nil}
use Rattle.std.specs.Prelude.{◌⊎◌, OnOk}
use Rattle.std.specs.Result.{IsErr, IsErrAnd, IfErr}
use Rattle.std.specs.Io.KnownBytes.{Appends, Keeps}
use Rattle.std.proofs.KnownBytes.{Appends-nil, Appends-trans, Appends-kept, Keeps-refl}
use Rattle.std.proofs.lemmas.List.{take_all}
use Rattle.std.proofs.Math.Seq.{take-append-add}
use Rattle.sequences.specs.Before.{last_of}
use Rattle.sequences.proofs.BeforeLaws.{last_of-append, last_of-push, each_with_before-push}
use Rattle.event_journal.specs.declared.entry.Entry.{Entry}
use Rattle.event_journal.specs.declared.entry.Entry.TheVariants.{Cut}
use Rattle.journal_files.specs.Reading.{entries_behind}
use Rattle.journal_files.specs.Streaming.{FilePlace}
use Rattle.journal_files.proofs.ReadingSteps.{all_read}
use Rattle.mediator_history.specs.Cuts.{after_cuts}
use Rattle.history_verify.specs.declared.verifier.Verifier.{Verifier}
use Rattle.history_verify.specs.Legal.{AreLegal, IsAccepted, IsLegalAt, is_cut}
use Rattle.history_verify.specs.Standing.{IsFed}
use Rattle.history_verify.proofs.FeedLaws.{laid}
use Rattle.history_verify.proofs.LegalLaws.{accepted_legal}
use Rattle.ipmd_command_line.specs.declared.task.ExplainOptions.{ExplainOptions}
use Rattle.ipmd_commands.specs.declared.fault.Fault.{Fault as ProgramFault}
use Rattle.ipmd_commands.specs.declared.fault.Fault.TheVariants.{Absent, Device}
use Rattle.ipmd_commands.specs.declared.failure.Place.TheVariants.{Output}
use Rattle.ipmd_commands.specs.Failures.{FailedAt, IsFileFault, NamesFile}
use Rattle.ipmd_commands.specs.HexText.{WritesSomeOf}
use Rattle.ipmd_verify.specs.Found.{Says, RefusesFile}
use Rattle.ipmd_verify.specs.Reading.{IsReadTo}
use Rattle.ipmd_verify.proofs.ReadingLaws.{end_refuses}
use Rattle.ipmd_explain.specs.declared.question.Question.{Question}
use Rattle.ipmd_explain.specs.Explaining.{explanations, explained_at}
use Rattle.ipmd_explain.specs.Answers.{BeginsToExplain, Explains, RefusesQuestion, RefusesToExplain, RefusesToExplainFile, question_of}
use Rattle.ipmd_explain.specs.Reading.{NamesEnd}

-- ---- what a verifier was fed is accepted

legal_last : (before xs : List Entry) (e : Entry) (after : List Entry) → AreLegal before (xs ++ e ∷ []) after → IsLegalAt (before ++ xs) e after
legal_last before [] e after legal = subst (λ (b : List Entry). IsLegalAt b e after) (sym (append-nil before)) legal.0
legal_last before (x ∷ xs) e after legal = subst (λ (b : List Entry). IsLegalAt b e after) (append_assoc before (x ∷ []) xs) (legal_last (before ++ x ∷ []) xs e after legal.1)

abbrev cuts_at : Entry → Option Bool
cuts_at e = Some (is_cut e)

stays_cut : (cuts : List ℕ) → last_of cuts_at true (map Cut cuts) ≡ true
stays_cut [] = refl
stays_cut (c ∷ cs) = stays_cut cs

ends_cut : (g : List Entry) (c : ℕ) (cs : List ℕ) → last_of cuts_at false (after_cuts g (c ∷ cs)) ≡ true
ends_cut g c cs = last_of-append cuts_at false g (map Cut (c ∷ cs)) ∙ stays_cut cs

no_cuts : (g h : List Entry) (e : Entry) (cuts : List ℕ) → is_cut e ≡ false → h ++ e ∷ [] ≡ after_cuts g cuts → h ++ e ∷ [] ≡ g
no_cuts g h e [] none is = is ∙ append-nil g
no_cuts g h e (c ∷ cs) none is =
    let bad : false ≡ true = sym none ∙ sym (last_of-push cuts_at false h e) ∙ ap (last_of cuts_at false) is ∙ ends_cut g c cs in
    absurd cc

pub fed_accepted : (v : Verifier) (h : List Entry) (e : Entry) → IsFed v (h ++ e ∷ []) → is_cut e ≡ false → IsAccepted h e
fed_accepted v h e fed none =
    accepted_legal h e [] none (legal_last [] h e [] (subst (λ (t : List Entry). AreLegal [] t []) (sym whole) ((laid v (h ++ e ∷ []) fed).settled.legal [])))
  where
    whole : h ++ e ∷ [] ≡ fed.over.stands.settled
    whole = no_cuts fed.over.stands.settled h e (v.replay.waiting.items ++ fed.cuts) none (laid v (h ++ e ∷ []) fed).whole

-- ---- what is written

pub explained_more : (q : Question) (h : List Entry) (e : Entry) (text : List ℕ) → text ≡ explained_at q h e → explanations q (h ++ e ∷ []) ≡ explanations q h ++ text
explained_more q h e text is = each_with_before-push (explained_at q) h e ∙ ap (λ t. explanations q h ++ t) (sym is)

pub written_more : (q : Question) (h : List Entry) (e : Entry) (text : List ℕ) (held now after : Option (List ℕ)) → text ≡ explained_at q h e → Appends held now (explanations q h) → Appends now after text → Appends held after (explanations q (h ++ e ∷ []))
written_more q h e text held now after is before more = subst (Appends held after) (sym (explained_more q h e text is)) (Appends-trans held now after (explanations q h) text before more)

-- all of what is due so far
pub written_all : (q : Question) (given held holds now : Option (List ℕ)) (place : FilePlace) (h : List Entry) → IsReadTo given now place h → Appends held holds (explanations q h) → BeginsToExplain q given held holds
written_all q given held holds now place h to written = record {
  history = h;
  now = now;
  left = place.left;
  rest = to.rest;
  written = (length (explanations q h), subst (Appends held holds) (sym (take_all (length (explanations q h)) (explanations q h) (omega arith))) written);
}

-- and a front of what is said of the next entry
pub written_front : (q : Question) (given held now after rest : Option (List ℕ)) (place : FilePlace) (h : List Entry) (e : Entry) (text : List ℕ) → IsReadTo given rest place (h ++ e ∷ []) → text ≡ explained_at q h e
    → Appends held now (explanations q h) → WritesSomeOf text now after → BeginsToExplain q given held after
written_front q given held now after rest place h e text to is before (sent, front) = record {
  history = h ++ e ∷ [];
  now = rest;
  left = place.left;
  rest = to.rest;
  written = (length (explanations q h) + sent, subst (Appends held after) (sym begins) (Appends-trans held now after (explanations q h) (take sent text) before front));
} where
  begins : take (length (explanations q h) + sent) (explanations q (h ++ e ∷ [])) ≡ explanations q h ++ take sent text
  begins = ap (take (length (explanations q h) + sent)) (explained_more q h e text is) ∙ take-append-add (explanations q h) text sent

-- ---- the end

pub end_explains : (q : Question) (e : ProgramFault) (given : Option (List ℕ)) (h : List Entry) → Says given h → NamesEnd q e h → RefusesQuestion q e given
end_explains q e given h said (inl bad) = inl (subst (λ (x : ProgramFault). RefusesFile x given) (sym bad.is) (end_refuses bad.fault given h said bad.names))
end_explains q e given h said (inr lacks) = inr (inl (lacks.1.what, lacks.1.is, record { history = h; said = said; legal = lacks.0; lacks = lacks.1.lacks }))

-- the output was flushed, or that failed
pub flushed : (q : Question) (given held holds after : Option (List ℕ)) → Keeps holds after → BeginsToExplain q given held holds → BeginsToExplain q given held after
flushed q given held holds after same begins = record {
  history = begins.history;
  now = begins.now;
  left = begins.left;
  rest = begins.rest;
  written = (begins.written.0, Appends-kept held holds after (take begins.written.0 (explanations q begins.history)) begins.written.1 same);
}

pub err_gives : {X E : Type 0} {P Q : E → Type 0} (r : Result X E) → IsErr r × IsErrAnd r P → ((e : E) → P e → Q e) → IfErr r Q
err_gives (Ok x) known f = tt
err_gives (Err e) known f = f e known.1

pub ok_both : {X E P Q R : Type 0} (r : Result X E) → OnOk r P → OnOk r Q → (P → Q → R) → OnOk r R
ok_both (Ok x) p q f = f p q
ok_both (Err e) p q f = tt

-- ---- the whole file

says_begins : (q : Question) (given held holds : Option (List ℕ)) (h : List Entry) → Says given h → Appends held holds (explanations q h) → BeginsToExplain q given held holds
says_begins q None held holds h said written = record {
  history = h;
  now = None;
  left = 0;
  rest = tt;
  written = (length (explanations q h), subst (Appends held holds) (sym (take_all (length (explanations q h)) (explanations q h) (omega arith))) written);
}
says_begins q (Some octets) held holds h said written = record {
  history = h;
  now = Some [];
  left = 0;
  rest = said ∙ sym (all_read h 0 [] (entries_behind h 0 []) refl refl refl);
  written = (length (explanations q h), subst (Appends held holds) (sym (take_all (length (explanations q h)) (explanations q h) (omega arith))) written);
}

-- the output was flushed
pub explains_flushed : (q : Question) (given held holds after : Option (List ℕ)) → Keeps holds after → Explains q given held holds → Explains q given held after
explains_flushed q given held holds after same does = record {
  history = does.history;
  said = does.said;
  legal = does.legal;
  there = does.there;
  written = Appends-kept held holds after (explanations q does.history) does.written same;
}

-- or it wasn't: then the output failed, and keeps its name
pub refuses_flush : (q : Question) (path : List ℕ) (e : ProgramFault) (given held holds after : Option (List ℕ)) → FailedAt Output e → Keeps holds after → Explains q given held holds → RefusesToExplain q path e given held after
refuses_flush q path e given held holds after (why, is) same does = (
  e,
  subst (λ (x : ProgramFault). NamesFile path x x) (sym is) refl,
  (inr (inr (why, is)), inr (flushed q given held holds after same (says_begins q given held holds does.history does.said does.written))),
)

-- the file is refused as it is verified
pub refuses_first : (q : Question) (options : ExplainOptions) (path : List ℕ) (e f : ProgramFault) (given held sunk sinks : Option (List ℕ)) → q ≡ question_of options → path ≡ options.journal.now → e ≡ f
    → RefusesToExplain q path f given sunk sinks → RefusesToExplainFile options e held held
refuses_first q options path e f given held sunk sinks same there is (fault, named, (refuses, written)) =
    (given, (fault, subst₂ (λ p x. NamesFile p fault x) there (sym is) named, (subst (λ (r : Question). RefusesQuestion r fault given) same refuses, inl (Keeps-refl held))))

-- it can't be opened, or there is no memory
pub refuses_open : (options : ExplainOptions) (e : ProgramFault) (held holds : Option (List ℕ)) → IsFileFault options.journal.now e → Keeps held holds → RefusesToExplainFile options e held holds
refuses_open options e held holds is same = (None, (Device None, is, (inl tt, inl same)))

-- or as it is explained
pub refuses_last : (q : Question) (options : ExplainOptions) (e : ProgramFault) (given held holds : Option (List ℕ)) → q ≡ question_of options → RefusesToExplain q options.journal.now e given held holds
    → RefusesToExplainFile options e held holds
refuses_last q options e given held holds same refuses = (given, subst (λ (r : Question). RefusesToExplain r options.journal.now e given held holds) same refuses)
