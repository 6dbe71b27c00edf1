-- What a stream gives over a run of calls, and what parts are of a list.
use Rattle.std.proofs.Common.{◌≡◌, ℕ, zero, suc, ◌<◌, ◌≤◌, Bool, true, false, cond, List, [], ◌∷◌, ◌++◌, length, take, max, Option, inl, inr, refl, sym, ap, subst, ◌∙◌, arith}
use Rattle.std.specs.Prelude.{◌↔◌}
use Rattle.std.proofs.lemmas.Bool.{leb-true, leb-false, cases_lt}
use Rattle.sequences.specs.Before.{each_after}
use Rattle.sequences.proofs.BeforeLaws.{each_with_before-append}
use Rattle.ipfix_template.specs.declared.template.Template.{Template}
use Rattle.ipfix_template.specs.DataRecord.{DataRecord}
use Rattle.ipfix_template.specs.Equality.{same_template}
use Rattle.ipfix_template.specs.SameTemplate.{same_template-is, same_template-itself}
use Rattle.subscriber_stream.specs.Shapes.{shapes_of}
use Rattle.subscriber_stream.specs.Parts.{Part, parts, parts_at, records_of_parts}
use Rattle.subscriber_stream.specs.Message.{message, last_passing, is_within, run_length, built, place_after}
use Rattle.subscriber_stream.specs.Standing.{StreamStanding, StandsAt}
use Rattle.subscriber_stream.specs.Calls.{Call, Given, Pulled, ServesCalls, pulls_of, octets_from}
use Rattle.subscriber_stream.proofs.Messages.{length-message}
use Rattle.subscriber_stream.proofs.Standings.{records_in-append, records_in-parts_for}

pub served : (s : StreamStanding) (records : List DataRecord) (p : ℕ) (calls : List Call) (answers : List (Option (List ℕ))) → StandsAt s records p → ServesCalls s calls answers → answers ≡ octets_from p (pulls_of records calls)
served s records p [] answers at serves = serves
served s records p (Given more ∷ calls) answers at serves =
    served serves.0 (records ++ more) p calls answers (serves.1.stands records p at) serves.2
served s records p (Pulled now target ∷ calls) [] at serves = absurd serves
served s records p (Pulled now target ∷ calls) (answer ∷ answers) at serves =
    ap (λ (m : Option (List ℕ)). m ∷ answers) (serves.1.answers records p at)
    ∙ ap (λ (ms : List (Option (List ℕ))). built records p now target ∷ ms) (served serves.0 records (place_after records p target) calls answers (serves.1.stands records p at) serves.2)

brought : (before records : List DataRecord) → records_of_parts (each_after parts_at before records) ≡ records
brought before [] = refl
brought before (r ∷ records) =
    records_in-append (parts_at before r) (each_after parts_at (before ++ r ∷ []) records) ∙ ap (λ (rs : List DataRecord). rs ++ records_of_parts (each_after parts_at (before ++ r ∷ []) records)) (records_in-parts_for (shapes_of before) r) ∙ ap (λ (rs : List DataRecord). r ∷ rs) (brought (before ++ r ∷ []) records)

pub parts_bring : (records : List DataRecord) → records_of_parts (parts records) ≡ records
unfolding parts
parts_bring records = brought [] records

pub parts_more : (records more : List DataRecord) → (others : List Part) × (parts (records ++ more) ≡ parts records ++ others)
unfolding parts
parts_more records more = (each_after parts_at records more, each_with_before-append parts_at records more)

pub shapes_equal : (s t : Template) → (same_template s t ≡ true) ↔ (s ≡ t)
shapes_equal s t = (same_template-is s t, λ e. ap (same_template s) (sym e) ∙ same_template-itself s)

-- ---- the longest run

passing : (p : ℕ → Bool) (n : ℕ) → 0 < last_passing p n → p (last_passing p n) ≡ true
passing p zero some = absurd (omega arith)
passing p (suc n) some = by_test (p (suc n)) refl some (passing p n) where
  by_test : (b : Bool) → p (suc n) ≡ b → 0 < cond b (suc n) (last_passing p n) → (0 < last_passing p n → p (last_passing p n) ≡ true) → p (cond b (suc n) (last_passing p n)) ≡ true
  by_test true is some others = is
  by_test false is some others = others some

none_after : (p : ℕ → Bool) (n k : ℕ) → last_passing p n < k → k ≤ n → p k ≡ false
none_after p zero k over le = absurd (omega arith)
none_after p (suc n) k over le = by_test (p (suc n)) refl over (none_after p n k) where
  by_test : (b : Bool) → p (suc n) ≡ b → cond b (suc n) (last_passing p n) < k → (last_passing p n < k → k ≤ n → p k ≡ false) → p k ≡ false
  by_test true is over others = absurd (omega arith)
  by_test false is over others = elim (cases_lt n k) [
    | inl lt ↦ (let e : suc n ≡ k = omega arith in (let P : ℕ → Type 0 = λ m. p m ≡ false in subst P e is))
    | inr ge ↦ others over ge
  ]

same_length : (now sequence : ℕ) (ps : List Part) → length (message now sequence ps) ≡ length (message 0 0 ps)
same_length now sequence ps = omega (arith, length-message now sequence ps, length-message 0 0 ps)

pub run_some : (target : ℕ) (ps : List Part) → 1 ≤ run_length target ps
unfolding run_length
run_some target ps = omega arith

pub run_within : (target now sequence : ℕ) (ps : List Part) → 1 < run_length target ps → length (message now sequence (take (run_length target ps) ps)) ≤ target
unfolding run_length
run_within target now sequence ps more =
    let last = last_passing (λ n. is_within target (take n ps)) (length ps) in
    let is : max 1 last ≡ last = omega arith in
    let P : ℕ → Type 0 = λ n. length (message now sequence (take n ps)) ≤ target in
    let passes : is_within target (take last ps) ≡ true = passing (λ n. is_within target (take n ps)) (length ps) (omega arith) in
    let here : P last = omega (arith, same_length now sequence (take last ps), leb-true (length (message 0 0 (take last ps))) target passes) in
    subst P (sym is) here

pub run_longest : (target now sequence n : ℕ) (ps : List Part) → run_length target ps < n → n ≤ length ps → target < length (message now sequence (take n ps))
unfolding run_length
run_longest target now sequence n ps over le =
    let fails : is_within target (take n ps) ≡ false = none_after (λ n. is_within target (take n ps)) (length ps) n (omega arith) le in
    omega (arith, same_length now sequence (take n ps), leb-false (length (message 0 0 (take n ps))) target fails)
