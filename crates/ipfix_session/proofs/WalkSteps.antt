-- How a message's items are read, one after another.
use Rattle.std.proofs.Common.{arith, ◌≡◌, ℕ, ◌+◌, ◌<◌, ◌^◌, Bool, cond, eqb, List, [], ◌∷◌, ◌++◌, reverse, take, drop, map, Option, Some, None, Result, Ok, Err, refl, sym, ap, ◌∙◌, subst, append_assoc}
use Rattle.std.specs.Prelude.{OnOk}
use Rattle.std.specs.Option.{option_map}
use Rattle.std.proofs.lemmas.List.{append-nil, reverse-append}
use Rattle.ipfix_template.specs.declared.template.Template.{Template}
use Rattle.ipfix_template.specs.declared.template.Refused.{Refused as Why}
use Rattle.ipfix_template.specs.Values.{records_in}
use Rattle.ipfix_template.specs.DataRecord.{DataRecord}
use Rattle.ipfix_message.specs.declared.item.Item.{Item}
use Rattle.ipfix_message.specs.declared.item.Item.TheVariants.{Define, Withdraw, WithdrawAll, Refused, DataSet, Skipped}
use Rattle.sequences.specs.Results.{◌>>=◌}
use Rattle.sequences.proofs.ResultLaws.{fails_along}
use Rattle.ipfix_session.specs.declared.read.Skips.{Skips}
use Rattle.ipfix_session.specs.declared.fault.Fault.{Fault}
use Rattle.ipfix_session.specs.declared.fault.Fault.TheVariants.{Malformed, RecordOverrun, OutOfMemory}
use Rattle.ipfix_session.specs.InForce.{template_in_force, unless_of_kind}
use Rattle.ipfix_session.specs.Contents.{Contents, nothing, skips_of, both, only_skips, only_records, record_of, rows_of, set_contents, item_contents, contents_after}
use Rattle.ipfix_session.specs.Keeping.{AreInForce}
use Rattle.ipfix_session.specs.declared.changes.Changes.{Changes}
use Rattle.ipfix_session.specs.Changing.{after}
use Rattle.ipfix_session.specs.Answers.{is_memory, FailsMeaning}
use Rattle.ipfix_session.specs.Walking.{AddsContents, SkipsAtMost}
use Rattle.ipfix_session.specs.DataSets.{AddsRecords}

-- ---- the contents so far, and those of the items that are left

abbrev pub with_contents : Contents → Result Contents Fault → Result Contents Fault
with_contents before (Ok others) = Ok (both before others)
with_contents before (Err e) = Err e

abbrev contents : List DataRecord → Skips → Contents
contents records skips = record { records = records; skips = skips }

same_contents : (a b : Contents) → a.records ≡ b.records → a.skips ≡ b.skips → a ≡ b
same_contents a b records skips = λ i. record { records = records i; skips = skips i }

same_skips : (s t : Skips) → s.unknown ≡ t.unknown → s.reserved ≡ t.reserved → s.refused ≡ t.refused → s ≡ t
same_skips s t unknown reserved refused = λ i. record { unknown = unknown i; reserved = reserved i; refused = refused i }

pub both-nothing : (a : Contents) → both a nothing ≡ a
both-nothing a = same_contents (both a nothing) a (append-nil a.records) (same_skips (both a nothing).skips a.skips (omega arith) (omega arith) (omega arith))

pub nothing-both : (a : Contents) → both nothing a ≡ a
nothing-both a = same_contents (both nothing a) a refl (same_skips (both nothing a).skips a.skips (omega arith) (omega arith) (omega arith))

pub both-both : (a b c : Contents) → both (both a b) c ≡ both a (both b c)
both-both a b c = same_contents (both (both a b) c) (both a (both b c)) (append_assoc a.records b.records c.records) (same_skips (both (both a b) c).skips (both a (both b c)).skips (omega arith) (omega arith) (omega arith))

-- ---- what an item changes of the templates

pub keeps_define : (old new : ℕ → Option Template) (item : Item) (id : ℕ) (t : Template) → item ≡ Define id t → ((q : ℕ) → new q ≡ cond (eqb q id) (Some t) (old q)) → (done : List Item) → AreInForce old done → AreInForce new (item ∷ done)
unfolding template_in_force
keeps_define old new item id t is change done keeps q = rw is (change q ∙ ap (cond (eqb q id) (Some t)) (keeps q))

pub keeps_withdraw : (old new : ℕ → Option Template) (item : Item) (id : ℕ) → item ≡ Withdraw id → ((q : ℕ) → new q ≡ cond (eqb q id) None (old q)) → (done : List Item) → AreInForce old done → AreInForce new (item ∷ done)
unfolding template_in_force
keeps_withdraw old new item id is change done keeps q = rw is (change q ∙ ap (cond (eqb q id) None) (keeps q))

pub keeps_refused : (old new : ℕ → Option Template) (item : Item) (id : ℕ) (why : Why) → item ≡ Refused id why → ((q : ℕ) → new q ≡ cond (eqb q id) None (old q)) → (done : List Item) → AreInForce old done → AreInForce new (item ∷ done)
unfolding template_in_force
keeps_refused old new item id why is change done keeps q = rw is (change q ∙ ap (cond (eqb q id) None) (keeps q))

pub keeps_withdraw_all : (old new : ℕ → Option Template) (item : Item) (options : Bool) → item ≡ WithdrawAll options → ((q : ℕ) → new q ≡ unless_of_kind options (old q)) → (done : List Item) → AreInForce old done → AreInForce new (item ∷ done)
unfolding template_in_force
keeps_withdraw_all old new item options is change done keeps q = rw is (change q ∙ ap (unless_of_kind options) (keeps q))

pub keeps_skipped : (found : ℕ → Option Template) (item : Item) (set : ℕ) → item ≡ Skipped set → (done : List Item) → AreInForce found done → AreInForce found (item ∷ done)
unfolding template_in_force
keeps_skipped found item set is done keeps q = rw is (keeps q)

keeps_data_set : (found : ℕ → Option Template) (item : Item) (id start len : ℕ) → item ≡ DataSet id start len → (done : List Item) → AreInForce found done → AreInForce found (item ∷ done)
unfolding template_in_force
keeps_data_set found item id start len is done keeps q = rw is (keeps q)

on_any : {T E P : Type 0} (r : Result T E) → P → OnOk r P
on_any (Ok x) p = p
on_any (Err e) p = tt

pub keeps_data : (r : Result (Unit {0}) Fault) (base : List (ℕ × Template)) (old new : Changes) (item : Item) (id start len : ℕ) → item ≡ DataSet id start len → new ≡ old → (done : List Item) → AreInForce (after old base) done → OnOk r (AreInForce (after new base) (item ∷ done))
keeps_data r base old new item id start len is same done keeps =
    on_any r (subst (λ (o : Changes). AreInForce (after o base) (item ∷ done)) (sym same) (keeps_data_set (after old base) item id start len is done keeps))

-- ---- what an item holds

abbrev Added : Contents → Contents → Result Contents Fault → Type 0
Added old new read = (first : Contents) × (read ≡ Ok first) × (new ≡ both old first)

pub added_reserved : (done : List Item) (message : List ℕ) (item : Item) (set : ℕ) (records : List DataRecord) (s : Skips) → item ≡ Skipped set → Added (contents records s) (contents records (skips_of s.unknown (s.reserved + 1) s.refused)) (item_contents done message item)
added_reserved done message item set records s is =
    let first = only_skips (skips_of 0 1 0) in
    (first, ap (item_contents done message) is, same_contents (contents records (skips_of s.unknown (s.reserved + 1) s.refused)) (both (contents records s) first) (sym (append-nil records)) (same_skips (skips_of s.unknown (s.reserved + 1) s.refused) (both (contents records s) first).skips (omega arith) (omega arith) (omega arith)))

pub added_refused : (done : List Item) (message : List ℕ) (item : Item) (id : ℕ) (why : Why) (records : List DataRecord) (s : Skips) → item ≡ Refused id why → Added (contents records s) (contents records (skips_of s.unknown s.reserved (s.refused + 1))) (item_contents done message item)
added_refused done message item id why records s is =
    let first = only_skips (skips_of 0 0 1) in
    (first, ap (item_contents done message) is, same_contents (contents records (skips_of s.unknown s.reserved (s.refused + 1))) (both (contents records s) first) (sym (append-nil records)) (same_skips (skips_of s.unknown s.reserved (s.refused + 1)) (both (contents records s) first).skips (omega arith) (omega arith) (omega arith)))

pub added_unknown : (found : Option Template) (content : List ℕ) (records : List DataRecord) (s : Skips) → found ≡ None → Added (contents records s) (contents records (skips_of (s.unknown + 1) s.reserved s.refused)) (set_contents found content)
added_unknown found content records s is =
    let first = only_skips (skips_of 1 0 0) in
    (first, ap (λ (o : Option Template). set_contents o content) is, same_contents (contents records (skips_of (s.unknown + 1) s.reserved s.refused)) (both (contents records s) first) (sym (append-nil records)) (same_skips (skips_of (s.unknown + 1) s.reserved s.refused) (both (contents records s) first).skips (omega arith) (omega arith) (omega arith)))

-- an item that holds nothing
pub added_nothing : (done : List Item) (message : List ℕ) (item : Item) (so_far : Contents) → item_contents done message item ≡ Ok nothing → Added so_far so_far (item_contents done message item)
added_nothing done message item so_far is = (nothing, is, sym (both-nothing so_far))

-- the records of a Data Set
rows_read : (t : Template) (content : List ℕ) (found : Option Template) → Some t ≡ found → set_contents found content ≡ rows_of t (records_in t content)
rows_read t content found is = ap (λ (o : Option Template). set_contents o content) (sym is)

pub added_records : (t : Template) (found : Option Template) (content expected : List ℕ) (old new : List DataRecord) (s : Skips) (r : Result (Unit {0}) Fault) → Some t ≡ found → content ≡ expected → AddsRecords t content old new r → AddsContents (contents old s) (contents new s) (set_contents found expected) r
added_records t found content expected old new s (Ok u) is same adds =
    let first = only_records (map (record_of t) adds.0) in (
      first,
      rows_read t expected found is ∙ ap (λ (o : List ℕ). rows_of t (records_in t o)) (sym same) ∙ ap (rows_of t) adds.1,
      same_contents (contents new s) (both (contents old s) first) adds.2 (same_skips s (both (contents old s) first).skips (omega arith) (omega arith) (omega arith)),
    )
added_records t found content expected old new s (Err OutOfMemory) is same adds = tt
added_records t found content expected old new s (Err RecordOverrun) is same adds = rows_read t expected found is ∙ ap (λ (o : List ℕ). rows_of t (records_in t o)) (sym same) ∙ ap (rows_of t) adds
added_records t found content expected old new s (Err (Malformed why)) is same adds = absurd adds

-- a Data Set is read by the template in force
pub in_force : (done : List Item) (message : List ℕ) (item : Item) (id start len : ℕ) (found : ℕ → Option Template) (old new : Contents) (r : Result (Unit {0}) Fault) → item ≡ DataSet id start len → AreInForce found done → AddsContents old new (set_contents (found id) (take len (drop start message))) r → AddsContents old new (item_contents done message item) r
in_force done message item id start len found old new r is keeps adds =
    let same : set_contents (found id) (take len (drop start message)) ≡ item_contents done message item = ap (λ (o : Option Template). set_contents o (take len (drop start message))) (keeps id) ∙ ap (item_contents done message) (sym is) in
    subst (λ (read : Result Contents Fault). AddsContents old new read r) same adds

-- what a look-up found
pub none_there : {X : Type 0} (f : X → Template) (r : Option X) (o : Option Template) → ((x : X) → r ≡ Some x → ⊥) → option_map f r ≡ o → o ≡ None
none_there f None o none is = sym is
none_there f (Some x) o none is = absurd (none x refl)

-- ---- all items

-- some items were read, and those that are left are read after them
pub record Walks (message : List ℕ) (found : ℕ → Option Template) (rest : List Item) (so_far : Contents) (older said : List Item) : Type 0 where
  pub done : List Item
  pub keeps : AreInForce found done
  pub read : with_contents so_far (contents_after done message rest) ≡ contents_after older message said
  pub order : reverse rest ++ done ≡ reverse said ++ older

abbrev pub read_contents : Contents → Result Contents Fault
read_contents c = Ok c

with_nothing : (r : Result Contents Fault) → with_contents nothing r ≡ r
with_nothing (Ok c) = ap read_contents (nothing-both c)
with_nothing (Err e) = refl

pub walks_first : (message : List ℕ) (found : ℕ → Option Template) (older said : List Item) → AreInForce found older → Walks message found said nothing older said
walks_first message found older said keeps = record { done = older; keeps = keeps; read = with_nothing (contents_after older message said); order = refl }

with_both : (a b : Contents) (r : Result Contents Fault) → with_contents (both a b) r ≡ with_contents a (r >>= λ o. Ok (both b o))
with_both a b (Ok c) = ap read_contents (both-both a b c)
with_both a b (Err e) = refl

at_item : (done : List Item) (message : List ℕ) (item : Item) (rest : List Item) (first : Contents) → item_contents done message item ≡ Ok first → contents_after done message (item ∷ rest) ≡ (contents_after (item ∷ done) message rest >>= λ o. Ok (both first o))
unfolding contents_after
at_item done message item rest first is = ap (λ (r : Result Contents Fault). r >>= λ f. contents_after (item ∷ done) message rest >>= λ o. Ok (both f o)) is

pub walks_more : (message : List ℕ) (found then : ℕ → Option Template) (item : Item) (rest : List Item) (so_far new : Contents) (older said : List Item) → ((done : List Item) → AreInForce found done → Added so_far new (item_contents done message item)) → ((done : List Item) → AreInForce found done → AreInForce then (item ∷ done)) → Walks message found (item ∷ rest) so_far older said → Walks message then rest new older said
walks_more message found then item rest so_far new older said reads keeps walks =
    let added = reads walks.done walks.keeps in
    record {
      done = item ∷ walks.done;
      keeps = keeps walks.done walks.keeps;
      read = ap (λ (c : Contents). with_contents c (contents_after (item ∷ walks.done) message rest)) added.2
          ∙ with_both so_far added.0 (contents_after (item ∷ walks.done) message rest)
          ∙ ap (with_contents so_far) (sym (at_item walks.done message item rest added.0 added.1)) ∙ walks.read;
      order = sym (append_assoc (reverse rest) (item ∷ []) walks.done) ∙ ap (λ (xs : List Item). xs ++ walks.done) (sym (reverse-append (item ∷ []) rest)) ∙ walks.order;
    }

fault_is : (message : List ℕ) (found : ℕ → Option Template) (item : Item) (rest : List Item) (so_far : Contents) (older said : List Item) (e : Fault) (walks : Walks message found (item ∷ rest) so_far older said) → item_contents walks.done message item ≡ Err e → contents_after older message said ≡ Err e
unfolding contents_after
fault_is message found item rest so_far older said e walks is =
    sym walks.read ∙ ap (λ (r : Result Contents Fault). with_contents so_far (r >>= λ f. contents_after (item ∷ walks.done) message rest >>= λ o. Ok (both f o))) is

pub walks_fault : (message : List ℕ) (found : ℕ → Option Template) (item : Item) (rest : List Item) (so_far : Contents) (older said : List Item) (e : Fault) → ((done : List Item) → AreInForce found done → FailsMeaning e (item_contents done message item)) → Walks message found (item ∷ rest) so_far older said → FailsMeaning e (contents_after older message said)
walks_fault message found item rest so_far older said e fails walks = fails_along is_memory e (item_contents walks.done message item) (contents_after older message said) (λ is. fault_is message found item rest so_far older said e walks is) (fails walks.done walks.keeps)

pub walks_read : (message : List ℕ) (found : ℕ → Option Template) (so_far : Contents) (older said : List Item) → Walks message found [] so_far older said → contents_after older message said ≡ Ok so_far
unfolding contents_after
walks_read message found so_far older said walks = sym walks.read ∙ ap read_contents (both-nothing so_far)

pub walks_keeps : (message : List ℕ) (found : ℕ → Option Template) (so_far : Contents) (older said : List Item) → Walks message found [] so_far older said → AreInForce found (reverse said ++ older)
walks_keeps message found so_far older said walks = subst (λ (items : List Item). AreInForce found items) walks.order walks.keeps

-- the counts stay below the number of items, which fits
pub record HasRoom (s : Skips) (left total : ℕ) : Type 0 where
  pub done : ℕ
  pub counted : SkipsAtMost s done
  pub all : done + left ≡ total
  pub fits : total < 2 ^ 64
