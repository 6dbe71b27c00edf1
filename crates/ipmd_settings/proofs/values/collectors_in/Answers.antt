use Rattle.std.proofs.Common.{◌≡◌, List, [], ◌∷◌, ◌++◌, sym, ap, ◌∙◌, arith}
use Rattle.std.proofs.lemmas.Grind.{common_steps}
use Rattle.toml.specs.View.{members_view}
use Rattle.toml.proofs.Views.{Entry}
use Rattle.ipmd_settings.specs.Asked.{Pair, pair, pairs}
use Rattle.ipmd_settings.specs.Values.{collectors_of}
use Rattle.ipmd_settings.proofs.CollectorLaws.{behind, behind-turn, behind-end, collectors_of-ascend}
use Rattle.ipmd_settings.proofs.values.collectors_in.Goals as goal

pub addresses-preserved : goal.addresses-preserved
addresses-preserved c =
    let e : Entry = (c.in-Some.subscriber.now, c.in-Some.value.now) in
    let rest : c.addresses.subscriber-iterator ≡ e ∷ c.next.new.self = grind (arith, common_steps) in
    let before = pairs c.addresses.collectors in
    let p : Pair = pair c.in_ok-collector.collector in
    let pushed : pairs c.push.new.self ≡ before ++ p ∷ [] = grind (arith, common_steps) in
    let turn = behind-turn before e c.next.new.self p (rw c.as_str.ensures.value at c.in_ok-collector.ensures) in
    record {
      reading = ap (λ (ps : List Pair). behind ps (collectors_of (members_view c.next.new.self))) pushed ∙ turn ∙ sym (ap (λ (es : List Entry). behind before (collectors_of (members_view es))) rest) ∙ c.addresses.invariant.reading;
    }

pub returns-clause-sorted : goal.returns-clause-sorted
returns-clause-sorted c =
    let none : c.addresses.subscriber-iterator ≡ [] = grind (arith, common_steps) in
    let whole = behind-end (pairs c.addresses.collectors) c.addresses.subscriber-iterator c.args.addresses.now.entries none c.addresses.invariant.reading in
    collectors_of-ascend c.args.addresses.now.entries (pairs c.addresses.collectors) c.iter-subscriber-items.ensures.ordered whole
