use Rattle.std.proofs.Common.{◌∙◌, ◌++◌, ◌∷◌, [], ℕ, List, None, Some, sym, ap}
use Rattle.std.specs.Map.{update}
use Rattle.std.specs.Str.{bytes_eq}
use Rattle.std.specs.String.{string_bytes}
use Rattle.std.proofs.lemmas.Map.Text.{btree_map_updates_text}
use Rattle.history_verify.specs.Parts.{live_number}
use Rattle.history_verify.proofs.BeginLaws.{fresh, subscribers_begin, names_back, err_holds, ok_holds}
use Rattle.history_verify.proofs.subscribers.Subscribers.begin.Goals as goal

pub returns-then-is_err-clause-err : goal.returns-then-is_err-clause-err
returns-then-is_err-clause-err c = record {
  begun = c.reserve.ensures.items;
  names = names_back (live_number c.args.self.now) _ _ c.args.sub c.args.name.now c.requires.free
      (λ n. btree_map_updates_text (string_bytes c.in_ok-key.key) c.args.self.now.live c.insert.new.self (Some c.args.sub) c.in_ok-insert.ensures.updates n
      ∙ ap (λ (bs : List ℕ). update bytes_eq (live_number c.args.self.now) bs (Some c.args.sub) n) (c.in_ok-key.ensures.ok ∙ c.as_str.ensures))
      (λ n. btree_map_updates_text c.as_str-then-is_err.result.now c.insert.new.self c.remove.new.self None c.remove.ensures.updates n
      ∙ ap (λ (bs : List ℕ). update bytes_eq (live_number (record c.args.self.now { live = c.insert.new.self })) bs None n) c.as_str-then-is_err.ensures);
  served_are = err_holds c.insert-2.result (sym c.is_err.ensures.value ∙ c.if-is_err.true) c.insert-2.ensures.err;
}

pub returns-clause-ok : goal.returns-clause-ok
returns-clause-ok c = λ h so.
    subscribers_begin c.args.self.now _ h c.args.sub c.args.name.now so c.requires.next c.requires.free
    (c.push_reserved.ensures.items ∙ ap (λ t. t ++ fresh c.args.sub c.in_ok-new.field-0 ∷ []) c.reserve.ensures.items
    ∙ ap (λ (n : List ℕ). c.args.self.now.begun.items ++ fresh c.args.sub n ∷ []) (c.in_ok-new.ensures ∙ c.as_bytes.ensures.value))
    (λ n. btree_map_updates_text (string_bytes c.in_ok-key.key) c.args.self.now.live c.insert.new.self (Some c.args.sub) c.in_ok-insert.ensures.updates n
    ∙ ap (λ (bs : List ℕ). update bytes_eq (live_number c.args.self.now) bs (Some c.args.sub) n) (c.in_ok-key.ensures.ok ∙ c.as_str.ensures))
    (ok_holds c.insert-2.result (sym c.is_err.ensures.value ∙ c.if-is_err.false) c.insert-2.ensures.keys)
