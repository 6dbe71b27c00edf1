-- The line that sets the limits.
use Rattle.std.proofs.Common.{◌≡◌, ℕ, ◌≤◌, Bool, true, false, cond, codes, List, ◌∷◌, ◌++◌, Some, None, refl, sym, ap, subst, ◌∙◌, arith}
use Rattle.std.specs.Str.{bytes_eq}
use Rattle.std.specs.Fmt.{decimal}
use Rattle.std.proofs.lemmas.Option.{none-some, same_Some}
use Rattle.std.proofs.lemmas.Slice.Eq.{bytes_eq-Decides}
use Rattle.sequences.proofs.OptionLaws.{bind_some}
use Rattle.mediator_calls.specs.declared.limits.Limits.{Limits}
use Rattle.replay_text.specs.declared.verb.Verb.{Verb}
use Rattle.replay_text.specs.declared.verb.Verb.TheVariants as verb
use Rattle.replay_text.specs.Sayings.{Saying}
use Rattle.policy_text.specs.Words.{Word}
use Rattle.replay_text.specs.Words.{Left, next_word, next_number, last_number}
use Rattle.replay_text.specs.Lines.{greatest, limits_on_line, limits_behind}
use Rattle.replay_text.specs.Grammar.{IsLineOf, SetsLimits}
use Rattle.replay_text.proofs.SpaceLaws.{behind, IsNext, IsLast, next_word-found, next_word-only, next_number-found, next_number-only, last_number-found, last_number-only}
use Rattle.replay_text.proofs.LineLaws.{verb_text, verb_lacks, call_of-named, call_of-only}

abbrev name : List ℕ
name = codes "limits"

-- the line with the name in front
limits_of-by : (left : Left) → limits_on_line (name ++ behind left) ≡ limits_behind left
unfolding limits_on_line
limits_of-by left =
    let word = next_word-only name left (refl, (refl, (refl, (refl, (refl, (refl, tt)))))) in
    rw word refl

-- a line with the name of a call in front sets none
no_limits : (v : Verb) (left : Left) → limits_on_line (verb_text v ++ behind left) ≡ None
unfolding limits_on_line
no_limits verb.Open left = let word = next_word-only (codes "open") left (verb_lacks verb.Open) in rw word refl
no_limits verb.Close left = let word = next_word-only (codes "close") left (verb_lacks verb.Close) in rw word refl
no_limits verb.Receive left = let word = next_word-only (codes "receive") left (verb_lacks verb.Receive) in rw word refl
no_limits verb.Edit left = let word = next_word-only (codes "edit") left (verb_lacks verb.Edit) in rw word refl
no_limits verb.Subscribe left = let word = next_word-only (codes "subscribe") left (verb_lacks verb.Subscribe) in rw word refl
no_limits verb.Unsubscribe left = let word = next_word-only (codes "unsubscribe") left (verb_lacks verb.Unsubscribe) in rw word refl
no_limits verb.Advance left = let word = next_word-only (codes "advance") left (verb_lacks verb.Advance) in rw word refl
no_limits verb.Pull left = let word = next_word-only (codes "pull") left (verb_lacks verb.Pull) in rw word refl
no_limits verb.Status left = let word = next_word-only (codes "status") left (verb_lacks verb.Status) in rw word refl
no_limits verb.Audit left = let word = next_word-only (codes "audit") left (verb_lacks verb.Audit) in rw word refl

pub call_sets_none : (said : Saying) (line : List ℕ) → IsLineOf said line → limits_on_line line ≡ None
call_sets_none said line is =
    let found = call_of-named line said (call_of-only said line is) in
    ap limits_on_line found.line_is ∙ no_limits found.v found.left

limits_line : (left : Left) (queue shapes audit entries : ℕ × Left) (octets : ℕ) → IsNext (greatest 32) left queue.0 queue.1 → IsNext (greatest 32) queue.1 shapes.0 shapes.1 → IsNext (greatest 32) shapes.1 audit.0 audit.1
    → IsNext (greatest 64) audit.1 entries.0 entries.1 → IsLast (greatest 64) entries.1 octets
    → SetsLimits (record { queue = queue.0; shapes = shapes.0; audit = audit.0; entries = entries.0; octets = octets }) (name ++ behind left)
limits_line left queue shapes audit entries octets a b c d e = record {
  queue_bound = a.bound;
  shapes_bound = b.bound;
  audit_bound = c.bound;
  entries_bound = d.bound;
  octets_bound = e.bound;
  text = ap (λ (l : Left). name ++ behind l) a.text ∙ ap (λ (l : Left). name ++ 32 ∷ (decimal queue.0 ++ behind l)) b.text
      ∙ ap (λ (l : Left). name ++ 32 ∷ (decimal queue.0 ++ 32 ∷ (decimal shapes.0 ++ behind l))) c.text
      ∙ ap (λ (l : Left). name ++ 32 ∷ (decimal queue.0 ++ 32 ∷ (decimal shapes.0 ++ 32 ∷ (decimal audit.0 ++ behind l)))) d.text
      ∙ ap (λ (l : Left). name ++ 32 ∷ (decimal queue.0 ++ 32 ∷ (decimal shapes.0 ++ 32 ∷ (decimal audit.0 ++ 32 ∷ (decimal entries.0 ++ behind l))))) e.text;
}

limits_behind-found : (left : Left) (limits : Limits) → limits_behind left ≡ Some limits → SetsLimits limits (name ++ behind left)
unfolding limits_behind
limits_behind-found left limits e =
    let queue = bind_some (next_number (greatest 32) left) _ limits e in
    let shapes = bind_some (next_number (greatest 32) queue.0.1) _ limits queue.2 in
    let audit = bind_some (next_number (greatest 32) shapes.0.1) _ limits shapes.2 in
    let entries = bind_some (next_number (greatest 64) audit.0.1) _ limits audit.2 in
    let octets = bind_some (last_number (greatest 64) entries.0.1) _ limits entries.2 in
    let P : Limits → Type 0 = λ l. SetsLimits l (name ++ behind left) in
    subst P (same_Some (record { queue = queue.0.0; shapes = shapes.0.0; audit = audit.0.0; entries = entries.0.0; octets = octets.0 }) limits octets.2)
    (limits_line left queue.0 shapes.0 audit.0 entries.0 octets.0 (next_number-found (greatest 32) left queue.0.0 queue.0.1 (omega arith) queue.1)
    (next_number-found (greatest 32) queue.0.1 shapes.0.0 shapes.0.1 (omega arith) shapes.1) (next_number-found (greatest 32) shapes.0.1 audit.0.0 audit.0.1 (omega arith) audit.1)
    (next_number-found (greatest 64) audit.0.1 entries.0.0 entries.0.1 (omega arith) entries.1) (last_number-found (greatest 64) entries.0.1 octets.0 (omega arith) octets.1))

limits_found : (line : List ℕ) (limits : Limits) (word : Word × Left) (b : Bool) → next_word (Some line) ≡ Some word → bytes_eq word.0 name ≡ b → cond b (limits_behind word.1) None ≡ Some limits → SetsLimits limits line
limits_found line limits word true first is e =
    let line_is : line ≡ name ++ behind word.1 = (next_word-found line word.0 word.1 first).0 ∙ ap (λ (w : List ℕ). w ++ behind word.1) ((bytes_eq-Decides word.0 name).0 is) in
    subst (SetsLimits limits) (sym line_is) (limits_behind-found word.1 limits e)
limits_found line limits word false first is e = absurd (none-some limits e)

pub limits_of-found : (line : List ℕ) (limits : Limits) → limits_on_line line ≡ Some limits → SetsLimits limits line
unfolding limits_on_line
limits_of-found line limits e =
    let word = bind_some (next_word (Some line)) _ limits e in
    limits_found line limits word.0 (bytes_eq word.0.0 name) word.1 refl word.2

limits_read : (queue shapes audit entries octets : ℕ) → queue ≤ greatest 32 → shapes ≤ greatest 32 → audit ≤ greatest 32 → entries ≤ greatest 64 → octets ≤ greatest 64
    → limits_behind (Some (decimal queue ++ behind (Some (decimal shapes ++ behind (Some (decimal audit ++ behind (Some (decimal entries ++ behind (Some (decimal octets))))))))))
    ≡ Some (record { queue = queue; shapes = shapes; audit = audit; entries = entries; octets = octets })
unfolding limits_behind
limits_read queue shapes audit entries octets a b c d e =
    let first = next_number-only (greatest 32) queue (Some (decimal shapes ++ behind (Some (decimal audit ++ behind (Some (decimal entries ++ behind (Some (decimal octets)))))))) (omega arith) a in
    let second = next_number-only (greatest 32) shapes (Some (decimal audit ++ behind (Some (decimal entries ++ behind (Some (decimal octets)))))) (omega arith) b in
    let third = next_number-only (greatest 32) audit (Some (decimal entries ++ behind (Some (decimal octets)))) (omega arith) c in
    let fourth = next_number-only (greatest 64) entries (Some (decimal octets)) (omega arith) d in
    let last = last_number-only (greatest 64) octets (omega arith) e in
    rw (first, second, third, fourth, last) refl

pub limits_of-only : (limits : Limits) (line : List ℕ) → SetsLimits limits line → limits_on_line line ≡ Some limits
limits_of-only limits line is =
    ap limits_on_line is.text
    ∙ limits_of-by (Some (decimal limits.queue ++ behind (Some (decimal limits.shapes ++ behind (Some (decimal limits.audit ++ behind (Some (decimal limits.entries ++ behind (Some (decimal limits.octets))))))))))
    ∙ limits_read limits.queue limits.shapes limits.audit limits.entries limits.octets is.queue_bound is.shapes_bound is.audit_bound is.entries_bound is.octets_bound
