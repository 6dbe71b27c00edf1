-- Messages written as lines, one after another.
use Rattle.std.proofs.Common.{◌≡◌, ℕ, ◌+◌, ◌<◌, List, [], ◌∷◌, ◌++◌, length, get_or, min, take, drop, Bool, Option, None, refl, sym, ap, subst, ◌∙◌, append-nil, append_assoc, arith, inl, inr}
use Rattle.std.proofs.lemmas.List.{take_more, take_all, take_min, take-append-drop, take-append-le}
use Rattle.std.proofs.Math.Seq.{take-append_seam, take-append-add}
use Rattle.std.proofs.lemmas.List.Concat.{flat_map-append}
use Rattle.std.proofs.KnownBytes.{Appends-trans, Appends-kept, Keeps-refl}
use Rattle.std.specs.Io.KnownBytes.{Appends, Keeps}
use Rattle.octet_io.specs.Written.{WritesFront}
use Rattle.std.proofs.lemmas.List.Elements.{All-nil}
use Rattle.ipfix_message.specs.declared.fault.Fault.{Fault as DecodeError}
use Rattle.ipfix_message.specs.Framing.{IsWhole, IsFramed}
use Rattle.ipfix_message.specs.FramerState.{FramerState, nothing_fed, FeedGoesOn, HasFault}
use Rattle.ipfix_message.proofs.FramerLaws.{all_framed}
use Rattle.ipmd_commands.specs.HexText.{AreMessagesOf, hex_line, hex_lines, WritesSomeOf}

lines_turn : (messages : List (List ℕ)) (i : ℕ) (message : List ℕ) → i < length messages → message ≡ get_or messages i message
    → hex_lines (take (i + 1) messages) ≡ hex_lines (take i messages) ++ hex_line message
lines_turn messages i message low is =
    ap hex_lines (take_more messages i message low ∙ ap (λ m. take i messages ++ m ∷ []) (sym is))
    ∙ flat_map-append hex_line (take i messages) (message ∷ [])
    ∙ ap (λ t. hex_lines (take i messages) ++ t) (append-nil (hex_line message))

-- nothing is no message, and no fault
nothing_is_framed : IsFramed [] [] None []
nothing_is_framed = all_framed [] [] (All-nil IsWhole) refl

pub messages_fed : (stream : List ℕ) (messages : List (List ℕ)) (new : FramerState) → FeedGoesOn nothing_fed stream messages new → AreMessagesOf stream messages
messages_fed stream messages new goes = (new.fault, new.pending, goes.1.after [] [] nothing_is_framed)

-- octets that are no stream of messages from their start have none
pub no_messages : (fault : DecodeError) (stream : List ℕ) (new : FramerState) → HasFault fault nothing_fed stream new → AreMessagesOf stream []
no_messages fault stream new (inl (had, same)) = absurd cc
no_messages fault stream new (inr (sound, has, goes)) = (new.fault, new.pending, goes.after [] [] nothing_is_framed)

-- ---- a front of what is due

pub kept : (held : Option (List ℕ)) → Keeps held held
kept = Keeps-refl

pub all_written : (held holds after : Option (List ℕ)) (due : List ℕ) → Appends held holds due → Keeps holds after → WritesSomeOf due held after
all_written held holds after due written kept = (length due, subst (Appends held after) (sym (take_all (length due) due (omega arith))) (Appends-kept held holds after due written kept))

pub front_written : (held holds : Option (List ℕ)) (due : List ℕ) (n : ℕ) (failed : Bool) → WritesFront held holds due n failed → WritesSomeOf due held holds
front_written held holds due n failed front = (n, front.written)

-- some lines, and then nothing more, or a front of the next one
lines_of-take : (messages : List (List ℕ)) (i : ℕ) → hex_lines messages ≡ hex_lines (take i messages) ++ hex_lines (drop i messages)
lines_of-take messages i = ap hex_lines (sym (take-append-drop i messages)) ∙ flat_map-append hex_line (take i messages) (drop i messages)

-- whole lines
pub some_lines : (held holds : Option (List ℕ)) (messages : List (List ℕ)) (i : ℕ) → Appends held holds (hex_lines (take i messages)) → WritesSomeOf (hex_lines messages) held holds
some_lines held holds messages i written =
    let front = hex_lines (take i messages) in
    let rest = hex_lines (drop i messages) in
    (length front, subst (Appends held holds) (sym (ap (take (length front)) (lines_of-take messages i) ∙ take-append_seam front rest)) written)

-- whole lines, and a front of the next one
pub line_begun : (held now after : Option (List ℕ)) (messages : List (List ℕ)) (i : ℕ) (message line : List ℕ) → i < length messages → message ≡ get_or messages i message
    → line ≡ hex_line message → Appends held now (hex_lines (take i messages)) → WritesSomeOf line now after → WritesSomeOf (hex_lines messages) held after
line_begun held now after messages i message line low is same before (n, begun) =
    let sent = min n (length line) in
    let front = hex_lines (take i messages) in
    let rest = hex_lines (drop (i + 1) messages) in
    let whole : hex_lines messages ≡ front ++ (line ++ rest) =
    lines_of-take messages (i + 1) ∙ ap (λ t. t ++ rest) (lines_turn messages i message low is ∙ ap (λ l. front ++ l) (sym same)) ∙ append_assoc front line rest in
    let begins : take (length front + sent) (hex_lines messages) ≡ front ++ take n line =
    ap (take (length front + sent)) whole ∙ take-append-add front (line ++ rest) sent ∙ ap (λ t. front ++ t) (take-append-le sent line rest (omega arith)) ∙ ap (λ t. front ++ t) (take_min n line) in
    (length front + sent, subst (Appends held after) (sym begins) (Appends-trans held now after front (take n line) before begun))
