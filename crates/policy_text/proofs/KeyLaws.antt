-- The pieces of a key, from the left.
use Rattle.std.proofs.Common.{◌≡◌, List, [], Some, None, Ok, refl, ap, ◌∙◌, eqb}
use Rattle.std.specs.List.{slice_split}
use Rattle.ipfix_element.specs.Element.{Element}
use Rattle.flow_prefix.specs.Reading.{cut_at}
use Rattle.flow_prefix.proofs.PartsLaws.{slice_split-cut, slice_split-whole}
use Rattle.sequences.specs.Results.{◌>>=◌}
use Rattle.policy_text.specs.Words.{Word}
use Rattle.policy_text.specs.Classes.{add_piece, add_pieces, key_of}
use Rattle.policy_text.proofs.ResultLaws.{bind-Ok}

pub key_of-start : (word : Word) → add_pieces [] (slice_split (λ c. eqb c 44) word) ≡ key_of word
unfolding key_of
key_of-start word = refl

pub add_pieces-cut : (key : List Element) (text piece after : Word) → cut_at 44 text ≡ Some (piece, after) → add_pieces key (slice_split (λ c. eqb c 44) text) ≡ (add_piece key piece >>= λ more. add_pieces more (slice_split (λ c. eqb c 44) after))
unfolding add_pieces
add_pieces-cut key text piece after e = ap (add_pieces key) (slice_split-cut 44 text piece after e)

pub add_pieces-whole : (key : List Element) (text : Word) → cut_at 44 text ≡ None → add_pieces key (slice_split (λ c. eqb c 44) text) ≡ add_piece key text
unfolding add_pieces
add_pieces-whole key text e = ap (add_pieces key) (slice_split-whole 44 text e) ∙ bind-Ok (add_piece key text)

pub add_pieces-turn : (key more : List Element) (text piece after : Word) → cut_at 44 text ≡ Some (piece, after) → add_piece key piece ≡ Ok more → add_pieces key (slice_split (λ c. eqb c 44) text) ≡ add_pieces more (slice_split (λ c. eqb c 44) after)
add_pieces-turn key more text piece after e read = add_pieces-cut key text piece after e ∙ ap (λ r. r >>= λ m. add_pieces m (slice_split (λ c. eqb c 44) after)) read
