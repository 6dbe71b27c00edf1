-- The part behind words, walked to word by word.
use Rattle.std.proofs.Common.{◌≡◌, List, [], ◌∷◌, refl}
use Rattle.policy_text.specs.Words.{Word}
use Rattle.policy_text.specs.LineParts.{LinePart, parts_after, part_behind}
use Rattle.policy_text.specs.LineParts.LinePart.{line_end}

abbrev walked : List LinePart → List Word → LinePart
walked [] front = line_end
walked (part ∷ parts) [] = part
walked (part ∷ parts) (word ∷ front) = walked (parts_after part word parts) front

pub walked-is : (parts : List LinePart) (front : List Word) → walked parts front ≡ part_behind parts front
walked-is [] [] = refl
walked-is [] (word ∷ front) = walked-is [] front
walked-is (part ∷ parts) [] = refl
walked-is (part ∷ parts) (word ∷ front) = walked-is (parts_after part word parts) front
