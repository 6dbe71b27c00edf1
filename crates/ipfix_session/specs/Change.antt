-- A change of the templates of one domain.
use Rattle.std.specs.Prelude.{◌≡◌, ℕ, List, [], ◌∷◌, Bool, true, false, Option, IsSomeAnd, if◌then◌else◌}
use Rattle.ipfix_template.specs.declared.template.Template.{Template}
use Rattle.ipfix_session.specs.Keeping.{at_key}
use Rattle.ipfix_session.specs.Places.{Places, HasPlaces, Tabled, is_among}
use Rattle.ipfix_session.specs.Tables.{template_after}

-- the templates that the message defines, the IDs that it decided, and whether it withdraws all plain templates, or all options
-- templates, before it
pub record Change : Type 0 where
  pub defined : Tabled
  pub decided : List ℕ
  pub plain_withdrawn : Bool
  pub options_withdrawn : Bool

-- the template of an ID after the change, by the one before it
abbrev pub changed_template : Change → ℕ → Option Template → Option Template
changed_template c id before = template_after (at_key id c.defined.templates) (is_among id c.decided) c.plain_withdrawn c.options_withdrawn before

abbrev pub decides_none : List ℕ → Bool
decides_none [] = true
decides_none (id ∷ ids) = false

-- whether the message leaves all templates as they are: it decides on no ID, and withdraws no kind
abbrev pub changes_none : Change → Bool
changes_none c = if c.plain_withdrawn then false else if c.options_withdrawn then false else decides_none c.decided

-- room for a change of a domain's templates, of which none is needed where it changes none: tables of the session's own, and a
-- place for each template that is defined
abbrev pub HasTables : Option (List (ℕ × Places)) → ℕ → Change → Type 0
HasTables own domain change = changes_none change ≡ false → IsSomeAnd own (λ places. IsSomeAnd (at_key domain places) (λ there. HasPlaces there change.defined.places))
