-- A table of templates: plain ones and options templates, each ID with at most one.
use Rattle.std.specs.Prelude.{◌≡◌, Bool, true, false, Option, Some, None, if◌then◌else◌}
use Rattle.ipfix_template.specs.declared.template.Template.{Template}
use Rattle.ipfix_template.specs.Template.{is_options}
use Rattle.ipfix_session.specs.Keeping.{IsKeepable}

-- a template of this kind of which records may be made
pub record IsOfKind (options : Bool) (t : Template) : Type 0 where
  pub keepable : IsKeepable t
  pub kind : is_options t ≡ options

-- what an ID has as a plain template and as an options template: at most one of the two
abbrev pub IsOneOfKind : Option Template → Option Template → Type 0
IsOneOfKind None None = Unit {0}
IsOneOfKind (Some t) None = IsOfKind false t
IsOneOfKind None (Some t) = IsOfKind true t
IsOneOfKind (Some t) (Some u) = ⊥

-- what withdrawals of all plain templates, and of all options templates, leave of a template
abbrev pub unless_withdrawn : Bool → Bool → Option Template → Option Template
unless_withdrawn plain options None = None
unless_withdrawn plain options (Some t) = if (if is_options t then options else plain) then None else Some t

-- the template of an ID after a message: what the message defines; nothing, where it decided otherwise of the ID; else
-- what withdrawals of all leave of the one before
abbrev pub template_after : Option Template → Bool → Bool → Bool → Option Template → Option Template
template_after (Some t) decided plain options before = Some t
template_after None decided plain options before = if decided then None else unless_withdrawn plain options before
