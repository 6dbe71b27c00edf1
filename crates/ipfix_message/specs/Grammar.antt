-- The grammar of messages (RFC 7011, sections 3.1 to 3.4 and 8.1).
use Rattle.std.specs.Prelude.{◌≡◌, ℕ, zero, suc, ◌+◌, ◌<◌, Bool, true, false, List, [], ◌∷◌, ◌++◌, length, Option, Some, None, MatchBool, nat_lt, ◌==◌}
use Rattle.ipfix_template.specs.Octets.{IsNumberIn}
use Rattle.ipfix_octets.specs.MessageFormat.{ipfix_version, header_octets, set_header_octets, record_header_octets, template_set_id, options_template_set_id, least_template_id}
use Rattle.ipfix_template.specs.declared.field.FieldSpec.{FieldSpec}
use Rattle.ipfix_template.specs.declared.template.Template.{Template}
use Rattle.ipfix_message.specs.declared.header.Header.{Header}
use Rattle.ipfix_message.specs.declared.item.Item.{Item}
use Rattle.ipfix_message.specs.declared.item.Item.TheVariants as items
use Rattle.ipfix_message.specs.Records.{bare_item, template_item}

-- element number and length; with the enterprise bit set, an enterprise number too
abbrev pub IsSpecifierOf : Option ℕ → List ℕ → ℕ → ℕ → Type 0
IsSpecifierOf None octets number len =
    (a b : List ℕ) × (octets ≡ a ++ b) × IsNumberIn 2 a number × (number < 32768) × IsNumberIn 2 b len
IsSpecifierOf (Some pen) octets number len =
    (a b c : List ℕ) × (octets ≡ a ++ (b ++ c)) × IsNumberIn 2 a (number + 32768) × IsNumberIn 2 b len × IsNumberIn 4 c pen

abbrev pub SpellsSpecifier : List ℕ → FieldSpec → Type 0
SpellsSpecifier octets f = IsSpecifierOf f.element.pen octets f.element.number f.length

-- Field Specifiers, one after another
abbrev pub AreSpecifiers : List ℕ → List FieldSpec → Type 0
AreSpecifiers octets [] = octets ≡ []
AreSpecifiers octets (f ∷ fs) = (text rest : List ℕ) × (octets ≡ text ++ rest) × SpellsSpecifier text f × AreSpecifiers rest fs

-- what follows ID and Field Count: for an options template its Scope Field Count, and the Field Specifiers
abbrev pub IsBody : Bool → List ℕ → Template → Type 0
IsBody false octets t = (t.scope ≡ 0) × AreSpecifiers octets t.fields
IsBody true octets t = (a rest : List ℕ) × (octets ≡ a ++ rest) × IsNumberIn 2 a t.scope × AreSpecifiers rest t.fields

-- a record of a Template or an Options Template Set: one without fields, or one with fields
abbrev pub IsTemplateRecord : Bool → List ℕ → Item → Type 0
IsTemplateRecord options octets item =
    (a b body : List ℕ) × (id count : ℕ) × (octets ≡ a ++ (b ++ body)) × IsNumberIn 2 a id × IsNumberIn 2 b count
    × MatchBool (count == 0)
    ((body ≡ []) × (item ≡ bare_item options id))
    ((t : Template) × (length t.fields ≡ count) × IsBody options body t × (item ≡ template_item options id t))

-- the records of a set of templates, and padding
abbrev pub AreTemplateRecords : Bool → List ℕ → List Item → Type 0
AreTemplateRecords options octets [] = length octets < record_header_octets
AreTemplateRecords options octets (item ∷ items) =
    (text rest : List ℕ) × (octets ≡ text ++ rest) × IsTemplateRecord options text item × AreTemplateRecords options rest items

-- the content of a set, which stands at this place of the message
abbrev pub IsContent : ℕ → ℕ → List ℕ → List Item → Type 0
IsContent id place content found =
    MatchBool (id == template_set_id) (AreTemplateRecords false content found)
    (MatchBool (id == options_template_set_id) (AreTemplateRecords true content found)
    (MatchBool (nat_lt id least_template_id) (found ≡ items.Skipped id ∷ [])
    (found ≡ items.DataSet id place (length content) ∷ [])))

-- a set: ID, length of the whole set, content
abbrev pub IsSet : ℕ → List ℕ → List Item → Type 0
IsSet place octets found =
    (a b content : List ℕ) × (id : ℕ) × (octets ≡ a ++ (b ++ content)) × IsNumberIn 2 a id × IsNumberIn 2 b (length octets)
    × IsContent id (place + set_header_octets) content found

-- so many sets, one after another, from this place of the message on
abbrev pub AreSets : ℕ → ℕ → List ℕ → List Item → Type 0
AreSets zero place octets found = (octets ≡ []) × (found ≡ [])
AreSets (suc n) place octets found =
    (text rest : List ℕ) × (first others : List Item) × (octets ≡ text ++ rest) × (found ≡ first ++ others)
    × IsSet place text first × AreSets n (place + length text) rest others

-- the version of IPFIX, the length of the whole message, export time, sequence number, domain
abbrev pub IsHeader : List ℕ → ℕ → Header → Type 0
IsHeader octets len h =
    (a b c d e : List ℕ) × (octets ≡ a ++ (b ++ (c ++ (d ++ e)))) × IsNumberIn 2 a ipfix_version × IsNumberIn 2 b len
    × IsNumberIn 4 c h.export_time × IsNumberIn 4 d h.sequence × IsNumberIn 4 e h.domain

-- the octets are a message with this header and these items
abbrev pub IsMessage : List ℕ → Header → List Item → Type 0
IsMessage octets h found =
    (head body : List ℕ) × (sets : ℕ) × (octets ≡ head ++ body) × IsHeader head (length octets) h × AreSets sets header_octets body found
