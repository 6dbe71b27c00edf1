-- What a layout keeps is its template's.
use Rattle.std.proofs.Common.{◌≡◌, ℕ, Bool, List, Option, sym, ap, subst, ◌∙◌}
use Rattle.ipfix_template.specs.declared.template.Template.{Template}
use Rattle.ipfix_template.specs.Values.{extent_at}
use Rattle.ipfix_records.specs.Gaps.{gaps_behind, walk_at}
use Rattle.ipfix_records.specs.Layout.{IsLaidOut}
use Rattle.ipfix_records.proofs.GapLaws.{fields_walk}

pub laid_out : (t shared : Template) (shortest first : ℕ) (gaps : List ℕ) → shared ≡ t → IsLaidOut shared shortest first gaps → IsLaidOut t shortest first gaps
laid_out t shared shortest first gaps same kept = subst (λ (s : Template). IsLaidOut s shortest first gaps) same kept

-- what the walk over the gaps answered is how far the fields reach
pub walked : (t : Template) (shortest first : ℕ) (gaps octets read : List ℕ) (answer : Option (ℕ × Bool)) → IsLaidOut t shortest first gaps → read ≡ gaps → answer ≡ walk_at first read octets → extent_at t.fields octets ≡ answer
walked t shortest first gaps octets read answer kept same is =
    fields_walk t.fields octets ∙ ap (λ n. walk_at n (gaps_behind t.fields) octets) (sym kept.before) ∙ ap (λ gs. walk_at first gs octets) (sym kept.behind ∙ sym same) ∙ sym is
